-- Where no closed walk is negative, the least weights are those of walks that leave no point twice, so they are light.
use Rattle.std.proofs.Common.{zero, suc, ◌≡◌, ℕ, ◌+◌, ◌*◌, ◌<◌, ◌≤◌, ◌^◌, List, [], ◌∷◌, Bool, true, false, ◌||◌, Option, Some, None, ap, sym, ◌∙◌, refl, arith, length, subst}
use Rattle.std.specs.Prelude.{ℤ, pos, neg_ℤ, ◌≤ℤ◌, Contains, nat_eq, IfSome, nat_abs}
use Rattle.std.specs.List.{IsDistinct, list_any, AllByRecursion}
use Rattle.std.proofs.lemmas.Bool.Decides.{nat_tests}
use Rattle.std.proofs.lemmas.Int.{ints}
use Rattle.std.proofs.lemmas.Map.Steps.{length-le_from_distinct_below}
use Rattle.std.proofs.Math.Nat.{mul-le-mul_right}
use Rattle.stn_model.specs.declared.ids.Constraint.{Constraint}
use Rattle.stn_model.specs.ArcWalks.{arcs_weight, GoesOn, IsInner, IsInnerLeast, NoNegative}
use Rattle.stn_walk.specs.Eliminations.{is_in, cell_of}
use Rattle.stn_walk.proofs.ArcWalks.{arcs_weight-append}
use Rattle.stn_walk.proofs.Visits.{Cut}
use Rattle.stn_walk.proofs.Eliminations.{cell-least}
use Rattle.stn_walk.proofs.Exits.{every}

-- the points that a walk leaves
abbrev pub froms : List Constraint → List ℕ
froms [] = []
froms (a ∷ w) = a.from.0 ∷ froms w

-- a walk that leaves no point twice
abbrev pub IsSimple : List Constraint → Type 0
IsSimple w = IsDistinct nat_eq (froms w)

apart : (x : ℕ) (xs : List ℕ) → list_any (nat_eq x) xs ≡ false → AllByRecursion (λ y. nat_eq x y ≡ false) xs
apart x [] h = tt
apart x (y ∷ xs) h =
    let P : Bool → Type 0 = λ b. nat_eq x y ≡ b → (b || list_any (nat_eq x) xs) ≡ false → (nat_eq x y ≡ false) × AllByRecursion (λ y. nat_eq x y ≡ false) xs in
    (elim (nat_eq x y) as P [ true ↦ λ e f. absurd (cc) | false ↦ λ e f. (e, apart x xs f) ]) refl h

-- a walk that leaves i is cut where it leaves it first
leaves_cut : (inner : ℕ → Bool) (arcs : List Constraint) (i m j : ℕ) (w : List Constraint) → GoesOn inner arcs m j w → IsSimple w → list_any (nat_eq i) (froms w) ≡ true
    → Cut (GoesOn inner arcs m i) (λ rest. IsInner inner arcs i j rest × IsSimple rest) w
unfolding IsDistinct
leaves_cut inner arcs i m j [] h simple there = absurd (cc)
leaves_cut inner arcs i m j (a ∷ w) h simple there =
    elim (nat_eq i a.from.0) as (λ b. nat_eq i a.from.0 ≡ b → Cut (GoesOn inner arcs m i) (λ rest. IsInner inner arcs i j rest × IsSimple rest) (a ∷ w)) [
      | true ↦ λ t. let e : i ≡ a.from.0 = grind (arith, nat_tests) in record { front = []; rest = a ∷ w; whole = refl; to = sym h.2 ∙ sym e; from = ((h.1, sym e, h.3), simple) }
      | false ↦ λ t.
          let later : list_any (nat_eq i) (froms w) ≡ true = (rw t at there) in
          let c = leaves_cut inner arcs i a.to.0 j w h.3 simple.1 later in
          record { front = a ∷ c.front; rest = c.rest; whole = ap (λ x. a ∷ x) c.whole; to = (h.0, h.1, h.2, c.to); from = c.from }
    ] refl

-- a walk that is no heavier and leaves no point twice
pub record Simple (inner : ℕ → Bool) (arcs : List Constraint) (i j : ℕ) (w : List Constraint) : Type 0 where
  pub walk : List Constraint
  pub goes : IsInner inner arcs i j walk
  pub simple : IsSimple walk
  pub lighter : arcs_weight walk ≤ℤ arcs_weight w

as_goes : (inner : ℕ → Bool) (arcs : List Constraint) (m j : ℕ) (w : List Constraint) → inner m ≡ true → IsInner inner arcs m j w → GoesOn inner arcs m j w
as_goes inner arcs m j [] here h = absurd h
as_goes inner arcs m j (a ∷ w) here h = (here, h.0, h.1, h.2)

pub simplify : (inner : ℕ → Bool) (arcs : List Constraint) → NoNegative inner arcs → (i j : ℕ) (w : List Constraint) → IsInner inner arcs i j w → Simple inner arcs i j w
unfolding IsDistinct
simplify inner arcs none_below i j [] h = absurd h
simplify inner arcs none_below i j (a ∷ []) h = record { walk = a ∷ []; goes = h; simple = (tt, tt); lighter = omega (arith, ints) }
simplify inner arcs none_below i j (a ∷ b ∷ w) h =
    let s = simplify inner arcs none_below a.to.0 j (b ∷ w) (h.2.1, h.2.2, h.2.3) in
    let on = as_goes inner arcs a.to.0 j s.walk h.2.0 s.goes in
    let light = s.lighter in
    elim (list_any (nat_eq a.from.0) (froms s.walk)) as (λ t. list_any (nat_eq a.from.0) (froms s.walk) ≡ t → Simple inner arcs i j (a ∷ b ∷ w)) [
      | true ↦ λ t.
          let c = leaves_cut inner arcs a.from.0 a.to.0 j s.walk on s.simple t in
          let closed = none_below a.from.0 (a ∷ c.front) (h.0, refl, c.to) in
          let whole = ap arcs_weight c.whole in
          let sum = arcs_weight-append c.front c.rest in
          record { walk = c.rest; goes = subst (λ p. IsInner inner arcs p j c.rest) h.1 c.from.0; simple = c.from.1; lighter = omega (arith, ints) }
      | false ↦ λ t. record { walk = a ∷ s.walk; goes = (h.0, h.1, on); simple = (apart a.from.0 (froms s.walk) t, s.simple); lighter = omega (arith, ints) }
    ] refl

-- the ends of each arc are below n
unfoldable pub IsBelow : ℕ → List Constraint → Type 0
IsBelow n arcs = (a : Constraint) → Contains arcs a → a.from.0 < n

-- each bound has a magnitude of at most m
unfoldable pub HasBounds : ℕ → List Constraint → Type 0
HasBounds m arcs = (a : Constraint) → Contains arcs a → (neg_ℤ (pos m) ≤ℤ a.bound) × (a.bound ≤ℤ pos m)

goes_below : (inner : ℕ → Bool) (arcs : List Constraint) (n m j : ℕ) (w : List Constraint) → IsBelow n arcs
    → GoesOn inner arcs m j w → (q : ℕ) → list_any (nat_eq q) (froms w) ≡ true → q < n
unfolding IsBelow
goes_below inner arcs n m j [] below h q there = absurd (cc)
goes_below inner arcs n m j (a ∷ w) below h q there =
    elim (nat_eq q a.from.0) as (λ b. nat_eq q a.from.0 ≡ b → q < n) [
      | true ↦ λ t. let e : q ≡ a.from.0 = grind (arith, nat_tests) in let low = below a h.1 in omega arith
      | false ↦ λ t. goes_below inner arcs n a.to.0 j w below h.3 q (rw t at there)
    ] refl

inner_below : (inner : ℕ → Bool) (arcs : List Constraint) (n i j : ℕ) (w : List Constraint) → IsBelow n arcs
    → IsInner inner arcs i j w → (q : ℕ) → list_any (nat_eq q) (froms w) ≡ true → q < n
unfolding IsBelow
inner_below inner arcs n i j [] below h q there = absurd h
inner_below inner arcs n i j (a ∷ w) below h q there =
    elim (nat_eq q a.from.0) as (λ b. nat_eq q a.from.0 ≡ b → q < n) [
      | true ↦ λ t. let e : q ≡ a.from.0 = grind (arith, nat_tests) in let low = below a h.0 in omega arith
      | false ↦ λ t. goes_below inner arcs n a.to.0 j w below h.2 q (rw t at there)
    ] refl

length-froms : (w : List Constraint) → length (froms w) ≡ length w
length-froms [] = refl
length-froms (a ∷ w) = ap suc (length-froms w)

-- a walk that leaves no point twice has at most as many arcs as there are points
pub few_arcs : (inner : ℕ → Bool) (arcs : List Constraint) (n i j : ℕ) (w : List Constraint) → IsBelow n arcs → IsInner inner arcs i j w → IsSimple w → length w ≤ n
few_arcs inner arcs n i j w below h simple = subst (λ k. k ≤ n) (length-froms w) (length-le_from_distinct_below (froms w) n simple (inner_below inner arcs n i j w below h))

-- k times m
abbrev pub times : ℕ → ℕ → ℕ
times zero m = 0
times (suc k) m = m + times k m

times-mul : (k m : ℕ) → times k m ≡ k * m
times-mul zero m = grind arith
times-mul (suc k) m = let e = times-mul k m in grind arith

goes_weighs : (inner : ℕ → Bool) (arcs : List Constraint) (m p j : ℕ) (w : List Constraint) → HasBounds m arcs
    → GoesOn inner arcs p j w → (neg_ℤ (pos (times (length w) m)) ≤ℤ arcs_weight w) × (arcs_weight w ≤ℤ pos (times (length w) m))
unfolding HasBounds
goes_weighs inner arcs m p j [] bounds h = (omega (arith, ints), omega (arith, ints))
goes_weighs inner arcs m p j (a ∷ w) bounds h =
    let b = bounds a h.1 in
    let rest = goes_weighs inner arcs m a.to.0 j w bounds h.3 in
    let low = b.0 in
    let high = b.1 in
    let rest_low = rest.0 in
    let rest_high = rest.1 in
    (omega (arith, ints), omega (arith, ints))

inner_weighs : (inner : ℕ → Bool) (arcs : List Constraint) (m i j : ℕ) (w : List Constraint) → HasBounds m arcs
    → IsInner inner arcs i j w → (neg_ℤ (pos (times (length w) m)) ≤ℤ arcs_weight w) × (arcs_weight w ≤ℤ pos (times (length w) m))
unfolding HasBounds
inner_weighs inner arcs m i j [] bounds h = absurd h
inner_weighs inner arcs m i j (a ∷ w) bounds h =
    let b = bounds a h.0 in
    let rest = goes_weighs inner arcs m a.to.0 j w bounds h.2 in
    let low = b.0 in
    let high = b.1 in
    let rest_low = rest.0 in
    let rest_high = rest.1 in
    (omega (arith, ints), omega (arith, ints))

-- an inner least arcs_weight is light
pub least_light : (inner : ℕ → Bool) (arcs : List Constraint) (n m i j : ℕ) (o : Option ℤ) → IsBelow n arcs
    → HasBounds m arcs → NoNegative inner arcs → IsInnerLeast inner arcs i j o → IfSome o (λ b. nat_abs b ≤ n * m)
least_light inner arcs n m i j None below bounds none_below least = tt
least_light inner arcs n m i j (Some b) below bounds none_below least =
    let s = simplify inner arcs none_below i j least.0.0 least.0.1 in
    let is_b = least.0.2 in
    let lighter = s.lighter in
    let least_of = least.1 s.walk s.goes in
    let weighs = inner_weighs inner arcs m i j s.walk bounds s.goes in
    let low = weighs.0 in
    let high = weighs.1 in
    let few : length s.walk * m ≤ n * m = mul-le-mul_right m (few_arcs inner arcs n i j s.walk below s.goes s.simple) in
    let e = times-mul (length s.walk) m in
    omega (arith, ints)

-- where bounds are light, each cell of plain elimination is light
pub cells_light : (arcs : List Constraint) (n m : ℕ) → IsBelow n arcs → HasBounds m arcs → n * m ≤ 2 ^ 99
    → (es : List ℕ) → NoNegative (is_in es) arcs → (i j : ℕ) → IfSome (cell_of arcs es i j) (λ w. nat_abs w ≤ 2 ^ 99)
cells_light arcs n m below bounds small es none_below i j = weaken (cell_of arcs es i j)
    (least_light (is_in es) arcs n m i j (cell_of arcs es i j) below bounds none_below
    (cell-least arcs es none_below i j))
  where
    weaken : (o : Option ℤ) → IfSome o (λ b. nat_abs b ≤ n * m) → IfSome o (λ w. nat_abs w ≤ 2 ^ 99)
    weaken None h = tt
    weaken (Some b) h = omega arith

-- a least arcs_weight of all walks is light, so final cells stay light
pub final_light : (arcs : List Constraint) (n m i j : ℕ) (o : Option ℤ) → IsBelow n arcs → HasBounds m arcs
    → NoNegative every arcs → IsInnerLeast every arcs i j o → IfSome o (λ b. nat_abs b ≤ n * m)
final_light arcs = least_light every arcs
