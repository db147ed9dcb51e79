-- What a revisit sets are the least weights of all walks, where places stand for points: IsStrange, of_place, Prepared.
--   listed_or, by_place        a point has a place or none, and what holds of both holds of all points
--   of_listed, of_strange      what is told of a point, from what is told of its place
--   finals_are_least           the final cells between a place and its later places
use Rattle.std.proofs.Common.{zero, suc, ◌≡◌, ◌≢◌, ℕ, ◌<◌, List, [], ◌∷◌, Bool, true, false, Option, Some, None, ap, sym, ◌∙◌, refl, length, arith}
use Rattle.std.proofs.Common.{subst, inl, inr, ◌⊎◌}
use Rattle.std.specs.Prelude.{ℤ, pos, ◌≤ℤ◌, ◌==◌, if◌then◌else◌, IfSome}
use Rattle.std.proofs.lemmas.Bool.{eqb-true, eqb-false, eq-eqb, ne_eqb, false≢true}
use Rattle.std.proofs.lemmas.Bool.Decides.{nat_tests}
use Rattle.stn_model.specs.declared.ids.Constraint.{Constraint}
use Rattle.stn_model.specs.ArcWalks.{IsInnerLeast, NoNegative}
use Rattle.stn_walk.specs.Eliminations.{sum_of}
use Rattle.stn_walk.proofs.Exits.{every}
use Rattle.stn_walk.proofs.Finals.{IsUpper, IsLeastOf, reach, finals_from, finals_to}
use Rattle.dist_rows.specs.declared.cell.Cell.{Cell}
use Rattle.dist_rows.specs.declared.cell.Via.TheVariants.{Given}
use Rattle.stn_walk.specs.Eliminations.{is_in}
use Rattle.elim_step.specs.Eliminates.{sum_through}
use Rattle.elim_step.specs.Eliminated.{weight_at, point_at, IsListed}
use Rattle.elim_step.specs.Revisits.{reach_of, out_sum, in_sum, IsLeastSum, Revisits}

-- a point has no place in the list
abbrev pub IsStrange : List ℕ → ℕ → Type 0
IsStrange points p = (k : ℕ) → k < length points → point_at points k ≢ p

-- no point stands twice in the list
abbrev pub IsApart : List ℕ → Type 0
IsApart points = (i j : ℕ) → i < length points → j < length points → point_at points i ≡ point_at points j → i ≡ j

-- what is told of the place of a point, and else something that is told of points without a place
abbrev pub of_place : {X : Type 0} → X → List ℕ → (ℕ → X) → ℕ → X
of_place none [] f p = none
of_place none (x ∷ xs) f p = if x == p then f 0 else of_place none xs (λ k. f (suc k)) p

-- a point has a place, or it has none
pub listed_or : (points : List ℕ) (p : ℕ) → IsListed points p ⊎ IsStrange points p
listed_or [] p = inr (λ k low. absurd (omega arith))
listed_or (x ∷ xs) p =
    elim (x == p) as (λ b. (x == p) ≡ b → IsListed (x ∷ xs) p ⊎ IsStrange (x ∷ xs) p) [
      | true ↦ λ t. inl (0, omega arith, eqb-true x p t)
      | false ↦ λ t. elim (listed_or xs p) [
        | inl h ↦ inl (suc h.0, omega (arith, h.1), h.2)
        | inr away ↦ inr (strange (eqb-false x p t) away)
      ]
    ] refl where
      strange : x ≢ p → IsStrange xs p → IsStrange (x ∷ xs) p
      strange apart away zero low = apart
      strange apart away (suc k) low = away k (omega arith)

-- what holds of the point at each place, and of each point without a place, holds of all points
pub by_place : (points : List ℕ) (P : ℕ → Type 0) → ((k : ℕ) → k < length points → P (point_at points k)) → ((p : ℕ) → IsStrange points p → P p) → (p : ℕ)
    → P p
by_place points P at strange p = elim (listed_or points p) [ inl h ↦ subst P h.2 (at h.0 h.1) | inr away ↦ strange p away ]

rest_apart : (x : ℕ) (xs : List ℕ) → IsApart (x ∷ xs) → IsApart xs
rest_apart x xs apart i j li lj e = let same : suc i ≡ suc j = apart (suc i) (suc j) (omega arith) (omega arith) e in omega arith

-- what is told of the point at a place
pub of_listed : {X : Type 0} (none : X) (points : List ℕ) (f : ℕ → X) (k : ℕ) → IsApart points → k < length points
    → of_place none points f (point_at points k) ≡ f k
of_listed none [] f k apart low = absurd (omega arith)
of_listed none (x ∷ xs) f zero apart low = ap (λ b. if b then f 0 else of_place none xs (λ k. f (suc k)) x) (eq-eqb x x refl)
of_listed none (x ∷ xs) f (suc k) apart low =
    let differ : x ≢ point_at xs k = λ e. (let same : 0 ≡ suc k = apart 0 (suc k) (omega arith) low e in absurd (omega arith)) in
    ap (λ b. if b then f 0 else of_place none xs (λ n. f (suc n)) (point_at xs k)) (ne_eqb x (point_at xs k) differ)
    ∙ of_listed none xs (λ n. f (suc n)) k (rest_apart x xs apart) (omega arith)

-- what is told of a point without a place
pub of_strange : {X : Type 0} (none : X) (points : List ℕ) (f : ℕ → X) (p : ℕ) → IsStrange points p → of_place none points f p ≡ none
of_strange none [] f p away = refl
of_strange none (x ∷ xs) f p away =
    ap (λ b. if b then f 0 else of_place none xs (λ n. f (suc n)) p) (ne_eqb x p (away 0 (omega arith)))
    ∙ of_strange none xs (λ n. f (suc n)) p (λ k low. away (suc k) (omega arith))

-- the weight of a sum
sum_weight : (m : ℕ) (x y : Option Cell) → weight_at (sum_through m x y) ≡ sum_of (weight_at x) (weight_at y)
sum_weight m None y = refl
sum_weight m (Some a) None = refl
sum_weight m (Some a) (Some b) = refl

-- and of what lies between two places, which is 0 from a place to itself
reach_weight : (f : ℕ → ℕ → Option Cell) (p q : ℕ) → weight_at (reach_of f p q) ≡ (if p == q then Some (pos 0) else weight_at (f p q))
reach_weight f p q =
    let nought : Option Cell = Some (record { weight = pos 0; via = Given 0 }) in
    elim (p == q) as (λ b. weight_at (if b then nought else f p q) ≡ (if b then Some (pos 0) else weight_at (f p q))) [ true ↦ refl | false ↦ refl ]

turned : (p q : ℕ) → (p == q) ≡ (q == p)
turned p q = grind (arith, nat_tests)

-- two places are one where their points are
same_place : (points : List ℕ) (p q : ℕ) → IsApart points → p < length points → q < length points → (p == q) ≡ (point_at points p == point_at points q)
same_place points p q apart lp lq =
    elim (p == q) as (λ b. (p == q) ≡ b → b ≡ (point_at points p == point_at points q)) [
      | true ↦ λ t. sym (eq-eqb (point_at points p) (point_at points q) (ap (point_at points) (eqb-true p q t)))
      | false ↦ λ t. sym (ne_eqb (point_at points p) (point_at points q) (λ e. eqb-false p q t (apart p q lp lq e)))
    ] refl

upper : (b : ℤ) (x : Option Cell) → IfSome x (λ s. b ≤ℤ s.weight) → IsUpper b (weight_at x)
upper b None h = tt
upper b (Some s) h = h

-- the points of a list of places
abbrev among_of : List ℕ → List ℕ → ℕ → Bool
among_of points later p = of_place false points (λ m. is_in later m) p

-- the least of the sums through later places is the least of those through their points
least_sums : (points later : List ℕ) (sum : ℕ → Option Cell) (t : ℕ → Option ℤ) (o : Option Cell) → IsApart points
    → ((m : ℕ) → is_in later m ≡ true → m < length points)
    → ((m : ℕ) → m < length points → weight_at (sum m) ≡ t (point_at points m)) → IsLeastSum sum later o → IsLeastOf (among_of points later) t (weight_at o)
least_sums points later sum t None apart within same least =
    by_place points (λ p. among_of points later p ≡ true → t p ≡ None)
    (λ m low here. sym (same m low) ∙ ap weight_at (least m (sym (of_listed false points (λ n. is_in later n) m apart low) ∙ here)))
    (λ p away here. absurd (false≢true (sym (of_strange false points (λ n. is_in later n) p away) ∙ here)))
least_sums points later sum t (Some c) apart within same least =
    let m = least.0.0 in
    let low = within m least.0.1 in (
      (point_at points m, of_listed false points (λ n. is_in later n) m apart low ∙ least.0.1, sym (same m low) ∙ ap weight_at least.0.2),
      by_place points (λ p. among_of points later p ≡ true → IsUpper c.weight (t p))
          (λ m low here. subst (IsUpper c.weight) (same m low)
          (upper c.weight (sum m) (least.1 m (sym (of_listed false points (λ n. is_in later n) m apart low) ∙ here))))
          (λ p away here. absurd (false≢true (sym (of_strange false points (λ n. is_in later n) p away) ∙ here))),
    )

-- Before the place k is revisited: the forward cells between k and the points outside a set, those that come before k, are the least weights of
-- the walks over the set, and there are none but those with the later places; no walk over the set joins k with a point that has no place; and the
-- final cells between the later places are the least weights of all walks.
pub record Prepared (inner : ℕ → Bool) (arcs : List Constraint) (points : List ℕ) (k : ℕ) (later : List ℕ)
    (forward finals : ℕ → ℕ → Option Cell) : Type 0 where
  pub none_below : NoNegative every arcs
  pub apart : IsApart points
  pub here : k < length points
  pub out : (m : ℕ) → m < length points → inner (point_at points m) ≡ false → m ≢ k
      → IsInnerLeast inner arcs (point_at points k) (point_at points m) (weight_at (forward k m))
  pub back : (m : ℕ) → m < length points → inner (point_at points m) ≡ false → m ≢ k
      → IsInnerLeast inner arcs (point_at points m) (point_at points k) (weight_at (forward m k))
  pub joined : (m : ℕ) → m < length points → inner (point_at points m) ≡ false → m ≢ k → is_in later m ≡ false
      → (weight_at (forward k m) ≡ None) × (weight_at (forward m k) ≡ None)
  pub strange : (p : ℕ) → IsStrange points p → inner p ≡ false
      → IsInnerLeast inner arcs (point_at points k) p None × IsInnerLeast inner arcs p (point_at points k) None
  pub outside : (m : ℕ) → is_in later m ≡ true → (m < length points) × (inner (point_at points m) ≡ false) × (m ≢ k)
  pub between : (m j : ℕ) → is_in later m ≡ true → is_in later j ≡ true → m ≢ j
      → IsInnerLeast every arcs (point_at points m) (point_at points j) (weight_at (finals m j))

module _ (inner : ℕ → Bool) (arcs : List Constraint) (points : List ℕ) (k : ℕ) (later : List ℕ) (forward old : ℕ → ℕ → Option Cell)
    (h : Prepared inner arcs points k later forward old) where
  -- a later place, from its point
  is_later : (m : ℕ) → m < length points → among_of points later (point_at points m) ≡ true → is_in later m ≡ true
  is_later m low here = sym (of_listed false points (λ n. is_in later n) m h.apart low) ∙ here

  is_not_later : (m : ℕ) → m < length points → among_of points later (point_at points m) ≡ false → is_in later m ≡ false
  is_not_later m low away = sym (of_listed false points (λ n. is_in later n) m h.apart low) ∙ away

  -- it is outside the set, and not k
  later_outside : (p : ℕ) → among_of points later p ≡ true → (inner p ≡ false) × (p ≢ point_at points k)
  later_outside = by_place points (λ p. among_of points later p ≡ true → (inner p ≡ false) × (p ≢ point_at points k))
      (λ m low here. let o = h.outside m (is_later m low here) in (o.1, λ e. o.2 (h.apart m k low h.here e)))
      (λ p away here. absurd (false≢true (sym (of_strange false points (λ n. is_in later n) p away) ∙ here)))

  -- a cell with k, told of points
  module _ (cell : ℕ → Option ℤ) where
    abbrev told : ℕ → Option ℤ
    told p = of_place None points cell p

    told_least : (is_least : ℕ → Option ℤ → Type 0)
        → ((m : ℕ) → m < length points → inner (point_at points m) ≡ false → m ≢ k → is_least (point_at points m) (cell m))
        → ((p : ℕ) → IsStrange points p → inner p ≡ false → is_least p None) → (p : ℕ) → inner p ≡ false → p ≢ point_at points k → is_least p (told p)
    told_least is_least at strange = by_place points (λ p. inner p ≡ false → p ≢ point_at points k → is_least p (told p))
        (λ m low out apart. subst (is_least (point_at points m)) (sym (of_listed None points cell m h.apart low))
        (at m low out (λ e. apart (ap (point_at points) e))))
        (λ p away out apart. subst (is_least p) (sym (of_strange None points cell p away)) (strange p away out))

    told_none : ((m : ℕ) → m < length points → inner (point_at points m) ≡ false → m ≢ k → is_in later m ≡ false → cell m ≡ None)
        → (p : ℕ) → inner p ≡ false → p ≢ point_at points k → among_of points later p ≡ false → told p ≡ None
    told_none at = by_place points (λ p. inner p ≡ false → p ≢ point_at points k → among_of points later p ≡ false → told p ≡ None)
        (λ m low out apart none. of_listed None points cell m h.apart low ∙ at m low out (λ e. apart (ap (point_at points) e)) (is_not_later m low none))
        (λ p away out apart none. of_strange None points cell p away)

  module _ (j : ℕ) (here : is_in later j ≡ true) where
    low_j : j < length points
    low_j = (h.outside j here).0

    -- a final cell with j, told of points
    final_least : (cell : ℕ → Option ℤ) (is_least : ℕ → Option ℤ → Type 0) → ((m : ℕ) → is_in later m ≡ true → m ≢ j → is_least (point_at points m) (cell m))
        → (p : ℕ) → among_of points later p ≡ true → p ≢ point_at points j → is_least p (told cell p)
    final_least cell is_least at = by_place points (λ p. among_of points later p ≡ true → p ≢ point_at points j → is_least p (told cell p))
        (λ m low is apart. subst (is_least (point_at points m)) (sym (of_listed None points cell m h.apart low))
        (at m (is_later m low is) (λ e. apart (ap (point_at points) e))))
        (λ p away is apart. absurd (false≢true (sym (of_strange false points (λ n. is_in later n) p away) ∙ is)))

    -- what lies between a later place and j, told of points
    reach_told : (cell : ℕ → Option ℤ) (m : ℕ) → m < length points
        → (if m == j then Some (pos 0) else cell m) ≡ reach (told cell) (point_at points j) (point_at points m)
    reach_told cell m low =
        ap (λ b. if b then Some (pos 0) else cell m) (same_place points m j h.apart low low_j)
        ∙ ap (λ o. if point_at points m == point_at points j then Some (pos 0) else o) (sym (of_listed None points cell m h.apart low))

    out_told : (m : ℕ) → m < length points → weight_at (out_sum forward old k j m)
        ≡ sum_of (told (λ n. weight_at (forward k n)) (point_at points m)) (reach (told (λ n. weight_at (old n j))) (point_at points j) (point_at points m))
    out_told m low =
        sum_weight m (forward k m) (reach_of old m j)
        ∙ ap (sum_of (weight_at (forward k m))) (reach_weight old m j ∙ reach_told (λ n. weight_at (old n j)) m low)
        ∙ ap (λ o. sum_of o (reach (told (λ n. weight_at (old n j))) (point_at points j) (point_at points m)))
        (sym (of_listed None points (λ n. weight_at (forward k n)) m h.apart low))

    in_told : (m : ℕ) → m < length points → weight_at (in_sum forward old k j m)
        ≡ sum_of (reach (told (λ n. weight_at (old j n))) (point_at points j) (point_at points m)) (told (λ n. weight_at (forward n k)) (point_at points m))
    in_told m low =
        sum_weight m (reach_of old j m) (forward m k)
        ∙ ap (λ o. sum_of o (weight_at (forward m k)))
        (reach_weight old j m ∙ ap (λ b. if b then Some (pos 0) else weight_at (old j m)) (turned j m) ∙ reach_told (λ n. weight_at (old j n)) m low)
        ∙ ap (sum_of (reach (told (λ n. weight_at (old j n))) (point_at points j) (point_at points m)))
        (sym (of_listed None points (λ n. weight_at (forward n k)) m h.apart low))

    within : (m : ℕ) → is_in later m ≡ true → m < length points
    within m is = (h.outside m is).0

    apart_j : point_at points j ≢ point_at points k
    apart_j e = (h.outside j here).2 (h.apart j k low_j h.here e)

    -- from k to j
    pub out_least : (o : Option Cell) → IsLeastSum (out_sum forward old k j) later o
        → IsInnerLeast every arcs (point_at points k) (point_at points j) (weight_at o)
    out_least o least =
        finals_from inner arcs (point_at points k) (point_at points j) (among_of points later) (told (λ n. weight_at (forward k n)))
        (told (λ n. weight_at (old n j))) (weight_at o)
        h.none_below (h.outside j here).1 (λ e. apart_j (sym e))
        (told_least (λ n. weight_at (forward k n)) (λ p x. IsInnerLeast inner arcs (point_at points k) p x) h.out (λ p away out. (h.strange p away out).0))
        (told_none (λ n. weight_at (forward k n)) (λ m low out apart none. (h.joined m low out apart none).0))
        later_outside
        (final_least (λ n. weight_at (old n j)) (λ p x. IsInnerLeast every arcs p (point_at points j) x) (λ m is apart. h.between m j is here apart))
        (least_sums points later (out_sum forward old k j) _ o h.apart within out_told least)

    -- from j to k
    pub back_least : (o : Option Cell) → IsLeastSum (in_sum forward old k j) later o
        → IsInnerLeast every arcs (point_at points j) (point_at points k) (weight_at o)
    back_least o least =
        finals_to inner arcs (point_at points k) (point_at points j) (among_of points later) (told (λ n. weight_at (forward n k)))
        (told (λ n. weight_at (old j n))) (weight_at o)
        h.none_below (h.outside j here).1 apart_j
        (told_least (λ n. weight_at (forward n k)) (λ p x. IsInnerLeast inner arcs p (point_at points k) x) h.back (λ p away out. (h.strange p away out).1))
        (told_none (λ n. weight_at (forward n k)) (λ m low out apart none. (h.joined m low out apart none).1))
        later_outside
        (final_least (λ n. weight_at (old j n)) (λ p x. IsInnerLeast every arcs (point_at points j) p x)
        (λ m is apart. h.between j m here is (λ e. apart (sym e))))
        (least_sums points later (in_sum forward old k j) _ o h.apart within in_told least)

-- what a revisit sets between k and a later place are the least weights of all walks
pub finals_are_least : (inner : ℕ → Bool) (arcs : List Constraint) (points : List ℕ) (k : ℕ) (later : List ℕ) (forward old new : ℕ → ℕ → Option Cell)
    → Prepared inner arcs points k later forward old → Revisits forward k later old new → (j : ℕ) → is_in later j ≡ true
    → IsInnerLeast every arcs (point_at points k) (point_at points j) (weight_at (new k j))
    × IsInnerLeast every arcs (point_at points j) (point_at points k) (weight_at (new j k))
finals_are_least inner arcs points k later forward old new prepared revisits j here = (
  out_least inner arcs points k later forward old prepared j here (new k j) (revisits.out j here),
  back_least inner arcs points k later forward old prepared j here (new j k) (revisits.back j here),
)
