-- Arcs laid into cells one by one, and the elimination that begins with them.
use Rattle.std.proofs.Common.{zero, suc, ◌≡◌, ◌≢◌, ℕ, ◌+◌, ◌<◌, List, [], ◌∷◌, ◌++◌, Bool, true, false, ◌&&◌, ◌||◌, not, Option, Some, None, ap, sym}
use Rattle.std.proofs.Common.{◌∙◌, refl, arith, length, take, inl, inr, ◌⊎◌}
use Rattle.std.proofs.lemmas.Bool.{and_parts}
use Rattle.std.specs.Prelude.{ℤ, pos, neg_ℤ, ◌≤ℤ◌, ◌<ℤ◌, ◌==◌, if◌then◌else◌, int_lt, Contains, replicate}
use Rattle.std.proofs.lemmas.Bool.Decides.{nat_tests}
use Rattle.std.proofs.lemmas.Int.{ints}
use Rattle.std.proofs.lemmas.List.{take_more, take_all, length-map, get_or-map, length-replicate}
use Rattle.stn_model.specs.Limits.{greatest_bound}
use Rattle.stn_model.specs.declared.ids.Constraint.{Constraint}
use Rattle.stn_model.specs.Arcs.{arc_at, no_arc}
use Rattle.stn_model.specs.ArcWalks.{NoNegative}
use Rattle.stn_walk.specs.Eliminations.{is_in, bound_of, lesser}
use Rattle.stn_walk.specs.Joins.{has_edge}
use Rattle.dist_rows.specs.declared.cell.Cell.{Cell}
use Rattle.dist_rows.specs.declared.cell.Via.TheVariants.{Given}
use Rattle.dist_rows.specs.Cells as cells
use Rattle.elim_step.specs.Eliminates.{remains}
use Rattle.elim_step.specs.Eliminated.{weight_at, point_at}
use Rattle.private_elim.specs.Locals.{LocalView, IsLocal, arcs_in, local_arc_at, place_in, all_numbered}
use Rattle.elim_step.specs.Origins.{IsArcOf, IsArcLeaf, HasOrigins}
use Rattle.private_elim.specs.Laid.{IsLaid, IsLaidArc}
use Rattle.private_elim.specs.Taken.{IsTaken}
use Rattle.private_elim.proofs.locals.LocalFacts.{arc_joins, arc_in_at}
use Rattle.private_elim.proofs.locals.Places.{place_found, place_missing, place_contained}
use Rattle.elim_step.proofs.OriginFacts.{origins_none, origins_lowered}
use Rattle.private_elim.proofs.taking.Takes.{local_ground}

-- the lesser of two does not depend on their order
lesser-swap2 : (a b : ℤ) → lesser (Some a) (Some b) ≡ lesser (Some b) (Some a)
lesser-swap2 a b =
    elim (int_lt b a) as (λ t. int_lt b a ≡ t → (if t then Some b else Some a) ≡ (if int_lt a b then Some a else Some b)) [
      | true ↦ λ t. (let off : int_lt a b ≡ false = grind (arith, ints) in rw off refl)
      | false ↦ λ t. elim (int_lt a b) as (λ s. int_lt a b ≡ s → Some a ≡ (if s then Some a else Some b)) [
        | true ↦ λ s. refl
        | false ↦ λ s. (let same : a ≡ b = grind (arith, ints) in ap (λ (x : ℤ). Some x) same)
      ] refl
    ] refl

-- the lesser of two numbers
abbrev least : ℤ → ℤ → ℤ
least a b = if int_lt b a then b else a

lesser-some : (a b : ℤ) → lesser (Some a) (Some b) ≡ Some (least a b)
lesser-some a b = elim (int_lt b a) as (λ t. (if t then Some b else Some a) ≡ Some (if t then b else a)) [ true ↦ refl | false ↦ refl ]

record IsLeastOf (a b m : ℤ) : Type 0 where
  low : m ≤ℤ a
  high : m ≤ℤ b
  is : (m ≡ a) ⊎ (m ≡ b)

least-is : (a b : ℤ) → IsLeastOf a b (least a b)
least-is a b = elim (int_lt b a) as (λ t. int_lt b a ≡ t → IsLeastOf a b (if t then b else a)) [
  | true ↦ λ t. (let lt : b <ℤ a = grind (arith, ints) in record { low = omega (arith, ints); high = omega (arith, ints); is = inr refl })
  | false ↦ λ t. (let le : a ≤ℤ b = grind (arith, ints) in record { low = omega (arith, ints); high = le; is = inl refl })
] refl

least-swap : (a b c : ℤ) → least (least a b) c ≡ least (least a c) b
least-swap a b c =
    same (least a b) (least a c) (least (least a b) c) (least (least a c) b) (least-is a b) (least-is a c) (least-is (least a b) c)
    (least-is (least a c) b) where
      same : (x y p q : ℤ) → IsLeastOf a b x → IsLeastOf a c y → IsLeastOf x c p → IsLeastOf y b q → p ≡ q
      same x y p q hx hy hp hq =
          let a1 = hx.low in
          let a2 = hx.high in
          let b1 = hy.low in
          let b2 = hy.high in
          let c1 = hp.low in
          let c2 = hp.high in
          let d1 = hq.low in
          let d2 = hq.high in
          elim hp.is [
            | inl e ↦ elim hx.is [
              | inl f ↦ elim hq.is [ inl g ↦ elim hy.is [ inl i ↦ omega (arith, ints) | inr i ↦ omega (arith, ints) ] | inr g ↦ omega (arith, ints) ]
              | inr f ↦ elim hq.is [ inl g ↦ elim hy.is [ inl i ↦ omega (arith, ints) | inr i ↦ omega (arith, ints) ] | inr g ↦ omega (arith, ints) ]
            ]
            | inr e ↦ elim hq.is [ inl g ↦ elim hy.is [ inl i ↦ omega (arith, ints) | inr i ↦ omega (arith, ints) ] | inr g ↦ omega (arith, ints) ]
          ]

lesser-swap : (o : Option ℤ) (a b : ℤ) → lesser (lesser o (Some a)) (Some b) ≡ lesser (lesser o (Some b)) (Some a)
lesser-swap None a b = lesser-swap2 a b
lesser-swap (Some c) a b =
    ap (λ o. lesser o (Some b)) (lesser-some c a) ∙ lesser-some (least c a) b ∙ ap (λ (x : ℤ). Some x) (least-swap c a b) ∙ sym (lesser-some (least c b) a)
    ∙ ap (λ o. lesser o (Some a)) (sym (lesser-some c b))

-- whether an arc goes from i to j
abbrev goes : Constraint → ℕ → ℕ → Bool
goes a i j = (a.from.0 == i) && (a.to.0 == j)

-- the least bound of one arc more
bound_of-push : (arcs : List Constraint) (a : Constraint) (i j : ℕ)
    → bound_of (arcs ++ a ∷ []) i j ≡ (if goes a i j then lesser (bound_of arcs i j) (Some a.bound) else bound_of arcs i j)
bound_of-push [] a i j = refl
bound_of-push (x ∷ xs) a i j =
    let rest = bound_of-push xs a i j in
    ap (λ o. if goes x i j then lesser o (Some x.bound) else o) rest ∙ by (goes x i j) (goes a i j) (bound_of xs i j) where
      by : (p q : Bool) (o : Option ℤ)
          → (if p then lesser (if q then lesser o (Some a.bound) else o) (Some x.bound) else (if q then lesser o (Some a.bound) else o))
          ≡ (if q then lesser (if p then lesser o (Some x.bound) else o) (Some a.bound) else (if p then lesser o (Some x.bound) else o))
      by true true o = lesser-swap o a.bound x.bound
      by true false o = refl
      by false true o = refl
      by false false o = refl

-- whether an arc joins i and j
abbrev meets : Constraint → ℕ → ℕ → Bool
meets a i j = ((a.from.0 == i) && (a.to.0 == j)) || ((a.from.0 == j) && (a.to.0 == i))

has_edge-push : (arcs : List Constraint) (a : Constraint) (i j : ℕ) → has_edge (arcs ++ a ∷ []) i j ≡ (has_edge arcs i j || meets a i j)
has_edge-push [] a i j = or_false (meets a i j) where
  or_false : (b : Bool) → (b || false) ≡ b
  or_false true = refl
  or_false false = refl
has_edge-push (x ∷ xs) a i j = ap (λ b. meets x i j || b) (has_edge-push xs a i j) ∙ joined (meets x i j) (has_edge xs i j) (meets a i j) where
  joined : (p q r : Bool) → (p || (q || r)) ≡ ((p || q) || r)
  joined true q r = refl
  joined false q r = refl

-- a point of an arc of a local problem has a place
pub from_placed : (v : LocalView) → IsLocal v → (k : ℕ) → k < length v.arcs → place_in v.points (local_arc_at v.arcs k).arc.from.0 ≡ None → ⊥
from_placed v h k lt none =
    let here : Contains (arcs_in v) (local_arc_at v.arcs k).arc = contained v k lt in
    let p = place_contained v.points (local_arc_at v.arcs k).arc.from.0 (arc_joins v h (local_arc_at v.arcs k).arc here).starts in
    place_missing v.points (local_arc_at v.arcs k).arc.from.0 none p.0 p.1 p.2 where
      contained : (v : LocalView) (k : ℕ) → k < length v.arcs → Contains (arcs_in v) (local_arc_at v.arcs k).arc
      contained v k lt =
          let many : length (arcs_in v) ≡ length v.arcs = length-map v.arcs (λ a. a.arc) in (k, omega arith, get_or-map (λ a. a.arc) v.arcs k _ _ lt)

pub to_placed : (v : LocalView) → IsLocal v → (k : ℕ) → k < length v.arcs → place_in v.points (local_arc_at v.arcs k).arc.to.0 ≡ None → ⊥
to_placed v h k lt none =
    let here : Contains (arcs_in v) (local_arc_at v.arcs k).arc = contained v k lt in
    let p = place_contained v.points (local_arc_at v.arcs k).arc.to.0 (arc_joins v h (local_arc_at v.arcs k).arc here).ends in
    place_missing v.points (local_arc_at v.arcs k).arc.to.0 none p.0 p.1 p.2 where
      contained : (v : LocalView) (k : ℕ) → k < length v.arcs → Contains (arcs_in v) (local_arc_at v.arcs k).arc
      contained v k lt =
          let many : length (arcs_in v) ≡ length v.arcs = length-map v.arcs (λ a. a.arc) in (k, omega arith, get_or-map (λ a. a.arc) v.arcs k _ _ lt)

-- a place has a point exactly where it is the place of the point
place_test : (points : List ℕ) → ((i j : ℕ) → i < length points → j < length points → point_at points i ≡ point_at points j → i ≡ j)
    → (s i x : ℕ) → s < length points → i < length points → point_at points s ≡ x → (i == s) ≡ (x == point_at points i)
place_test points apart s i x ls li is =
    elim (i == s) as (λ b. (i == s) ≡ b → b ≡ (x == point_at points i)) [
      | true ↦ λ t. let e : i ≡ s =
          grind (arith, nat_tests) in let f : x ≡ point_at points i = sym is ∙ ap (point_at points) (sym e) in grind (arith, nat_tests)
      | false ↦ λ t. let ne : i ≢ s =
          grind (arith, nat_tests) in let f : x ≢ point_at points i = λ e. ne (apart i s li ls (sym e ∙ sym is)) in grind (arith, nat_tests)
    ] refl

lesser-weight : (o : Option Cell) (c : Cell) → weight_at (cells.lesser o c) ≡ lesser (weight_at o) (Some c.weight)
lesser-weight None c = refl
lesser-weight (Some x) c =
    elim (int_lt c.weight x.weight) as
    (λ b. weight_at (if b then Some c else Some x) ≡ (if b then Some c.weight else Some x.weight)) [ true ↦ refl | false ↦ refl ]

and-turned : (a b : Bool) → (a && b) ≡ (b && a)
and-turned true true = refl
and-turned true false = refl
and-turned false true = refl
and-turned false false = refl

module _ (v : LocalView) (h : IsLocal v) (n : ℕ) (lt : n < length v.arcs) (at after : ℕ → ℕ → Option Cell) (joined joined' : ℕ → ℕ → Bool)
    (was : IsLaid v n at joined) (arc : IsLaidArc v n at after joined joined') where
  many : length (arcs_in v) ≡ length v.arcs
  many = length-map v.arcs (λ a. a.arc)

  in_range : n < length (arcs_in v)
  in_range = let e = many in omega arith

  one_more : take (n + 1) (arcs_in v) ≡ take n (arcs_in v) ++ (local_arc_at v.arcs n).arc ∷ []
  one_more = take_more (arcs_in v) n no_arc in_range ∙ ap (λ x. take n (arcs_in v) ++ x ∷ []) (arc_in_at v n lt)

  found_start : (arc.start < length v.points) × (point_at v.points arc.start ≡ (local_arc_at v.arcs n).arc.from.0)
  found_start = place_found v.points (local_arc_at v.arcs n).arc.from.0 arc.start arc.is_start

  found_end : (arc.end < length v.points) × (point_at v.points arc.end ≡ (local_arc_at v.arcs n).arc.to.0)
  found_end = place_found v.points (local_arc_at v.arcs n).arc.to.0 arc.end arc.is_end

  start_test : (i : ℕ) → i < length v.points → (i == arc.start) ≡ ((local_arc_at v.arcs n).arc.from.0 == point_at v.points i)
  start_test i li = place_test v.points (local_ground v h).apart arc.start i (local_arc_at v.arcs n).arc.from.0 found_start.0 li found_start.1

  end_test : (i : ℕ) → i < length v.points → (i == arc.end) ≡ ((local_arc_at v.arcs n).arc.to.0 == point_at v.points i)
  end_test i li = place_test v.points (local_ground v h).apart arc.end i (local_arc_at v.arcs n).arc.to.0 found_end.0 li found_end.1

  laid_cells : (i j : ℕ) → i < length v.points → j < length v.points → i ≢ j
      → weight_at (after i j) ≡ bound_of (take (n + 1) (arcs_in v)) (point_at v.points i) (point_at v.points j)
  laid_cells i j li lj apart =
      let a = (local_arc_at v.arcs n).arc in
      let x = point_at v.points i in
      let y = point_at v.points j in
      let c : Cell = record { weight = a.bound; via = Given n } in
      let tests : ((i == arc.start) && (j == arc.end)) ≡ goes a x y = (λ t. start_test i li t && end_test j lj t) in
      let old = was.cells i j li lj apart in
      let low : weight_at (cells.lowered arc.start arc.end c at i j)
      ≡ (if goes a x y then lesser (bound_of (take n (arcs_in v)) x y) (Some a.bound) else bound_of (take n (arcs_in v)) x y) =
      elim ((i == arc.start) && (j == arc.end)) as
      (λ b. ((i == arc.start) && (j == arc.end)) ≡ b
      → weight_at (if b then cells.lesser (at arc.start arc.end) c else at i j)
      ≡ (if b then lesser (bound_of (take n (arcs_in v)) x y) (Some a.bound) else bound_of (take n (arcs_in v)) x y)) [
        | true ↦ λ t.
            let p = and_parts (i == arc.start) (j == arc.end) t in
            let ei : i ≡ arc.start = (let e = p.0 in grind (arith, nat_tests)) in
            let ej : j ≡ arc.end = (let e = p.1 in grind (arith, nat_tests)) in
            lesser-weight (at arc.start arc.end) c ∙ ap (λ o. lesser o (Some a.bound)) ((λ t. weight_at (at (sym ei t) (sym ej t))) ∙ old)
        | false ↦ λ t. old
      ] refl ∙ ap (λ b. if b then lesser (bound_of (take n (arcs_in v)) x y) (Some a.bound) else bound_of (take n (arcs_in v)) x y) tests in
      ap weight_at (arc.cells i j) ∙ low ∙ sym (bound_of-push (take n (arcs_in v)) a x y) ∙ ap (λ xs. bound_of xs x y) (sym one_more)

  laid_joins : (i j : ℕ) → i < length v.points → j < length v.points → i ≢ j
      → joined' i j ≡ has_edge (take (n + 1) (arcs_in v)) (point_at v.points i) (point_at v.points j)
  laid_joins i j li lj apart =
      let a = (local_arc_at v.arcs n).arc in
      let x = point_at v.points i in
      let y = point_at v.points j in
      let off : (i == j) ≡ false = grind (arith, nat_tests) in
      arc.joins i j
      ∙ (λ t. was.joins i j li lj apart t || (not (off t) && ((start_test i li t && end_test j lj t) || (and-turned (i == arc.end) (j == arc.start) t))))
      ∙ (λ t. has_edge (take n (arcs_in v)) x y || (goes a x y || (start_test j lj t && end_test i li t)))
      ∙ sym (has_edge-push (take n (arcs_in v)) a x y) ∙ ap (λ xs. has_edge xs x y) (sym one_more)

  -- a cell of this arc comes from it
  laid_leaf : IsArcOf v.points (arcs_in v) arc.start arc.end (record { weight = (local_arc_at v.arcs n).arc.bound; via = Given n }) n
  laid_leaf =
      let e : arc_at (arcs_in v) n ≡ (local_arc_at v.arcs n).arc = arc_in_at v n lt in
      record {
        within = in_range;
        starts = ap (λ (a : Constraint). a.from.0) e ∙ sym found_start.1;
        ends = ap (λ (a : Constraint). a.to.0) e ∙ sym found_end.1;
        weighs = ap (λ (a : Constraint). a.bound) e;
      }

  laid_origins : HasOrigins (IsArcLeaf v.points (arcs_in v)) v.points [] after
  laid_origins =
      origins_lowered (IsArcLeaf v.points (arcs_in v)) v.points [] at after was.origins arc.start arc.end refl refl
      (record { weight = (local_arc_at v.arcs n).arc.bound; via = Given n }) arc.cells refl laid_leaf

  pub laid_more : IsLaid v (n + 1) after joined'
  laid_more = record { cells = laid_cells; joins = laid_joins; origins = laid_origins }

pub laid_none : (v : LocalView) (at : ℕ → ℕ → Option Cell) (joined : ℕ → ℕ → Bool) → ((p q : ℕ) → at p q ≡ None) → ((p q : ℕ) → joined p q ≡ false)
    → IsLaid v 0 at joined
laid_none v at joined empty apart = record {
  cells = λ i j li lj ij. ap weight_at (empty i j);
  joins = λ i j li lj ij. apart i j;
  origins = origins_none (IsArcLeaf v.points (arcs_in v)) v.points [] at empty;
}

-- no arc alone is a closed walk
none_closed : (v : LocalView) → IsLocal v → NoNegative (is_in []) (arcs_in v)
none_closed v h p [] g = absurd g
none_closed v h p (a ∷ []) g = absurd ((arc_joins v h a g.0).different (g.1 ∙ sym g.2))
none_closed v h p (a ∷ b ∷ w) g = absurd (let f : false ≡ true = g.2.0 in cc)

remains-all : (n k : ℕ) → k < n → remains (replicate n true) k ≡ true
remains-all zero k lt = absurd (omega arith)
remains-all (suc n) zero lt = refl
remains-all (suc n) (suc k) lt = remains-all n k (omega arith)

-- the elimination that begins with all arcs
pub taken_none : (v : LocalView) → IsLocal v → all_numbered v.arcs ≡ true → (at : ℕ → ℕ → Option Cell) (joined : ℕ → ℕ → Bool) (remain : List Bool)
    → IsLaid v (length v.arcs) at joined
    → ((p : ℕ) → joined p p ≡ false) → remain ≡ replicate (length v.points) true → IsTaken v [] at joined remain
taken_none v h numbered at joined remain laid alone all =
    let many : length (arcs_in v) ≡ length v.arcs = length-map v.arcs (λ a. a.arc) in
    let whole : take (length v.arcs) (arcs_in v) ≡ arcs_in v = take_all (length v.arcs) (arcs_in v) (omega arith) in
    record {
      known = h;
      numbered = numbered;
      private = tt;
      once = tt;
      cells = record {
        cells = λ i j li lj ij. laid.cells i j li lj ij ∙ ap (λ xs. bound_of xs (point_at v.points i) (point_at v.points j)) whole;
        none_below = none_closed v h;
        remaining = λ k lk. ap (λ xs. remains xs k) all ∙ remains-all (length v.points) k lk;
        len = ap length all ∙ length-replicate (length v.points) true;
      };
      origins = laid.origins;
      joins = λ i j li lj ij. laid.joins i j li lj ij ∙ ap (λ xs. has_edge xs (point_at v.points i) (point_at v.points j)) whole;
      alone = alone;
    }

-- the places of the ends of an arc differ
pub ends_apart : (v : LocalView) → IsLocal v → (k : ℕ) → k < length v.arcs → (s e : ℕ) → place_in v.points (local_arc_at v.arcs k).arc.from.0 ≡ Some s
    → place_in v.points (local_arc_at v.arcs k).arc.to.0 ≡ Some e
    → s ≢ e
ends_apart v h k lt s e is_s is_e same =
    let many : length (arcs_in v) ≡ length v.arcs = length-map v.arcs (λ a. a.arc) in
    let here : Contains (arcs_in v) (local_arc_at v.arcs k).arc = (k, omega arith, get_or-map (λ a. a.arc) v.arcs k _ _ lt) in
    (arc_joins v h (local_arc_at v.arcs k).arc here).different
    (sym (place_found v.points (local_arc_at v.arcs k).arc.from.0 s is_s).1 ∙ ap (point_at v.points) same
    ∙ (place_found v.points (local_arc_at v.arcs k).arc.to.0 e is_e).1)

-- the range of an arc's bound
pub bound_range : (v : LocalView) → IsLocal v → (k : ℕ) → k < length v.arcs
    → (neg_ℤ (pos greatest_bound) ≤ℤ (local_arc_at v.arcs k).arc.bound) × ((local_arc_at v.arcs k).arc.bound ≤ℤ pos greatest_bound)
bound_range v h k lt =
    let many : length (arcs_in v) ≡ length v.arcs = length-map v.arcs (λ a. a.arc) in
    let here : Contains (arcs_in v) (local_arc_at v.arcs k).arc = (k, omega arith, get_or-map (λ a. a.arc) v.arcs k _ _ lt) in
    let j = arc_joins v h (local_arc_at v.arcs k).arc here in
    (j.low, j.high)

-- a cell of an equal weight
pub lowered_weight : (s e n : ℕ) (w x : ℤ) (at : ℕ → ℕ → Option Cell) → w ≡ x → (p q : ℕ)
    → cells.lowered s e (record { weight = w; via = Given n }) at p q ≡ cells.lowered s e (record { weight = x; via = Given n }) at p q
lowered_weight s e n w x at same p q = ap (λ (w : ℤ). cells.lowered s e (record { weight = w; via = Given n }) at p q) same

-- over equal cells
pub lowered_same : (s e : ℕ) (c : Cell) (at at' : ℕ → ℕ → Option Cell) → ((p q : ℕ) → at p q ≡ at' p q)
    → (p q : ℕ) → cells.lowered s e c at p q ≡ cells.lowered s e c at' p q
lowered_same s e c at at' same p q = (λ t. cells.lowered s e c (λ p q. same p q t) p q)

-- pairs that were joined had room, and so has the pair that is joined, both ways
pub laid_room : (x d a b r : Bool) → (x ≡ true → r ≡ true) → (x || (d && (a || b))) ≡ true → (b || (a || r)) ≡ true
laid_room x d a true r had here = refl
laid_room x d true false r had here = refl
laid_room true d false false r had here = had refl
laid_room false true false false r had here = absurd (let f : false ≡ true = here in cc)
laid_room false false false false r had here = absurd (let f : false ≡ true = here in cc)
