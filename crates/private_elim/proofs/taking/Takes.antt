-- Taking one private point: what is known stays known, and a point that fails does so as the definition says.
use Rattle.std.proofs.Common.{zero, suc, ◌≡◌, ◌≢◌, ℕ, ◌<◌, ◌≤◌, List, [], ◌∷◌, ◌++◌, Bool, true, false, ◌&&◌, ◌||◌, not, Option, Some, None, ap, sym}
use Rattle.std.proofs.Common.{◌∙◌, refl, arith, subst, length, get_or, set, inl, inr}
use Rattle.stn_model.specs.Limits.{greatest_bound, greatest_walk, most_points}
use Rattle.stn_walk.proofs.Members.{is_in-at, AllByRecursion-append}
use Rattle.std.proofs.lemmas.Bool.{and_parts, not-true, cases_order}
use Rattle.std.specs.Prelude.{ℤ, pos, neg_ℤ, ◌+ℤ◌, ◌≤ℤ◌, ◌<ℤ◌, ◌==◌, if◌then◌else◌, is_some, reverse, IfSome, nat_abs, ◌*◌}
use Rattle.std.proofs.lemmas.Bool.Decides.{nat_tests}
use Rattle.std.proofs.lemmas.Int.{ints}
use Rattle.std.proofs.lemmas.List.{reverse-append}
use Rattle.stn_model.specs.ArcWalks.{IsInnerLeast, NoNegative}
use Rattle.stn_model.specs.Inner.{NoNegativeWithin}
use Rattle.stn_walk.specs.Eliminations.{is_in, cell_of, before_both}
use Rattle.stn_walk.specs.Joins.{joined_of}
use Rattle.stn_walk.proofs.ArcWalks.{arcs_weight-append}
use Rattle.stn_walk.proofs.Visits.{inner_joined, inner_wider, least_unique, at_point, inner_in}
use Rattle.stn_walk.proofs.Eliminations.{cell-least, before-in}
use Rattle.stn_walk.proofs.LightWalks.{IsBelow, HasBounds, least_light}
use Rattle.stn_walk.proofs.Different.{AllDifferent-push}
use Rattle.stn_walk.proofs.Joins.{is_in-reverse, joined-symmetric}
use Rattle.dist_rows.specs.declared.cell.Cell.{Cell}
use Rattle.elim_step.specs.Eliminates.{remains, is_below, is_negative, eliminated}
use Rattle.elim_step.specs.Eliminated.{IsGround, weight_at, point_at}
use Rattle.elim_step.proofs.Weights.{forward-whole, sums_below, negative-is}
use Rattle.elim_step.proofs.Sound.{eliminates_more}
use Rattle.elim_step.proofs.JoinFacts.{joined-after}
use Rattle.private_elim.specs.Locals.{LocalView, IsLocal, arcs_in, is_private_in, is_point_of, place_in, private_at, passes_at}
use Rattle.private_elim.specs.Taken.{IsTaken, Fails, StopsAt, NoneFails, HasTaken}
use Rattle.private_elim.proofs.locals.LocalFacts.{rises, points_small, arc_joins, place_of_point_at}
use Rattle.private_elim.proofs.locals.Places.{place_contained, place_found}
use Rattle.elim_step.specs.Origins.{IsArcLeaf}
use Rattle.elim_step.proofs.OriginFacts.{origins_kept}

-- two places with the same point are one
rising_apart : (points : List ℕ) → ((i j : ℕ) → i < j → j < length points → point_at points i < point_at points j) → (i j : ℕ) → i < length points
    → j < length points
    → point_at points i ≡ point_at points j → i ≡ j
rising_apart points rise i j li lj e = elim (cases_order i j) [
  | inl same ↦ same
  | inr rest ↦ elim rest [ inl less ↦ absurd (let r = rise i j less lj in omega arith) | inr more ↦ absurd (let r = rise j i more li in omega arith) ]
]

-- the arcs of a local problem join its points, and weigh little
pub local_ground : (v : LocalView) → IsLocal v → IsGround v.points (arcs_in v)
local_ground v h = record {
  apart = rising_apart v.points (rises v h);
  starts = λ a here. place_contained v.points a.from.0 (arc_joins v h a here).starts;
  ends = λ a here. place_contained v.points a.to.0 (arc_joins v h a here).ends;
  below = λ k lk. points_small v h k 0 lk;
  light = λ a here. let j = arc_joins v h a here in let low = j.low in let high = j.high in (omega (arith, ints), omega (arith, ints));
}

pub order_push : (order : List ℕ) (p : ℕ) → reverse (order ++ p ∷ []) ≡ p ∷ reverse order
order_push order p = reverse-append order (p ∷ [])

-- what is known once one private point more is taken
pub taken_more : (v : LocalView) (order : List ℕ) (at after : ℕ → ℕ → Option Cell) (joined joined' : ℕ → ℕ → Bool) (remain : List Bool) (k : ℕ)
    → IsTaken v order at joined remain
    → k < length v.points → is_private_in v (point_at v.points k) ≡ true → is_in (reverse order) (point_at v.points k) ≡ false
    → ((m : ℕ) → is_below remain at k m ≡ false) → ((p q : ℕ) → after p q ≡ eliminated remain k at p q)
    → ((p q : ℕ) → joined' p q ≡ (joined p q || (not (p == q) && (remains remain p && joined k p) && (remains remain q && joined k q))))
    → IsTaken v (order ++ point_at v.points k ∷ []) after joined' (set remain k false)
taken_more v order at after joined joined' remain k h lk private fresh clear changed joins =
    let ground = local_ground v h.known in
    let x = point_at v.points k in
    let turned = order_push order x in
    record {
      known = h.known;
      numbered = h.numbered;
      private = AllByRecursion-append (λ p. is_private_in v p ≡ true) order (x ∷ []) h.private (private, tt);
      once = AllDifferent-push order x h.once
          (λ m lm e. absurd (let there = is_in-at order m lm in let turn = is_in-reverse order x in
          let f : is_in order (get_or order m 0) ≡ is_in order x = ap (is_in order) e in cc));
      cells = rw turned (eliminates_more v.points (arcs_in v) ground (reverse order) at remain h.cells k lk fresh after changed clear);
      origins = rw turned (origins_kept (IsArcLeaf v.points (arcs_in v)) v.points (reverse order) at after remain k lk fresh h.cells.remaining h.origins changed);
      joins = rw turned (joined-after (arcs_in v) v.points
          (reverse order) remain k joined joined' ground.apart h.joins h.cells.remaining h.alone lk fresh joins);
      alone = λ i. joins i i ∙ (let same : (i == i) ≡ true = grind (arith, nat_tests) in rw (h.alone i, same) refl);
    }

-- where no closed walk is negative, no point failed
pub none_fails : (v : LocalView) (taken : List ℕ) → NoNegative (is_in taken) (arcs_in v) → NoneFails v taken
none_fails v [] none_below = tt
none_fails v (p ∷ taken) none_below = (
  λ q f.
      let out = f.is_out.least.0 in
      let back = f.is_back.least.0 in
      let closed =
      inner_joined (is_in (p ∷ taken)) (arcs_in v) q p q back.0 out.0 (at_point p (is_in taken))
      (inner_wider (is_in taken) (arcs_in v) p q p back.0 back.1) (inner_wider (is_in taken) (arcs_in v) p p q out.0 out.1) in
      let above = none_below q (back.0 ++ out.0) closed in
      let sum = arcs_weight-append back.0 out.0 in
      let e = out.2 in
      let e' = back.2 in
      let low = f.below in
      absurd (omega (arith, ints)),
  none_fails v taken (λ x w g. none_below x w (inner_wider (is_in taken) (arcs_in v) p x x w g)),
)

-- two cells that sum below 0 are there
record AreBelow (x y : Option Cell) : Type 0 where
  first : Cell
  second : Cell
  is_first : x ≡ Some first
  is_second : y ≡ Some second
  below : (first.weight +ℤ second.weight) <ℤ pos 0

are_below : (x y : Option Cell) → is_negative x y ≡ true → AreBelow x y
are_below None y h = absurd (cc)
are_below (Some a) None h = absurd (cc)
are_below (Some a) (Some b) h = record { first = a; second = b; is_first = refl; is_second = refl; below = grind (arith, ints) }

pub in_list : (xs : List Bool) (p : ℕ) → get_or xs p false ≡ true → p < length xs
in_list [] p h = absurd (cc)
in_list (x ∷ xs) zero h = omega arith
in_list (x ∷ xs) (suc p) h = let l = in_list xs p h in omega arith

module _ (v : LocalView) (order : List ℕ) (at : ℕ → ℕ → Option Cell) (joined : ℕ → ℕ → Bool) (remain : List Bool) (h : IsTaken v order at joined remain) where
  es : List ℕ
  es = reverse order

  -- the cell of two places that remain, as an inner weight
  open_weight : (i j : ℕ) → i < length v.points → j < length v.points → i ≢ j → is_in es (point_at v.points i) ≡ false
      → is_in es (point_at v.points j) ≡ false
      → IsInnerLeast (is_in es) (arcs_in v) (point_at v.points i) (point_at v.points j) (weight_at (at i j))
  unfolding es
  open_weight i j li lj ij oi oj =
      let p = point_at v.points i in
      let q = point_at v.points j in
      rw (h.cells.cells i j li lj ij ∙ forward-whole (arcs_in v) (reverse order) p q oi oj) (cell-least (arcs_in v) (reverse order) h.cells.none_below p q)

  within : NoNegativeWithin (is_in es) (arcs_in v)
  unfolding es
  within p w here g = h.cells.none_below p w g

  module _ (k other : ℕ) (lk : k < length v.points) (fresh : is_in (reverse order) (point_at v.points k) ≡ false) (none : at k k ≡ None)
      (below : is_below remain at k other ≡ true) (least : (m : ℕ) → m < other → is_below remain at k m ≡ false) where
    parts : (remains remain other ≡ true) × (is_negative (at k other) (at other k) ≡ true)
    parts = and_parts (remains remain other) (is_negative (at k other) (at other k)) below

    other_within : other < length v.points
    other_within = let low = in_list remain other parts.0 in let len = h.cells.len in omega arith

    other_left : is_in (reverse order) (point_at v.points other) ≡ false
    other_left = not-true (is_in (reverse order) (point_at v.points other)) (sym (h.cells.remaining other other_within) ∙ parts.0)

    other_apart : other ≢ k
    other_apart e =
        let n : is_negative (at k k) (at k k) ≡ true = subst (λ m. is_negative (at k m) (at m k) ≡ true) e parts.1 in
        let f : is_negative (at k k) (at k k) ≡ false = rw none refl in
        absurd (cc)

    points_apart : (m : ℕ) → m < length v.points → m ≢ k → point_at v.points m ≢ point_at v.points k
    points_apart m lm ne e = ne ((local_ground v h.known).apart m k lm lk e)

    fails : Fails v (reverse order) (point_at v.points k) (point_at v.points other)
    unfolding es
    fails =
        let b = are_below (at k other) (at other k) parts.1 in
        let there : is_point_of v (point_at v.points other) ≡ true = ap is_some (place_of_point_at v h.known other other_within) in
        record {
          point = there;
          other = points_apart other other_within other_apart;
          left = other_left;
          out = b.first.weight;
          back = b.second.weight;
          is_out =
              record {
                sound = within;
                least =
                    subst (IsInnerLeast (is_in (reverse order)) (arcs_in v) (point_at v.points k) (point_at v.points other)) (ap weight_at b.is_first)
                    (open_weight k other lk other_within (λ e. other_apart (sym e)) fresh other_left);
              };
          is_back =
              record {
                sound = within;
                least =
                    subst (IsInnerLeast (is_in (reverse order)) (arcs_in v) (point_at v.points other) (point_at v.points k)) (ap weight_at b.is_second)
                    (open_weight other k other_within lk other_apart other_left fresh);
              };
          below = b.below;
        }

    least_fails : (q : ℕ) → q < point_at v.points other → Fails v (reverse order) (point_at v.points k) q → ⊥
    unfolding es
    least_fails q low f = at_place (place_in v.points q) refl where
      at_place : (o : Option ℕ) → place_in v.points q ≡ o → ⊥
      at_place None e = absurd (let p = f.point in let n : is_point_of v q ≡ false = ap is_some e in cc)
      at_place (Some m) e =
          let found = place_found v.points q m e in
          let lm = found.0 in
          let is = found.1 in
          let first : m < other = lower m lm is in
          let left : is_in (reverse order) (point_at v.points m) ≡ false = rw is f.left in
          let mk : m ≢ k = λ same. f.other (sym is ∙ ap (point_at v.points) same) in
          let out =
          least_unique (is_in (reverse order)) (arcs_in v) (point_at v.points k) q (weight_at (at k m)) (Some f.out)
          (subst (λ (x : ℕ). IsInnerLeast (is_in (reverse order)) (arcs_in v) (point_at v.points k) x (weight_at (at k m))) is
          (open_weight k m lk lm (λ same. mk (sym same)) fresh left)) f.is_out.least in
          let back =
          least_unique (is_in (reverse order)) (arcs_in v) q (point_at v.points k) (weight_at (at m k)) (Some f.back)
          (subst (λ (x : ℕ). IsInnerLeast (is_in (reverse order)) (arcs_in v) x (point_at v.points k) (weight_at (at m k))) is
          (open_weight m k lm lk mk left fresh)) f.is_back.least in
          let stays : remains remain m ≡ true = h.cells.remaining m lm ∙ ap not left in
          let sum : is_negative (at k m) (at m k) ≡ true =
          negative-is (at k m) (at m k) ∙ ap (λ x. sums_below x (weight_at (at m k))) out ∙ ap (sums_below (Some f.out)) back
          ∙ low_sum f.out f.back f.below in
          let yes_below : is_below remain at k m ≡ true = (λ t. stays t && sum t) in
          let no_below = least m first in
          absurd (cc) where
            lower : (m : ℕ) → m < length v.points → point_at v.points m ≡ q → m < other
            lower m lm is = elim (cases_order m other) [
              | inl same ↦ absurd (let e = ap (point_at v.points) same in omega arith)
              | inr rest ↦ elim rest [
                | inl less ↦ less
                | inr more ↦ absurd (let r = rises v h.known other m more lm in omega arith)
              ]
            ]

            low_sum : (a b : ℤ) → (a +ℤ b) <ℤ pos 0 → sums_below (Some a) (Some b) ≡ true
            low_sum a b g = grind (arith, ints)

    pub stops_at : (other < length v.points) × StopsAt v (reverse order) (point_at v.points k) (point_at v.points other)
    stops_at = (other_within, record { fails = fails; least = least_fails; before = none_fails v (reverse order) h.cells.none_below })

pub facts : (v : LocalView) (order : List ℕ) (at : ℕ → ℕ → Option Cell) (joined : ℕ → ℕ → Bool) (remain : List Bool) → IsTaken v order at joined remain
    → HasTaken (record { local = v; order = order })
facts v order at joined remain h = record { known = h.known; numbered = h.numbered; private = h.private; once = h.once; none_below = h.cells.none_below }

-- joined places are joined in the other direction too
pub joined_back : (v : LocalView) (order : List ℕ) (at : ℕ → ℕ → Option Cell) (joined : ℕ → ℕ → Bool) (remain : List Bool) → IsTaken v order at joined remain
    → ((p q : ℕ) → joined p q ≡ true → (p < length v.points) × (q < length v.points)) → (p q : ℕ) → joined p q ≡ true → joined q p ≡ true
joined_back v order at joined remain h within p q there =
    let w = within p q there in
    let apart : p ≢ q = λ e. (let n = h.alone p in let here : joined p p ≡ true = ap (joined p) e ∙ there in cc) in
    let x = point_at v.points p in
    let y = point_at v.points q in
    h.joins q p w.1 w.0 (λ e. apart (sym e))
    ∙ ap (λ xs. joined_of (arcs_in v) xs y x) (before_turned (reverse order) y x)
    ∙ joined-symmetric (arcs_in v) (before_both (reverse order) x y) y x
    ∙ sym (h.joins p q w.0 w.1 apart) ∙ there where
      or_turned : (a b : Bool) → (a || b) ≡ (b || a)
      or_turned true true = refl
      or_turned true false = refl
      or_turned false true = refl
      or_turned false false = refl

      before_turned : (es : List ℕ) (i j : ℕ) → before_both es i j ≡ before_both es j i
      before_turned [] i j = refl
      before_turned (k ∷ es) i j = (λ t. if or_turned (is_in (k ∷ es) i) (is_in (k ∷ es) j) t then before_turned es i j t else k ∷ es)

-- weights are at most 2^53: a walk that leaves no point twice has at most as many arcs as there are points, of at most 2^40 each
pub weights_small : (v : LocalView) (order : List ℕ) (at : ℕ → ℕ → Option Cell) (joined : ℕ → ℕ → Bool) (remain : List Bool)
    → IsTaken v order at joined remain
    → (p q : ℕ) → p < length v.points → q < length v.points → p ≢ q
    → IfSome (weight_at (at p q)) (λ w. (neg_ℤ (pos greatest_walk) ≤ℤ w) × (w ≤ℤ pos greatest_walk))
unfolding IsBelow HasBounds
weights_small v order at joined remain h p q lp lq apart =
    let x = point_at v.points p in
    let y = point_at v.points q in
    let es = before_both (reverse order) x y in
    let none_below : NoNegative (is_in es) (arcs_in v) =
    λ z w g. h.cells.none_below z w (inner_in (is_in es) (is_in (reverse order)) (arcs_in v) z z w (before-in (reverse order) x y) g) in
    let light =
    least_light (is_in es) (arcs_in v) most_points greatest_bound x y (cell_of (arcs_in v) es x y) below bounds none_below
    (cell-least (arcs_in v) es none_below x y) in
    rw (h.cells.cells p q lp lq apart) (both_ways (cell_of (arcs_in v) es x y) light) where
      below : IsBelow most_points (arcs_in v)
      below = λ a here. let l =
          place_contained v.points a.from.0 (arc_joins v h.known a here).starts in let low = points_small v h.known l.0 0 l.1 in let e = l.2 in omega arith

      bounds : HasBounds greatest_bound (arcs_in v)
      bounds = λ a here. let j = arc_joins v h.known a here in (j.low, j.high)

      both_ways : (o : Option ℤ) → IfSome o (λ b. nat_abs b ≤ most_points * greatest_bound)
          → IfSome o (λ w. (neg_ℤ (pos greatest_walk) ≤ℤ w) × (w ≤ℤ pos greatest_walk))
      both_ways None g = tt
      both_ways (Some b) g = (omega (arith, ints), omega (arith, ints))

-- whether the point at a place is private
pub private_at_is : (v : LocalView) → IsLocal v → (k : ℕ) → k < length v.points → is_private_in v (point_at v.points k) ≡ private_at v k
private_at_is v h k lk = ap (passes_at (private_at v)) (place_of_point_at v h k lk)
