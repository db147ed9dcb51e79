-- The places that are left and joined with a place.
--   has_neighbours                 they have each that has a cell with it
--   met_are                        they are the places of its neighbours
--   left_many                      how many places are left
--   whole_joined                   a place that is not partial is joined with all others that are left
--   partial_joins, partial_room    it serves to join the partial ones, and to make room for these
use Rattle.std.proofs.Common.{◌≡◌, ◌≢◌, ℕ, ◌+◌, ◌-◌, ◌<◌, ◌≤◌, List, [], ◌∷◌, Bool, true, false, ◌&&◌, ◌||◌, not, Option, Some, None, ap, sym, ◌∙◌}
use Rattle.std.proofs.Common.{refl, subst, arith, length, inl, inr}
use Rattle.std.specs.Prelude.{ℤ, ◌==◌, reverse, is_some}
use Rattle.std.specs.List.{AllByRecursion}
use Rattle.std.proofs.Math.Bool.{or-true, and-false}
use Rattle.std.proofs.lemmas.Bool.{and_parts, not-true, or_cases, false≢true}
use Rattle.std.proofs.lemmas.Bool.Decides.{nat_tests}
use Rattle.stn_model.specs.declared.ids.Constraint.{Constraint}
use Rattle.stn_model.specs.ArcWalks.{IsInnerLeast}
use Rattle.stn_model.specs.Walks.{AllDifferent}
use Rattle.stn_walk.specs.Eliminations.{is_in}
use Rattle.stn_walk.specs.Joins.{joined_of}
use Rattle.stn_walk.proofs.Eliminations.{cell-least, before-whole}
use Rattle.stn_walk.proofs.Joins.{joined-from_walk, joined-symmetric, is_in-reverse}
use Rattle.stn_walk.proofs.Members.{is_in-first, is_in-rest}
use Rattle.dist_rows.specs.declared.cell.Cell.{Cell}
use Rattle.dist_rows.specs.Places.{lists}
use Rattle.elim_step.specs.Eliminates.{remains, count_below}
use Rattle.elim_step.specs.Eliminated.{weight_at, point_at}
use Rattle.elim_step.specs.Among.{HasNeighbours}
use Rattle.elim_step.proofs.Weights.{forward-whole}
use Rattle.elim_step.proofs.Parts.{lists_is}
use Rattle.private_elim.specs.Locals.{LocalView, arcs_in, is_private_in}
use Rattle.private_elim.specs.Taken.{IsTaken}
use Rattle.private_elim.specs.Met.{AreMet}
use Rattle.private_elim.specs.Picked.{IsDegree}
use Rattle.private_elim.proofs.locals.Places.{place_found}
use Rattle.private_elim.proofs.taking.Choices.{private_placed}
use Rattle.private_elim.proofs.taking.Counts.{count-same, count-one-more, count-split, count-full, count-not, count-none, count-some}
use Rattle.private_elim.proofs.taking.DegreeFacts.{neighbour_from, neighbour_to, degree_is}
use Rattle.private_elim.proofs.taking.Orders.{different-behind}
use Rattle.private_elim.proofs.taking.Takes.{local_ground}

-- a least weight is that of a walk, which joins its ends
weight_joins : (arcs : List Constraint) (es : List ℕ) (x y : ℕ) (o : Option ℤ) → IsInnerLeast (is_in es) arcs x y o → is_some o ≡ true
    → joined_of arcs es x y ≡ true
weight_joins arcs es x y None h there = absurd (false≢true there)
weight_joins arcs es x y (Some b) h there = joined-from_walk arcs es x y h.0.0 h.0.1

some_weight : (c : Option Cell) → is_some c ≡ true → is_some (weight_at c) ≡ true
some_weight None there = there
some_weight (Some c) there = refl

module _ (v : LocalView) (order : List ℕ) (at : ℕ → ℕ → Option Cell) (joined : ℕ → ℕ → Bool) (remain : List Bool) (h : IsTaken v order at joined remain) where
  -- two places that are left and have a cell are joined by the points taken
  cell_joins : (i j : ℕ) → i < length v.points → j < length v.points → i ≢ j → is_in (reverse order) (point_at v.points i) ≡ false
      → is_in (reverse order) (point_at v.points j) ≡ false → is_some (at i j) ≡ true
      → joined_of (arcs_in v) (reverse order) (point_at v.points i) (point_at v.points j) ≡ true
  cell_joins i j li lj apart left_i left_j there =
      let x = point_at v.points i in
      let y = point_at v.points j in
      let weight = h.cells.cells i j li lj apart ∙ forward-whole (arcs_in v) (reverse order) x y left_i left_j in
      weight_joins (arcs_in v) (reverse order) x y _ (cell-least (arcs_in v) (reverse order) h.cells.none_below x y)
      (ap is_some (sym weight) ∙ some_weight (at i j) there)

  fresh_at : (p : ℕ) → p < length v.points → remains remain p ≡ true → is_in (reverse order) (point_at v.points p) ≡ false
  fresh_at p lp stays = not-true (is_in (reverse order) (point_at v.points p)) (sym (h.cells.remaining p lp) ∙ stays)

  -- the list of the places that are left and joined with k has each that has a cell with it
  pub has_neighbours : (k : ℕ) (met : List ℕ) → k < length v.points → is_in (reverse order) (point_at v.points k) ≡ false
      → ((p q : ℕ) → is_some (at p q) ≡ true → (p < length v.points) × (q < length v.points) × (p ≢ q))
      → ((p : ℕ) → is_in met p ≡ (remains remain p && joined k p)) → HasNeighbours remain at k met
  has_neighbours k met lk left inside each = record {
    only = λ p here. (and_parts (remains remain p) (joined k p) (sym (each p) ∙ here)).0;
    all = λ p here.
        let b = and_parts (remains remain p) (is_some (at k p) || is_some (at p k)) here in
        elim (or_cases (is_some (at k p)) (is_some (at p k)) b.1) [
          | inl out ↦ let w = inside k p out in listed p b.0 w.1 w.2 (cell_joins k p lk w.1 w.2 left (fresh_at p w.1 b.0) out)
          | inr back ↦
              let w = inside p k back in
              listed p b.0 w.0 (λ e. w.2 (sym e)) (joined-symmetric (arcs_in v) (reverse order) (point_at v.points k) (point_at v.points p)
              ∙ cell_joins p k w.0 lk w.2 (fresh_at p w.0 b.0) left back)
        ];
  } where
    listed : (p : ℕ) → remains remain p ≡ true → p < length v.points → k ≢ p
        → joined_of (arcs_in v) (reverse order) (point_at v.points k) (point_at v.points p) ≡ true → is_in met p ≡ true
    listed p stays lp apart join =
        let here : joined k p ≡ true =
        h.joins k p lk lp apart
        ∙ ap (λ es. joined_of (arcs_in v) es (point_at v.points k) (point_at v.points p))
        (before-whole (reverse order) (point_at v.points k) (point_at v.points p) left (fresh_at p lp stays)) ∙ join in
        each p ∙ (λ t. stays t && here t)

  -- they are the places of the neighbours, as many as the degree
  pub met_are : (k : ℕ) (met : List ℕ) → k < length v.points → is_in (reverse order) (point_at v.points k) ≡ false
      → ((p : ℕ) → is_in met p ≡ true → p < length v.points) → ((p : ℕ) → is_in met p ≡ (remains remain p && joined k p))
      → length met ≡ count_below (λ p. remains remain p && joined k p) (length v.points) → AreMet v (reverse order) k met
  met_are k met lk left within each many = record {
    within = within;
    each = λ p lp. (
      λ here. neighbour_from v order at joined remain h k lk left p lp (sym (each p) ∙ here),
      λ n. each p ∙ neighbour_to v order at joined remain h k lk left p lp n,
    );
    many = subst (IsDegree v (reverse order) (point_at v.points k)) (sym many) (degree_is v order at joined remain h k lk left);
  }

  -- of a list of private points in which none stands twice there are as many places as it has points
  count_listed : (xs : List ℕ) → AllByRecursion (λ p. is_private_in v p ≡ true) xs → AllDifferent xs
      → count_below (λ k. is_in xs (point_at v.points k)) (length v.points) ≡ length xs
  count_listed [] private once = count-none (length v.points)
  count_listed (x ∷ xs) private once =
      let placed = private_placed v x private.0 in
      let k = placed.0 in
      let found = place_found v.points x k placed.1 in
      let rest = count_listed xs private.1 once.1 in
      let off : is_in xs (point_at v.points k) ≡ false = ap (is_in xs) found.1 ∙ different-behind [] x xs once in
      let on : is_in (x ∷ xs) (point_at v.points k) ≡ true = ap (is_in (x ∷ xs)) found.1 ∙ is_in-first x xs in
      let more =
      count-one-more (λ k. is_in xs (point_at v.points k)) (λ k. is_in (x ∷ xs) (point_at v.points k)) k (length v.points) found.0 off on
      (λ q low apart. is_in-rest x xs (point_at v.points q)
      (λ e. apart ((local_ground v h.known).apart q k low found.0 (e ∙ sym found.1)))) in
      omega (arith, rest, more)

  -- the places that are left and the points that are taken are as many as there are places
  pub left_many : count_below (remains remain) (length v.points) + length order ≡ length v.points
  left_many =
      let same =
      count-same (remains remain) (λ k. not (is_in order (point_at v.points k))) (length v.points)
      (λ k low. h.cells.remaining k low ∙ ap not (is_in-reverse order (point_at v.points k))) in
      let all = count-not (λ k. is_in order (point_at v.points k)) (length v.points) in
      let taken = count_listed order h.private h.once in
      omega (arith, same, all, taken)

  -- while one is left, there are more places than points that are taken
  pub some_left : (k : ℕ) → k < length v.points → is_in (reverse order) (point_at v.points k) ≡ false → length order + 1 ≤ length v.points
  some_left k lk left =
      let some = count-some (remains remain) k (length v.points) lk (h.cells.remaining k lk ∙ ap not left) in
      let all = left_many in
      omega (arith, some, all)

  -- a place that is joined with no fewer places that are left than there are others is joined with each of these
  pub whole_joined : (p others gone : ℕ) → p < length v.points → remains remain p ≡ true → others + 1 + length order ≡ length v.points
      → gone ≡ count_below (λ q. not (remains remain q) && joined p q) (length v.points)
      → others ≤ count_below (joined p) (length v.points) - gone
      → (q : ℕ) → q < length v.points → remains remain q ≡ true → p ≢ q → joined p q ≡ true
  whole_joined p others gone lp stays few is_gone no_fewer q lq left apart =
      let n = length v.points in
      let split = count-split (remains remain) (joined p) n in
      let other : (r : ℕ) → r ≢ p → remains remain r ≡ (remains remain r && not (r == p)) =
      λ r ne. (let off : (r == p) ≡ false = grind (arith, nat_tests) in rw off (sym (and-true (remains remain r)))) in
      let one =
      count-one-more (λ r. remains remain r && not (r == p)) (remains remain) p n lp
      (let on : (p == p) ≡ true = grind (arith, nat_tests) in rw on (and-false (remains remain p))) stays (λ r low ne. other r ne) in
      let all = left_many in
      let full =
      count-full (λ r. remains remain r && joined p r) (λ r. remains remain r && not (r == p)) n
      (λ r here. let b = and_parts (remains remain r) (joined p r) here in
      sym (other r (λ e. false≢true (sym (h.alone p) ∙ ap (joined p) (sym e) ∙ b.1))) ∙ b.0)
      (omega (arith, split, one, all, few, is_gone, no_fewer)) q lq (sym (other q (λ e. apart (sym e))) ∙ left) in
      (and_parts (remains remain q) (joined p q) full).1 where
        and-true : (b : Bool) → (b && true) ≡ b
        and-true true = refl
        and-true false = refl

-- the partial places of a list: the others are joined with all of it
module _ (f : ℕ → ℕ → Bool) (met partial : List ℕ) (only : (p : ℕ) → is_in partial p ≡ true → is_in met p ≡ true)
    (rest : (p q : ℕ) → is_in met p ≡ true → is_in partial p ≡ false → is_in met q ≡ true → p ≢ q → f p q ≡ true)
    (symmetric : (p q : ℕ) → f p q ≡ true → f q p ≡ true) where
  -- two places of the list that are not joined are partial
  both_partial : (p q : ℕ) → f p q ≡ false → (not (p == q) && is_in met p && is_in met q) ≡ true → (not (p == q) && is_in partial p && is_in partial q) ≡ true
  both_partial p q none here =
      let a = and_parts (not (p == q) && is_in met p) (is_in met q) here in
      let b = and_parts (not (p == q)) (is_in met p) a.0 in
      let apart : p ≢ q = (let off = b.0 in grind (arith, nat_tests)) in
      let first = listed (is_in partial p) refl (λ off. false≢true (sym none ∙ rest p q b.1 off a.1 apart)) in
      let second = listed (is_in partial q) refl (λ off. false≢true (sym none ∙ symmetric q p (rest q p a.1 off b.1 (λ e. apart (sym e))))) in
      (λ t. b.0 t && first t && second t) where
        listed : {x : Bool} (b : Bool) → x ≡ b → (x ≡ false → ⊥) → x ≡ true
        listed true e away = e
        listed false e away = absurd (away e)

  -- to join the partial ones is to join all
  pub partial_joins : (p q : ℕ) → (f p q || (not (p == q) && is_in partial p && is_in partial q)) ≡ (f p q || (not (p == q) && is_in met p && is_in met q))
  partial_joins p q =
      by (f p q) refl (not (p == q)) (is_in partial p) (is_in partial q) (is_in met p) (is_in met q) (only p) (only q) (both_partial p q) where
        by : (x : Bool) → f p q ≡ x → (d a b c e : Bool) → (a ≡ true → c ≡ true) → (b ≡ true → e ≡ true)
            → (f p q ≡ false → (d && c && e) ≡ true → (d && a && b) ≡ true) → (x || (d && a && b)) ≡ (x || (d && c && e))
        by true is d a b c e up on back = refl
        by false is false a b c e up on back = refl
        by false is true a b true true up on back = back is refl
        by false is true true b false e up on back = absurd (false≢true (up refl))
        by false is true false b false e up on back = refl
        by false is true a true true false up on back = absurd (false≢true (on refl))
        by false is true true false true false up on back = refl
        by false is true false false true false up on back = refl

  -- and with room for the partial ones all have room, where joined places had it
  module _ (was room : ℕ → ℕ → Bool) (had : (p q : ℕ) → f p q ≡ true → was p q ≡ true)
      (made : (p q : ℕ) → room p q ≡ ((not (p == q) && lists partial p && lists partial q) || was p q)) where
    pub partial_room : (p q : ℕ) → (f p q || (not (p == q) && is_in partial p && is_in partial q)) ≡ true → room p q ≡ true
    partial_room p q here =
        made p q ∙ (λ t. (not (p == q) && lists_is partial p t && lists_is partial q t) || was p q)
        ∙ by (f p q) refl (not (p == q) && is_in partial p && is_in partial q) here where
          by : (x : Bool) → f p q ≡ x → (b : Bool) → (x || b) ≡ true → (b || was p q) ≡ true
          by true is b h = ap (λ z. b || z) (had p q is) ∙ or-true b
          by false is true h = refl
          by false is false h = absurd (false≢true h)

    pub met_room : (p q : ℕ) → is_in met p ≡ true → is_in met q ≡ true → p ≢ q → room p q ≡ true
    met_room p q at_p at_q apart =
        partial_room p q (partial_joins p q ∙ (λ t. f p q || (off t && at_p t && at_q t)) ∙ or-true (f p q)) where
          off : not (p == q) ≡ true
          off = (let e : (p == q) ≡ false = grind (arith, nat_tests) in ap not e)
