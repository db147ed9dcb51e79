-- One more private point is revisited in a back sweep.
--   by_pair          what holds of the pairs that a revisit sets, and of all others, holds of all pairs
--   sum_light        a sum of two light weights
--   some_later, not_later, no_cells, finals_light   what a revisit asks
--   swept_more       what it gives
use Rattle.std.proofs.Common.{◌≡◌, ◌≢◌, ℕ, ◌+◌, ◌-◌, ◌*◌, ◌<◌, ◌≤◌, List, [], ◌∷◌, Bool, true, false, ◌&&◌, ◌||◌, not, Option, Some, None, length}
use Rattle.std.proofs.Common.{take, drop, set, reverse, refl, sym, ap, subst, ◌∙◌, arith, inl, inr, ◌⊎◌, length-set, get_or-set_same, get_or-set_other}
use Rattle.std.specs.Prelude.{ℤ, pos, ◌==◌, is_some, IfSome, nat_abs, if◌then◌else◌}
use Rattle.std.proofs.lemmas.Bool.{false≢true, eqb-true, eqb-false, eq-eqb, ne_eqb, and_parts, and_from, or_right, not-true, false_from_ne_true}
use Rattle.std.proofs.lemmas.Int.{ints}
use Rattle.stn_model.specs.Limits.{greatest_walk, most_points}
use Rattle.stn_model.specs.Net.{Net, arcs_of, point_count}
use Rattle.stn_model.specs.Valid.{IsNetwork}
use Rattle.stn_model.specs.ArcWalks.{IsInnerLeast}
use Rattle.stn_model.specs.Joined.{ComesBefore, IsJoined}
use Rattle.stn_model.proofs.ArcLemmas.{lower_arc}
use Rattle.stn_walk.specs.Eliminations.{is_in, before_both}
use Rattle.stn_walk.specs.Joins.{joined_of}
use Rattle.stn_walk.proofs.Eliminations.{cell-least}
use Rattle.stn_walk.proofs.Joins.{is_in-reverse, joined-symmetric, joined-wider, test-from_edge}
use Rattle.stn_walk.proofs.Exits.{every}
use Rattle.stn_walk.proofs.Distances.{consistent_no_negative}
use Rattle.dist_rows.specs.declared.cell.Cell.{Cell}
use Rattle.dist_rows.specs.declared.cell.Via.TheVariants.{Given}
use Rattle.dist_rows.specs.Cells.{IsLight, AllLight}
use Rattle.elim_step.specs.declared.summary.SummaryEntry.{SummaryEntry}
use Rattle.elim_step.specs.Eliminates.{remains, sum_through}
use Rattle.elim_step.specs.Eliminated.{weight_at, point_at}
use Rattle.elim_step.specs.Revisits.{reach_to, reach_of, out_sum, in_sum, IsLeastSum, Revisits}
use Rattle.elim_step.specs.Summaries.{entry_in}
use Rattle.elim_step.proofs.FinalWeights.{Prepared, finals_are_least}
use Rattle.private_elim.specs.Locals.{LocalView, arcs_in, private_at, is_private_in}
use Rattle.private_elim.specs.Taken.{IsTaken}
use Rattle.private_elim.specs.Parts.{HasPart}
use Rattle.private_elim.specs.Backs.{HoldsFinals}
use Rattle.private_elim.specs.Sweeps.{IsSeenPlaces, LeavesAt, ArrivesAt, CameAt, IsSwept}
use Rattle.private_elim.proofs.locals.Places.{place_nowhere}
use Rattle.private_elim.proofs.locals.LocalFacts.{some_point, z_first, lower_contained}
use Rattle.private_elim.proofs.taking.TakenFacts.{none_from_strange, none_to_strange}
use Rattle.private_elim.proofs.taking.Takes.{private_at_is, facts}
use Rattle.private_elim.proofs.taking.Choices.{few_taken}
use Rattle.stn_walk.proofs.Members.{is_in-first, is_in-rest}
use Rattle.private_elim.proofs.taking.Orders.{before-behind}
use Rattle.private_elim.proofs.walks.OwnWalks.{from_private, to_private, least_from_private, least_to_private}
use Rattle.private_elim.proofs.sweep.SweepParts.{points_apart, joined_in_order, order_joins, joined_turned, left, cut, fresh, in_prefix, left_private}
use Rattle.private_elim.proofs.sweep.Throughs.{sum_parts, comes_first, some_weight, some_of}
use Rattle.private_elim.proofs.sweep.SweepParts.{here_private, none_left, cell_out, cell_back, join_out, cells_apart}

-- what holds of the pairs that a revisit sets, and of all others, holds of all pairs
by_pair : (k : ℕ) (later : List ℕ) (P : ℕ → ℕ → Type 0) → ((q : ℕ) → is_in later q ≡ true → P k q) → ((p : ℕ) → is_in later p ≡ true → P p k)
    → ((p q : ℕ) → ((p == k) && is_in later q) ≡ false → ((q == k) && is_in later p) ≡ false → P p q) → (p q : ℕ) → P p q
by_pair k later P out back others p q =
    elim ((p == k) && is_in later q) as (λ b. ((p == k) && is_in later q) ≡ b → P p q) [
      | true ↦ λ s.
          let both = and_parts (p == k) (is_in later q) s in
          subst (λ x. P x q) (sym (eqb-true p k both.0)) (out q both.1)
      | false ↦ λ s. elim ((q == k) && is_in later p) as (λ b. ((q == k) && is_in later p) ≡ b → P p q) [
        | true ↦ λ r.
            let both = and_parts (q == k) (is_in later p) r in
            subst (λ x. P p x) (sym (eqb-true q k both.0)) (back p both.1)
        | false ↦ λ r. others p q s r
      ] refl
    ] refl

-- a sum of two light weights
sum_light : (m a b : ℕ) (x y : Option Cell) → IfSome x (λ c. nat_abs c.weight ≤ a) → IfSome y (λ c. nat_abs c.weight ≤ b)
    → IfSome (sum_through m x y) (λ c. nat_abs c.weight ≤ a + b)
sum_light m a b None y light_x light_y = tt
sum_light m a b (Some x) None light_x light_y = tt
sum_light m a b (Some x) (Some y) light_x light_y = omega (arith, ints)

reach_light : (f : ℕ → ℕ → Option Cell) (b p q : ℕ) → IfSome (f p q) (λ c. nat_abs c.weight ≤ b) → IfSome (reach_of f p q) (λ c. nat_abs c.weight ≤ b)
reach_light f b p q light =
    let nought : Option Cell = Some (record { weight = pos 0; via = Given 0 }) in
    elim (p == q) as (λ t. IfSome (if t then nought else f p q) (λ c. nat_abs c.weight ≤ b)) [ true ↦ omega (arith, ints) | false ↦ light ]

least_light : (b : ℕ) (sum : ℕ → Option Cell) (later : List ℕ) (o : Option Cell) → ((m : ℕ) → IfSome (sum m) (λ c. nat_abs c.weight ≤ b))
    → IsLeastSum sum later o → IfSome o (λ c. nat_abs c.weight ≤ b)
least_light b sum later None light least = tt
least_light b sum later (Some c) light least = subst (λ o. IfSome o (λ c. nat_abs c.weight ≤ b)) least.0.2 (light least.0.0)

weaker : (a b : ℕ) (o : Option Cell) → a ≤ b → IfSome o (λ c. nat_abs c.weight ≤ a) → IfSome o (λ c. nat_abs c.weight ≤ b)
weaker a b None le h = tt
weaker a b (Some c) le h = omega arith

-- what is done stays done, and k is done
done_more : (done : List Bool) (k p : ℕ) → k < length done → remains done p ≡ true → remains (set done k true) p ≡ true
done_more done k p lk h =
    elim (p == k) as (λ b. (p == k) ≡ b → remains (set done k true) p ≡ true) [
      | true ↦ λ s. ap (remains (set done k true)) (eqb-true p k s) ∙ get_or-set_same done k true false lk
      | false ↦ λ s. get_or-set_other done k p true false (eqb-false p k s) ∙ h
    ] refl

module _ (v : LocalView) (order : List ℕ) (f : ℕ → ℕ → Option Cell) (joined : ℕ → ℕ → Bool) (remain : List Bool) (t : IsTaken v order f joined remain)
    (n k : ℕ) (lt : n < length order) (lk : k < length v.points) (is : point_at v.points k ≡ point_at order n)
    (entries : List SummaryEntry) (at : ℕ → ℕ → Option Cell) (done : List Bool) (s : IsSwept v order entries (n + 1) at done)
    (later : List ℕ) (each : (m : ℕ) → is_in later m ≡ (remains done m && joined k m)) (within : (m : ℕ) → is_in later m ≡ true → m < length v.points) where
  -- the points before k
  abbrev before : List ℕ
  before = left v order f joined remain t n k lt lk is

  -- a place that is done stands for a point that is neither k's nor before it, and the other way round
  done_outside : (m : ℕ) → m < length v.points → remains done m ≡ true → is_in (point_at v.points k ∷ before) (point_at v.points m) ≡ false
  done_outside m lm h =
      not-true (is_in (point_at v.points k ∷ before) (point_at v.points m))
      (ap not (sym (in_prefix v order f joined remain t n k lt lk is (point_at v.points m))) ∙ sym (s.places m lm) ∙ h)

  outside_done : (m : ℕ) → m < length v.points → is_in (point_at v.points k ∷ before) (point_at v.points m) ≡ false → remains done m ≡ true
  outside_done m lm h = s.places m lm ∙ ap not (in_prefix v order f joined remain t n k lt lk is (point_at v.points m) ∙ h)

  -- k is not done
  not_done : remains done k ≡ false
  not_done =
      s.places k lk ∙ ap not (in_prefix v order f joined remain t n k lt lk is (point_at v.points k) ∙ is_in-first (point_at v.points k) before)

  other_points : (m : ℕ) → m < length v.points → m ≢ k → point_at v.points m ≢ point_at v.points k
  other_points m lm other e = other (points_apart v order f joined remain t m k lm lk e)

  -- a later place is done and joined with k
  later_done : (m : ℕ) → is_in later m ≡ true → (remains done m ≡ true) × (joined k m ≡ true)
  later_done m h = and_parts (remains done m) (joined k m) (sym (each m) ∙ h)

  pub later_other : (m : ℕ) → is_in later m ≡ true → m ≢ k
  later_other m h e = false≢true (sym not_done ∙ ap (remains done) (sym e) ∙ (later_done m h).0)

  outside_left : (m : ℕ) → m < length v.points → m ≢ k → is_in (point_at v.points k ∷ before) (point_at v.points m) ≡ is_in before (point_at v.points m)
  outside_left m lm other = is_in-rest (point_at v.points k) before (point_at v.points m) (other_points m lm other)

  later_left : (m : ℕ) → is_in later m ≡ true → is_in before (point_at v.points m) ≡ false
  later_left m h = sym (outside_left m (within m h) (later_other m h)) ∙ done_outside m (within m h) (later_done m h).0

  -- later places are joined with one another
  later_joined : (m j : ℕ) → is_in later m ≡ true → is_in later j ≡ true → m ≢ j → IsJoined (arcs_in v) order (point_at v.points m) (point_at v.points j)
  later_joined m j first second apart =
      let x = point_at v.points m in
      let y = point_at v.points j in
      let z = point_at v.points k in
      let lm = within m first in
      let lj = within j second in
      let to : joined_of (arcs_in v) before x z ≡ true =
      joined-symmetric (arcs_in v) before x z ∙ sym (join_out v order f joined remain t n k lt lk is m lm (later_other m first) (later_left m first))
      ∙ (later_done m first).1 in
      let from : joined_of (arcs_in v) before z y ≡ true =
      sym (join_out v order f joined remain t n k lt lk is j lj (later_other j second) (later_left j second)) ∙ (later_done j second).1 in
      let through : joined_of (arcs_in v) (z ∷ before) x y ≡ true =
      or_right (joined_of (arcs_in v) before x y) (joined_of (arcs_in v) before x z && joined_of (arcs_in v) before z y)
      (and_from (joined_of (arcs_in v) before x z) (joined_of (arcs_in v) before z y) to from) in
      joined_in_order v order f joined remain t m j lm lj apart
      (t.joins m j lm lj apart
      ∙ joined-wider (arcs_in v) (z ∷ before) (before_both (reverse order) x y) x y
      (λ p h. ap (λ es. is_in (before_both es x y) p) (cut v order f joined remain t n k lt lk is)
      ∙ before-behind (reverse (drop (n + 1) order)) (z ∷ before) x y (done_outside m lm (later_done m first).0)
      (done_outside j lj (later_done j second).0) p h) through)

  -- z is one of them
  z_later : is_in later 0 ≡ true
  z_later =
      let some = some_point v t.known in
      let here = here_private v order f joined remain t n k lt lk is in
      let other : 0 ≢ k = λ e. false≢true (ap (private_at v) e ∙ sym (private_at_is v t.known k lk) ∙ here) in
      let above : 0 < k = omega arith in
      let away : is_in before (point_at v.points 0) ≡ false =
      false_from_ne_true (is_in before (point_at v.points 0))
      (λ h. false≢true (sym (private_at_is v t.known 0 some) ∙ left_private v order f joined remain t n k lt lk is (point_at v.points 0) h)) in
      let edge = test-from_edge (arcs_in v) (point_at v.points k) (point_at v.points 0) (
        lower_arc (point_at v.points k),
        lower_contained v t.known k above lk,
        inl (refl, sym (z_first v t.known)),
      ) in
      let joins = join_out v order f joined remain t n k lt lk is 0 some other away
      ∙ joined-wider (arcs_in v) [] before (point_at v.points k) (point_at v.points 0) (λ p h. absurd (false≢true h)) edge in
      let is_done = outside_done 0 some (outside_left 0 some other ∙ away) in
      each 0 ∙ and_from (remains done 0) (joined k 0) is_done joins

  -- so there is one, and it is not k
  pub some_later : 0 < length later
  some_later = some later z_later where
    some : (xs : List ℕ) → is_in xs 0 ≡ true → 0 < length xs
    some [] h = absurd (false≢true h)
    some (x ∷ xs) h = omega arith

  pub not_later : is_in later k ≡ false
  not_later = each k ∙ ap (λ b. b && joined k k) not_done

  -- no cell stands between k and a place yet
  pub no_cells : (j : ℕ) → (at k j ≡ None) × (at j k ≡ None)
  no_cells j = (
    nothing (at k j) (λ h. false≢true (sym not_done ∙ (s.ends k j h).0)),
    nothing (at j k) (λ h. false≢true (sym not_done ∙ (s.ends j k h).1)),
  ) where
    nothing : (o : Option Cell) → (is_some o ≡ true → ⊥) → o ≡ None
    nothing None h = refl
    nothing (Some c) h = absurd (h refl)

  -- weights are far below what a revisit allows
  pub finals_light : AllLight 99 at
  finals_light = λ p q.
      let few = few_taken (record { local = v; order = order }) (facts v order f joined remain t) in
      far (at p q) (s.light p q) few
    where
      far : (o : Option Cell) → IfSome o (λ c. nat_abs c.weight ≤ greatest_walk + (length order - (n + 1)) * greatest_walk) → length order ≤ most_points
          → IfSome o (λ c. IsLight 99 c.weight)
      far None h few = tt
      far (Some c) h few = omega arith

  -- in a network in which the entries hold least bounds
  module _ (net : Net) (valid : IsNetwork net) (part : HasPart net v) (holds : HoldsFinals net v.agent entries) where
    here : is_private_in v (point_at v.points k) ≡ true
    here = here_private v order f joined remain t n k lt lk is

    private : (p : ℕ) → is_in before p ≡ true → is_private_in v p ≡ true
    private = left_private v order f joined remain t n k lt lk is

    least_out : (m : ℕ) → m < length v.points → is_in before (point_at v.points m) ≡ false → m ≢ k
        → IsInnerLeast (is_in before) (arcs_of net) (point_at v.points k) (point_at v.points m) (weight_at (f k m))
    least_out m lm out other =
        least_from_private v net part (is_in before) private (point_at v.points k) (point_at v.points m) (weight_at (f k m)) here
        (subst (IsInnerLeast (is_in before) (arcs_in v) (point_at v.points k) (point_at v.points m))
        (sym (cell_out v order f joined remain t n k lt lk is m lm other out))
        (cell-least (arcs_in v) before (none_left v order f joined remain t n k lt lk is) (point_at v.points k) (point_at v.points m)))

    least_back : (m : ℕ) → m < length v.points → is_in before (point_at v.points m) ≡ false → m ≢ k
        → IsInnerLeast (is_in before) (arcs_of net) (point_at v.points m) (point_at v.points k) (weight_at (f m k))
    least_back m lm out other =
        least_to_private v net part (is_in before) private (point_at v.points m) (point_at v.points k) (weight_at (f m k)) here
        (subst (IsInnerLeast (is_in before) (arcs_in v) (point_at v.points m) (point_at v.points k))
        (sym (cell_back v order f joined remain t n k lt lk is m lm other out))
        (cell-least (arcs_in v) before (none_left v order f joined remain t n k lt lk is) (point_at v.points m) (point_at v.points k)))

    not_joined : (m : ℕ) → m < length v.points → is_in before (point_at v.points m) ≡ false → m ≢ k → is_in later m ≡ false → joined k m ≡ false
    not_joined m lm out other none =
        let is_done = outside_done m lm (outside_left m lm other ∙ out) in
        ap (λ b. b && joined k m) (sym is_done) ∙ sym (each m) ∙ none

    pub prepared : Prepared (is_in before) (arcs_of net) v.points k later f at
    prepared = record {
      none_below = consistent_no_negative (point_count net) (arcs_of net) holds.consistent every;
      apart = points_apart v order f joined remain t;
      here = lk;
      out = least_out;
      back = least_back;
      joined = λ m lm out other none. cells_apart v order f joined remain t n k lt lk is m lm other out (not_joined m lm out other none);
      strange = λ p away out. (
        λ w h. none_to_strange v t.known (is_in before) (point_at v.points k) p (place_nowhere v.points p away) w
            (from_private v net part (is_in before) private (point_at v.points k) p w here h),
        λ w h. none_from_strange v t.known (is_in before) p (point_at v.points k) (place_nowhere v.points p away) w
            (to_private v net part (is_in before) private p (point_at v.points k) w here h),
      );
      outside = λ m h. (within m h, later_left m h, later_other m h);
      between = λ m j first second apart.
          s.least net valid part holds m j (within m first) (within j second) (later_done m first).0 (later_done j second).0
          (later_joined m j first second apart);
    }

  -- the revisit
  module _ (after : ℕ → ℕ → Option Cell) (r : Revisits f k later at after)
      (rows_light : (p q : ℕ) → IfSome (f p q) (λ c. nat_abs c.weight ≤ greatest_walk)) where
    k_within : k < length done
    k_within = omega (arith, lk, s.len)

    k_done : remains (set done k true) k ≡ true
    k_done = get_or-set_same done k true false k_within

    stays_done : (p : ℕ) → remains done p ≡ true → remains (set done k true) p ≡ true
    stays_done p = done_more done k p k_within

    was_done : (p : ℕ) → p ≢ k → remains (set done k true) p ≡ true → remains done p ≡ true
    was_done p other h = sym (get_or-set_other done k p true false other) ∙ h

    places_more : (p : ℕ) → p < length v.points → remains (set done k true) p ≡ not (is_in (take n order) (point_at v.points p))
    places_more p lp =
        elim (p == k) as (λ b. (p == k) ≡ b → remains (set done k true) p ≡ not (is_in (take n order) (point_at v.points p))) [
          | true ↦ λ h.
              let same = eqb-true p k h in
              ap (remains (set done k true)) same ∙ k_done
              ∙ sym (ap not (ap (λ x. is_in (take n order) (point_at v.points x)) same ∙ sym (is_in-reverse (take n order) (point_at v.points k))
              ∙ fresh v order f joined remain t n k lt lk is))
          | false ↦ λ h.
              let other = eqb-false p k h in
              get_or-set_other done k p true false other ∙ s.places p lp
              ∙ ap not (in_prefix v order f joined remain t n k lt lk is (point_at v.points p) ∙ outside_left p lp other
              ∙ is_in-reverse (take n order) (point_at v.points p))
        ] refl

    ends_more : (p q : ℕ) → is_some (after p q) ≡ true → (remains (set done k true) p ≡ true) × (remains (set done k true) q ≡ true)
    ends_more = by_pair k later (λ p q. is_some (after p q) ≡ true → (remains (set done k true) p ≡ true) × (remains (set done k true) q ≡ true))
        (λ q h some. (k_done, stays_done q (later_done q h).0))
        (λ p h some. (stays_done p (later_done p h).0, k_done))
        (λ p q no_out no_back some. let were = s.ends p q (ap is_some (sym (r.others p q no_out no_back)) ∙ some) in
        (stays_done p were.0, stays_done q were.1))

    pairs_more : (p q : ℕ) → is_some (after p q) ≡ true → (private_at v p || private_at v q) ≡ true
        → IsJoined (arcs_in v) order (point_at v.points p) (point_at v.points q)
    pairs_more =
        by_pair k later (λ p q. is_some (after p q) ≡ true → (private_at v p || private_at v q) ≡ true
        → IsJoined (arcs_in v) order (point_at v.points p) (point_at v.points q))
        (λ q h some private. joined_in_order v order f joined remain t k q lk (within q h) (λ e. later_other q h (sym e)) (later_done q h).1)
        (λ p h some private. joined_in_order v order f joined remain t p k (within p h) lk (later_other p h)
        (joined_turned v order f joined remain t p k (within p h) lk (later_other p h) ∙ (later_done p h).1))
        (λ p q no_out no_back some private. s.pairs p q (ap is_some (sym (r.others p q no_out no_back)) ∙ some) private)

    light_more : (p q : ℕ) → IfSome (after p q) (λ c. nat_abs c.weight ≤ greatest_walk + (length order - n) * greatest_walk)
    light_more =
        let bound : ℕ = greatest_walk + (length order - (n + 1)) * greatest_walk in
        let more : ℕ = greatest_walk + (length order - n) * greatest_walk in
        by_pair k later (λ p q. IfSome (after p q) (λ c. nat_abs c.weight ≤ more))
        (λ q h. weaker (greatest_walk + bound) more (after k q) (omega arith)
        (least_light (greatest_walk + bound) (out_sum f at k q) later (after k q)
        (λ m. sum_light m greatest_walk bound (f k m) (reach_of at m q) (rows_light k m) (reach_light at bound m q (s.light m q))) (r.out q h)))
        (λ p h. weaker (bound + greatest_walk) more (after p k) (omega arith)
        (least_light (bound + greatest_walk) (in_sum f at k p) later (after p k)
        (λ m. sum_light m bound greatest_walk (reach_of at p m) (f m k) (reach_light at bound p m (s.light p m)) (rows_light m k)) (r.back p h)))
        (λ p q no_out no_back. subst (λ o. IfSome o (λ c. nat_abs c.weight ≤ more)) (sym (r.others p q no_out no_back))
        (weaker bound more (at p q) (omega arith) (s.light p q)))

    -- cells that k has no part in stay
    cell_stays : (p q : ℕ) → p ≢ k → q ≢ k → after p q ≡ at p q
    cell_stays p q no_p no_q = r.others p q (ap (λ b. b && is_in later q) (ne_eqb p k no_p)) (ap (λ b. b && is_in later p) (ne_eqb q k no_q))

    cell_away : (p q : ℕ) → is_some (at p q) ≡ true → (p ≢ k) × (q ≢ k)
    cell_away p q some =
        let were = s.ends p q some in (
          λ same. false≢true (sym not_done ∙ ap (remains done) (sym same) ∙ were.0),
          λ same. false≢true (sym not_done ∙ ap (remains done) (sym same) ∙ were.1),
        )

    seen_away : (p : ℕ) → private_at v p ≡ false → p ≢ k
    seen_away p seen same =
        false≢true (sym seen ∙ ap (private_at v) same ∙ sym (private_at_is v t.known k lk) ∙ here_private v order f joined remain t n k lt lk is)

    given_more : (p q : ℕ) → IsSeenPlaces v p q → weight_at (after p q) ≡ entry_in entries (point_at v.points p) (point_at v.points q)
    given_more p q seen =
        ap weight_at (cell_stays p q (seen_away p seen.from_seen) (seen_away q seen.to_seen)) ∙ s.given p q seen

    -- the point of k comes before those of later places
    later_after : (m : ℕ) → is_in later m ≡ true → ComesBefore order (point_at v.points k) (point_at v.points m)
    later_after m h =
        comes_first order (reverse (drop (n + 1) order)) (point_at v.points k) before (point_at v.points m)
        (cut v order f joined remain t n k lt lk is) (done_outside m (within m h) (later_done m h).0)

    reach_stays : (p q : ℕ) → p ≢ k → q ≢ k → weight_at (reach_of after p q) ≡ weight_at (reach_of at p q)
    reach_stays p q no_p no_q = ap (λ o. weight_at (reach_to p q o)) (cell_stays p q no_p no_q)

    -- the cells that the revisit sets came through a later place
    leaves_more : (q : ℕ) → is_in later q ≡ true → (o : Option Cell) → IsLeastSum (out_sum f at k q) later o → IfSome o (LeavesAt v order after k q)
    leaves_more q h None least = tt
    leaves_more q h (Some c) least =
        let m = least.0.0 in
        let here = least.0.1 in
        let parts = sum_parts m (f k m) (reach_of at m q) c least.0.2 in
        record {
          place = m;
          within = within m here;
          via = parts.via;
          first = later_after q h;
          later = later_after m here;
          weight = parts.first;
          forward = sym (t.cells.cells k m lk (within m here) (λ e. later_other m here (sym e))) ∙ parts.is_first;
          rest = parts.second;
          onward = reach_stays m q (later_other m here) (later_other q h) ∙ parts.is_second;
          sum = parts.sum;
        }

    arrives_more : (p : ℕ) → is_in later p ≡ true → (o : Option Cell) → IsLeastSum (in_sum f at k p) later o → IfSome o (ArrivesAt v order after p k)
    arrives_more p h None least = tt
    arrives_more p h (Some c) least =
        let m = least.0.0 in
        let here = least.0.1 in
        let parts = sum_parts m (reach_of at p m) (f m k) c least.0.2 in
        record {
          place = m;
          within = within m here;
          via = parts.via;
          first = later_after p h;
          later = later_after m here;
          weight = parts.second;
          forward = sym (t.cells.cells m k (within m here) lk (later_other m here)) ∙ parts.is_second;
          rest = parts.first;
          onward = reach_stays p m (later_other p h) (later_other m here) ∙ parts.is_first;
          sum = parts.sum;
        }

    -- and the others as before
    onward_stays : (p q : ℕ) (w : ℤ) → weight_at (reach_of at p q) ≡ Some w → weight_at (reach_of after p q) ≡ Some w
    onward_stays p q w is_w =
        let nought : Option Cell = Some (record { weight = pos 0; via = Given 0 }) in
        elim (p == q) as (λ b. weight_at (if b then nought else at p q) ≡ Some w → weight_at (if b then nought else after p q) ≡ Some w) [
          | true ↦ λ h. h
          | false ↦ λ h. let away = cell_away p q (some_weight (at p q) w h) in ap weight_at (cell_stays p q away.0 away.1) ∙ h
        ] is_w

    came_stays : (p q : ℕ) (c : Cell) → LeavesAt v order at p q c ⊎ ArrivesAt v order at p q c → LeavesAt v order after p q c ⊎ ArrivesAt v order after p q c
    came_stays p q c (inl h) = inl (record {
      place = h.place;
      within = h.within;
      via = h.via;
      first = h.first;
      later = h.later;
      weight = h.weight;
      forward = h.forward;
      rest = h.rest;
      onward = onward_stays h.place q h.rest h.onward;
      sum = h.sum;
    })
    came_stays p q c (inr h) = inr (record {
      place = h.place;
      within = h.within;
      via = h.via;
      first = h.first;
      later = h.later;
      weight = h.weight;
      forward = h.forward;
      rest = h.rest;
      onward = onward_stays p h.place h.rest h.onward;
      sum = h.sum;
    })

    came_more : (p q : ℕ) → (private_at v p || private_at v q) ≡ true → CameAt v order after p q
    came_more =
        by_pair k later (λ p q. (private_at v p || private_at v q) ≡ true → CameAt v order after p q)
        (λ q h private. some_of (LeavesAt v order after k q) (λ c. LeavesAt v order after k q c ⊎ ArrivesAt v order after k q c) (after k q) (λ c g. inl g)
        (leaves_more q h (after k q) (r.out q h)))
        (λ p h private. some_of (ArrivesAt v order after p k) (λ c. LeavesAt v order after p k c ⊎ ArrivesAt v order after p k c) (after p k) (λ c g. inr g)
        (arrives_more p h (after p k) (r.back p h)))
        (λ p q no_out no_back private.
        subst (λ o. IfSome o (λ c. LeavesAt v order after p q c ⊎ ArrivesAt v order after p q c)) (sym (r.others p q no_out no_back))
        (some_of (λ c. LeavesAt v order at p q c ⊎ ArrivesAt v order at p q c) (λ c. LeavesAt v order after p q c ⊎ ArrivesAt v order after p q c) (at p q)
        (came_stays p q) (s.came p q private)))

    is_later : (q : ℕ) → q < length v.points → q ≢ k → remains (set done k true) q ≡ true → joined k q ≡ true → is_in later q ≡ true
    is_later q lq other is_done joins = each q ∙ and_from (remains done q) (joined k q) (was_done q other is_done) joins

    least_more : (net : Net) → IsNetwork net → HasPart net v → HoldsFinals net v.agent entries
        → (p q : ℕ) → p < length v.points → q < length v.points → remains (set done k true) p ≡ true → remains (set done k true) q ≡ true
        → IsJoined (arcs_in v) order (point_at v.points p) (point_at v.points q)
        → IsInnerLeast every (arcs_of net) (point_at v.points p) (point_at v.points q) (weight_at (after p q))
    least_more net valid part holds =
        let found = finals_are_least (is_in before) (arcs_of net) v.points k later f at after (prepared net valid part holds) r in
        by_pair k later (λ p q. p < length v.points → q < length v.points → remains (set done k true) p ≡ true → remains (set done k true) q ≡ true
        → IsJoined (arcs_in v) order (point_at v.points p) (point_at v.points q)
        → IsInnerLeast every (arcs_of net) (point_at v.points p) (point_at v.points q) (weight_at (after p q)))
        (λ q h lp lq done_p done_q joins. (found q h).0)
        (λ p h lp lq done_p done_q joins. (found p h).1)
        (λ p q no_out no_back lp lq done_p done_q joins.
        let both = order_joins v order f joined remain t p q lp lq joins in
        let p_other : p ≢ k = λ same. (
        let q_other : q ≢ k = λ g. both.0 (same ∙ sym g) in
        let h = is_later q lq q_other done_q (ap (λ x. joined x q) (sym same) ∙ both.1) in
        false≢true (sym no_out ∙ ap (λ b. b && is_in later q) (eq-eqb p k same) ∙ h)) in
        let q_other : q ≢ k = λ same. (
        let turned = joined_turned v order f joined remain t p q lp lq both.0 in
        let h = is_later p lp p_other done_p (ap (λ x. joined x p) (sym same) ∙ sym turned ∙ both.1) in
        false≢true (sym no_back ∙ ap (λ b. b && is_in later p) (eq-eqb q k same) ∙ h)) in
        subst (λ o. IsInnerLeast every (arcs_of net) (point_at v.points p) (point_at v.points q) (weight_at o)) (sym (r.others p q no_out no_back))
        (s.least net valid part holds p q lp lq (was_done p p_other done_p) (was_done q q_other done_q) joins))

    pub swept_more : IsSwept v order entries n after (set done k true)
    swept_more = record {
      places = places_more;
      len = length-set done k true ∙ s.len;
      ends = ends_more;
      pairs = pairs_more;
      light = light_more;
      given = given_more;
      came = came_more;
      least = least_more;
    }
