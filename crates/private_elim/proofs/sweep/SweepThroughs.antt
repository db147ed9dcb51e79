-- What a back sweep says of the points through which its bounds came.
--   no_private_entry   a pair whose one point is private has no entry of the summary
--   are_through        each final cell with a private place came through a place
--   swept_through      each bound came through a point
use Rattle.std.proofs.Common.{◌≡◌, ◌≢◌, ℕ, ◌<◌, List, Bool, true, false, ◌||◌, not, Option, Some, None, length, reverse, refl, sym, ap, subst, ◌∙◌}
use Rattle.std.proofs.Common.{arith, inl, inr, ◌⊎◌, if◌then◌else◌}
use Rattle.std.specs.Prelude.{ℤ, pos, ◌==◌, is_some, IfSome, slice_index_or}
use Rattle.std.proofs.Math.Bool.{or-true}
use Rattle.std.proofs.lemmas.Bool.{false≢true, ne_eqb, eqb-true, eqb-false, eq-eqb}
use Rattle.stn_model.specs.ArcWalks.{IsInnerLeast}
use Rattle.stn_model.specs.Joined.{ComesBefore}
use Rattle.stn_model.specs.Summaries.{IsSeenPair, IsEntryWeight, is_seen}
use Rattle.stn_walk.specs.Eliminations.{is_in, before_both}
use Rattle.stn_walk.proofs.Eliminations.{before-in}
use Rattle.stn_walk.proofs.Joins.{before_both-from_order}
use Rattle.dist_rows.specs.declared.cell.Cell.{Cell}
use Rattle.dist_rows.specs.declared.cell.Via.TheVariants.{Given}
use Rattle.elim_step.specs.declared.summary.SummaryEntry.{SummaryEntry}
use Rattle.elim_step.specs.Eliminates.{remains}
use Rattle.elim_step.specs.Eliminated.{weight_at, point_at, forward_of}
use Rattle.elim_step.specs.Revisits.{reach_of}
use Rattle.elim_step.specs.Summaries.{entry_in}
use Rattle.elim_step.proofs.Blocks.{remains-within}
use Rattle.private_elim.specs.Locals.{LocalView, local_of, arcs_in, place_in, private_at, passes_at, is_private_in}
use Rattle.private_elim.specs.Taken.{TakenView, IsTaken}
use Rattle.private_elim.specs.ReducedViews.{ReducedView, IsReduced}
use Rattle.private_elim.specs.Backs.{BoundsView, bounds_view, cell_in, bound_between}
use Rattle.private_elim.specs.Sweeps.{LeavesAt, ArrivesAt, IsSwept}
use Rattle.private_elim.specs.Throughs.{IsThrough, AreThrough, point_of_via, point_through, through_between, IsForwardWeight, rest_between, CameThrough}
use Rattle.private_elim.proofs.locals.LocalFacts.{place_of_point_at, numbered-is, seen_of_net}
use Rattle.private_elim.proofs.summary.EntryLookups.{found_holds}
use Rattle.private_elim.proofs.sweep.SweepEnds.{swept_only, pair_places, private_pair, private_points, cell_at}
use Rattle.private_elim.proofs.sweep.SweepParts.{order_private, points_apart}
use Rattle.private_elim.proofs.sweep.Throughs.{some_of, unless_some, is_through}
use Rattle.private_elim.proofs.taking.TakenFacts.{forward_least, inner_weight}
use Rattle.private_elim.proofs.taking.Takes.{facts}

-- a place cannot be private and seen
not_both : (test : ℕ → Bool) (o : Option ℕ) → passes_at test o ≡ true → passes_at (λ k. not (test k)) o ≡ true → ⊥
not_both test None private seen = false≢true private
not_both test (Some k) private seen = false≢true (sym (ap not private) ∙ seen)

-- neither of two
neither : (a b : Bool) → (a || b) ≡ false → (a ≡ false) × (b ≡ false)
neither true b h = absurd (false≢true (sym h))
neither false b h = (refl, h)

module _ (v : LocalView) (order : List ℕ) (f : ℕ → ℕ → Option Cell) (joined : ℕ → ℕ → Bool) (remain : List Bool) (t : IsTaken v order f joined remain)
    (entries : List SummaryEntry) (points : List ℕ) (private : List Bool) (at : ℕ → ℕ → Option Cell) (same : points ≡ v.points)
    (flags : (p : ℕ) → p < length v.points → slice_index_or private p false ≡ private_at v p)
    (done : List Bool) (s : IsSwept v order entries 0 at done) where
  -- what comes before a point in the order is private
  first_private : (i j : ℕ) → ComesBefore order i j → is_private_in v i ≡ true
  first_private i j first =
      order_private v order f joined remain t i (before-in (reverse order) j j i (before_both-from_order order j j i (first, first)))

  -- each final cell with a private place came through a place
  came_through : (p q : ℕ) (c : Cell) → LeavesAt v order at p q c ⊎ ArrivesAt v order at p q c → IsThrough (length points) c.via
  came_through p q c (inl h) = let many = ap length same in let lt = h.within in is_through (length points) c h.place h.via (omega arith)
  came_through p q c (inr h) = let many = ap length same in let lt = h.within in is_through (length points) c h.place h.via (omega arith)

  done_within : (p : ℕ) → remains done p ≡ true → p < length v.points
  done_within p h = let low = remains-within done p h in omega (arith, s.len)

  pub are_through : AreThrough (length points) private at
  are_through p q =
      let flagged = slice_index_or private p false || slice_index_or private q false in
      elim flagged as (λ b. flagged ≡ b → IfSome (if b then at p q else None) (λ c. IsThrough (length points) c.via)) [
        | true ↦ λ is. elim (is_some (at p q)) as (λ b. is_some (at p q) ≡ b → IfSome (at p q) (λ c. IsThrough (length points) c.via)) [
          | true ↦ λ some.
              let ends = s.ends p q some in
              let lp = done_within p ends.0 in
              let lq = done_within q ends.1 in
              let owned = sym (private_pair v order f joined remain t entries entries points private at same flags done s p q lp lq) ∙ is in
              some_of (λ c. LeavesAt v order at p q c ⊎ ArrivesAt v order at p q c) (λ c. IsThrough (length points) c.via) (at p q) (came_through p q)
              (s.came p q owned)
          | false ↦ λ none. unless_some (λ c. IsThrough (length points) c.via) (at p q) (λ some. false≢true (sym none ∙ some))
        ] refl
        | false ↦ λ is. tt
      ] refl

  module _ (summary : List SummaryEntry) (reduced : IsReduced v order summary) where
    abbrev r : ReducedView
    r = record { local = v; order = order; summary = summary }

    abbrev b : BoundsView
    b = bounds_view points private at

    abbrev taken : TakenView
    taken = record { local = v; order = order }

    -- a pair whose one point is private has no entry
    is_local : v ≡ local_of t.known.net v.agent
    is_local = numbered-is v t.known t.numbered

    seen_point : (p : ℕ) → is_private_in v p ≡ true → is_seen t.known.net v.agent p ≡ true → ⊥
    seen_point p private seen = not_both (private_at v) (place_in v.points p) private (seen_of_net v t.known.net is_local p ∙ seen)

    seen_entry : (i j : ℕ) (w : ℤ) → entry_in summary i j ≡ Some w → IsSeenPair t.known.net v.agent i j
    seen_entry i j w found =
        (found_holds (λ e. IsSeenPair t.known.net v.agent e.from e.to × IsEntryWeight t.known.net v.agent e.from e.to e.weight) summary i j w
        (reduced.sums_up t.known.net t.known.valid is_local).weights found).0

    no_entry : (i j : ℕ) → (is_private_in v i || is_private_in v j) ≡ true → entry_in summary i j ≡ None
    no_entry i j private =
        elim (entry_in summary i j) as (λ o. entry_in summary i j ≡ o → o ≡ None) [
          | None ↦ λ none. refl
          | Some w ↦ λ found.
              let seen = seen_entry i j w found in
              absurd (either (is_private_in v i) (is_private_in v j) private (λ h. seen_point i h seen.from) (λ h. seen_point j h seen.to))
        ] refl
      where
        either : (a c : Bool) → (a || c) ≡ true → (a ≡ true → ⊥) → (c ≡ true → ⊥) → ⊥
        either true c h no_a no_c = no_a refl
        either false c h no_a no_c = no_c h

    -- so a forward weight with a private point is the weight of the pair
    forward_weight : (i j : ℕ) (w : ℤ) → i ≢ j → (is_private_in v i || is_private_in v j) ≡ true
        → forward_of (arcs_in v) (reverse order) i j ≡ Some w → IsForwardWeight r i j w
    forward_weight i j w differ private is = (
      no_entry i j private,
      differ,
      inner_weight taken (facts v order f joined remain t) i j (Some w)
          (subst (IsInnerLeast (is_in (before_both (reverse order) i j)) (arcs_in v) i j) is (forward_least taken (facts v order f joined remain t) i j)),
    )

    -- a point does not come before itself
    apart_in_order : (i j : ℕ) → ComesBefore order i j → i ≢ j
    apart_in_order i j first same = let low : ComesBefore order i i = subst (ComesBefore order i) (sym same) first in omega arith

    -- the final cells between places
    bound_at : (p q : ℕ) → p < length v.points → q < length v.points → (private_at v p || private_at v q) ≡ true
        → bound_between b (point_at v.points p) (point_at v.points q) ≡ weight_at (at p q)
    bound_at p q lp lq owned =
        ap (λ ps. weight_at (cell_in b (place_in ps (point_at v.points p)) (place_in ps (point_at v.points q)))) same
        ∙ (λ k. weight_at (cell_in b (place_of_point_at v t.known p lp k) (place_of_point_at v t.known q lq k)))
        ∙ ap weight_at (cell_at v order f joined remain t entries summary points private at same flags done s p q lp lq
        ∙ ap (λ c. if c then at p q else None)
        (private_pair v order f joined remain t entries summary points private at same flags done s p q lp lq ∙ owned))

    rest_at : (p q : ℕ) (w : ℤ) → p < length v.points → q < length v.points → weight_at (reach_of at p q) ≡ Some w
        → rest_between r entries b (point_at v.points p) (point_at v.points q) ≡ Some w
    rest_at p q w lp lq is =
        let x = point_at v.points p in
        let y = point_at v.points q in
        let nought : Option Cell = Some (record { weight = pos 0; via = Given 0 }) in
        elim (p == q) as (λ c. (p == q) ≡ c → weight_at (if c then nought else at p q) ≡ Some w → rest_between r entries b x y ≡ Some w) [
          | true ↦ λ here h.
              ap (λ c. if c then Some (pos 0) else final_x x y) (eq-eqb x y (ap (point_at v.points) (eqb-true p q here))) ∙ h
          | false ↦ λ here h.
              let differ : x ≢ y = λ e. eqb-false p q here (points_apart v order f joined remain t p q lp lq e) in
              ap (λ c. if c then Some (pos 0) else final_x x y) (ne_eqb x y differ) ∙ final_at p q w lp lq (eqb-false p q here) h
        ] refl is
      where
        final_x : ℕ → ℕ → Option ℤ
        final_x x y = if is_private_in v x || is_private_in v y then bound_between b x y else entry_in entries x y

        final_at : (p q : ℕ) (w : ℤ) → p < length v.points → q < length v.points → p ≢ q → weight_at (at p q) ≡ Some w
            → final_x (point_at v.points p) (point_at v.points q) ≡ Some w
        final_at p q w lp lq apart h =
            let x = point_at v.points p in
            let y = point_at v.points q in
            let owned = private_at v p || private_at v q in
            ap (λ c. if c then bound_between b x y else entry_in entries x y)
            (private_points v order f joined remain t entries summary points private at same flags done s p q lp lq)
            ∙ elim owned as (λ c. owned ≡ c → (if c then bound_between b x y else entry_in entries x y) ≡ Some w) [
              | true ↦ λ private. bound_at p q lp lq private ∙ h
              | false ↦ λ seen.
                  let both = neither (private_at v p) (private_at v q) seen in
                  sym (s.given p q (record { from_within = lp; to_within = lq; different = apart; from_seen = both.0; to_seen = both.1 })) ∙ h
            ] refl

    -- each bound came through a point
    cell_came : (p q : ℕ) → p < length v.points → q < length v.points → (private_at v p || private_at v q) ≡ true
        → (c : Cell) → at p q ≡ Some c → LeavesAt v order at p q c ⊎ ArrivesAt v order at p q c
        → through_between b (point_at v.points p) (point_at v.points q) ≡ point_through points (Some c)
        → CameThrough r entries b (point_at v.points p) (point_at v.points q)
    cell_came p q lp lq owned c is (inl h) through =
        let x = point_at v.points p in
        let m = point_at v.points h.place in (
          m,
          through ∙ ap (point_of_via points) h.via ∙ ap (λ ps. Some (point_at ps h.place)) same,
          inl (record {
            first = h.first;
            later = h.later;
            weight = h.weight;
            forward = forward_weight x m h.weight (apart_in_order x m h.later) (ap (λ a. a || is_private_in v m) (first_private x m h.later)) h.forward;
            rest = h.rest;
            onward = rest_at h.place q h.rest h.within lq h.onward;
            sum = bound_at p q lp lq owned ∙ ap weight_at is ∙ ap Some h.sum;
          }),
        )
    cell_came p q lp lq owned c is (inr h) through =
        let y = point_at v.points q in
        let m = point_at v.points h.place in (
          m,
          through ∙ ap (point_of_via points) h.via ∙ ap (λ ps. Some (point_at ps h.place)) same,
          inr (record {
            first = h.first;
            later = h.later;
            weight = h.weight;
            forward = forward_weight m y h.weight (λ e. apart_in_order y m h.later (sym e))
                (ap (λ a. is_private_in v m || a) (first_private y m h.later) ∙ or-true (is_private_in v m)) h.forward;
            rest = h.rest;
            onward = rest_at p h.place h.rest lp h.within h.onward;
            sum = bound_at p q lp lq owned ∙ ap weight_at is ∙ ap Some h.sum;
          }),
        )

    some_came : (p q : ℕ) → p < length v.points → q < length v.points → (private_at v p || private_at v q) ≡ true
        → (o : Option Cell) → at p q ≡ o → is_some (weight_at o) ≡ true → IfSome o (λ c. LeavesAt v order at p q c ⊎ ArrivesAt v order at p q c)
        → through_between b (point_at v.points p) (point_at v.points q) ≡ point_through points o
        → CameThrough r entries b (point_at v.points p) (point_at v.points q)
    some_came p q lp lq owned None is some came through = absurd (false≢true some)
    some_came p q lp lq owned (Some c) is some came through = cell_came p q lp lq owned c is came through

    pub swept_through : (i j : ℕ) → is_some (bound_between b i j) ≡ true → CameThrough r entries b i j
    swept_through i j some =
        let pair = swept_only v order f joined remain t entries summary points private at same flags done s i j some in
        let places = pair_places v order f joined remain t entries summary points private at same flags done s i j pair in
        let p = places.start in
        let q = places.end in
        let cell : cell_in b (place_in b.points (point_at v.points p)) (place_in b.points (point_at v.points q)) ≡ at p q =
        (λ k. cell_in b (place_in b.points (places.is_start k)) (place_in b.points (places.is_end k))) ∙ places.cell in
        subst (λ x. CameThrough r entries b x j) places.is_start
        (subst (CameThrough r entries b (point_at v.points p)) places.is_end
        (some_came p q places.start_in places.end_in places.owned (at p q) refl (ap (λ o. is_some (weight_at o)) (sym places.cell) ∙ some)
        (s.came p q places.owned) (ap (point_through points) cell)))
