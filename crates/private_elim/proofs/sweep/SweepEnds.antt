-- Where a back sweep begins, and what it comes to.
--   joined_ends      joined points are points of the local problem
--   swept_first      no private point is revisited
--   swept_only, swept_least   all of them are
use Rattle.std.proofs.Common.{◌≡◌, ◌≢◌, ℕ, ◌+◌, ◌-◌, ◌*◌, ◌<◌, ◌≤◌, List, [], ◌∷◌, Bool, true, false, ◌||◌, not, Option, Some, None, length, reverse}
use Rattle.std.proofs.Common.{refl, sym, ap, subst, ◌∙◌, arith, inl, inr, ◌⊎◌}
use Rattle.std.specs.Prelude.{ℤ, is_some, IfSome, nat_abs, slice_index_or, if◌then◌else◌}
use Rattle.std.specs.List.{AllByRecursion, Contains}
use Rattle.std.proofs.lemmas.Bool.{false≢true, not-true, false_from_ne_true}
use Rattle.std.proofs.lemmas.List.{take_all}
use Rattle.stn_model.specs.Limits.{greatest_walk}
use Rattle.stn_model.specs.Net.{Net, arcs_of, point_count}
use Rattle.stn_model.specs.Valid.{IsNetwork}
use Rattle.stn_model.specs.ArcWalks.{IsInnerLeast}
use Rattle.stn_model.specs.Joined.{HasEdge, IsPath, ComesBefore, IsJoined}
use Rattle.stn_model.specs.Schedules.{IsConsistent}
use Rattle.stn_model.specs.Summaries.{IsSeenPair, is_seen}
use Rattle.stn_model.specs.Kinds.{is_private_of}
use Rattle.stn_walk.specs.Eliminations.{is_in}
use Rattle.stn_walk.proofs.Exits.{every}
use Rattle.stn_walk.proofs.Joins.{is_in-reverse, before_both-from_order}
use Rattle.stn_walk.proofs.Distances.{bound_inner_least, inner_least_bound, network_bound_there, network_ends}
use Rattle.stn_walk.proofs.Eliminations.{before-in}
use Rattle.dist_rows.specs.declared.cell.Cell.{Cell}
use Rattle.elim_step.specs.declared.summary.SummaryEntry.{SummaryEntry}
use Rattle.elim_step.specs.Summaries.{is_summary}
use Rattle.elim_step.specs.Eliminates.{remains}
use Rattle.elim_step.specs.Eliminated.{weight_at, point_at}
use Rattle.private_elim.specs.Locals.{LocalView, arcs_in, place_in, private_at, passes_at, is_private_in}
use Rattle.private_elim.specs.Taken.{IsTaken}
use Rattle.elim_step.specs.Summaries.{entry_in}
use Rattle.private_elim.specs.Parts.{HasPart}
use Rattle.private_elim.specs.Backs.{BoundsView, private_cells, bounds_view, cell_in, bound_between, IsPrivatePair, HoldsFinals, IsLeastIn}
use Rattle.private_elim.specs.Sweeps.{HasGiven, LeavesAt, ArrivesAt, IsSwept}
use Rattle.private_elim.proofs.locals.Places.{place_found, place_contained}
use Rattle.private_elim.proofs.locals.Owned.{points_below}
use Rattle.private_elim.proofs.locals.LocalFacts.{place_of_point_at, arc_joins}
use Rattle.private_elim.proofs.locals.PartNetworks.{private_of_part, seen_of_part}
use Rattle.private_elim.proofs.summary.Entries.{entry_light}
use Rattle.private_elim.proofs.sweep.Bounds.{cell_is}
use Rattle.private_elim.proofs.sweep.SweepParts.{order_private}
use Rattle.private_elim.proofs.sweep.Throughs.{unless_some}
use Rattle.private_elim.proofs.taking.Takes.{private_at_is}

module _ (v : LocalView) (order : List ℕ) (f : ℕ → ℕ → Option Cell) (joined : ℕ → ℕ → Bool) (remain : List Bool) (t : IsTaken v order f joined remain) where
  -- the ends of an edge of own arcs are points of the local problem
  edge_ends : (i j : ℕ) → HasEdge (arcs_in v) i j → Contains v.points i × Contains v.points j
  edge_ends i j (a, here, inl h) =
      let joins = arc_joins v t.known a here in (subst (Contains v.points) h.0 joins.starts, subst (Contains v.points) h.1 joins.ends)
  edge_ends i j (a, here, inr h) =
      let joins = arc_joins v t.known a here in (subst (Contains v.points) h.1 joins.ends, subst (Contains v.points) h.0 joins.starts)

  path_ends : (i j : ℕ) (inner : List ℕ) → IsPath (arcs_in v) i j inner → Contains v.points i × Contains v.points j
  path_ends i j [] h = edge_ends i j h
  path_ends i j (p ∷ ps) h = ((edge_ends i p h.0).0, (path_ends p j ps h.1).1)

  -- so joined points have places
  placed : (p : ℕ) → Contains v.points p → (k : ℕ) × (k < length v.points) × (point_at v.points k ≡ p) × (place_in v.points p ≡ Some k)
  placed p h =
      let there = place_contained v.points p h in
      (there.0, there.1, there.2, subst (λ x. place_in v.points x ≡ Some there.0) there.2 (place_of_point_at v t.known there.0 there.1))

  -- all private points are taken
  module _ (whole : (p : ℕ) → is_private_in v p ≡ true → is_in (reverse order) p ≡ true) (entries : List SummaryEntry) where
    -- a place is private where its point is in the order
    in_order : (p : ℕ) → p < length v.points → is_in order (point_at v.points p) ≡ private_at v p
    in_order p lp =
        elim (private_at v p) as (λ b. private_at v p ≡ b → is_in order (point_at v.points p) ≡ b) [
          | true ↦ λ h. sym (is_in-reverse order (point_at v.points p)) ∙ whole (point_at v.points p) (private_at_is v t.known p lp ∙ h)
          | false ↦ λ h. false_from_ne_true (is_in order (point_at v.points p))
              (λ g. false≢true (sym h ∙ sym (private_at_is v t.known p lp)
              ∙ order_private v order f joined remain t (point_at v.points p) (is_in-reverse order (point_at v.points p) ∙ g)))
        ] refl

    -- before the first revisit
    module _ (valid : is_summary entries ≡ true) (at : ℕ → ℕ → Option Cell) (given : HasGiven v entries at) (done : List Bool)
        (len : length done ≡ length v.points)
        (seen : (p : ℕ) → p < length v.points → remains done p ≡ not (private_at v p)) where
      given_light : (x : Option Cell) (y : Option ℤ) (b : ℕ) → weight_at x ≡ y → IfSome y (λ w. nat_abs w ≤ greatest_walk)
          → IfSome x (λ c. nat_abs c.weight ≤ greatest_walk + b)
      given_light None y b e light = tt
      given_light (Some c) None b e light = absurd (cc)
      given_light (Some c) (Some w) b e light = let same : c.weight ≡ w = cc in rw same (omega arith)

      nothing_light : (x : Option Cell) (b : ℕ) → is_some x ≡ false → IfSome x (λ c. nat_abs c.weight ≤ b)
      nothing_light None b e = tt
      nothing_light (Some c) b e = absurd (cc)

      light_first : (p q : ℕ) → IfSome (at p q) (λ c. nat_abs c.weight ≤ greatest_walk + (length order - length order) * greatest_walk)
      light_first p q =
          elim (is_some (at p q)) as (λ b. is_some (at p q) ≡ b
          → IfSome (at p q) (λ c. nat_abs c.weight ≤ greatest_walk + (length order - length order) * greatest_walk)) [
            | true ↦ λ some. given_light (at p q) (entry_in entries (point_at v.points p) (point_at v.points q))
                ((length order - length order) * greatest_walk)
                (given.weights p q (given.only p q some)) (entry_light entries valid (point_at v.points p) (point_at v.points q))
            | false ↦ λ none. nothing_light (at p q) (greatest_walk + (length order - length order) * greatest_walk) none
          ] refl

      -- places that are done are not private
      is_seen_place : (p : ℕ) → p < length v.points → remains done p ≡ true → private_at v p ≡ false
      is_seen_place p lp h = not-true (private_at v p) (sym (seen p lp) ∙ h)

      seen_done : (p : ℕ) → p < length v.points → private_at v p ≡ false → remains done p ≡ true
      seen_done p lp h = seen p lp ∙ ap not h

      -- the points that come before others in the order are private
      all_private : (net : Net) → HasPart net v → (i j : ℕ) (inner : List ℕ) → AllByRecursion (λ p. ComesBefore order p i × ComesBefore order p j) inner
          → AllByRecursion (λ p. is_private_of net v.agent p ≡ true) inner
      all_private net part i j [] all = tt
      all_private net part i j (p ∷ ps) all =
          let here = before-in (reverse order) i j p (before_both-from_order order i j p all.0) in (
            sym (private_of_part v net part p) ∙ order_private v order f joined remain t p here,
            all_private net part i j ps all.1,
          )

      seen_point : (net : Net) → HasPart net v → (p : ℕ) → p < length v.points → private_at v p ≡ false → is_seen net v.agent (point_at v.points p) ≡ true
      seen_point net part p lp h =
          sym (seen_of_part v net part (point_at v.points p)) ∙ ap (passes_at (λ k. not (private_at v k))) (place_of_point_at v t.known p lp) ∙ ap not h

      least_first : (net : Net) → IsNetwork net → HasPart net v → HoldsFinals net v.agent entries
          → (p q : ℕ) → p < length v.points → q < length v.points → remains done p ≡ true → remains done q ≡ true
          → IsJoined (arcs_in v) order (point_at v.points p) (point_at v.points q)
          → IsInnerLeast every (arcs_of net) (point_at v.points p) (point_at v.points q) (weight_at (at p q))
      least_first net valid_net part holds p q lp lq done_p done_q joins =
          let x = point_at v.points p in
          let y = point_at v.points q in
          let seen_p = is_seen_place p lp done_p in
          let seen_q = is_seen_place q lq done_q in
          let pair : IsSeenPair net v.agent x y = record {
            different = joins.different;
            from = seen_point net part p lp seen_p;
            to = seen_point net part q lq seen_q;
            inner = joins.inner;
            path = subst (λ arcs. IsPath arcs x y joins.inner) part.arcs joins.path;
            privately = all_private net part x y joins.inner joins.before;
          } in
          let bound = holds.bounds x y pair in
          let weighs : weight_at (at p q) ≡ Some bound.0 =
          given.weights p q (record {
            from_within = lp;
            to_within = lq;
            different = λ same. joins.different (ap (point_at v.points) same);
            from_seen = seen_p;
            to_seen = seen_q;
          }) ∙ bound.1 in
          subst (IsInnerLeast every (arcs_of net) x y) (sym weighs) (bound_inner_least (point_count net) (arcs_of net) x y bound.0 joins.different bound.2)

      pub swept_first : IsSwept v order entries (length order) at done
      swept_first = record {
        places = λ p lp. seen p lp ∙ ap not (sym (ap (λ xs. is_in xs (point_at v.points p)) (take_all (length order) order (omega arith)) ∙ in_order p lp));
        len = len;
        ends = λ p q some. let places = given.only p q some in (seen_done p places.from_within places.from_seen, seen_done q places.to_within places.to_seen);
        pairs = λ p q some private.
            let places = given.only p q some in
            absurd (false≢true (sym (λ s. places.from_seen s || places.to_seen s) ∙ private));
        light = light_first;
        given = given.weights;
        came = λ p q private.
            unless_some (λ c. LeavesAt v order at p q c ⊎ ArrivesAt v order at p q c) (at p q) (λ some.
            let places = given.only p q some in
            false≢true (sym (λ s. places.from_seen s || places.to_seen s) ∙ private));
        least = least_first;
      }

  -- after the last
  module _ (entries summary : List SummaryEntry) (points : List ℕ) (private : List Bool) (at : ℕ → ℕ → Option Cell) (same : points ≡ v.points)
      (flags : (p : ℕ) → p < length v.points → slice_index_or private p false ≡ private_at v p)
      (done : List Bool) (s : IsSwept v order entries 0 at done) where
    abbrev b : BoundsView
    b = bounds_view points private at

    pub private_pair : (p q : ℕ) → p < length v.points → q < length v.points
        → (slice_index_or private p false || slice_index_or private q false) ≡ (private_at v p || private_at v q)
    private_pair p q lp lq = (λ i. flags p lp i || flags q lq i)

    pub private_points : (p q : ℕ) → p < length v.points → q < length v.points
        → (is_private_in v (point_at v.points p) || is_private_in v (point_at v.points q)) ≡ (private_at v p || private_at v q)
    private_points p q lp lq = (λ i. private_at_is v t.known p lp i || private_at_is v t.known q lq i)

    -- only joined pairs of which one point is private have a bound
    some_weight : (x : Option Cell) → is_some (weight_at x) ≡ true → is_some x ≡ true
    some_weight None h = h
    some_weight (Some c) h = refl

    -- the cell between two places
    pub cell_at : (p q : ℕ) → p < length v.points → q < length v.points → cell_in b (Some p) (Some q) ≡ private_cells private at p q
    cell_at p q lp lq = let many : length points ≡ length v.points = ap length same in cell_is points private at p q (omega arith) (omega arith)

    only_places : (p q : ℕ) → p < length v.points → q < length v.points → is_some (weight_at (private_cells private at p q)) ≡ true
        → IsPrivatePair (record { local = v; order = order; summary = summary }) (point_at v.points p) (point_at v.points q)
    only_places p q lp lq some =
        let flagged = slice_index_or private p false || slice_index_or private q false in
        elim flagged as (λ c. flagged ≡ c → is_some (weight_at (if c then at p q else None)) ≡ true
        → IsPrivatePair (record { local = v; order = order; summary = summary }) (point_at v.points p) (point_at v.points q)) [
          | true ↦ λ is there.
              let owned = sym (private_pair p q lp lq) ∙ is in
              record { joined = s.pairs p q (some_weight (at p q) there) owned; private = private_points p q lp lq ∙ owned }
          | false ↦ λ is there. absurd (false≢true there)
        ] refl some

    only_at : (i j : ℕ) (o u : Option ℕ) → place_in v.points i ≡ o → place_in v.points j ≡ u → is_some (weight_at (cell_in b o u)) ≡ true
        → IsPrivatePair (record { local = v; order = order; summary = summary }) i j
    only_at i j None u first second some = absurd (false≢true some)
    only_at i j (Some p) None first second some = absurd (false≢true some)
    only_at i j (Some p) (Some q) first second some =
        let from = place_found v.points i p first in
        let to = place_found v.points j q second in
        subst (λ x. IsPrivatePair (record { local = v; order = order; summary = summary }) x j) from.1
        (subst (IsPrivatePair (record { local = v; order = order; summary = summary }) (point_at v.points p)) to.1
        (only_places p q from.0 to.0 (ap (λ c. is_some (weight_at c)) (sym (cell_at p q from.0 to.0)) ∙ some)))

    pub swept_only : (i j : ℕ) → is_some (bound_between b i j) ≡ true → IsPrivatePair (record { local = v; order = order; summary = summary }) i j
    swept_only i j some =
        only_at i j (place_in v.points i) (place_in v.points j) refl refl
        (sym (ap (λ ps. is_some (weight_at (cell_in b (place_in ps i) (place_in ps j)))) same) ∙ some)

    -- all places are done
    all_done : (p : ℕ) → p < length v.points → remains done p ≡ true
    all_done p lp = s.places p lp

    -- a least weight of all walks is there, and the least bound
    least_there : (net : Net) → IsNetwork net → IsConsistent (point_count net) (arcs_of net) → (i j : ℕ) → i < point_count net → j < point_count net → i ≢ j
        → (o : Option ℤ) → IsInnerLeast every (arcs_of net) i j o → IsLeastIn net i j o
    least_there net valid consistent i j li lj differ None least =
        let bound = network_bound_there net valid consistent i j li lj in
        let walk = (bound_inner_least (point_count net) (arcs_of net) i j bound.0 differ bound.1).0 in
        least walk.0 walk.1
    least_there net valid consistent i j li lj differ (Some c) least =
        inner_least_bound (point_count net) (arcs_of net) (network_ends net valid) consistent i j c differ least

    below_count : (net : Net) → HasPart net v → (p : ℕ) → p < length v.points → point_at v.points p < point_count net
    below_count net part p lp =
        subst (λ ps. point_at ps p < point_count net) (sym part.points) (points_below net v.agent p 0 (omega (arith, ap length part.points)))

    -- a joined pair of which one point is private stands at two places, and its bound is their final cell's weight
    pub record PairPlaces (i j : ℕ) : Type 0 where
      pub start : ℕ
      pub end : ℕ
      pub start_in : start < length v.points
      pub end_in : end < length v.points
      pub is_start : point_at v.points start ≡ i
      pub is_end : point_at v.points end ≡ j
      pub owned : (private_at v start || private_at v end) ≡ true
      pub cell : cell_in b (place_in b.points i) (place_in b.points j) ≡ at start end

    pub pair_places : (i j : ℕ) → IsPrivatePair (record { local = v; order = order; summary = summary }) i j → PairPlaces i j
    pair_places i j pair =
        let ends = path_ends i j pair.joined.inner pair.joined.path in
        let from = placed i ends.0 in
        let to = placed j ends.1 in
        let p = from.0 in
        let q = to.0 in
        let owned : (private_at v p || private_at v q) ≡ true =
        sym (private_points p q from.1 to.1) ∙ (λ k. is_private_in v (from.2 k) || is_private_in v (to.2 k)) ∙ pair.private in
        record {
          start = p;
          end = q;
          start_in = from.1;
          end_in = to.1;
          is_start = from.2;
          is_end = to.2;
          owned = owned;
          cell = ap (λ ps. cell_in b (place_in ps i) (place_in ps j)) same
              ∙ (λ k. cell_in b (from.3 k) (to.3 k))
              ∙ cell_at p q from.1 to.1 ∙ ap (λ c. if c then at p q else None) (private_pair p q from.1 to.1 ∙ owned);
        }

    pub swept_least : (net : Net) → IsNetwork net → HasPart net v → HoldsFinals net v.agent entries
        → (i j : ℕ) → IsPrivatePair (record { local = v; order = order; summary = summary }) i j → IsLeastIn net i j (bound_between b i j)
    swept_least net valid part holds i j pair =
        let joins = pair.joined in
        let places = pair_places i j pair in
        let p = places.start in
        let q = places.end in
        let low_i : i < point_count net = subst (λ x. x < point_count net) places.is_start (below_count net part p places.start_in) in
        let low_j : j < point_count net = subst (λ x. x < point_count net) places.is_end (below_count net part q places.end_in) in
        let joined_places : IsJoined (arcs_in v) order (point_at v.points p) (point_at v.points q) =
        subst (λ x. IsJoined (arcs_in v) order x (point_at v.points q)) (sym places.is_start)
        (subst (IsJoined (arcs_in v) order i) (sym places.is_end) joins) in
        let least = s.least net valid part holds p q places.start_in places.end_in (all_done p places.start_in) (all_done q places.end_in) joined_places in
        let least_walk : IsInnerLeast every (arcs_of net) i j (weight_at (at p q)) =
        subst (λ x. IsInnerLeast every (arcs_of net) x j (weight_at (at p q))) places.is_start
        (subst (λ y. IsInnerLeast every (arcs_of net) (point_at v.points p) y (weight_at (at p q))) places.is_end least) in
        subst (IsLeastIn net i j) (ap weight_at (sym places.cell))
        (least_there net valid holds.consistent i j low_i low_j joins.different (weight_at (at p q)) least_walk)
