-- What a stop, a whole order and final weights of a replayed state mean for the network.
use Rattle.std.proofs.Common.{◌≡◌, ◌≢◌, ℕ, List, ◌∷◌, Bool, true, false, ◌||◌, ◌&&◌, not, Option, Some, None, ap, sym, ◌∙◌, refl, arith, inl, inr, map, subst}
use Rattle.std.specs.Prelude.{ℤ, pos, ◌+ℤ◌, ◌<ℤ◌, ◌==◌, nat_eq}
use Rattle.std.proofs.lemmas.Bool.{and_parts, not-true, or_cases}
use Rattle.std.proofs.lemmas.Bool.Decides.{nat_tests}
use Rattle.std.proofs.lemmas.Int.{ints}
use Rattle.stn_model.specs.Net.{Net, arcs_of, point_count}
use Rattle.stn_model.specs.Valid.{IsNetwork}
use Rattle.stn_model.specs.Kinds.{is_shared}
use Rattle.stn_model.specs.ArcWalks.{IsInnerLeast}
use Rattle.stn_model.specs.Schedules.{IsConsistent, IsLeastBound}
use Rattle.stn_walk.specs.Eliminations.{is_in}
use Rattle.stn_walk.proofs.Eliminations.{before-whole}
use Rattle.meeting_arcs.specs.Sides.{NegativeClosed}
use Rattle.meeting_arcs.specs.Meeting.{meets, IsMeeting}
use Rattle.meeting_arcs.proofs.Agreements.{entries_of, failing_cells, order_decides, weights_are_bounds}
use Rattle.shared_graph.specs.declared.events.SharedCycle.{SharedCycle}
use Rattle.shared_graph.specs.declared.events.Entry.{Entry}
use Rattle.shared_graph.specs.Interfaces.{Summary, IsInterface, points_of, is_listed, interface_of}
use Rattle.shared_graph.specs.States.{State, start, is_revisited, meeting_of}
use Rattle.shared_graph.specs.Weights.{forward, is_joined, final, final_weight, is_negative, sums_below}
use Rattle.shared_graph.specs.Replays.{plain_entries, AreRight, replay}
use Rattle.shared_graph.specs.Together.{IsAllPublished, IsWhole}
use Rattle.shared_graph.proofs.states.Passing.{passing_some}
use Rattle.shared_graph.proofs.states.Meetings.{IsPlace}
use Rattle.shared_graph.proofs.states.Keeps.{IsSound, start_sound, replay_sound, cells_hold, whole_there, finals_hold, revisited_whole, revisited_place}
use Rattle.shared_graph.proofs.states.Listed.{AreListed, listed_replay, start_listed}
use Rattle.shared_graph.proofs.networks.Networks.{summaries_fit, state_only, state_meeting}
use Rattle.shared_graph.proofs.interfaces.SharedPoints.{interface_is, shared_listed_in, listed_is_shared, meets_shared}

-- two cells that sum below 0 are there
pub below_there : (x y : Option ℤ) → sums_below x y ≡ true → (a : ℤ) × (b : ℤ) × (x ≡ Some a) × (y ≡ Some b) × ((a +ℤ b) <ℤ pos 0)
below_there None y h = absurd (cc)
below_there (Some a) None h = absurd (cc)
below_there (Some a) (Some b) h = (a, b, refl, refl, grind (arith, ints))

pub three_true : (a b c : Bool) → (a && b && c) ≡ true → (a ≡ true) × (b ≡ true) × (c ≡ true)
three_true true true c h = (refl, refl, h)
three_true true false c h = absurd (cc)
three_true false b c h = absurd (cc)

module _ (net : Net) (valid : IsNetwork net) (summaries : List Summary) (right : AreRight net summaries) (es : List Entry) (s : State)
    (is : replay (interface_of net) summaries start es ≡ Some s) where
  abbrev known : IsInterface (interface_of net)
  known = interface_is net valid

  pub sound : IsSound (interface_of net) s
  sound = replay_sound (interface_of net) known summaries (summaries_fit net valid summaries right) es start s (start_sound (interface_of net) known) is

  listed : AreListed (interface_of net) summaries s.published
  listed = listed_replay (interface_of net) summaries es start s (start_listed (interface_of net) summaries) is

  -- the cells at a stop show a negative closed walk
  pub stop_shows : (t : SharedCycle) → s.stop ≡ Some t → NegativeClosed (meeting_of (interface_of net) s) × (IsConsistent (point_count net) (arcs_of net) → ⊥)
  stop_shows t stopped =
      let stop = sound.stops t stopped in
      let k = t.point.0 in
      let p = t.other.0 in
      let bad : is_negative (interface_of net) s k p ≡ true =
      passing_some (is_negative (interface_of net) s k) (0 ∷ points_of (interface_of net)) p stop.least in
      let parts = three_true (not (is_in s.order p)) (not (p == k)) (sums_below (forward (interface_of net) s k p) (forward (interface_of net) s p k)) bad in
      let out : is_in s.order p ≡ false = not-true (is_in s.order p) parts.0 in
      let cells = below_there (forward (interface_of net) s k p) (forward (interface_of net) s p k) parts.2 in
      let there : IsInnerLeast (is_in s.order) (meeting_of (interface_of net) s) k p (forward (interface_of net) s k p) =
      subst (λ xs. IsInnerLeast (is_in xs) (meeting_of (interface_of net) s) k p (forward (interface_of net) s k p)) (before-whole s.order k p stop.outside out)
      (cells_hold (interface_of net) known s sound k p) in
      let back : IsInnerLeast (is_in s.order) (meeting_of (interface_of net) s) p k (forward (interface_of net) s p k) =
      subst (λ xs. IsInnerLeast (is_in xs) (meeting_of (interface_of net) s) p k (forward (interface_of net) s p k)) (before-whole s.order p k out stop.outside)
      (cells_hold (interface_of net) known s sound p k) in
      failing_cells net valid (map plain_entries summaries) (meeting_of (interface_of net) s) (entries_of net (map plain_entries summaries) right)
      (state_only net valid summaries right s listed) (is_in s.order) k p cells.0 cells.1
      (subst (IsInnerLeast (is_in s.order) (meeting_of (interface_of net) s) k p) cells.2 there)
      (subst (IsInnerLeast (is_in s.order) (meeting_of (interface_of net) s) p k) cells.3 back)
      cells.4

  module _ (all : IsAllPublished (interface_of net) s) (whole : IsWhole (interface_of net) s) where
    meeting : IsMeeting net (map plain_entries summaries) (meeting_of (interface_of net) s)
    meeting = state_meeting net valid summaries right s listed all

    -- a whole order without a negative closed walk decides
    pub whole_shows : IsConsistent (point_count net) (arcs_of net)
    whole_shows = (order_decides net valid (map plain_entries summaries) (meeting_of (interface_of net) s) right meeting s.order
        (λ p h other. whole p (listed_of_meets p h other))).0 sound.none_below where
          listed_of_meets : (p : ℕ) → meets net p ≡ true → p ≢ 0 → is_listed (interface_of net) p ≡ true
          listed_of_meets p h other = elim (or_cases (nat_eq p 0) (is_shared net p) h) [
            | inl z ↦ absurd (let e : p ≡ 0 = grind (arith, nat_tests) in other e)
            | inr shared ↦ shared_listed_in net valid p shared
          ]

    place_of : (p : ℕ) → meets net p ≡ true → IsPlace (interface_of net) p
    place_of p h = elim (or_cases (nat_eq p 0) (is_shared net p) h) [
      | inl z ↦ inl (grind (arith, nat_tests))
      | inr shared ↦ inr (shared_listed_in net valid p shared)
    ]

    -- least weights of all walks are least bounds
    pub weights_bound : (i j : ℕ) → meets net i ≡ true → meets net j ≡ true → i ≢ j
        → (b : ℤ) × (final_weight (interface_of net) s i j ≡ Some b) × IsLeastBound (point_count net) (arcs_of net) i j b
    weights_bound i j one two apart =
        let there = whole_there (interface_of net) known s sound whole i j (place_of i one) (place_of j two) apart in (
          there.0,
          there.1,
          (weights_are_bounds net valid (map plain_entries summaries)
              (meeting_of (interface_of net) s) right meeting i j one two apart whole_shows there.0).0 there.2,
        )

  -- so final cells are
  pub finals_bound : (i j : ℕ) → is_joined (interface_of net) s i j ≡ true → is_revisited s i ≡ true → is_revisited s j ≡ true
      → (b : ℤ) × (final (interface_of net) s i j ≡ Some b) × IsLeastBound (point_count net) (arcs_of net) i j b
  finals_bound i j joined one two =
      let apart : i ≢ j = (let d = (and_parts (not (i == j)) _ joined).0 in grind (arith, nat_tests)) in
      let whole = revisited_whole (interface_of net) known s sound i j apart one two in
      let all = revisited_all i j apart one two in
      let there = finals_hold (interface_of net) known s sound i j joined one two in
      let meeting = state_meeting net valid summaries right s listed all in (
        there.0,
        there.1,
        (weights_are_bounds net valid (map plain_entries summaries) (meeting_of (interface_of net) s) right meeting i j
            (meets_of i (revisited_place (interface_of net) known s sound i one))
            (meets_of j (revisited_place (interface_of net) known s sound j two)) apart (whole_shows all whole) there.0).0 there.2,
      ) where
        meets_of : (p : ℕ) → IsPlace (interface_of net) p → meets net p ≡ true
        meets_of p (inl z) = (let e : nat_eq p 0 ≡ true = grind (arith, nat_tests) in ap (λ b. b || is_shared net p) e)
        meets_of p (inr shared) = meets_shared net valid p (listed_is_shared net valid p shared)

        revisited_all : (i j : ℕ) → i ≢ j → is_revisited s i ≡ true → is_revisited s j ≡ true → IsAllPublished (interface_of net) s
        revisited_all i j apart one two = elim (or_cases (is_in s.revisited i) (i == 0) one) [
          | inl done ↦ (sound.revisits i done).all_published
          | inr z ↦ elim (or_cases (is_in s.revisited j) (j == 0) two) [
            | inl done ↦ (sound.revisits j done).all_published
            | inr also ↦ absurd (let a : i ≡ 0 = grind (arith, nat_tests) in let b : j ≡ 0 = grind (arith, nat_tests) in apart (a ∙ sym b))
          ]
        ]
