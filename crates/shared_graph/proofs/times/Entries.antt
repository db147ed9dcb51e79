-- Every legal entry keeps what holds of times: start_times, entry_times, replay_times.
use Rattle.std.proofs.Common.{◌≡◌, ℕ, List, [], ◌∷◌, Bool, true, false, not, ◌&&◌, ◌||◌, Some, None, sym, ap, ◌∙◌, refl, arith, subst, inl, length}
use Rattle.std.specs.Prelude.{◌==◌, is_some, if◌then◌else◌}
use Rattle.std.specs.Option.{unwrap_or, option_map}
use Rattle.std.proofs.lemmas.Bool.Decides.{nat_tests}
use Rattle.decoupling_facts.specs.Assignments.{Stands, has_box}
use Rattle.shared_graph.specs.declared.events.By.{By}
use Rattle.shared_graph.specs.declared.events.Entry.{Entry}
use Rattle.shared_graph.specs.declared.events.End.{End}
use Rattle.shared_graph.specs.declared.events.Event.{Event}
use Rattle.shared_graph.specs.declared.events.Event.TheVariants.{Publish, Eliminate, Stop, Revisit, Assign, Widen}
use Rattle.shared_graph.specs.declared.events.Illegal.TheVariants.{NotShared, AlreadyDone}
use Rattle.shared_graph.specs.declared.events.Phase.TheVariants.{Reverse}
use Rattle.shared_graph.specs.Histories.{AreFitting}
use Rattle.shared_graph.specs.Interfaces.{InterfaceView, IsInterface, Summary, is_listed, points_of}
use Rattle.shared_graph.specs.Journals.{IsDone}
use Rattle.shared_graph.specs.Refusals.{refusal, cause_of, not_published, order_open, neighbour_first, first_below}
use Rattle.shared_graph.specs.Replays.{after, replay}
use Rattle.shared_graph.specs.States.{State, Assigned, start, point_id, is_published, is_revisited}
use Rattle.shared_graph.specs.Timed.{setting_in, end_of, times_in, HoldsTimes}
use Rattle.shared_graph.specs.Together.{HoldsTogether}
use Rattle.shared_graph.specs.Weights.{is_joined, is_later, first_passing}
use Rattle.shared_graph.specs.Windows.{assigned_in, is_assigned, is_widened, end_widened}
use Rattle.stn_walk.specs.Eliminations.{is_in}
use Rattle.shared_graph.proofs.states.Keeps.{sound_of, entry_keeps, start_sound, together}
use Rattle.shared_graph.proofs.states.Meetings.{listed_of}
use Rattle.shared_graph.proofs.states.Passing.{no_stop, publish_passes, eliminate_passes, stop_passes, if_none, or_none}
use Rattle.shared_graph.proofs.times.Assigning.{assigned_on}
use Rattle.shared_graph.proofs.times.Widening.{widened_on}

module _ (face : InterfaceView) (s : State) (none : s.assigned ≡ []) where
  no_one : (p : ℕ) → assigned_in s.assigned p ≡ None
  no_one p = ap (λ as_. assigned_in as_ p) none

  zero_only : (p : ℕ) → is_assigned s p ≡ true → p ≡ 0
  zero_only p h = let t : (p == 0) ≡ true = sym (ap (λ o. is_some o || (p == 0)) (no_one p)) ∙ h in grind (arith, nat_tests)

  no_box : (p : ℕ) → has_box (times_in s) p ≡ true → ⊥
  no_box p h = go (p == 0) (ap (λ o. (is_some o || (p == 0)) && not (p == 0)) (sym (no_one p)) ∙ h) where
    go : (b : Bool) → (b && not b) ≡ true → ⊥
    go true g = absurd (cc)
    go false g = absurd (cc)

  none_wide : (p : ℕ) (end : End) → is_widened s p end ≡ true → ⊥
  none_wide p end h = absurd (let off : is_widened s p end ≡ false = ap (λ o. unwrap_or (option_map (end_widened end) o) false) (no_one p) in cc)

  not_joined : (i j : ℕ) → i ≡ 0 → j ≡ 0 → is_joined face s i j ≡ true → ⊥
  not_joined i j one two h = absurd (let same : (i == j) ≡ true = (let e : i ≡ j = one ∙ sym two in grind (arith, nat_tests)) in go (i == j) same _ h) where
    go : (b : Bool) → b ≡ true → (c : Bool) → (not b && c) ≡ true → ⊥
    go true t c g = absurd (cc)
    go false t c g = absurd (cc)

  stands : Stands (setting_in face s) (times_in s)
  stands = record {
    zero_set = ap (λ o. is_some o || true) (no_one 0);
    zero_value = refl;
    only = λ k set. inl (zero_only k set);
    upward = λ i j set apart n. absurd (apart (zero_only i set));
    keeps = λ i j set_i set_j met. absurd (not_joined i j (zero_only i set_i) (zero_only j set_j) met);
    boxes = record {
      low = λ k b. absurd (no_box k b);
      low_value = λ k b. absurd (no_box k b);
      value_high = λ k b. absurd (no_box k b);
      high = λ k b. absurd (no_box k b);
      apart = λ a c from to. absurd (no_box a.from.0 from);
    };
    plain_low = λ k b w. absurd (no_box k b);
    plain_high = λ k b w. absurd (no_box k b);
    whole = λ w k t. absurd (none_wide w.0 (end_of w.1) t);
    tight = λ w t. absurd (none_wide w.0 (end_of w.1) t);
  }

  pub start_times : HoldsTimes face s
  start_times = record {
    listed = λ k h. absurd (let e = no_one k in cc);
    revisited = λ k h. absurd (let e = no_one k in cc);
    stands = stands;
  }

module _ (face : InterfaceView) (known : IsInterface face) (summaries : List Summary) where
  module _ (s : State) (holds_all : HoldsTogether face s) (holds : HoldsTimes face s) where
    -- once a point has a time, nothing of the phases before is legal
    module _ (p : ℕ) (timed : is_some (assigned_in s.assigned p) ≡ true) where
      done : IsDone face s Reverse
      done = holds.revisited p timed

      past_publish : (by : By) (a : ℕ) → cause_of face s by (Publish (record { 0 = a })) ≡ None → ⊥
      past_publish by a h =
          absurd (let new = publish_passes face s by a h in
          let old = (holds_all.revisits p (done p (holds.listed p timed))).all_published a new.0 in
          let fresh = new.1 in
          cc)

      past_order : (k : ℕ) → is_listed face k ≡ true → is_in s.order k ≡ false → ⊥
      past_order k listed fresh = absurd (let old = (holds_all.revisits k (done k listed)).whole k listed in cc)

      past_revisit : (by : By) (k : ℕ) → cause_of face s by (Revisit (point_id k)) ≡ None → ⊥
      past_revisit by k h =
          absurd (let one = if_none (not (is_listed face k)) NotShared _ h in
          let two = or_none (option_map not_published (first_below (λ a. not (is_published s a)) (length face.leans))) _ one.1 in
          let three = or_none (option_map order_open (first_passing (λ q. not (is_in s.order q)) (points_of face))) _ two.1 in
          let four = if_none (is_in s.revisited k) AlreadyDone
          (option_map neighbour_first (first_passing (λ q. is_later face s k q && not (is_revisited s q)) (0 ∷ points_of face))) three.1 in
          let fresh = four.0 in
          let listed : is_listed face k ≡ true = (let off = one.0 in is_true (is_listed face k) off) in
          let old = done k listed in
          cc) where
            is_true : (b : Bool) → not b ≡ false → b ≡ true
            is_true true g = refl
            is_true false g = absurd (cc)

      past : (by : By) (event : Event) → cause_of face s by event ≡ None → HoldsTimes face (after face summaries s event)
      past by (Publish a) h = absurd (past_publish by a.0 h)
      past by (Eliminate k) h = absurd (let e = eliminate_passes face s by k.0 h in past_order k.0 (listed_of face k.0 e.0.0 e.0.1) e.1)
      past by (Stop k i) h = absurd (let e = stop_passes face s by k.0 i.0 h in past_order k.0 (listed_of face k.0 e.0.0 e.0.1) e.1)
      past by (Revisit k) h = absurd (past_revisit by k.0 h)
      past by (Assign k v) h = assigned_on face known summaries s holds_all holds by k.0 v h
      past by (Widen k end) h = widened_on face known summaries s holds_all holds by k.0 end h

    early : s.assigned ≡ [] → (by : By) (event : Event) → cause_of face s by event ≡ None → HoldsTimes face (after face summaries s event)
    early none by (Publish a) h = start_times face (after face summaries s (Publish a)) none
    early none by (Eliminate k) h = start_times face (after face summaries s (Eliminate k)) none
    early none by (Stop k i) h = start_times face (after face summaries s (Stop k i)) none
    early none by (Revisit k) h = start_times face (after face summaries s (Revisit k)) none
    early none by (Assign k v) h = assigned_on face known summaries s holds_all holds by k.0 v h
    early none by (Widen k end) h = widened_on face known summaries s holds_all holds by k.0 end h

    pub entry_times : (e : Entry) → refusal face s e ≡ None → HoldsTimes face (after face summaries s e.event)
    entry_times e legal = go s.assigned refl where
      go : (as_ : List Assigned) → s.assigned ≡ as_ → HoldsTimes face (after face summaries s e.event)
      go [] is = early is e.by e.event (no_stop face s e legal).1
      go (a ∷ as_) is = past a.point (first a as_ is) e.by e.event (no_stop face s e legal).1 where
        first : (a : Assigned) (as_ : List Assigned) → s.assigned ≡ a ∷ as_ → is_some (assigned_in s.assigned a.point) ≡ true
        first a as_ is =
            let same : (a.point == a.point) ≡ true = grind (arith, nat_tests) in
            ap (λ xs. is_some (assigned_in xs a.point)) is ∙ ap (λ b. is_some (if b then Some a else assigned_in as_ a.point)) same

  pub replay_times : AreFitting face summaries → (es : List Entry) (s last : State) → HoldsTogether face s → HoldsTimes face s
      → replay face summaries s es ≡ Some last → HoldsTimes face last
  replay_times fits [] s last all holds h = (let e : s ≡ last = cc in subst (HoldsTimes face) e holds)
  replay_times fits (e ∷ es) s last all holds h =
      elim (refusal face s e) as (λ o. refusal face s e ≡ o → (if is_some o then None else replay face summaries (after face summaries s e.event) es)
      ≡ Some last → HoldsTimes face last) [
        | None ↦ λ is g. replay_times fits es (after face summaries s e.event) last
            (together face known (after face summaries s e.event) (entry_keeps face known summaries fits s e (sound_of face known s all) is))
            (entry_times s all holds e is) g
        | Some c ↦ λ is g. absurd (cc)
      ] refl h

  pub replayed_times : AreFitting face summaries → (es : List Entry) (s : State) → replay face summaries start es ≡ Some s → HoldsTimes face s
  replayed_times fits es s is = replay_times fits es start s (together face known start (start_sound face known)) (start_times face start refl) is
