-- Times and widened ends stay, and each time lies in its box: entries_go_on, lies_inside.
use Rattle.std.proofs.Common.{◌≡◌, ◌≢◌, ℕ, List, [], ◌∷◌, Bool, true, false, not, ◌&&◌, ◌||◌, Option, Some, None, sym, ap, ◌∙◌, refl, arith, inl, inr}
use Rattle.std.specs.Prelude.{ℤ, pos, ◌==◌, is_some, if◌then◌else◌}
use Rattle.std.specs.Option.{unwrap_or, option_map}
use Rattle.std.proofs.lemmas.Bool.{cases_eq, ne_eqb}
use Rattle.std.proofs.lemmas.Bool.Decides.{nat_tests}
use Rattle.std.proofs.lemmas.Int.{ints}
use Rattle.decoupling_facts.specs.Assignments.{has_box}
use Rattle.shared_graph.specs.declared.events.By.{By}
use Rattle.shared_graph.specs.declared.events.Entry.{Entry}
use Rattle.shared_graph.specs.declared.events.End.{End}
use Rattle.shared_graph.specs.declared.events.End.TheVariants.{Low, High}
use Rattle.shared_graph.specs.declared.events.Event.{Event}
use Rattle.shared_graph.specs.declared.events.Event.TheVariants.{Publish, Eliminate, Stop, Revisit, Assign, Widen}
use Rattle.shared_graph.specs.declared.events.Illegal.TheVariants.{NotShared, AlreadyDone}
use Rattle.shared_graph.specs.Interfaces.{InterfaceView, IsInterface, Summary, is_listed, points_of}
use Rattle.shared_graph.specs.Refusals.{refusal, cause_of, order_open}
use Rattle.shared_graph.specs.Replays.{after, replay}
use Rattle.shared_graph.specs.States.{State, Assigned, point_id}
use Rattle.shared_graph.specs.Timed.{bound_in, times_in, HoldsTimes}
use Rattle.shared_graph.specs.TimedLaws.{GoesOn, IsInside}
use Rattle.shared_graph.specs.Weights.{final, first_passing}
use Rattle.shared_graph.specs.Windows.{assigned_in, is_assigned, low_in, high_in, is_widened, end_widened, moved, moved_at, widest}
use Rattle.stn_walk.specs.Eliminations.{is_in}
use Rattle.shared_graph.proofs.states.Meetings.{listed_not_z}
use Rattle.shared_graph.proofs.states.Passing.{no_stop, if_none, or_none}
use Rattle.shared_graph.proofs.times.Widening.{moved_here, moved_other, widen_passes}

-- the same times and ends
stays : (s t : State) → t.assigned ≡ s.assigned → GoesOn s t
stays s t same = record {
  values = λ p v h. ap (λ as_. if p == 0 then Some (pos 0) else option_map (λ (a : Assigned). a.value) (assigned_in as_ p)) same ∙ h;
  lows = λ p h. (
    ap (λ as_. unwrap_or (option_map (end_widened Low) (assigned_in as_ p)) false) same ∙ h,
    ap (λ as_. option_map (λ (a : Assigned). a.lo) (assigned_in as_ p)) same,
  );
  highs = λ p h. (
    ap (λ as_. unwrap_or (option_map (end_widened High) (assigned_in as_ p)) false) same ∙ h,
    ap (λ as_. option_map (λ (a : Assigned). a.hi) (assigned_in as_ p)) same,
  );
}

-- a state in which each assigned point has its time, and its ends where they were widened
goes : (s t : State) → ((p : ℕ) (a : Assigned) → assigned_in s.assigned p ≡ Some a → (b : Assigned) × (assigned_in t.assigned p ≡ Some b) × (b.value ≡ a.value)
    × (a.low_widened ≡ true → (b.low_widened ≡ true) × (b.lo ≡ a.lo)) × (a.high_widened ≡ true → (b.high_widened ≡ true) × (b.hi ≡ a.hi)))
    → GoesOn s t
goes s t each = record {
  values = λ p v h. value p v (p == 0) (assigned_in s.assigned p) refl h;
  lows = λ p h. low p (assigned_in s.assigned p) refl h;
  highs = λ p h. high p (assigned_in s.assigned p) refl h;
} where
  value : (p : ℕ) (v : ℤ) (b : Bool) (o : Option Assigned) → assigned_in s.assigned p ≡ o
      → (if b then Some (pos 0) else option_map (λ (a : Assigned). a.value) o) ≡ Some v
      → (if b then Some (pos 0) else option_map (λ (a : Assigned). a.value) (assigned_in t.assigned p)) ≡ Some v
  value p v true o is h = h
  value p v false None is h = absurd (cc)
  value p v false (Some a) is h =
      let b = each p a is in
      ap (λ o. option_map (λ (x : Assigned). x.value) o) b.1 ∙ ap (λ x. Some x) b.2 ∙ h

  low : (p : ℕ) (o : Option Assigned) → assigned_in s.assigned p ≡ o → unwrap_or (option_map (end_widened Low) o) false ≡ true
      → (is_widened t p Low ≡ true) × (low_in t p ≡ low_in s p)
  low p None is h = absurd (cc)
  low p (Some a) is h =
      let b = each p a is in
      let ends = b.3 h in (
        ap (λ o. unwrap_or (option_map (end_widened Low) o) false) b.1 ∙ ends.0,
        ap (λ o. option_map (λ (x : Assigned). x.lo) o) b.1 ∙ ap (λ x. Some x) ends.1 ∙ sym (ap (λ o. option_map (λ (x : Assigned). x.lo) o) is),
      )

  high : (p : ℕ) (o : Option Assigned) → assigned_in s.assigned p ≡ o → unwrap_or (option_map (end_widened High) o) false ≡ true
      → (is_widened t p High ≡ true) × (high_in t p ≡ high_in s p)
  high p None is h = absurd (cc)
  high p (Some a) is h =
      let b = each p a is in
      let ends = b.4 h in (
        ap (λ o. unwrap_or (option_map (end_widened High) o) false) b.1 ∙ ends.0,
        ap (λ o. option_map (λ (x : Assigned). x.hi) o) b.1 ∙ ap (λ x. Some x) ends.1 ∙ sym (ap (λ o. option_map (λ (x : Assigned). x.hi) o) is),
      )

module _ (face : InterfaceView) (summaries : List Summary) where
  -- a new point had no time
  assigning : (s : State) (by : By) (k : ℕ) (v : ℤ) → cause_of face s by (Assign (point_id k) v) ≡ None
      → GoesOn s (after face summaries s (Assign (point_id k) v))
  assigning s by k v h = goes s (after face summaries s (Assign (point_id k) v))
      (λ p a is. (a, old p a is, refl, (λ w. (w, refl)), (λ w. (w, refl)))) where
        fresh : is_assigned s k ≡ false
        fresh =
            let one = if_none (not (is_listed face k)) NotShared _ h in
            let two = or_none (option_map order_open (first_passing (λ p. not (is_in s.revisited p)) (points_of face))) _ one.1 in
            (if_none (is_assigned s k) AlreadyDone _ two.1).0

        old : (p : ℕ) (a : Assigned) → assigned_in s.assigned p ≡ Some a → assigned_in (after face summaries s (Assign (point_id k) v)).assigned p ≡ Some a
        old p a is =
            let ne : p ≢ k = λ e.
            (let none : is_assigned s p ≡ false = ap (is_assigned s) e ∙ fresh in
            let some : is_assigned s p ≡ true = ap (λ o. is_some o || (p == 0)) is in
            absurd (cc)) in
            let off : (p == k) ≡ false = grind (arith, nat_tests) in
            ap (λ b. if b then Some (record { point = k; value = v; lo = v; hi = v; low_widened = false; high_widened = false }) else assigned_in s.assigned p) off
            ∙ is

  -- the end that moves was not widened
  widening : (s : State) (by : By) (k : ℕ) (end : End) → cause_of face s by (Widen (point_id k) end) ≡ None
      → GoesOn s (after face summaries s (Widen (point_id k) end))
  widening s by k end h = goes s (after face summaries s (Widen (point_id k) end)) each where
    fresh : is_widened s k end ≡ false
    fresh = (widen_passes face s by k end h).2

    keep : (end : End) (to : Option ℤ) (a : Assigned) → end_widened end a ≡ false
        → ((moved end to a).value ≡ a.value) × (a.low_widened ≡ true → ((moved end to a).low_widened ≡ true) × ((moved end to a).lo ≡ a.lo))
        × (a.high_widened ≡ true → ((moved end to a).high_widened ≡ true) × ((moved end to a).hi ≡ a.hi))
    keep Low to a off = (refl, (λ w. absurd (cc)), (λ w. (w, refl)))
    keep High to a off = (refl, (λ w. (w, refl)), (λ w. absurd (cc)))

    each : (p : ℕ) (a : Assigned) → assigned_in s.assigned p ≡ Some a → (b : Assigned)
        × (assigned_in (moved_at k end (widest end face s k) s.assigned) p ≡ Some b) × (b.value ≡ a.value)
        × (a.low_widened ≡ true → (b.low_widened ≡ true) × (b.lo ≡ a.lo)) × (a.high_widened ≡ true → (b.high_widened ≡ true) × (b.hi ≡ a.hi))
    each p a is = elim (cases_eq p k) [
      | inl e ↦
          (let at : assigned_in s.assigned k ≡ Some a = ap (assigned_in s.assigned) (sym e) ∙ is in
          let off : end_widened end a ≡ false = sym (ap (λ o. unwrap_or (option_map (end_widened end) o) false) at) ∙ fresh in (
            moved end (widest end face s k) a,
            ap (assigned_in (moved_at k end (widest end face s k) s.assigned)) e ∙ moved_here k end (widest end face s k) s.assigned
                ∙ ap (λ o. option_map (moved end (widest end face s k)) o) at,
            (keep end (widest end face s k) a off).0,
            (keep end (widest end face s k) a off).1,
            (keep end (widest end face s k) a off).2,
          ))
      | inr ne ↦ (a, moved_other k end (widest end face s k) s.assigned p ne ∙ is, refl, (λ w. (w, refl)), (λ w. (w, refl)))
    ]

  entry_goes : (s : State) (by : By) (event : Event) → cause_of face s by event ≡ None → GoesOn s (after face summaries s event)
  entry_goes s by (Publish a) h = stays s (after face summaries s (Publish a)) refl
  entry_goes s by (Eliminate k) h = stays s (after face summaries s (Eliminate k)) refl
  entry_goes s by (Stop k i) h = stays s (after face summaries s (Stop k i)) refl
  entry_goes s by (Revisit k) h = stays s (after face summaries s (Revisit k)) refl
  entry_goes s by (Assign k v) h = assigning s by k.0 v h
  entry_goes s by (Widen k end) h = widening s by k.0 end h

  further : (s m t : State) → GoesOn s m → GoesOn m t → GoesOn s t
  further s m t g h = record {
    values = λ p v is. h.values p v (g.values p v is);
    lows = λ p w. let one = g.lows p w in let two = h.lows p one.0 in (two.0, two.1 ∙ one.1);
    highs = λ p w. let one = g.highs p w in let two = h.highs p one.0 in (two.0, two.1 ∙ one.1);
  }

  pub entries_go_on : (es : List Entry) (s t : State) → replay face summaries s es ≡ Some t → GoesOn s t
  entries_go_on [] s t h = stays s t (let e : s ≡ t = cc in ap (λ (x : State). x.assigned) (sym e))
  entries_go_on (e ∷ es) s t h =
      elim (refusal face s e) as (λ o. refusal face s e ≡ o → (if is_some o then None else replay face summaries (after face summaries s e.event) es)
      ≡ Some t → GoesOn s t) [
        | None ↦ λ legal g. further s (after face summaries s e.event) t (entry_goes s e.by e.event (no_stop face s e legal).1)
            (entries_go_on es (after face summaries s e.event) t g)
        | Some c ↦ λ legal g. absurd (cc)
      ] refl h

-- a point in the list stands there by its number
point_is : (as_ : List Assigned) (k : ℕ) (a : Assigned) → assigned_in as_ k ≡ Some a → a.point ≡ k
point_is [] k a h = absurd (cc)
point_is (x ∷ as_) k a h =
    elim (k == x.point) as (λ b. (k == x.point) ≡ b → (if b then Some x else assigned_in as_ k) ≡ Some a → a.point ≡ k) [
      | true ↦ λ t g. (let e : k ≡ x.point = grind (arith, nat_tests) in let same : x ≡ a = cc in sym (ap (λ (y : Assigned). y.point) same) ∙ sym e)
      | false ↦ λ t g. point_is as_ k a g
    ] refl h

pub lies_inside : (face : InterfaceView) → IsInterface face → (s : State) → HoldsTimes face s → (k : ℕ) (a : Assigned) → assigned_in s.assigned k ≡ Some a
    → (a.point ≡ k) × IsInside face s a
lies_inside face known s holds k a is =
    let point = point_is s.assigned k a is in
    let apart : k ≢ 0 = listed_not_z face known k (holds.listed k (ap is_some is)) in
    let off : (k == 0) ≡ false = ne_eqb k 0 apart in
    let boxed : has_box (times_in s) k ≡ true = (λ t. (is_some (is t) || (k == 0)) && not (off t)) in
    let value : (times_in s).value k ≡ a.value = (λ t. unwrap_or (if off t then Some (pos 0) else option_map (λ (x : Assigned). x.value) (is t)) (pos 0)) in
    let lo : (times_in s).ends.lo k ≡ a.lo = ap (λ o. unwrap_or (option_map (λ (x : Assigned). x.lo) o) (pos 0)) is in
    let hi : (times_in s).ends.hi k ≡ a.hi = ap (λ o. unwrap_or (option_map (λ (x : Assigned). x.hi) o) (pos 0)) is in
    let one = holds.stands.boxes.low k boxed in
    let two = holds.stands.boxes.low_value k boxed in
    let three = holds.stands.boxes.value_high k boxed in
    let four = holds.stands.boxes.high k boxed in (
      point,
      record {
        above = omega (arith, ints);
        below = omega (arith, ints);
        low = λ b cell.
            (let e : bound_in face s k 0 ≡ b = ap (λ o. unwrap_or o (pos 0)) (ap (λ p. final face s p 0) (sym point) ∙ cell) in omega (arith, ints));
        high = λ b cell.
            (let e : bound_in face s 0 k ≡ b = ap (λ o. unwrap_or o (pos 0)) (ap (λ p. final face s 0 p) (sym point) ∙ cell) in omega (arith, ints));
      },
    )
