-- A time in the window of the next point keeps what stands: assign_passes, open_window, assigned_on.
use Rattle.std.proofs.Common.{◌≡◌, ◌≢◌, ℕ, List, ◌∷◌, Bool, true, false, not, ◌&&◌, ◌||◌, Option, Some, None, sym, ap, ◌∙◌, refl, arith, subst, inl, inr, ◌⊎◌}
use Rattle.std.specs.Prelude.{◌↔◌, ℤ, pos, neg_ℤ, ◌+ℤ◌, ◌≤ℤ◌, ◌==◌, is_some, if◌then◌else◌, reverse}
use Rattle.std.specs.Option.{unwrap_or, option_map}
use Rattle.std.specs.Ordering.{int_eq}
use Rattle.std.proofs.lemmas.Bool.{and_parts, ne_eqb, cases_eq}
use Rattle.std.proofs.lemmas.Bool.Decides.{nat_tests}
use Rattle.std.proofs.lemmas.Int.{ints}
use Rattle.stn_model.specs.declared.ids.Lean.{Lean}
use Rattle.stn_model.specs.declared.ids.Lean.TheVariants.{Early, Late, Middle}
use Rattle.stn_model.specs.Joined.{IsLaterNeighbour}
use Rattle.stn_walk.specs.Eliminations.{is_in, sum_of}
use Rattle.stn_walk.proofs.Finals.{IsLeastOf, IsUpper}
use Rattle.decoupling_facts.specs.Assignments.{IsAssignable, IsAssigned}
use Rattle.decoupling_facts.specs.Windows.{LeavesWindow, lean_time}
use Rattle.decoupling_facts.proofs.Assignments.{assigned_stands, window_open}
use Rattle.decoupling_facts.proofs.Windows.{lean_within}
use Rattle.shared_graph.specs.declared.events.By.{By}
use Rattle.shared_graph.specs.declared.events.End.{End}
use Rattle.shared_graph.specs.declared.events.End.TheVariants.{Low, High}
use Rattle.shared_graph.specs.declared.events.Event.TheVariants.{Assign}
use Rattle.shared_graph.specs.declared.events.Illegal.TheVariants.{NotShared, AlreadyDone, WrongValue}
use Rattle.shared_graph.specs.Interfaces.{InterfaceView, IsInterface, Summary, is_listed, points_of}
use Rattle.shared_graph.specs.Refusals.{cause_of, order_open, neighbour_first, wrong_value}
use Rattle.shared_graph.specs.Replays.{after}
use Rattle.shared_graph.specs.States.{State, Assigned, point_id, meeting_of}
use Rattle.shared_graph.specs.Timed.{bound_in, setting_in, end_of, times_in, HoldsTimes, IsNextTimed}
use Rattle.shared_graph.specs.TimedLaws.{IsOpen}
use Rattle.shared_graph.specs.Together.{HoldsTogether}
use Rattle.shared_graph.specs.Weights.{is_joined, is_later, final, later_neighbours, least_over, first_passing}
use Rattle.shared_graph.specs.Windows.{assigned_in, is_assigned, value_in, is_widened, end_widened, negated, window_low, window_high}
use Rattle.shared_graph.specs.Windows.{chosen, lean_in, kept_value}
use Rattle.shared_graph.proofs.cells.Revisits.{filter_in, in_filter, least_over_is}
use Rattle.shared_graph.proofs.graphs.FirstTimes.{later_z}
use Rattle.shared_graph.proofs.states.Keeps.{sound_of, later_place, in_places}
use Rattle.shared_graph.proofs.states.Meetings.{listed_not_z}
use Rattle.shared_graph.proofs.states.Passing.{if_none, or_none, map_none, not_false, passing_none, listed_in}
use Rattle.shared_graph.proofs.times.Later.{later_is}
use Rattle.shared_graph.proofs.times.Settings.{setting_holds, final_there, joined_back, done_order}

-- a point with a time has a value
pub value_there : (s : State) (p : ℕ) → is_assigned s p ≡ true → value_in s p ≡ Some (unwrap_or (value_in s p) (pos 0))
value_there s p h =
    elim (p == 0) as (λ b. (is_some (assigned_in s.assigned p) || b) ≡ true
    → (if b then Some (pos 0) else option_map (λ a. a.value) (assigned_in s.assigned p))
    ≡ Some (unwrap_or (if b then Some (pos 0) else option_map (λ a. a.value) (assigned_in s.assigned p)) (pos 0))) [
      | true ↦ λ g. refl
      | false ↦ λ g. there (assigned_in s.assigned p) g
    ] h where
      there : (o : Option Assigned) → (is_some o || false) ≡ true
          → option_map (λ (a : Assigned). a.value) o ≡ Some (unwrap_or (option_map (λ (a : Assigned). a.value) o) (pos 0))
      there None g = absurd (cc)
      there (Some a) g = refl

-- the least of numbers that are all there
pub record IsLeastThere (f : ℕ → ℤ) (xs : List ℕ) (o : Option ℤ) : Type 0 where
  pub least : ℤ
  pub is : o ≡ Some least
  pub met : (j : ℕ) × (is_in xs j ≡ true) × (least ≡ f j)
  pub below : (j : ℕ) → is_in xs j ≡ true → least ≤ℤ f j

least_there : (f : ℕ → ℤ) (number : ℕ → Option ℤ) (xs : List ℕ) (first : ℕ) → is_in xs first ≡ true
    → ((j : ℕ) → is_in xs j ≡ true → number j ≡ Some (f j)) → IsLeastThere f xs (least_over number xs)
least_there f number xs first among each = go (least_over number xs) refl (least_over_is number xs) where
  go : (o : Option ℤ) → least_over number xs ≡ o → IsLeastOf (is_in xs) number o → IsLeastThere f xs (least_over number xs)
  go None is h = absurd (let none = h first among in let some = each first among in cc)
  go (Some m) is h = record {
    least = m;
    is = is;
    met = (h.0.0, h.0.1, (let some = each h.0.0 h.0.1 in let none = h.0.2 in cc));
    below = λ j t. subst (IsUpper m) (each j t) (h.1 j t);
  }

chosen_is : (lean : Lean) (low high : ℤ) → chosen lean (Some low) (Some high) ≡ Some (lean_time lean low high)
chosen_is Early low high = refl
chosen_is Late low high = refl
chosen_is Middle low high = refl

kept_given : (o : Option ℤ) (kept given : ℤ) → o ≡ Some kept → wrong_value o given ≡ None → given ≡ kept
kept_given None kept given is h = absurd (cc)
kept_given (Some v) kept given is h =
    let same : v ≡ kept = cc in
    elim (int_eq v given) as (λ b. int_eq v given ≡ b → (if b then None else Some (WrongValue v given)) ≡ None → given ≡ kept) [
      | true ↦ λ t g. (let e : v ≡ given = grind (arith, ints) in sym e ∙ same)
      | false ↦ λ t g. absurd (cc)
    ] refl h

unless : (a b : Bool) → a ≡ true → (a && not b) ≡ false → b ≡ true
unless true b h g = not_false b g
unless false b h g = absurd (cc)

module _ (face : InterfaceView) (known : IsInterface face) (s : State) (together : HoldsTogether face s) where
  -- the tests of an assignment
  pub assign_passes : (by : By) (k : ℕ) (value : ℤ) → cause_of face s by (Assign (point_id k) value) ≡ None
      → IsNextTimed face s k × (wrong_value (kept_value face s k) value ≡ None)
  assign_passes by k value h =
      let one = if_none (not (is_listed face k)) NotShared _ h in
      let two = or_none (option_map order_open (first_passing (λ p. not (is_in s.revisited p)) (points_of face))) _ one.1 in
      let three = if_none (is_assigned s k) AlreadyDone _ two.1 in
      let four = or_none (option_map neighbour_first (first_passing (λ p. is_later face s k p && not (is_assigned s p)) (0 ∷ points_of face))) _ three.1 in
      let done = passing_none (λ p. not (is_in s.revisited p)) (points_of face) (map_none order_open _ two.0) in
      let later = passing_none (λ p. is_later face s k p && not (is_assigned s p)) (0 ∷ points_of face) (map_none neighbour_first _ four.0) in
      let sound = sound_of face known s together in (
        record {
          listed = not_false (is_listed face k) one.0;
          revisited = λ p listed. not_false (is_in s.revisited p) (done p (listed_in face.points p listed));
          unset = three.0;
          later =
              λ p is. unless (is_later face s k p) (is_assigned s p) is (later p (in_places face known s sound p (later_place face known s sound k p is)));
        },
        four.1,
      )

  module _ (k : ℕ) (next : IsNextTimed face s k) where
    there : is_in s.order k ≡ true
    there = done_order face known s together next.revisited k next.listed

    is_near : (j : ℕ) → is_in (later_neighbours face s k) j ≡ true → is_later face s k j ≡ true
    is_near j h = in_filter (is_later face s k) (0 ∷ points_of face) j h

    near_is : (j : ℕ) → is_later face s k j ≡ true → is_in (later_neighbours face s k) j ≡ true
    near_is j h =
        let sound = sound_of face known s together in
        filter_in (is_later face s k) (0 ∷ points_of face) j (in_places face known s sound j (later_place face known s sound k j h)) h

    z_near : is_in (later_neighbours face s k) 0 ≡ true
    z_near = near_is 0 (later_z face known s together k next.listed (together.revisits k (next.revisited k next.listed)).whole)

    out_is : (j : ℕ) → is_later face s k j ≡ true → final face s k j ≡ Some (bound_in face s k j)
    out_is j later = (final_there face known s together next.revisited k j (and_parts (is_joined face s k j) _ later).0).0

    back_is : (j : ℕ) → is_later face s k j ≡ true → final face s j k ≡ Some (bound_in face s j k)
    back_is j later = (final_there face known s together next.revisited j k (joined_back face s k j (and_parts (is_joined face s k j) _ later).0)).0

    pub low_of : IsLeastThere (λ j. bound_in face s k j +ℤ neg_ℤ ((times_in s).value j)) (later_neighbours face s k)
        (least_over (λ j. sum_of (final face s k j) (negated (value_in s j))) (later_neighbours face s k))
    low_of = least_there (λ j. bound_in face s k j +ℤ neg_ℤ ((times_in s).value j)) (λ j. sum_of (final face s k j) (negated (value_in s j)))
        (later_neighbours face s k) 0 z_near
        (λ j h. (λ t. sum_of (out_is j (is_near j h) t) (negated (value_there s j (next.later j (is_near j h)) t))))

    pub high_of : IsLeastThere (λ j. (times_in s).value j +ℤ bound_in face s j k) (later_neighbours face s k)
        (least_over (λ j. sum_of (value_in s j) (final face s j k)) (later_neighbours face s k))
    high_of = least_there (λ j. (times_in s).value j +ℤ bound_in face s j k) (λ j. sum_of (value_in s j) (final face s j k))
        (later_neighbours face s k) 0 z_near
        (λ j h. (λ t. sum_of (value_there s j (next.later j (is_near j h)) t) (back_is j (is_near j h) t)))

    pub leaves : LeavesWindow (bound_in face s) (times_in s).value k (IsLaterNeighbour (meeting_of face s) (reverse s.order) k) (neg_ℤ low_of.least) high_of.least
    leaves = record {
      low_met = (
        low_of.met.0,
        (later_is face s k there low_of.met.0).0 (is_near low_of.met.0 low_of.met.1),
        (let e = low_of.met.2 in omega (arith, ints)),
      );
      low_greatest = λ j n. let b = low_of.below j (near_is j ((later_is face s k there j).1 n)) in omega (arith, ints);
      high_met = (high_of.met.0, (later_is face s k there high_of.met.0).0 (is_near high_of.met.0 high_of.met.1), high_of.met.2);
      high_least = λ j n. high_of.below j (near_is j ((later_is face s k there j).1 n));
    }

    pub ready : IsAssignable (setting_in face s) (times_in s) k
    ready = record {
      is_shared = next.listed;
      unset = next.unset;
      neighbours = λ j n. next.later j ((later_is face s k there j).1 n);
    }

    module _ (holds : HoldsTimes face s) where
      pub open_window : IsOpen face s k
      open_window =
          let low = neg_ℤ low_of.least in
          let high = high_of.least in
          let is_low : window_low face s k ≡ Some (neg_ℤ low_of.least) = ap negated low_of.is in
          let is_high : window_high face s k ≡ Some high_of.least = high_of.is in
          let le = window_open (setting_in face s) (setting_holds face known s together next.revisited) (times_in s) holds.stands k ready low high leaves in
          let within = lean_within (lean_in face k) low high le in
          record {
            low = low;
            high = high;
            kept = lean_time (lean_in face k) low high;
            is_low = is_low;
            is_high = is_high;
            is_kept = (λ t. chosen (lean_in face k) (is_low t) (is_high t)) ∙ chosen_is (lean_in face k) low high;
            not_empty = le;
            above = within.0;
            below = within.1;
          }

-- what an assignment changes
module _ (s : State) (k : ℕ) (v : ℤ) (apart : k ≢ 0) (unset : is_assigned s k ≡ false) where
  abbrev made : Assigned
  made = record { point = k; value = v; lo = v; hi = v; low_widened = false; high_widened = false }

  abbrev put : State
  put = record s { assigned = record { point = k; value = v; lo = v; hi = v; low_widened = false; high_widened = false } ∷ s.assigned }

  pub here : assigned_in put.assigned k ≡ Some made
  here = let same : (k == k) ≡ true = grind (arith, nat_tests) in (λ t. if same t then Some made else assigned_in s.assigned k)

  pub other : (p : ℕ) → p ≢ k → assigned_in put.assigned p ≡ assigned_in s.assigned p
  other p ne = let off : (p == k) ≡ false = grind (arith, nat_tests) in (λ t. if off t then Some made else assigned_in s.assigned p)

  -- k had no time
  pub none_yet : assigned_in s.assigned k ≡ None
  none_yet = go (assigned_in s.assigned k) unset where
    go : (o : Option Assigned) → (is_some o || (k == 0)) ≡ false → o ≡ None
    go None h = refl
    go (Some a) h = absurd (cc)

  set_is : (p : ℕ) → (is_assigned put p ≡ true) ↔ ((p ≡ k) ⊎ (is_assigned s p ≡ true))
  set_is p = elim (cases_eq p k) [
    | inl e ↦ (λ t. inl e, λ t. ap (is_assigned put) e ∙ ap (λ o. is_some o || (k == 0)) here)
    | inr ne ↦ (
      λ t. inr (sym (ap (λ o. is_some o || (p == 0)) (other p ne)) ∙ t),
      λ t. elim t [ inl e ↦ absurd (ne e) | inr was ↦ ap (λ o. is_some o || (p == 0)) (other p ne) ∙ was ],
    )
  ]

  wide_is : (p : ℕ) (end : End) → is_widened put p end ≡ is_widened s p end
  wide_is p end = elim (cases_eq p k) [
    | inl e ↦
        ap (λ q. is_widened put q end) e ∙ ap (λ o. unwrap_or (option_map (end_widened end) o) false) here ∙ plain end
        ∙ sym (ap (λ o. unwrap_or (option_map (end_widened end) o) false) none_yet) ∙ sym (ap (λ q. is_widened s q end) e)
    | inr ne ↦ ap (λ o. unwrap_or (option_map (end_widened end) o) false) (other p ne)
  ] where
    plain : (end : End) → end_widened end made ≡ false
    plain Low = refl
    plain High = refl

  pub assigned_is : IsAssigned k v (times_in s) (times_in put)
  assigned_is = record {
    set = set_is;
    value = record {
      here =
          (let off : (k == 0) ≡ false = ne_eqb k 0 apart in
          (λ t. unwrap_or (if off t then Some (pos 0) else option_map (λ a. a.value) (here t)) (pos 0)));
      others = λ p ne. ap (λ o. unwrap_or (if p == 0 then Some (pos 0) else option_map (λ (a : Assigned). a.value) o) (pos 0)) (other p ne);
    };
    low = record {
      here = ap (λ o. unwrap_or (option_map (λ (a : Assigned). a.lo) o) (pos 0)) here;
      others = λ p ne. ap (λ o. unwrap_or (option_map (λ (a : Assigned). a.lo) o) (pos 0)) (other p ne);
    };
    high = record {
      here = ap (λ o. unwrap_or (option_map (λ (a : Assigned). a.hi) o) (pos 0)) here;
      others = λ p ne. ap (λ o. unwrap_or (option_map (λ (a : Assigned). a.hi) o) (pos 0)) (other p ne);
    };
    wide = λ w. wide_is w.0 (end_of w.1);
  }

-- so what stood stands
pub assigned_on : (face : InterfaceView) → IsInterface face → (summaries : List Summary) (s : State) → HoldsTogether face s → HoldsTimes face s
    → (by : By) (k : ℕ) (value : ℤ) → cause_of face s by (Assign (point_id k) value) ≡ None → HoldsTimes face (after face summaries s (Assign (point_id k) value))
assigned_on face known summaries s together holds by k value legal =
    let passes = assign_passes face known s together by k value legal in
    let next = passes.0 in
    let shown = open_window face known s together k next holds in
    let given = kept_given (kept_value face s k) shown.kept value shown.is_kept passes.1 in
    let low_is : Some shown.low ≡ Some (neg_ℤ (low_of face known s together k next).least) = sym shown.is_low ∙ ap negated (low_of face known s together k next).is in
    let high_is : Some shown.high ≡ Some (high_of face known s together k next).least = sym shown.is_high ∙ (high_of face known s together k next).is in
    let low_same : shown.low ≡ neg_ℤ (low_of face known s together k next).least = cc in
    let high_same : shown.high ≡ (high_of face known s together k next).least = cc in
    let above = shown.above in
    let below = shown.below in
    let apart = listed_not_z face known k next.listed in
    record {
      listed = λ p set. elim (cases_eq p k) [
        | inl e ↦ ap (is_listed face) e ∙ next.listed
        | inr ne ↦ holds.listed p (sym (ap is_some (other s k value apart next.unset p ne)) ∙ set)
      ];
      revisited = λ p set. next.revisited;
      stands =
          assigned_stands (setting_in face s) (setting_holds face known s together next.revisited) (times_in s) holds.stands k
          (ready face known s together k next) (neg_ℤ (low_of face known s together k next).least) (high_of face known s together k next).least
          (leaves face known s together k next) value (omega (arith, ints)) (omega (arith, ints))
          (times_in (after face summaries s (Assign (point_id k) value))) (assigned_is s k value apart next.unset);
    }
