-- Boxes of a replayed state in which all shared points have times are a decoupling of the network: boxes_decouple.
use Rattle.std.proofs.Common.{◌≡◌, ℕ, ◌<◌, List, [], Bool, true, false, ◌&&◌, nat_eq, Option, Some, None, sym, ap, ◌∙◌, refl, arith, subst, inl, inr}
use Rattle.std.proofs.Common.{map, length, get_or}
use Rattle.std.specs.Prelude.{ℤ, is_some, reverse}
use Rattle.std.proofs.lemmas.Bool.{and_parts, or_cases}
use Rattle.std.proofs.lemmas.Bool.Decides.{nat_tests}
use Rattle.stn_model.specs.Net.{Net, arcs_of, point_count}
use Rattle.stn_model.specs.Valid.{IsNetwork}
use Rattle.stn_model.specs.Kinds.{is_shared, is_owned_by}
use Rattle.stn_model.specs.Conflicts.{external_arcs}
use Rattle.stn_model.specs.Schedules.{Satisfies}
use Rattle.stn_model.specs.Summaries.{Entry as PlainEntry, IsSeenPair, IsEntryWeight}
use Rattle.meeting_arcs.specs.Meeting.{IsMeeting}
use Rattle.decoupling_facts.specs.Assignments.{IsSetting, Stands}
use Rattle.decoupling_facts.specs.Decouplings.{IsDecoupling, IsTightIn, setting_of}
use Rattle.decoupling_facts.specs.LocalNetworks.{decoupled_arcs, joint_times}
use Rattle.decoupling_facts.proofs.Decouplings.{standing_decouples, decoupling_satisfies}
use Rattle.decoupling_facts.proofs.Lists.{all_at}
use Rattle.std.specs.Option.{unwrap_or, option_map}
use Rattle.shared_graph.specs.declared.events.End.{End}
use Rattle.shared_graph.specs.declared.events.Entry.{Entry}
use Rattle.shared_graph.specs.declared.events.Phase.TheVariants.{Reverse, Assign as AssignPhase}
use Rattle.shared_graph.specs.Interfaces.{Summary, IsInterface, is_listed, interface_of}
use Rattle.shared_graph.specs.Journals.{IsDone}
use Rattle.shared_graph.specs.Replays.{plain_entries, AreRight, replay}
use Rattle.shared_graph.specs.States.{State, Assigned, start, meeting_of}
use Rattle.shared_graph.specs.Timed.{bound_in, setting_in, ends_in, end_of, times_in, HoldsTimes}
use Rattle.shared_graph.specs.Together.{HoldsTogether, IsAllPublished}
use Rattle.shared_graph.specs.Weights.{is_joined}
use Rattle.shared_graph.specs.Windows.{assigned_in, is_widened, end_widened}
use Rattle.shared_graph.proofs.interfaces.SharedPoints.{interface_is, shared_listed_in, listed_is_shared}
use Rattle.shared_graph.proofs.networks.Networks.{summaries_fit, state_only, state_meeting, externals_there}
use Rattle.shared_graph.proofs.networks.Verdicts.{sound}
use Rattle.shared_graph.proofs.states.Keeps.{together}
use Rattle.shared_graph.proofs.states.Listed.{AreListed, listed_replay, start_listed}
use Rattle.shared_graph.proofs.states.Meetings.{listed_not_z}
use Rattle.shared_graph.proofs.times.Entries.{replayed_times}
use Rattle.shared_graph.proofs.times.Settings.{setting_holds}
use Rattle.shared_graph.proofs.times.Widening.{assigned_there}

module _ (net : Net) (valid : IsNetwork net) (summaries : List Summary) (right : AreRight net summaries) (es : List Entry) (s : State)
    (is : replay (interface_of net) summaries start es ≡ Some s) (set : IsDone (interface_of net) s AssignPhase) where
  known : IsInterface (interface_of net)
  known = interface_is net valid

  holds_all : HoldsTogether (interface_of net) s
  holds_all = together (interface_of net) known s (sound net valid summaries right es s is)

  holds : HoldsTimes (interface_of net) s
  holds = replayed_times (interface_of net) known summaries (summaries_fit net valid summaries right) es s is

  listed : AreListed (interface_of net) summaries s.published
  listed = listed_replay (interface_of net) summaries es start s (start_listed (interface_of net) summaries) is

  -- a shared point has a time, so all points were revisited before
  done_with : (p : ℕ) → is_listed (interface_of net) p ≡ true → IsDone (interface_of net) s Reverse
  done_with p there =
      let a = assigned_there s p (set p there) (listed_not_z (interface_of net) known p there) in
      holds.revisited p (ap is_some a.1)

  done : IsDone (interface_of net) s Reverse
  done p there = done_with p there p there

  all_with : (p : ℕ) → is_listed (interface_of net) p ≡ true → IsAllPublished (interface_of net) s
  all_with p there = (holds_all.revisits p (done p there)).all_published

  -- an entry of a summary names a shared point, so where there is one all are published
  named : (agent : ℕ) (e : PlainEntry) → IsSeenPair net agent e.from e.to → (p : ℕ) × (is_listed (interface_of net) p ≡ true)
  named agent e pair = elim (or_cases (nat_eq e.from 0) (is_owned_by net agent e.from && is_shared net e.from) pair.from) [
    | inl z ↦ elim (or_cases (nat_eq e.to 0) (is_owned_by net agent e.to && is_shared net e.to) pair.to) [
      | inl also ↦ absurd (let a : e.from ≡ 0 = grind (arith, nat_tests) in let b : e.to ≡ 0 = grind (arith, nat_tests) in pair.different (a ∙ sym b))
      | inr t ↦ (e.to, shared_listed_in net valid e.to (and_parts (is_owned_by net agent e.to) (is_shared net e.to) t).1)
    ]
    | inr t ↦ (e.from, shared_listed_in net valid e.from (and_parts (is_owned_by net agent e.from) (is_shared net e.from) t).1)
  ]

  meeting : IsMeeting net (map plain_entries summaries) (meeting_of (interface_of net) s)
  meeting = record {
    only = state_only net valid summaries right s listed;
    externals = λ a here. externals_there net valid summaries right s.published a here;
    entries = λ agent e lt h.
        (let many = right.one_each in
        let pair = (all_at (λ (x : PlainEntry). IsSeenPair net agent x.from x.to × IsEntryWeight net agent x.from x.to x.weight)
        (get_or (map plain_entries summaries) agent []) e
        (right.each agent (omega arith)).weights h).0 in
        let p = named agent e pair in
        (state_meeting net valid summaries right s listed (all_with p.0 p.1)).entries agent e lt h);
  }

  -- the shared points of the network are the listed ones
  shared_same : (p : ℕ) → is_shared net p ≡ is_listed (interface_of net) p
  shared_same p = go (is_shared net p) (is_listed (interface_of net) p) refl refl where
    go : (a b : Bool) → is_shared net p ≡ a → is_listed (interface_of net) p ≡ b → a ≡ b
    go true true x y = refl
    go false false x y = refl
    go true false x y = absurd (let t = shared_listed_in net valid p x in cc)
    go false true x y = absurd (let t = listed_is_shared net valid p y in cc)

  setting_same : setting_in (interface_of net) s
      ≡ setting_of net (meeting_of (interface_of net) s) (reverse s.order) (is_joined (interface_of net) s) (bound_in (interface_of net) s)
  setting_same = (λ t. record {
    arcs = meeting_of (interface_of net) s;
    order = reverse s.order;
    joined = is_joined (interface_of net) s;
    final = bound_in (interface_of net) s;
    externals = external_arcs net;
    shared = λ (p : ℕ). sym (shared_same p) t;
  })

  decouples : IsDecoupling net (ends_in s)
      × ((w : ℕ × Bool) → is_shared net w.0 ≡ true → is_widened s w.0 (end_of w.1) ≡ true → IsTightIn net (ends_in s) w)
  decouples =
      standing_decouples net valid (map plain_entries summaries) right (meeting_of (interface_of net) s) meeting (reverse s.order)
      (is_joined (interface_of net) s) (bound_in (interface_of net) s)
      (subst IsSetting setting_same (setting_holds (interface_of net) known s holds_all done)) (times_in s)
      (subst (λ g. Stands g (times_in s)) setting_same holds.stands) (λ p shared. set p (sym (shared_same p) ∙ shared))

  -- an end that was widened is that of a shared point
  widened_shared : (p : ℕ) (end : End) → is_widened s p end ≡ true → is_shared net p ≡ true
  widened_shared p end h = shared_same p ∙ holds.listed p (go (assigned_in s.assigned p) h) where
    go : (o : Option Assigned) → unwrap_or (option_map (end_widened end) o) false ≡ true → is_some o ≡ true
    go None g = absurd (cc)
    go (Some a) g = refl

  pub boxes_decouple : IsDecoupling net (ends_in s) × ((k : ℕ) (high : Bool) → is_widened s k (end_of high) ≡ true → IsTightIn net (ends_in s) (k, high))
      × ((schedules : ℕ → List ℤ)
      → ((agent : ℕ) → agent < length net.agents → Satisfies (point_count net) (decoupled_arcs net agent (ends_in s)) (schedules agent))
      → Satisfies (point_count net) (arcs_of net) (joint_times net schedules))
  boxes_decouple = (
    decouples.0,
    λ k high wide. decouples.1 (k, high) (widened_shared k (end_of high) wide) wide,
    λ schedules each. decoupling_satisfies net valid (ends_in s) decouples.0 schedules each,
  )
