-- Times that keep the final bounds over the meeting arcs, with ends of their boxes widened, are a decoupling: together, boxes_decouple, tight_in,
-- widened_decouples, standing_decouples, decoupling_satisfies, decoupled_consistent.
use Rattle.std.proofs.Common.{◌≡◌, ◌≢◌, ℕ, ◌<◌, ◌≤◌, Bool, true, false, ◌&&◌, ◌||◌, nat_eq, List, [], ◌∷◌, length, get_or, refl, sym, ap, subst, ◌∙◌, arith, ◌⊎◌, inl, inr}
use Rattle.std.specs.Prelude.{ℤ, pos, ◌-ℤ◌, ◌≤ℤ◌, Contains}
use Rattle.std.specs.List.{AllByRecursion}
use Rattle.std.proofs.Math.Bool.{or-true}
use Rattle.std.proofs.lemmas.Int.{ints}
use Rattle.std.proofs.lemmas.Bool.{cases_lt, and_parts, or_cases, false≢true}
use Rattle.std.proofs.lemmas.Bool.Decides.{nat_tests}
use Rattle.stn_model.specs.declared.ids.Constraint.{Constraint}
use Rattle.stn_model.specs.Net.{Net, arcs_of, point_count}
use Rattle.stn_model.specs.Kinds.{is_external, is_shared, is_owned_by}
use Rattle.stn_model.specs.Conflicts.{external_arcs}
use Rattle.stn_model.specs.Schedules.{Satisfies, IsConsistent, IsLeastBound}
use Rattle.stn_model.specs.Summaries.{is_seen, IsSeenPair, IsEntryWeight, Entry}
use Rattle.stn_model.specs.Valid.{IsNetwork}
use Rattle.stn_model.proofs.WalkLemmas.{least_bound_unique}
use Rattle.stn_model.proofs.ArcKinds.{passes_of}
use Rattle.stn_walk.proofs.PrivateArcs.{z_unshared, from_shared, to_shared}
use Rattle.meeting_arcs.specs.Meeting.{meets, entry_arc, IsMeeting, AreSummaries}
use Rattle.meeting_arcs.proofs.Agreements.{weights_are_bounds}
use Rattle.decoupling_facts.specs.FinalBounds.{AreFinals, KeepsFinals}
use Rattle.decoupling_facts.specs.Boxes.{Ends, AreBoxes, IsTightEnd, WidensAll}
use Rattle.decoupling_facts.specs.Assignments.{IsSetting, Assignments, Stands, AreAllSet}
use Rattle.decoupling_facts.specs.LocalNetworks.{box_arcs, boxed_points, decoupled_arcs, KeepsExternals, joint_times}
use Rattle.decoupling_facts.specs.Decouplings.{IsDecoupling, IsTightIn, setting_of}
use Rattle.decoupling_facts.proofs.Lists.{kept_listed, all_at}
use Rattle.decoupling_facts.proofs.Windows.{arcs_kept}
use Rattle.decoupling_facts.proofs.Boxes.{times_boxes, all_keep, all_tight}
use Rattle.decoupling_facts.proofs.Assignments.{shared_boxed}
use Rattle.decoupling_facts.proofs.JointTimes.{shared_there, joint_satisfies}
use Rattle.decoupling_facts.proofs.LocalNetworks.{local_consistent}

-- one schedule for each agent that there is
module _ (net : Net) (valid : IsNetwork net) (e : Ends) (apart : KeepsExternals net e)
    (local : (agent : ℕ) → agent < length net.agents → IsConsistent (point_count net) (decoupled_arcs net agent e)) where
  pick : (agent : ℕ) → (agent < length net.agents) ⊎ (length net.agents ≤ agent) → List ℤ
  pick agent (inl known) = (local agent known).0
  pick agent (inr past) = []

  picked : (agent : ℕ) (c : (agent < length net.agents) ⊎ (length net.agents ≤ agent)) → agent < length net.agents
      → Satisfies (point_count net) (decoupled_arcs net agent e) (pick agent c)
  unfolding pick
  picked agent (inl known) lt = (local agent known).1
  picked agent (inr past) lt = absurd (omega arith)

  -- so together they satisfy the network
  pub together : IsConsistent (point_count net) (arcs_of net)
  together =
      let schedules = λ (agent : ℕ). pick agent (cases_lt agent (length net.agents)) in
      (joint_times net schedules, joint_satisfies net valid e apart schedules (λ agent known. picked agent (cases_lt agent (length net.agents)) known))

module _ (net : Net) (valid : IsNetwork net)
    (summaries : List (List Entry)) (right : AreSummaries net summaries) (arcs : List Constraint) (meeting : IsMeeting net summaries arcs)
    (joined : ℕ → ℕ → Bool) (final : ℕ → ℕ → ℤ) (finals : AreFinals arcs joined final) (zero_joined : (k : ℕ) → is_shared net k ≡ true → joined k 0 ≡ true)
    (is_set : ℕ → Bool) (value : ℕ → ℤ) (first : value 0 ≡ pos 0) (zero_set : is_set 0 ≡ true) (set : (k : ℕ) → is_shared net k ≡ true → is_set k ≡ true)
    (keeps : KeepsFinals joined final is_set value) where
  -- final bounds with z are least bounds of the network, since least weights over the meeting arcs are
  shared_meets : (k : ℕ) → is_shared net k ≡ true → meets net k ≡ true
  shared_meets k is = ap (λ b. nat_eq k 0 || b) is ∙ or-true (nat_eq k 0)

  shared_apart : (k : ℕ) → is_shared net k ≡ true → k ≢ 0
  shared_apart k is e = false≢true (sym (z_unshared net) ∙ ap (is_shared net) (sym e) ∙ is)

  greatest_bound : IsConsistent (point_count net) (arcs_of net) → (k : ℕ) → is_shared net k ≡ true → IsLeastBound (point_count net) (arcs_of net) 0 k (final 0 k)
  greatest_bound consistent k is =
      (weights_are_bounds net valid summaries arcs right meeting 0 k refl (shared_meets k is) (λ e. shared_apart k is (sym e)) consistent (final 0 k)).0
      (finals.least 0 k (finals.turned k 0 (zero_joined k is)))

  least_bound : IsConsistent (point_count net) (arcs_of net) → (k : ℕ) → is_shared net k ≡ true → IsLeastBound (point_count net) (arcs_of net) k 0 (final k 0)
  least_bound consistent k is =
      (weights_are_bounds net valid summaries arcs right meeting k 0 (shared_meets k is) refl (shared_apart k is) consistent (final k 0)).0
      (finals.least k 0 (zero_joined k is))

  -- each external arc joins two shared points
  external_ends : (a : Constraint) → Contains (external_arcs net) a → (is_shared net a.from.0 ≡ true) × (is_shared net a.to.0 ≡ true)
  external_ends a c =
      let there = kept_listed (is_external net) (arcs_of net) a c in
      let is = passes_of (is_external net) (arcs_of net) a c in
      (from_shared net a there is, to_shared net a there is)

  seen_set : (agent p : ℕ) → is_seen net agent p ≡ true → is_set p ≡ true
  seen_set agent p h =
      elim (or_cases (nat_eq p 0) (is_owned_by net agent p && is_shared net p) h) [
        | inl t ↦ (let e : p ≡ 0 = grind (arith, nat_tests) in ap is_set e ∙ zero_set)
        | inr t ↦ set p (and_parts (is_owned_by net agent p) (is_shared net p) t).1
      ]

  -- the times keep the entries of each summary
  entries_kept : (agent : ℕ) → agent < length net.agents → (entry : Entry) → Contains (get_or summaries agent []) entry
      → (value entry.to -ℤ value entry.from) ≤ℤ entry.weight
  entries_kept agent known entry c =
      let pair = (all_at (λ x. IsSeenPair net agent x.from x.to × IsEntryWeight net agent x.from x.to x.weight) (get_or summaries agent []) entry
      (right.each agent known).weights c).0 in
      let listed : agent < length summaries = (let many = right.one_each in omega arith) in
      arcs_kept arcs joined final finals is_set value keeps (entry_arc entry) (meeting.entries agent entry listed c)
      (seen_set agent entry.from pair.from) (seen_set agent entry.to pair.to)

  -- boxes that hold the times are a decoupling
  pub boxes_decouple : (e : Ends) → AreBoxes final (external_arcs net) (is_shared net) value e → IsDecoupling net e
  boxes_decouple e boxes =
      let local = λ (agent : ℕ) (known : agent < length net.agents).
      local_consistent net agent valid (get_or summaries agent []) (right.each agent known) value e first (entries_kept agent known)
      (λ k boxed. let shared = (and_parts (is_owned_by net agent k) (is_shared net k) boxed).1 in (boxes.low_value k shared, boxes.value_high k shared))
      (box_arcs e (boxed_points net agent)) (shared_there net agent e).each in
      let apart : KeepsExternals net e = λ a c. let ends = external_ends a c in boxes.apart a c ends.0 ends.1 in
      let consistent = together net valid e apart local in
      record {
        low = λ k shared b is.
            let same = least_bound_unique (arcs_of net) (point_count net) k 0 (final k 0) b (least_bound consistent k shared) is in
            let l = boxes.low k shared in
            omega (arith, ints);
        ordered = λ k shared. let a = boxes.low_value k shared in let b = boxes.value_high k shared in omega (arith, ints);
        high = λ k shared b is.
            let same = least_bound_unique (arcs_of net) (point_count net) 0 k (final 0 k) b (greatest_bound consistent k shared) is in
            let l = boxes.high k shared in
            omega (arith, ints);
        apart = apart;
        consistent = local;
      }

  pub tight_in : (e : Ends) → IsDecoupling net e → (w : ℕ × Bool) → is_shared net w.0 ≡ true → IsTightEnd final (external_arcs net) e w → IsTightIn net e w
  tight_in e d (k, true) shared (inl is) =
      inl (subst (IsLeastBound (point_count net) (arcs_of net) 0 k) (sym is) (greatest_bound (together net valid e d.apart d.consistent) k shared))
  tight_in e d (k, true) shared (inr is) = inr is
  tight_in e d (k, false) shared (inl is) = inl (final k 0, least_bound (together net valid e d.apart d.consistent) k shared, is)
  tight_in e d (k, false) shared (inr is) = inr is

  all_tight_in : (e : Ends) → IsDecoupling net e → (ws : List (ℕ × Bool)) → AllByRecursion (λ w. is_shared net w.0 ≡ true) ws
      → AllByRecursion (IsTightEnd final (external_arcs net) e) ws → AllByRecursion (IsTightIn net e) ws
  all_tight_in e d [] shared tight = tt
  all_tight_in e d (w ∷ ws) shared tight = (tight_in e d w shared.0 tight.0, all_tight_in e d ws shared.1 tight.1)

  pub widened_decouples : (e f : Ends) → ((k : ℕ) → is_shared net k ≡ true → (e.lo k ≡ value k) × (e.hi k ≡ value k))
      → (ws : List (ℕ × Bool)) → AllByRecursion (λ w. is_shared net w.0 ≡ true) ws → WidensAll final (external_arcs net) ws e f
      → IsDecoupling net f × AllByRecursion (IsTightIn net f) ws
  widened_decouples e f at ws shared h =
      let start = times_boxes arcs joined final finals is_set value first zero_set keeps (external_arcs net) meeting.externals (is_shared net)
      (λ k s. (set k s, zero_joined k s)) e at in
      let d = boxes_decouple f (all_keep final (external_arcs net) (is_shared net) value external_ends ws shared e f start h) in
      (d, all_tight_in f d ws shared (all_tight final (external_arcs net) (is_shared net) value external_ends ws shared e f start h))

pub standing_decouples : (net : Net) → IsNetwork net
    → (summaries : List (List Entry)) → AreSummaries net summaries → (arcs : List Constraint) → IsMeeting net summaries arcs
    → (order : List ℕ) (joined : ℕ → ℕ → Bool) (final : ℕ → ℕ → ℤ) → IsSetting (setting_of net arcs order joined final)
    → (s : Assignments) → Stands (setting_of net arcs order joined final) s → AreAllSet (setting_of net arcs order joined final) s
    → IsDecoupling net s.ends × ((w : ℕ × Bool) → is_shared net w.0 ≡ true → s.wide w ≡ true → IsTightIn net s.ends w)
standing_decouples net valid summaries right arcs meeting order joined final setting s h whole =
    let zero = λ (k : ℕ) (is : is_shared net k ≡ true). (setting.tests k 0).1 (setting.zero k is).joined in
    let box = λ (k : ℕ) (is : is_shared net k ≡ true). shared_boxed (setting_of net arcs order joined final) setting s h whole k is in
    let boxes : AreBoxes final (external_arcs net) (is_shared net) s.value s.ends =
    record {
      low = λ k is. h.boxes.low k (box k is);
      low_value = λ k is. h.boxes.low_value k (box k is);
      value_high = λ k is. h.boxes.value_high k (box k is);
      high = λ k is. h.boxes.high k (box k is);
      apart = λ a c from to. h.boxes.apart a c (box a.from.0 from) (box a.to.0 to);
    } in
    let d = boxes_decouple net valid summaries right arcs meeting joined final setting.finals zero s.set s.value h.zero_value h.zero_set whole h.keeps s.ends boxes in (
      d,
      λ w is wide.
          tight_in net valid summaries right arcs meeting joined final setting.finals zero s.set s.value h.zero_value h.zero_set whole h.keeps s.ends d w is
          (h.tight w wide),
    )

pub decoupling_satisfies : (net : Net) → IsNetwork net → (e : Ends) → IsDecoupling net e → (schedules : ℕ → List ℤ)
    → ((agent : ℕ) → agent < length net.agents → Satisfies (point_count net) (decoupled_arcs net agent e) (schedules agent))
    → Satisfies (point_count net) (arcs_of net) (joint_times net schedules)
decoupling_satisfies net valid e d schedules each = joint_satisfies net valid e d.apart schedules each

pub decoupled_consistent : (net : Net) → IsNetwork net → (e : Ends) → IsDecoupling net e → IsConsistent (point_count net) (arcs_of net)
decoupled_consistent net valid e d = together net valid e d.apart d.consistent
