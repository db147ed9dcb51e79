-- The interface of a network, its right summaries, and what meeting arcs of a replayed state are in it.
use Rattle.std.proofs.Common.{zero, suc, ◌≡◌, ◌≢◌, ℕ, ◌-◌, ◌<◌, List, [], ◌∷◌, ◌++◌, true, false, ◌&&◌, Some, None, ap, sym, ◌∙◌}
use Rattle.std.proofs.Common.{refl, arith, inl, inr, length, map, subst}
use Rattle.std.specs.Prelude.{Contains, ◌==◌, nat_eq, if◌then◌else◌, slice_get}
use Rattle.std.specs.Option.{option_eq, option_map}
use Rattle.std.proofs.lemmas.Bool.{cases_lt, ne_eqb}
use Rattle.std.proofs.lemmas.Bool.{and_parts, or_cases}
use Rattle.std.proofs.lemmas.Bool.Decides.{nat_tests}
use Rattle.std.proofs.lemmas.List.{length-map, get_or_past}
use Rattle.std.proofs.lemmas.List.Elements.{Contains-append_cases, Contains-append_left, Contains-append_right, All-contains}
use Rattle.std.proofs.lemmas.List.Elements.{All-from_recursion}
use Rattle.std.proofs.lemmas.Option.{slice_get-get_or}
use Rattle.stn_model.specs.declared.ids.Constraint.{Constraint}
use Rattle.stn_model.specs.Net.{Net, arcs_of, horizon_pair, point_count, owner_of, no_place}
use Rattle.stn_model.specs.Valid.{IsNetwork}
use Rattle.stn_model.specs.Conflicts.{external_arcs}
use Rattle.stn_model.specs.Kinds.{is_external, is_shared, is_owned_by}
use Rattle.stn_model.specs.Summaries.{Entry, is_seen, IsSeenPair, IsEntryWeight, IsSummary}
use Rattle.meeting_arcs.specs.Meeting.{entry_arc, IsSeenArc, HasOnlyMeeting, IsMeeting}
use Rattle.stn_model.proofs.ArcKinds.{passes_of}
use Rattle.shared_graph.proofs.interfaces.SharedPoints.{place_owner, shared_within, shared_not_z, owner_there, owner_shared, meets_shared}
use Rattle.shared_graph.proofs.interfaces.SharedPoints.{external_in}
use Rattle.stn_walk.proofs.PrivateArcs.{from_shared, to_shared}
use Rattle.meeting_arcs.proofs.EntryWalks.{upper_listed, lower_listed}
use Rattle.shared_graph.specs.Interfaces.{Summary, IsEnd, IsFitting, points_of, owner_in}
use Rattle.shared_graph.specs.Interfaces.{interface_of}
use Rattle.shared_graph.specs.States.{State, Published, published_in, agent_pairs, summary_arc, agent_arcs, arcs_after, meeting_of}
use Rattle.shared_graph.specs.Replays.{summary_of, plain_entries, AreRight}
use Rattle.elim_step.specs.declared.summary.SummaryEntry.{SummaryEntry}
use Rattle.elim_step.specs.Summaries.{entry_of}
use Rattle.shared_graph.proofs.networks.PlainEntries.{plain_at}
use Rattle.shared_graph.proofs.networks.LightEntries.{entry_light}
use Rattle.shared_graph.specs.Together.{IsAllPublished}
use Rattle.shared_graph.proofs.states.Listed.{AreListed}
use Rattle.meeting_arcs.proofs.MeetingLists.{map_contains, contains_map}
use Rattle.shared_graph.proofs.states.Meetings.{owner_eq}

module _ (net : Net) (valid : IsNetwork net) where
  -- a point's owner is that of its place
  place_is : (p agent : ℕ) → p ≢ 0 → p < point_count net → is_owned_by net agent p ≡ true → place_owner net (p - 1) ≡ agent
  place_is p agent other lt own =
      let off : nat_eq p 0 ≡ false = ne_eqb p 0 other in
      let is : owner_of net p ≡ Some (place_owner net (p - 1)) =
      ap (λ b. if b then None else option_map (λ q. q.owner) (slice_get net.places (p - 1))) off
      ∙ ap (option_map (λ q. q.owner)) (slice_get-get_or net.places (p - 1) no_place (omega arith)) in
      let e : owner_of net p ≡ Some agent = owner_eq (owner_of net p) agent own in
      some_is (place_owner net (p - 1)) agent (sym is ∙ e) where
        some_is : (x y : ℕ) → Some x ≡ Some y → x ≡ y
        some_is x y h = cc

  seen_end : (agent p : ℕ) → is_seen net agent p ≡ true → IsEnd (interface_of net) agent p
  seen_end agent p h =
      elim (or_cases (nat_eq p 0) (is_owned_by net agent p && is_shared net p) h) [
        | inl z ↦ inl (grind (arith, nat_tests))
        | inr both ↦
            (let b = and_parts (is_owned_by net agent p) (is_shared net p) both in
            inr (owner_there net valid p b.1 ∙ ap (λ x. Some x) (place_is p agent (shared_not_z net valid p b.1) (shared_within net valid p b.1) b.0)))
      ]

  -- a right summary fits
  pub summary_fits : (agent : ℕ) (entries : Summary) → IsSummary net agent (map entry_of entries) → IsFitting (interface_of net) agent entries
  summary_fits agent entries right e h =
      let holds : Entry → Type 0 = λ f. IsSeenPair net agent f.from f.to × IsEntryWeight net agent f.from f.to f.weight in
      let there = contains_map entry_of entries e h in
      let each = (All-contains holds (map entry_of entries) (entry_of e) (All-from_recursion holds (map entry_of entries) right.weights) there) in
      let pair = each.0 in
      let light = entry_light net valid agent e.from.0 e.to.0 e.weight right.sound each.1 in
      (seen_end agent e.from.0 pair.from, seen_end agent e.to.0 pair.to, pair.different, light)

  module _ (summaries : List Summary) (right : AreRight net summaries) where
    right_at : (a : ℕ) → a < length net.agents → IsSummary net a (map entry_of (summary_of summaries a))
    right_at a low = subst (IsSummary net a) (plain_at summaries a) (right.each a low)

    pub summaries_fit : (a : ℕ) → IsFitting (interface_of net) a (summary_of summaries a)
    summaries_fit a = elim (cases_lt a (length net.agents)) [
      | inl low ↦ summary_fits a (summary_of summaries a) (right_at a low)
      | inr high ↦
          (let many = right.one_each in
          let plain = length-map summaries plain_entries in
          let none : summary_of summaries a ≡ [] = get_or_past summaries a [] (omega arith) in
          λ e h. absurd (let low : h.0 < 0 = subst (λ (xs : Summary). h.0 < length xs) none h.1 in omega arith))
    ]

    -- the horizon arcs of a listed point are arcs between z and a shared point
    pair_seen : (p agent : ℕ) (a : Constraint) → owner_in (interface_of net) p ≡ Some agent → Contains (horizon_pair net.horizon p) a → IsSeenArc net a
    pair_seen p agent a owner (zero, lt, is) =
        (let o = owner_shared net valid p agent owner in let low = o.1 in
        subst (IsSeenArc net) is (record { listed = upper_listed net p o.0 (omega arith); starts = refl; ends = meets_shared net valid p o.2 }))
    pair_seen p agent a owner (suc zero, lt, is) =
        (let o = owner_shared net valid p agent owner in let low = o.1 in
        subst (IsSeenArc net) is (record { listed = lower_listed net p o.0 (omega arith); starts = meets_shared net valid p o.2; ends = refl }))
    pair_seen p agent a owner (suc (suc k), lt, is) = absurd (omega arith)

    pairs_seen : (agent : ℕ) (ps : List ℕ) (a : Constraint) → Contains (agent_pairs (interface_of net) agent ps) a → IsSeenArc net a
    pairs_seen agent [] a h = absurd (let low : h.0 < 0 = h.1 in omega arith)
    pairs_seen agent (p ∷ ps) a h =
        elim (option_eq nat_eq (owner_in (interface_of net) p) (Some agent)) as (λ b. option_eq nat_eq (owner_in (interface_of net) p) (Some agent) ≡ b
        → Contains ((if b then horizon_pair net.horizon p else []) ++ agent_pairs (interface_of net) agent ps) a → IsSeenArc net a) [
          | true ↦ λ t g. elim (Contains-append_cases (horizon_pair net.horizon p) (agent_pairs (interface_of net) agent ps) a g) [
            | inl here ↦ pair_seen p agent a (owner_eq (owner_in (interface_of net) p) agent t) here
            | inr later ↦ pairs_seen agent ps a later
          ]
          | false ↦ λ t g. pairs_seen agent ps a g
        ] refl h

    -- meeting arcs of a state are arcs between z and shared points, or entries
    arcs_only : (ps : List Published) → AreListed (interface_of net) summaries ps
        → HasOnlyMeeting net (map plain_entries summaries) (arcs_after (interface_of net) ps)
    arcs_only [] listed a h =
        (let here = external_in net valid a h in
        let test = passes_of (is_external net) (arcs_of net) a h in
        inl (record {
          listed = here;
          starts = meets_shared net valid a.from.0 (from_shared net a here test);
          ends =
              meets_shared net valid a.to.0 (to_shared net a here test);
        }))
    arcs_only (p ∷ ps) listed a h =
        elim (Contains-append_cases (arcs_after (interface_of net) ps) (agent_arcs (interface_of net) p) a h) [
          | inl old ↦ arcs_only ps (λ q there. listed q (suc there.0, omega (arith, there.1), there.2)) a old
          | inr new ↦ elim (Contains-append_cases (agent_pairs (interface_of net) p.agent (points_of (interface_of net))) (map summary_arc p.entries) a new) [
            | inl pair ↦ inl (pairs_seen p.agent (points_of (interface_of net)) a pair)
            | inr entry ↦
                (let e = map_contains summary_arc p.entries a entry in
                let is = (listed p (0, omega arith, refl)).1 in
                let there : Contains (summary_of summaries p.agent) e.0 = subst (λ (xs : Summary). Contains xs e.0) is e.1 in
                let plain = subst (λ xs. Contains xs (entry_of e.0)) (sym (plain_at summaries p.agent))
                (contains_map entry_of (summary_of summaries p.agent) e.0 there) in
                let few = length-map summaries plain_entries in
                let known = known_of p.agent e.0 there in
                inr (record { agent = p.agent; known = omega arith; entry = entry_of e.0; listed = plain; is = e.2 }))
          ]
        ] where
          known_of : (agent : ℕ) (e : SummaryEntry) → Contains (summary_of summaries agent) e → agent < length summaries
          known_of agent e h = elim (cases_lt agent (length summaries)) [
            | inl low ↦ low
            | inr high ↦
                (let none : summary_of summaries agent ≡ [] = get_or_past summaries agent [] high in
                absurd (let low : h.0 < 0 = subst (λ (xs : Summary). h.0 < length xs) none h.1 in omega arith))
          ]

    pub state_only : (s : State) → AreListed (interface_of net) summaries s.published
        → HasOnlyMeeting net (map plain_entries summaries) (meeting_of (interface_of net) s)
    state_only s listed = arcs_only s.published listed

    pub externals_there : (ps : List Published) (a : Constraint) → Contains (external_arcs net) a → Contains (arcs_after (interface_of net) ps) a
    externals_there [] a h = h
    externals_there (p ∷ ps) a h = Contains-append_left (arcs_after (interface_of net) ps) (agent_arcs (interface_of net) p) a (externals_there ps a h)

    entries_there : (ps : List Published) → AreListed (interface_of net) summaries ps → (agent : ℕ) (e : SummaryEntry) → published_in ps agent ≡ true
        → Contains (summary_of summaries agent) e → Contains (arcs_after (interface_of net) ps) (summary_arc e)
    entries_there [] listed agent e done h = absurd (cc)
    entries_there (p ∷ ps) listed agent e done h =
        elim (or_cases (published_in ps agent) (agent == p.agent) done) [
          | inl old ↦ Contains-append_left (arcs_after (interface_of net) ps) (agent_arcs (interface_of net) p) (summary_arc e)
              (entries_there ps (λ q there. listed q (suc there.0, omega (arith, there.1), there.2)) agent e old h)
          | inr new ↦
              (let same : agent ≡ p.agent = grind (arith, nat_tests) in
              let is : summary_of summaries agent ≡ p.entries = ap (summary_of summaries) same ∙ sym (listed p (0, omega arith, refl)).1 in
              let there : Contains p.entries e = subst (λ (xs : Summary). Contains xs e) is h in
              Contains-append_right (arcs_after (interface_of net) ps) (agent_arcs (interface_of net) p) (summary_arc e)
              (Contains-append_right (agent_pairs (interface_of net) p.agent (points_of (interface_of net))) (map summary_arc p.entries) (summary_arc e)
              (contains_map summary_arc p.entries e there)))
        ]

    -- and all of them, once every agent is published
    pub state_meeting : (s : State) → AreListed (interface_of net) summaries s.published → IsAllPublished (interface_of net) s
        → IsMeeting net (map plain_entries summaries) (meeting_of (interface_of net) s)
    state_meeting s listed all = record {
      only = state_only s listed;
      externals = λ a here. externals_there s.published a here;
      entries = λ agent e lt h.
          let many = right.one_each in
          let leans = length-map net.agents (λ a. a.lean) in
          let x = map_contains entry_of (summary_of summaries agent) e (subst (λ xs. Contains xs e) (plain_at summaries agent) h) in
          subst (λ (y : Entry). Contains (meeting_of (interface_of net) s) (entry_arc y)) (sym x.2)
          (entries_there s.published listed agent x.0 (all agent (omega arith)) x.1);
    }
