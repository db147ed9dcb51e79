-- Right summaries of one network are right in another that is the same but for one agent's private part.
use Rattle.std.proofs.Common.{◌≡◌, ◌≢◌, ℕ, ◌-◌, List, [], ◌∷◌, Bool, true, ◌||◌, ◌&&◌, not, Some, None, ap, sym, ◌∙◌, arith, ⊎_elim, length, subst, map, get_or}
use Rattle.std.specs.Prelude.{ℤ, nat_eq, if◌then◌else◌, slice_get}
use Rattle.std.specs.Option.{option_eq, option_map}
use Rattle.std.specs.List.{AllByRecursion}
use Rattle.std.proofs.lemmas.Bool.{cases_eq}
use Rattle.stn_model.specs.declared.ids.Constraint.{Constraint}
use Rattle.stn_model.specs.Net.{Net, Agent}
use Rattle.stn_model.specs.Kinds.{is_owned_by, is_private_of}
use Rattle.stn_model.specs.Conflicts.{own_arcs, IsOwnConflict}
use Rattle.stn_model.specs.Inner.{IsInnerWeight}
use Rattle.stn_model.specs.Joined.{IsPath}
use Rattle.stn_model.specs.Summaries.{Entry, is_seen, IsSeenPair, IsEntryWeight, IsSummary, entry_weight}
use Rattle.meeting_arcs.specs.Meeting.{AreSummaries}
use Rattle.elim_step.specs.Summaries.{entry_of}
use Rattle.shared_graph.specs.Interfaces.{Summary}
use Rattle.shared_graph.specs.Replays.{plain_entries, AreRight}
use Rattle.shared_graph.proofs.networks.PlainEntries.{plain_at}
use Rattle.shared_graph.specs.Laws.{IsSameOutside, IsSameBut}
use Rattle.shared_graph.proofs.networks.Isolation.{shared_same}

all_wider : {X : Type 0} (P Q : X → Type 0) → ((p : X) → P p → Q p) → (ps : List X) → AllByRecursion P ps → AllByRecursion Q ps
all_wider P Q up [] all = tt
all_wider P Q up (p ∷ ps) all = (up p all.0, all_wider P Q up ps all.1)

module _ (net other : Net) (same : IsSameOutside net other) (agent : ℕ) (own : own_arcs net agent ≡ own_arcs other agent) where
  owned_same : (p : ℕ) → is_owned_by net agent p ≡ is_owned_by other agent p
  owned_same p = λ t. option_eq nat_eq (if nat_eq p 0 then None else option_map (λ q. q.owner) (slice_get (same.places t) (p - 1))) (Some agent)

  seen_same : (p : ℕ) → is_seen net agent p ≡ is_seen other agent p
  seen_same p = (let owned = owned_same p in let shared = shared_same net other same p in λ t. nat_eq p 0 || owned t && shared t)

  private_same : (p : ℕ) → is_private_of net agent p ≡ is_private_of other agent p
  private_same p = (let owned = owned_same p in let shared = shared_same net other same p in λ t. owned t && not (shared t))

  pair_moves : (i j : ℕ) → IsSeenPair net agent i j → IsSeenPair other agent i j
  pair_moves i j pair = record {
    different = pair.different;
    from = sym (seen_same i) ∙ pair.from;
    to = sym (seen_same j) ∙ pair.to;
    inner = pair.inner;
    path = subst (λ (arcs : List Constraint). IsPath arcs i j pair.inner) own pair.path;
    privately = all_wider (λ p. is_private_of net agent p ≡ true) (λ p. is_private_of other agent p ≡ true) (λ p h. sym (private_same p)
        ∙ h) pair.inner pair.privately;
  }

  weight_moves : (i j : ℕ) (w : ℤ) → IsEntryWeight net agent i j w → IsEntryWeight other agent i j w
  weight_moves i j w h =
      let tests : is_private_of net agent ≡ is_private_of other agent = (λ t p. private_same p t) in (
        h.0,
        subst (λ (arcs : List Constraint). IsInnerWeight (is_private_of other agent) arcs i j h.0) own
            (subst (λ (f : ℕ → Bool). IsInnerWeight f (own_arcs net agent) i j h.0) tests h.1),
        h.2 ∙ ap (λ (x : ℤ). entry_weight x h.0) same.horizon,
      )

turned : (net other : Net) → IsSameOutside net other → IsSameOutside other net
turned net other same = record { agents = sym same.agents; places = sym same.places; horizon = sym same.horizon; externals = sym same.externals }

summary_moves : (net other : Net) → IsSameOutside net other → (agent : ℕ) → own_arcs net agent ≡ own_arcs other agent
    → ((cycle : List ℕ) → IsOwnConflict other agent cycle → ⊥)
    → (entries : List Entry) → IsSummary net agent entries → IsSummary other agent entries
summary_moves net other same agent own sound entries right = record {
  sound = sound;
  weights = all_wider (λ (e : Entry). IsSeenPair net agent e.from e.to × IsEntryWeight net agent e.from e.to e.weight)
      (λ (e : Entry). IsSeenPair other agent e.from e.to × IsEntryWeight other agent e.from e.to e.weight)
      (λ e h. (pair_moves net other same agent own e.from e.to h.0, weight_moves net other same agent own e.from e.to e.weight h.1)) entries right.weights;
  whole = λ i j pair. right.whole i j (pair_moves other net (turned net other same) agent (sym own) i j pair);
  once = right.once;
}

entries_move : (net other : Net) (a : ℕ) (summaries : List (List Entry)) → IsSameBut net other a
    → ((agent : ℕ) (cycle : List ℕ) → IsOwnConflict other agent cycle → ⊥)
    → AreSummaries net summaries → IsSummary other a (get_or summaries a []) → AreSummaries other summaries
entries_move net other a summaries same sound right own_right =
    let many : length net.agents ≡ length other.agents = ap (λ (xs : List Agent). length xs) same.outside.agents in
    record {
      one_each = right.one_each ∙ many;
      each = λ agent lt. ⊎_elim
          (λ (e : agent ≡ a). subst (λ (x : ℕ). IsSummary other x (get_or summaries x [])) (sym e) own_right)
          (λ (ne : agent ≢ a). summary_moves net other same.outside agent (same.own agent ne) (sound agent) (get_or summaries agent [])
          (right.each agent (omega arith)))
          (cases_eq agent a);
    }

pub summaries_move : (net other : Net) (a : ℕ) (summaries : List Summary) → IsSameBut net other a
    → ((agent : ℕ) (cycle : List ℕ) → IsOwnConflict other agent cycle → ⊥)
    → AreRight net summaries → IsSummary other a (map entry_of (get_or summaries a [])) → AreRight other summaries
summaries_move net other a summaries same sound right own_right =
    entries_move net other a (map plain_entries summaries) same sound right (subst (IsSummary other a) (sym (plain_at summaries a)) own_right)
