-- What the reduced parts of all agents say of a network: local_at, part_at, right, fits, none_conflicts; and own conflicts: conflict_excludes; numbered_parts, agents_of.
use Rattle.std.proofs.Common.{◌≡◌, ℕ, ◌<◌, List, [], true, length, map, get_or, Some, ap, sym, ◌∙◌, refl, arith, subst}
use Rattle.std.specs.Prelude.{slice_get}
use Rattle.std.proofs.lemmas.List.{get_or-map, length-map}
use Rattle.std.proofs.lemmas.Option.{slice_get-get_or, get_or_from_slice_get}
use Rattle.stn_model.specs.Net.{Net, arcs_of, point_count}
use Rattle.stn_model.specs.Schedules.{IsConsistent}
use Rattle.stn_model.specs.Summaries.{IsSummary}
use Rattle.stn_model.proofs.WalkLemmas.{no_schedule}
use Rattle.elim_step.specs.Summaries.{entry_of}
use Rattle.private_elim.specs.Locals.{LocalView, local_of}
use Rattle.private_elim.specs.ReducedViews.{ReducedView}
use Rattle.private_elim.specs.Reductions.{HasOwnConflict}
use Rattle.shared_graph.specs.Histories.{AreFitting}
use Rattle.shared_graph.specs.Interfaces.{InterfaceView, Summary}
use Rattle.shared_graph.specs.Replays.{AreRight, plain_entries}
use Rattle.shared_graph.proofs.networks.Networks.{summaries_fit}
use Rattle.agent_worker.specs.Forwards.{ArePartsOf}
use Rattle.private_elim.proofs.locals.LocalFacts.{numbered_of_net}
use Rattle.agent_worker.specs.Works.{are_numbered, IsPart, AreReducedFrom}
use Rattle.agent_worker.proofs.Workings.{all_have}

-- a network with an own conflict has no schedule
pub conflict_excludes : (net : Net) (agent : ℕ) → HasOwnConflict net agent → IsConsistent (point_count net) (arcs_of net) → ⊥
conflict_excludes net agent h = no_schedule (arcs_of net) (point_count net) h.0 h.1.negative

-- the local problem of each agent is listed
pub local_at : (net : Net) (face : InterfaceView) (locals : List LocalView) → ArePartsOf net face locals → (a : ℕ) → a < length net.agents
    → slice_get locals a ≡ Some (local_of net a)
local_at net face locals parts a low =
    let d = local_of net a in
    let len = parts.one_each in
    let here : slice_get locals a ≡ Some (get_or locals a d) = slice_get-get_or locals a d (omega arith) in
    here ∙ ap (λ v. Some v) (parts.each a (get_or locals a d) here)

-- each arc of theirs has a number
pub numbered_parts : (net : Net) (face : InterfaceView) (locals : List LocalView) → ArePartsOf net face locals → are_numbered locals ≡ true
numbered_parts net face locals parts =
    all_have locals (λ a v there.
    let is = parts.each a v there in
    numbered_of_net v net (is ∙ ap (local_of net) (sym (ap (λ (u : LocalView). u.agent) is))))

-- there are as many as agents
pub agents_of : (net : Net) (face : InterfaceView) (locals : List LocalView) → ArePartsOf net face locals → length locals ≡ length face.leans
agents_of net face locals parts =
    parts.one_each ∙ sym (length-map net.agents (λ a. a.lean)) ∙ sym (ap (λ (f : InterfaceView). length f.leans) parts.face)

module _ (answers : ℕ → ℕ → ℕ → Type 0) (net : Net) (face : InterfaceView) (locals : List LocalView) (parts : ArePartsOf net face locals)
    (reduced : List ReducedView) (from : AreReducedFrom answers locals reduced) where
  -- and so is its reduced part
  pub part_at : (a : ℕ) → a < length net.agents → (r : ReducedView) × (slice_get reduced a ≡ Some r) × IsPart answers (local_of net a) r
  part_at a low =
      let d : ReducedView = record { local = local_of net a; order = []; summary = [] } in
      let many = from.one_each in
      let len = parts.one_each in
      let here : slice_get reduced a ≡ Some (get_or reduced a d) = slice_get-get_or reduced a d (omega arith) in
      (get_or reduced a d, here, from.each a (local_of net a) (get_or reduced a d) (local_at net face locals parts a low) here)

  abbrev pub summaries : List Summary
  summaries = map (λ r. r.summary) reduced

  -- no agent has an own conflict
  pub none_conflicts : (a : ℕ) → a < length net.agents → HasOwnConflict net a → ⊥
  none_conflicts a low = (part_at a low).2.clear net parts.network refl

  summary_at : (a : ℕ) (r : ReducedView) → slice_get reduced a ≡ Some r → a < length reduced → get_or (map plain_entries summaries) a [] ≡ map entry_of r.summary
  summary_at a r there low =
      let many : length summaries ≡ length reduced = length-map reduced (λ r. r.summary) in
      get_or-map plain_entries summaries a [] [] (omega arith)
      ∙ ap plain_entries (get_or-map (λ (q : ReducedView). q.summary) reduced a r [] low ∙ ap (λ (q : ReducedView). q.summary) (get_or_from_slice_get reduced a r r there))

  -- the summaries are right
  pub right : AreRight net summaries
  right = record {
    one_each =
        length-map summaries plain_entries ∙ length-map reduced (λ r. r.summary) ∙ from.one_each ∙ parts.one_each;
    each = λ a low.
        let part = part_at a low in
        let many = from.one_each in
        let len = parts.one_each in
        subst (IsSummary net a) (sym (summary_at a part.0 part.1 (omega arith))) (part.2.sums_up net parts.network refl);
  }

  -- and fit
  pub fits : AreFitting face summaries
  fits = subst (λ f. AreFitting f summaries) (sym parts.face) (summaries_fit net parts.network summaries right)
