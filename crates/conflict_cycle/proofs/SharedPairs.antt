-- Two points among z and the shared ones are joined by the joined order, over all arcs of the network, exactly where they are joined in the shared
-- graph: right_parts, parts_listed, shared_pairs, shared_pairs_join.
use Rattle.conflict_cycle.specs.SharedPairs.{SharedPairsJoin}
use Rattle.std.proofs.Common.{◌≡◌, ℕ, ◌<◌, true, false, nat_eq, List, [], ◌∷◌, length, map, get_or, refl, sym, ap, subst, ◌∙◌, arith}
use Rattle.std.proofs.Common.{◌⊎◌, inl, inr}
use Rattle.std.specs.Prelude.{◌↔◌, Contains, reverse}
use Rattle.std.specs.List.{AllByRecursion}
use Rattle.std.proofs.lemmas.Bool.{or_cases, false≢true}
use Rattle.std.proofs.lemmas.Bool.Decides.{nat_tests}
use Rattle.std.proofs.lemmas.List.{get_or-map, length-map}
use Rattle.std.proofs.lemmas.List.Elements.{All-from_recursion, All-contains}
use Rattle.std.proofs.lemmas.Option.{get_or_from_slice_get, slice_get_within}
use Rattle.stn_model.specs.declared.ids.Constraint.{Constraint}
use Rattle.stn_model.specs.Conflicts.{own_arcs}
use Rattle.stn_model.specs.Joined.{HasEdge, IsPath, ComesBefore, IsJoined}
use Rattle.stn_model.specs.Kinds.{is_private_of, is_shared}
use Rattle.stn_model.specs.Net.{Net, arcs_of}
use Rattle.stn_model.specs.Summaries.{Entry, IsSeenPair, IsEntryWeight, IsSummary}
use Rattle.stn_model.specs.Valid.{IsNetwork}
use Rattle.stn_walk.specs.Eliminations.{is_in}
use Rattle.stn_walk.proofs.Joins.{is_in-reverse}
use Rattle.stn_walk.proofs.PrivateArcs.{own_contained}
use Rattle.meeting_arcs.specs.Meeting.{meets, is_hidden, entry_arc, IsMeeting, AreSummaries}
use Rattle.meeting_arcs.proofs.Agreements.{entries_of, shown}
use Rattle.elim_step.specs.Summaries.{entry_of}
use Rattle.private_elim.specs.Locals.{LocalView, local_of}
use Rattle.private_elim.specs.ReducedViews.{ReducedView}
use Rattle.shared_graph.specs.declared.events.Entry.{Entry as Step}
use Rattle.shared_graph.specs.Histories.{IsJournal}
use Rattle.shared_graph.specs.Interfaces.{interface_of}
use Rattle.shared_graph.specs.Replays.{summary_of, plain_entries, AreRight}
use Rattle.shared_graph.specs.States.{State, meeting_of}
use Rattle.shared_graph.specs.Together.{IsAllPublished, IsWhole}
use Rattle.shared_graph.specs.Weights.{is_joined}
use Rattle.shared_graph.proofs.cells.Orders.{joined_is}
use Rattle.shared_graph.proofs.graphs.TellOnce.{told_once}
use Rattle.shared_graph.proofs.interfaces.SharedPoints.{shared_listed_in}
use Rattle.shared_graph.proofs.networks.Networks.{state_meeting}
use Rattle.shared_graph.proofs.states.Listed.{AreListed}
use Rattle.conflict_cycle.specs.Belongs.{AreReducedOf, ArePublishedOf}
use Rattle.conflict_cycle.specs.PartOrders.{order_of, AreReduced}
use Rattle.conflict_cycle.proofs.HiddenPaths.{PathBy, Piece, path-turned, path-through, path-over, path_contracts}
use Rattle.conflict_cycle.proofs.PartLists.{orders}
use Rattle.conflict_cycle.proofs.LaidOrders.{all_private, before-private, before-shared, part_at, private_laid, laid_hidden}
use Rattle.conflict_cycle.proofs.ReducedParts.{told_by}

-- a private point of some agent
abbrev IsPrivate : Net → ℕ → Type 0
IsPrivate net p = (agent : ℕ) × (agent < length net.agents) × (is_private_of net agent p ≡ true)

-- paths of the network and of meeting arcs
module _ (net : Net) (valid : IsNetwork net) (summaries : List (List Entry)) (meeting : List Constraint) (right : AreSummaries net summaries)
    (is : IsMeeting net summaries meeting) where
  -- a piece has a meeting arc: the external arc itself, or the entry of the seen pair
  arc_for : (i j : ℕ) → Piece net i j → (i ≡ j) ⊎ HasEdge meeting i j
  arc_for i j (inl same) = inl same
  arc_for i j (inr (inl external)) = inr (external.0, is.externals external.0 external.1, external.2)
  arc_for i j (inr (inr (agent, known, pair))) =
      let found = (right.each agent known).whole i j pair in
      let e : Entry = record { from = i; to = j; weight = found.0 } in
      let many = right.one_each in
      inr (entry_arc e, is.entries agent e (omega arith) found.1, inl (refl, refl))

  -- a meeting arc has a path of the network through private points of one agent
  arc_expands : (a : Constraint) → Contains meeting a → PathBy (IsPrivate net) (arcs_of net) a.from.0 a.to.0
  arc_expands a here =
      elim (is.only a here) [
        | inl seen ↦ ([], (a, seen.listed, inl (refl, refl)), tt)
        | inr e ↦
            (let holds : Entry → Type 0 = λ f. IsSeenPair net e.agent f.from f.to × IsEntryWeight net e.agent f.from f.to f.weight in
            let own = get_or summaries e.agent [] in
            let pair = (All-contains holds own e.entry (All-from_recursion holds own ((entries_of net summaries right).each e.agent e.known)) e.listed).0 in
            let many = right.one_each in
            let few = e.known in
            let known : e.agent < length net.agents = omega arith in
            subst (λ (x : Constraint). PathBy (IsPrivate net) (arcs_of net) x.from.0 x.to.0) (sym e.is)
            (path-over (λ p. is_private_of net e.agent p ≡ true) (IsPrivate net) (own_arcs net e.agent) (arcs_of net) e.entry.from e.entry.to
            (own_contained net e.agent) (λ p h. (e.agent, known, h)) pair.inner pair.path pair.privately))
      ]

  module _ (P : ℕ → Type 0) (private : (p : ℕ) → IsPrivate net p → P p) where
    edge_expands : (i j : ℕ) → HasEdge meeting i j → PathBy P (arcs_of net) i j
    edge_expands i j h =
        let path = arc_expands h.0 h.1 in
        let wide : PathBy P (arcs_of net) h.0.from.0 h.0.to.0 =
        path-over (IsPrivate net) P (arcs_of net) (arcs_of net) h.0.from.0 h.0.to.0 (λ a here. here) private path.0 path.1 path.2 in
        elim h.2 [
          | inl there ↦ subst (λ x. PathBy P (arcs_of net) x j) there.0 (subst (PathBy P (arcs_of net) h.0.from.0) there.1 wide)
          | inr back ↦
              path-turned P (arcs_of net) j i
              (subst (λ x. PathBy P (arcs_of net) x i) back.0 (subst (PathBy P (arcs_of net) h.0.from.0) back.1 wide))
        ]

    path_expands : (i j : ℕ) (ps : List ℕ) → IsPath meeting i j ps → AllByRecursion P ps → PathBy P (arcs_of net) i j
    path_expands i j [] path all = edge_expands i j path
    path_expands i j (p ∷ ps) path all =
        path-through P (arcs_of net) i p j all.0 (edge_expands i p path.0) (path_expands p j ps path.1 all.1)

-- the summaries of the reduced parts are right, and are what is published
module _ (net : Net) (valid : IsNetwork net) (reduced : List ReducedView) (parts : AreReducedOf net reduced) (each : AreReduced reduced) where
  pub right_parts : AreRight net (told_by reduced)
  right_parts = record {
    one_each =
        length-map (told_by reduced) plain_entries ∙ length-map reduced (λ (r : ReducedView). r.summary) ∙ parts.one_each;
    each = right_at;
  } where
    right_at : (a : ℕ) → a < length net.agents → IsSummary net a (get_or (map plain_entries (told_by reduced)) a [])
    right_at a low =
        let part = part_at net reduced parts each a low in
        let r = part.0 in
        let many = parts.one_each in
        let len = length-map reduced (λ (x : ReducedView). x.summary) in
        let told : get_or (map plain_entries (told_by reduced)) a [] ≡ map entry_of r.summary =
        get_or-map plain_entries (told_by reduced) a [] [] (omega arith)
        ∙ ap plain_entries (get_or-map (λ (x : ReducedView). x.summary) reduced a r [] (omega arith)
        ∙ ap (λ (x : ReducedView). x.summary) (get_or_from_slice_get reduced a r r part.2)) in
        let local = parts.each a r part.2 in
        let agent : r.local.agent ≡ a = ap (λ (v : LocalView). v.agent) local in
        let sums = (each a r part.2).sums_up net valid (local ∙ ap (local_of net) (sym agent)) in
        subst (IsSummary net a) (sym told) (subst (λ k. IsSummary net k (map entry_of r.summary)) agent sums)

  module _ (s : State) (published : ArePublishedOf reduced s) (journal : List Step) (kept : IsJournal (interface_of net) s journal) where
    parts_listed : AreListed (interface_of net) (told_by reduced) s.published
    parts_listed p there =
        let one = told_once (interface_of net) s journal kept p there in
        let leans = length-map net.agents (λ a. a.lean) in
        let few = one.0 in
        let part = part_at net reduced parts each p.agent (omega arith) in
        let r = part.0 in
        let read = published p.agent r part.2 one.1 in
        let low = slice_get_within reduced p.agent r part.2 in
        let told : summary_of (told_by reduced) p.agent ≡ r.summary =
        get_or-map (λ (x : ReducedView). x.summary) reduced p.agent r [] low
        ∙ ap (λ (x : ReducedView). x.summary) (get_or_from_slice_get reduced p.agent r r part.2) in
        (one.0, one.2 ∙ read ∙ sym told)

    module _ (all : IsAllPublished (interface_of net) s) (whole : IsWhole (interface_of net) s) where
      abbrev meeting : List Constraint
      meeting = meeting_of (interface_of net) s

      abbrev summaries : List (List Entry)
      summaries = map plain_entries (told_by reduced)

      is_meeting : IsMeeting net summaries meeting
      is_meeting = state_meeting net valid (told_by reduced) right_parts s parts_listed all

      -- a point that meets is in the order in which shared points were eliminated, or z
      pub meets_laid : (p : ℕ) → meets net p ≡ true → (is_in (reverse s.order) p ≡ true) ⊎ (p ≡ 0)
      meets_laid p h =
          elim (or_cases (nat_eq p 0) (is_shared net p) h) [
            | inl z ↦ inr (grind (arith, nat_tests))
            | inr shared ↦ inl (is_in-reverse s.order p ∙ whole p (shared_listed_in net valid p shared))
          ]

      -- what is not hidden is in no private order
      pub shown_away : (p : ℕ) → is_hidden net p ≡ false → is_in (all_private (orders reduced)) p ≡ false
      shown_away p h =
          elim (is_in (all_private (orders reduced)) p) as (λ b. is_in (all_private (orders reduced)) p ≡ b → b ≡ false) [
            | true ↦ λ t. absurd (false≢true (sym h ∙ laid_hidden net reduced parts each p t))
            | false ↦ λ t. refl
          ] refl

      module _ (i j : ℕ) (start : meets net i ≡ true) (end : meets net j ≡ true) where
        -- before both, in the joined order and in that of the shared points
        abbrev BeforeAll : ℕ → Type 0
        BeforeAll p = ComesBefore (order_of reduced s) p i × ComesBefore (order_of reduced s) p j

        abbrev BeforeShared : ℕ → Type 0
        BeforeShared p = ComesBefore (reverse s.order) p i × ComesBefore (reverse s.order) p j

        laid_before : (p : ℕ) → is_in (all_private (orders reduced)) p ≡ true → BeforeAll p
        laid_before p here = (
          before-private (orders reduced) (reverse s.order) i (shown_away i (shown net i start)) (meets_laid i start) p here,
          before-private (orders reduced) (reverse s.order) j (shown_away j (shown net j end)) (meets_laid j end) p here,
        )

        private_before : (p : ℕ) → IsPrivate net p → BeforeAll p
        private_before p h = laid_before p (private_laid net reduced parts each h.0 p h.1 h.2)

        away_before : (p : ℕ) → is_in (all_private (orders reduced)) p ≡ false → BeforeAll p ↔ BeforeShared p
        away_before p away =
            let first = before-shared (orders reduced) (reverse s.order) i (shown_away i (shown net i start)) (meets_laid i start) p away in
            let last = before-shared (orders reduced) (reverse s.order) j (shown_away j (shown net j end)) (meets_laid j end) p away in
            (λ g. (first.0 g.0, last.0 g.1), λ g. (first.1 g.0, last.1 g.1))

        contracts : IsJoined (arcs_of net) (order_of reduced s) i j → IsJoined meeting (reverse s.order) i j
        contracts h =
            let path = path_contracts net valid meeting (arc_for net valid summaries meeting right_parts is_meeting) BeforeAll i j h.different
            (shown net i start) (shown net j end) (h.inner, h.path, h.before) in
            let on = path-over (λ p. BeforeAll p × (is_hidden net p ≡ false)) BeforeShared meeting meeting i j (λ a here. here)
            (λ p g. (away_before p (shown_away p g.1)).0 g.0) path.0 path.1 path.2 in
            record { different = h.different; inner = on.0; path = on.1; before = on.2 }

        -- a point that comes before a shared one, as these were eliminated, comes before it in the joined order
        up_before : (p : ℕ) → BeforeShared p → BeforeAll p
        up_before p g =
            elim (is_in (all_private (orders reduced)) p) as (λ b. is_in (all_private (orders reduced)) p ≡ b → BeforeAll p) [
              | true ↦ λ t. laid_before p t
              | false ↦ λ t. (away_before p t).1 g
            ] refl

        expands : IsJoined meeting (reverse s.order) i j → IsJoined (arcs_of net) (order_of reduced s) i j
        expands h =
            let wide = path-over BeforeShared BeforeAll meeting meeting i j (λ a here. here) up_before h.inner h.path h.before in
            let path = path_expands net valid summaries meeting right_parts is_meeting BeforeAll private_before i j wide.0 wide.1 wide.2 in
            record { different = h.different; inner = path.0; path = path.1; before = path.2 }

        pub shared_pairs : IsJoined (arcs_of net) (order_of reduced s) i j ↔ (is_joined (interface_of net) s i j ≡ true)
        shared_pairs =
            let graph = joined_is (interface_of net) s i j in
            (λ h. graph.1 (contracts h), λ h. expands (graph.0 h))

pub shared_pairs_join : SharedPairsJoin
shared_pairs_join net reduced s journal valid parts each published kept all whole i j start end =
    shared_pairs net valid reduced parts each s published journal kept all whole i j start end
