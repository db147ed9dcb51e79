-- What the phases of a solve come to: stopped_parts, whole_parts, whole_done, parts_of, reduced_of, all_before, solved.
use Rattle.std.proofs.Common.{Vec, Global, ◌≡◌, ℕ, List, [], ◌∷◌, ◌++◌, true, ◌&&◌, ◌||◌, map, ap, sym, ◌∙◌, refl, arith, subst}
use Rattle.std.specs.List.{list_all}
use Rattle.std.proofs.Math.Bool.{or-true}
use Rattle.std.proofs.lemmas.Bool.{and_parts}
use Rattle.std.proofs.lemmas.Option.{slice_get_within}
use Rattle.stn_model.specs.Net.{Net, arcs_of, point_count}
use Rattle.stn_model.specs.Schedules.{IsConsistent}
use Rattle.private_elim.specs.Locals.{LocalView, local_of}
use Rattle.private_elim.specs.ReducedViews.{ReducedView}
use Rattle.shared_graph.specs.declared.events.Entry.{Entry}
use Rattle.shared_graph.specs.declared.events.Phase.TheVariants.{Order, Reverse}
use Rattle.shared_graph.specs.Histories.{SharedView}
use Rattle.shared_graph.specs.Interfaces.{InterfaceView, interface_of}
use Rattle.shared_graph.specs.Journals.{AgreeWith, IsDone, StandsFor, is_before_times, is_step_of}
use Rattle.shared_graph.proofs.graphs.Finishing.{agree_same}
use Rattle.conflict_cycle.specs.Belongs.{AreReducedOf}
use Rattle.agent_worker.specs.declared.forward.Forward.{Forward}
use Rattle.agent_worker.specs.declared.forward.Forward.TheVariants.{Stopped, Whole}
use Rattle.agent_worker.specs.Forwards.{ArePartsOf, IfReduced, IfWhole}
use Rattle.agent_worker.specs.Phases.{IsSwept}
use Rattle.agent_worker.specs.Works.{AreReducedFrom}
use Rattle.agent_worker.proofs.Parts.{local_at}
use Rattle.agent_worker.proofs.Phases.{still_done}
use Rattle.joined_answer.specs.Joins.{SolvedBy}

-- what an answer of the first phase shows
pub stopped_parts : (P : List ReducedView → SharedView → Type 0) (f : Forward) (r : Vec ReducedView Global) (v : SharedView) → f ≡ Stopped r v
    → IfReduced P f → P r.items v
stopped_parts P f r v is h = subst (IfReduced P) is h

pub whole_parts : (P : List ReducedView → SharedView → Type 0) (f : Forward) (r : Vec ReducedView Global) (v : SharedView) → f ≡ Whole r v
    → IfReduced P f → P r.items v
whole_parts P f r v is h = subst (IfReduced P) is h

pub whole_done : (P : List ReducedView → SharedView → Type 0) (f : Forward) (r : Vec ReducedView Global) (v : SharedView) → f ≡ Whole r v
    → IfWhole P f → P r.items v
whole_done P f r v is h = subst (IfWhole P) is h

-- the interface and the local problems of the network
pub parts_of : (net : Net) (face : InterfaceView) (locals items : List LocalView) → face ≡ interface_of net → locals ≡ items
    → ArePartsOf net (interface_of net) items → ArePartsOf net face locals
parts_of net face locals items is same h =
    subst (λ f. ArePartsOf net f locals) (sym is) (subst (ArePartsOf net (interface_of net)) (sym same) h)

-- the reduced parts of the network's agents
pub reduced_of : (answers : ℕ → ℕ → ℕ → Type 0) (net : Net) (face : InterfaceView) (locals : List LocalView) → ArePartsOf net face locals
    → (reduced : List ReducedView) → AreReducedFrom answers locals reduced → AreReducedOf net reduced
reduced_of answers net face locals parts reduced from = record {
  one_each = from.one_each ∙ parts.one_each;
  each = λ a r there.
      let within = slice_get_within reduced a r there in
      let many = from.one_each in
      let len = parts.one_each in
      (from.each a (local_of net a) r (local_at net face locals parts a (omega arith)) there).local;
}

-- steps of the first two phases come before times
order_before : (es : List Entry) → list_all (λ e. is_step_of Order e.event) es ≡ true → list_all (λ e. is_before_times e.event) es ≡ true
order_before [] h = refl
order_before (e ∷ es) h =
    let both = and_parts (is_step_of Order e.event) (list_all (λ f. is_step_of Order f.event) es) h in
    ap (λ b. (b || is_step_of Reverse e.event) && list_all (λ f. is_before_times f.event) es) both.0 ∙ order_before es both.1

reverse_before : (es : List Entry) → list_all (λ e. is_step_of Reverse e.event) es ≡ true → list_all (λ e. is_before_times e.event) es ≡ true
reverse_before [] h = refl
reverse_before (e ∷ es) h =
    let both = and_parts (is_step_of Reverse e.event) (list_all (λ f. is_step_of Reverse f.event) es) h in
    ap (λ b. b && list_all (λ f. is_before_times f.event) es) (ap (λ b. is_step_of Order e.event || b) both.0 ∙ or-true (is_step_of Order e.event))
    ∙ reverse_before es both.1

all-append : (es fs : List Entry) → list_all (λ e. is_before_times e.event) es ≡ true → list_all (λ e. is_before_times e.event) fs ≡ true
    → list_all (λ e. is_before_times e.event) (es ++ fs) ≡ true
all-append [] fs h g = g
all-append (e ∷ es) fs h g =
    let both = and_parts (is_before_times e.event) (list_all (λ f. is_before_times f.event) es) h in
    ap (λ b. b && list_all (λ f. is_before_times f.event) (es ++ fs)) both.0 ∙ all-append es fs both.1 g

-- the solved network
pub solved : (answers : ℕ → ℕ → ℕ → Type 0) (net : Net) (face : InterfaceView) (locals : List LocalView) → ArePartsOf net face locals
    → (reduced : List ReducedView) → AreReducedFrom answers locals reduced → (v w : SharedView) → IsConsistent (point_count net) (arcs_of net)
    → AgreeWith (map (λ r. r.summary) reduced) v.state → StandsFor net v → IsDone v.face v.state Order
    → list_all (λ e. is_step_of Order e.event) v.journal ≡ true → IsSwept Reverse v w → IsDone w.face w.state Reverse → SolvedBy net reduced w
solved answers net face locals parts reduced from v w consistent agree stands done steps sweep revisited = record {
  network = parts.network;
  consistent = consistent;
  parts = reduced_of answers net face locals parts reduced from;
  agree = agree_same (map (λ r. r.summary) reduced) v.state w.state sweep.published agree;
  stands = sweep.stands net stands;
  ordered = still_done v w sweep done;
  revisited = revisited;
  before =
      ap (list_all (λ e. is_before_times e.event)) sweep.journal
      ∙ all-append v.journal sweep.steps (order_before v.journal steps) (reverse_before sweep.steps sweep.of_phase);
}
