-- The parts of one network have final bounds for the pairs of their summaries, and one back sweep each: parts_found, backs_from.
use Rattle.std.proofs.Common.{◌≡◌, ℕ, ◌<◌, List, Some, length, map, get_or, ap, sym, ◌∙◌, subst, arith}
use Rattle.std.specs.Prelude.{slice_get, Result, Ok, Err, IfOk}
use Rattle.std.proofs.lemmas.List.{length-map, get_or-map}
use Rattle.std.proofs.lemmas.Option.{slice_get_within, get_or_from_slice_get}
use Rattle.stn_model.specs.Net.{Net}
use Rattle.private_elim.specs.Backs.{BoundsView}
use Rattle.private_elim.specs.ReducedViews.{ReducedView}
use Rattle.shared_graph.specs.declared.events.Phase.TheVariants.{Order, Reverse}
use Rattle.shared_graph.specs.Histories.{SharedView}
use Rattle.shared_graph.specs.Journals.{IsDone}
use Rattle.shared_graph.specs.Together.{HoldsTogether}
use Rattle.conflict_cycle.specs.PartOrders.{AreReduced}
use Rattle.conflict_cycle.specs.Parts.{AreFound, IsBackOf}
use Rattle.conflict_cycle.proofs.GraphFinals.{summary_found}
use Rattle.agent_worker.specs.Backs.{ArePartsOfOne, AreBacks}

pub parts_found : (net : Net) (reduced : List ReducedView) (v : SharedView) → ArePartsOfOne net reduced v → IsDone v.face v.state Order
    → IsDone v.face v.state Reverse → HoldsTogether v.face v.state → AreReduced reduced
    → (a : ℕ) (r : ReducedView) → slice_get reduced a ≡ Some r → AreFound v.face v.state r.summary
parts_found net reduced v h ordered revisited together known a r there =
    let inside = slice_get_within reduced a r there in
    let many = h.parts.one_each in
    summary_found net v h.stands ordered revisited together a r (h.parts.each a r there) (omega arith) (known a r there)

-- sweeps that were all there are one for each part
pub backs_from : {E : Type 0} (v : SharedView) (reduced : List ReducedView) (swept : List (Result BoundsView E)) (bounds : List BoundsView)
    → length swept ≡ length reduced → map (λ b. Ok b) bounds ≡ swept
    → ((i : ℕ) (d : Result BoundsView E) → i < length reduced
    → IfOk (get_or swept i d) (λ b. (r : ReducedView) → slice_get reduced i ≡ Some r → IsBackOf v.face v.state r b))
    → AreBacks v reduced bounds
backs_from {E} v reduced swept bounds many are met = record {
  one_each = sym (length-map bounds (λ b. Ok b)) ∙ ap length are ∙ many;
  each = λ a r b there here.
      let inside = slice_get_within bounds a b here in
      let low = slice_get_within reduced a r there in
      let at : get_or swept a (Ok b) ≡ Ok b = ap (λ xs. get_or xs a (Ok b)) (sym are) ∙ get_or-map (λ b. Ok b) bounds a b (Ok b) inside
      ∙ ap (λ x. Ok x) (get_or_from_slice_get bounds a b b here) in
      subst (λ (o : Result BoundsView E). IfOk o (λ b. (r : ReducedView) → slice_get reduced a ≡ Some r → IsBackOf v.face v.state r b)) at (met a (Ok b) low) r there;
}

-- the same of a list that may not be there
pub if_swept : {E F : Type 0} {V : Type 0} (items : V → List BoundsView) (v : SharedView) (reduced : List ReducedView)
    (swept : List (Result BoundsView E)) (o : Result V F) → length swept ≡ length reduced
    → IfOk o (λ l. map (λ b. Ok b) (items l) ≡ swept)
    → ((i : ℕ) (d : Result BoundsView E) → i < length reduced
    → IfOk (get_or swept i d) (λ b. (r : ReducedView) → slice_get reduced i ≡ Some r → IsBackOf v.face v.state r b))
    → IfOk o (λ l. AreBacks v reduced (items l))
if_swept {E} {F} {V} items v reduced swept (Ok l) many are met = backs_from v reduced swept (items l) many are met
if_swept {E} {F} {V} items v reduced swept (Err e) many are met = tt
