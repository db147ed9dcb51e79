-- What the tests of an entry come to: refused_as, refused_assign, listed_by, whole_at.
use Rattle.std.proofs.Common.{◌≡◌, ℕ, Bool, true, false, not, Option, Some, None, ap, sym, ◌∙◌}
use Rattle.std.specs.Prelude.{ℤ, if◌then◌else◌, is_some}
use Rattle.std.specs.Option.{option_map}
use Rattle.stn_model.specs.declared.ids.AgentId.{AgentId}
use Rattle.stn_model.specs.declared.ids.PointId.{PointId}
use Rattle.stn_walk.specs.Eliminations.{is_in}
use Rattle.shared_graph.specs.declared.events.Entry.{Entry}
use Rattle.shared_graph.specs.declared.events.Event.{Event}
use Rattle.shared_graph.specs.declared.events.Event.TheVariants.{Assign}
use Rattle.shared_graph.specs.declared.events.Illegal.{Illegal}
use Rattle.shared_graph.specs.declared.events.Illegal.TheVariants.{Stopped}
use Rattle.shared_graph.specs.Interfaces.{InterfaceView, points_of, is_listed}
use Rattle.shared_graph.specs.Refusals.{cause_of, refusal}
use Rattle.shared_graph.specs.States.{State}
use Rattle.shared_graph.specs.Weights.{first_passing}
use Rattle.shared_graph.proofs.states.Passing.{passing_none, listed_in, not_false}

-- before a stop, by the kind of the event
pub refused_as : (face : InterfaceView) (s : State) (e : Entry) (event : Event) (r : Option Illegal) → is_some s.stop ≡ false → e.event ≡ event
    → r ≡ cause_of face s e.by event → r ≡ refusal face s e
refused_as face s e event r going is by_event =
    by_event ∙ ap (cause_of face s e.by) (sym is) ∙ sym (λ t. if going t then Some Stopped else cause_of face s e.by e.event)

-- a time that is read is the entry's
pub refused_assign : (face : InterfaceView) (s : State) (e : Entry) (k : PointId) (value as_read : ℤ) (r : Option Illegal) → is_some s.stop ≡ false
    → e.event ≡ Assign k value → as_read ≡ value → r ≡ cause_of face s e.by (Assign k as_read) → r ≡ refusal face s e
refused_assign face s e k value as_read r going is same by_event =
    refused_as face s e (Assign k value) r going is (by_event ∙ ap (λ z. cause_of face s e.by (Assign k z)) same)

-- a point whose owner was found is listed
pub listed_by : (owner : Option AgentId) (o : Option ℕ) (none : Bool) → option_map (λ (a : AgentId). a.0) owner ≡ o → is_some owner ≡ not none → none ≡ false
    → is_some o ≡ true
listed_by None o none read is there = absurd (let f : false ≡ not none = is in let g = ap not there in cc)
listed_by (Some a) o none read is there = ap (λ x. is_some x) (sym read)

-- where no point is open, each is eliminated
pub whole_at : (face : InterfaceView) (s : State) (p : ℕ) → is_listed face p ≡ true → first_passing (λ p. not (is_in s.order p)) (points_of face) ≡ None
    → is_in s.order p ≡ true
whole_at face s p listed none =
    not_false (is_in s.order p) (passing_none (λ p. not (is_in s.order p)) (points_of face) none p (listed_in face.points p listed))
