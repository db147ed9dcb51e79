use Rattle.std.proofs.Common.{sym, not, refl, ◌≡◌, [], true, Some, None, map}
use Rattle.std.specs.Prelude.{if◌then◌else◌}
use Rattle.std.specs.Option.{option_map}
use Rattle.stn_model.specs.declared.ids.PointId.{PointId}
use Rattle.shared_graph.specs.declared.events.Illegal.TheVariants.{NotShared, AlreadyDone}
use Rattle.shared_graph.specs.Interfaces.{IsInterface, points_of, is_listed, owner_in}
use Rattle.shared_graph.specs.Refusals.{or_else, order_open}
use Rattle.shared_graph.specs.Together.{HoldsTogether}
use Rattle.shared_graph.specs.Windows.{is_widened}
use Rattle.shared_graph.proofs.graphs.FirstTimes.{no_time_yet}
use Rattle.shared_graph.proofs.graphs.Refusing.{listed_by}
use Rattle.shared_graph.proofs.graph.Graph.widen_refusal.Goals as goal

pub returns : goal.returns
returns g c by end =
    let v = c.args.self.now in
    let known : IsInterface v.face = rw (← c.self.view_is) c.self.invariant.interface in
    let together : HoldsTogether v.face v.state = rw (← c.self.view_is) c.self.invariant.together in
    let listed : is_listed v.face c.args.point.0 ≡ true =
    listed_by c.owner.result (owner_in v.face c.args.point.0) c.is_none.result (rw (← c.self.view_is) c.owner.ensures) c.is_none.ensures c.if-is_none.false in
    let same : map (λ (p : PointId). p.0) c.points.result.now ≡ points_of v.face = rw (← c.self.view_is) c.points.ensures.points in
    let none : v.state.assigned ≡ [] = rw (← c.self.view_is) refl in
    let first = no_time_yet v.face known v.state together none c.args.point.0 listed c.points.result.now same in
    sym (λ t. if not (listed t) then Some NotShared else or_else (option_map order_open (first t))
    (if is_widened v.state c.args.point.0 end then Some AlreadyDone else None))
