use Rattle.std.proofs.Common.{◌≡◌, ap, sym, ◌∙◌, subst}
use Rattle.tri_solve.specs.Edges.{ids, AreBoundsOf}
use Rattle.joined_answer.specs.LeastBounds.{AreLeastBounds}
use Rattle.joined_answer.specs.Points.{ArePointsOf}
use Rattle.joined_answer.proofs.LaidBounds.{are_bounds, are_bounds_of}
use Rattle.joined_answer.proofs.joined.Joined.chordal.Goals as goal

pub new-requires : goal.new-requires
new-requires c =
    let net = c.args.self.now.network in
    let order = ids c.in_ok-order.order.items in
    let edges = c.in_ok-edges.edges.items in
    let same : order ≡ ids c.args.self.now.order = ap ids (c.in_ok-order.ensures.items ∙ c.order.ensures) in
    are_bounds net c.know_points.ensures.network order edges (subst (ArePointsOf net) (sym same) c.know_points.ensures.points)
    (subst (λ o. AreLeastBounds net o edges) (sym same) c.in_ok-edges.ensures)

pub returns-clause-whole : goal.returns-clause-whole
returns-clause-whole c =
    let net = c.args.self.now.network in
    let order = ids c.in_ok-order.order.items in
    let edges = c.in_ok-edges.edges.items in
    let same : order ≡ ids c.args.self.now.order = ap ids (c.in_ok-order.ensures.items ∙ c.order.ensures) in
    subst (AreBoundsOf net) (sym c.in_ok-bounds.ensures.seen)
    (are_bounds_of net c.know_points.ensures.network order edges (subst (ArePointsOf net) (sym same) c.know_points.ensures.points)
    (subst (λ o. AreLeastBounds net o edges) (sym same) c.in_ok-edges.ensures))
