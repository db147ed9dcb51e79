use Rattle.tri_solve.proofs.Places.{up_point}
use Rattle.tri_solve.proofs.bounds.ChordalBounds.point_at.Goals as goal

pub returns-then-up : goal.returns-then-up
returns-then-up c =
    rw (c.if-up.true, ← c.self.view_is) (up_point c.self.inside.order.items c.args.turn c.index.result.now (rw (← c.self.view_is) at c.requires) c.index.ensures)
