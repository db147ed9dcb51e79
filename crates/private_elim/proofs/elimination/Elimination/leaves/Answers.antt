use Rattle.std.proofs.Common.{map, sym, ap, ◌∙◌}
use Rattle.std.specs.Prelude.{reverse, length}
use Rattle.elim_step.specs.Eliminated.{point_at, forward_of}
use Rattle.private_elim.specs.Locals.{arcs_in}
use Rattle.private_elim.proofs.walks.LeafWalks.{cell_there, sums_of, unfolded}
use Rattle.private_elim.proofs.elimination.Elimination.leaves.Goals as goal

pub unfold-requires : goal.unfold-requires
unfold-requires g c κs known =
    let i = c.self.inside in
    let order = map (λ p. p.0) i.order.items in
    let at = g.R.Rows.at i.rows in
    let origins = c.self.invariant.taken.origins in
    let points = (rw (← c.self.view_is) at c.requires.1.0) in
    let taken = (rw (← c.self.view_is) at c.requires.1.1.0) in
    let within = (rw (← c.self.view_is) at c.requires.1.1.1.0) in
    let there =
    cell_there (at c.args.from c.args.to) (forward_of (arcs_in i.local) (reverse order) (point_at i.local.points c.args.from) (point_at i.local.points c.args.to))
    (c.self.invariant.taken.cells.cells c.args.from c.args.to within.0 within.1 c.requires.1.1.1.1.0) (rw (← c.self.view_is) at c.requires.1.1.1.1.1) in (
      known,
      (
        c.self.invariant.square ∙ sym (ap length points),
        (rw c.self.invariant.square within, (there, sums_of i.local order at origins g.places.points g.places.es points taken)),
      ),
    )

pub returns-clause-given : goal.returns-clause-given
returns-clause-given g c =
    let i = c.self.inside in
    let order = map (λ p. p.0) i.order.items in
    let at = g.R.Rows.at i.rows in
    let origins = c.self.invariant.taken.origins in
    let points = (rw (← c.self.view_is) at c.requires.1.0) in
    let taken = (rw (← c.self.view_is) at c.requires.1.1.0) in
    let within = (rw (← c.self.view_is) at c.requires.1.1.1.0) in
    (unfolded i.local order at origins g.places.points g.places.es points taken c.args.from c.args.to c.in_ok-leaves.leaves.items
    c.in_ok-leaves.ensures.lead c.in_ok-leaves.ensures.leaf c.in_ok-leaves.ensures.weight
    (c.self.invariant.taken.cells.cells c.args.from c.args.to within.0 within.1 c.requires.1.1.1.1.0)).given

pub returns-clause-walk : goal.returns-clause-walk
returns-clause-walk g c =
    let i = c.self.inside in
    let order = map (λ p. p.0) i.order.items in
    let at = g.R.Rows.at i.rows in
    let origins = c.self.invariant.taken.origins in
    let points = (rw (← c.self.view_is) at c.requires.1.0) in
    let taken = (rw (← c.self.view_is) at c.requires.1.1.0) in
    let within = (rw (← c.self.view_is) at c.requires.1.1.1.0) in
    rw (← c.self.view_is) (unfolded i.local order at origins g.places.points g.places.es points taken c.args.from c.args.to c.in_ok-leaves.leaves.items
    c.in_ok-leaves.ensures.lead c.in_ok-leaves.ensures.leaf c.in_ok-leaves.ensures.weight
    (c.self.invariant.taken.cells.cells c.args.from c.args.to within.0 within.1 c.requires.1.1.1.1.0)).walk

pub returns-clause-weight : goal.returns-clause-weight
returns-clause-weight g c =
    let i = c.self.inside in
    let order = map (λ p. p.0) i.order.items in
    let at = g.R.Rows.at i.rows in
    let origins = c.self.invariant.taken.origins in
    let points = (rw (← c.self.view_is) at c.requires.1.0) in
    let taken = (rw (← c.self.view_is) at c.requires.1.1.0) in
    let within = (rw (← c.self.view_is) at c.requires.1.1.1.0) in
    rw (← c.self.view_is) (unfolded i.local order at origins g.places.points g.places.es points taken c.args.from c.args.to c.in_ok-leaves.leaves.items
    c.in_ok-leaves.ensures.lead c.in_ok-leaves.ensures.leaf c.in_ok-leaves.ensures.weight
    (c.self.invariant.taken.cells.cells c.args.from c.args.to within.0 within.1 c.requires.1.1.1.1.0)).weighs

pub returns-clause-through : goal.returns-clause-through
returns-clause-through g c =
    let i = c.self.inside in
    let order = map (λ p. p.0) i.order.items in
    let at = g.R.Rows.at i.rows in
    let origins = c.self.invariant.taken.origins in
    let points = (rw (← c.self.view_is) at c.requires.1.0) in
    let taken = (rw (← c.self.view_is) at c.requires.1.1.0) in
    let within = (rw (← c.self.view_is) at c.requires.1.1.1.0) in
    rw (← c.self.view_is) (unfolded i.local order at origins g.places.points g.places.es points taken c.args.from c.args.to c.in_ok-leaves.leaves.items
    c.in_ok-leaves.ensures.lead c.in_ok-leaves.ensures.leaf c.in_ok-leaves.ensures.weight
    (c.self.invariant.taken.cells.cells c.args.from c.args.to within.0 within.1 c.requires.1.1.1.1.0)).through
