use Rattle.std.proofs.Common.{sym}
use Rattle.private_elim.proofs.taking.Forwards.{place_within, forward_from_strange, forward_to_strange, forward_between}
use Rattle.private_elim.proofs.reduced.Reduced.forward.Goals as goal

-- one of the points is not of the local problem
pub returns-in_err-from-clause-least : goal.returns-in_err-from-clause-least
returns-in_err-from-clause-least c =
    rw (← c.self.view_is) (λ _. forward_from_strange c.self.inside.elimination c.size-size.ensures.facts c.local-local.result.now c.local-local.ensures
    c.args.i.0 c.args.j.0 c.from_residual.result c.from_residual.ensures (sym c.in_err-from.ensures))

pub returns-in_err-to-clause-least : goal.returns-in_err-to-clause-least
returns-in_err-to-clause-least c =
    rw (← c.self.view_is) (λ _. forward_to_strange c.self.inside.elimination c.size-size.ensures.facts c.local-local.result.now c.local-local.ensures
    c.args.i.0 c.args.j.0 c.from_residual-in_err-to.result c.from_residual-in_err-to.ensures (sym c.in_err-to.ensures))

-- both stand at places
pub weight-requires : goal.weight-requires
weight-requires c =
    let t = c.self.inside.elimination in
    let h = c.size-size.ensures.facts in
    let v = c.local-local.result.now in
    record {
      within = (
        (place_within t h v c.local-local.ensures c.args.i.0 c.in_ok-from.from (sym c.in_ok-from.ensures)).0,
        (place_within t h v c.local-local.ensures c.args.j.0 c.in_ok-to.to (sym c.in_ok-to.ensures)).0,
      );
    }

pub returns-clause-least : goal.returns-clause-least
returns-clause-least c =
    rw (← c.self.view_is) (forward_between c.self.inside.elimination c.size-size.ensures.facts c.local-local.result.now c.local-local.ensures c.args.i.0
    c.args.j.0 c.in_ok-from.from c.in_ok-to.to c.weight.result (sym c.in_ok-from.ensures) (sym c.in_ok-to.ensures) c.weight.ensures.value)
