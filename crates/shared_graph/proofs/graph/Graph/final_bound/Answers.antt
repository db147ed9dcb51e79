use Rattle.std.proofs.Common.{◌∙◌, sym}
use Rattle.shared_graph.proofs.graphs.Telling.{strange_from, strange_to, no_final}
use Rattle.shared_graph.proofs.graph.Graph.final_bound.Goals as goal

pub returns-in_err-from : goal.returns-in_err-from
returns-in_err-from g c =
    let v = c.args.self.now in
    let told = c.in_err-from.ensures in
    let away = strange_from v.face c.place_of.ensures.interface v.state c.place_of.ensures.together c.args.i.0 c.args.j.0 told.none in
    record { value = c.from_residual.ensures ∙ sym (no_final v.face v.state c.args.i.0 c.args.j.0 away) }

pub returns-in_err-to : goal.returns-in_err-to
returns-in_err-to g c =
    let v = c.args.self.now in
    let told = c.in_err-to.ensures in
    let away = strange_to v.face c.place_of.ensures.interface v.state c.place_of.ensures.together c.args.i.0 c.args.j.0 told.none in
    record { value = c.from_residual-in_err-to.ensures ∙ sym (no_final v.face v.state c.args.i.0 c.args.j.0 away) }
