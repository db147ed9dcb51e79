use Rattle.std.proofs.Common.{◌+◌, ◌++◌, take, ap, ◌∙◌, arith}
use Rattle.std.specs.List.{flat_map}
use Rattle.stn_model.specs.Arcs.{no_arc}
use Rattle.stn_model.specs.declared.ids.Constraint.{Constraint}
use Rattle.stn_model.proofs.NetLemmas.{length-arcs_of}
use Rattle.net_text.specs.Plain.{arc_line}
use Rattle.net_text.proofs.Fronts.{flat_map_step, flat_map_whole, front_trans, on_err_from}
use Rattle.net_text.proofs.NetParts.{given_is}
use Rattle.net_text.proofs.print.add_arcs.Goals as goal

pub overflow_sub-given-end : goal.overflow_sub-given-end
overflow_sub-given-end c = omega (arith, length-arcs_of c.args.net.now)

pub returns-in_err-add_arc-clause-err : goal.returns-in_err-add_arc-clause-err
returns-in_err-add_arc-clause-err c =
    on_err_from c.from_residual.result
    (front_trans c.args.out.now.items (flat_map (arc_line c.args.net.now) (take c.loop-given.given c.args.net.now.given))
    c.loop-given.out.items c.add_arc.new.out.items c.loop-given.invariant c.in_err-add_arc.ensures.err)

pub loop-given-preserved : goal.loop-given-preserved
loop-given-preserved c =
    let arcs = length-arcs_of c.args.net.now in
    flat_map_step (arc_line c.args.net.now) c.args.net.now.given c.loop-given.given no_arc
    c.args.out.now.items c.loop-given.out.items c.add_arc.new.out.items (omega arith)
    c.loop-given.invariant
    (c.in_ok-add_arc.ensures.ok
    ∙ ap (λ (a : Constraint). c.loop-given.out.items ++ arc_line c.args.net.now a)
    (c.arc.ensures.arc ∙ given_is c.args.net.now (c.fixed_arcs-first.result + c.loop-given.given) c.loop-given.given (omega arith)))

pub returns-clause-ok : goal.returns-clause-ok
returns-clause-ok c =
    let arcs = length-arcs_of c.args.net.now in
    flat_map_whole (arc_line c.args.net.now) c.args.net.now.given c.loop-given.given
    c.args.out.now.items c.loop-given.out.items (omega arith) c.loop-given.invariant
