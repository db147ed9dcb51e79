-- The first arc that is found, or the end.
use Rattle.std.proofs.Common.{◌≡◌, ◌<◌, true, length, sym, ap, ◌∙◌, arith}
use Rattle.stn_model.specs.Arcs.{no_arc, arc_at}
use Rattle.stn_model.specs.Net.{arcs_of}
use Rattle.cert_check.specs.Rows.{is_broken}
use Rattle.cert_check.proofs.Firsts.{first_at, none_at}
use Rattle.cert_check.proofs.row.Row.first_broken.Goals as goal

pub returns-then-breaks : goal.returns-then-breaks
returns-then-breaks c =
    let lt : c.loop-n.n < length (arcs_of c.args.net.now) = omega (arith, c.arcs-n-end.ensures.count) in
    let passes : is_broken c.args.self.now (arc_at (arcs_of c.args.net.now) c.loop-n.n) ≡ true =
    sym (ap (is_broken c.args.self.now) c.arc.ensures.arc) ∙ sym c.breaks.ensures ∙ c.if-breaks.true in
    sym (first_at (is_broken c.args.self.now) (arcs_of c.args.net.now) no_arc c.loop-n.n lt c.loop-n.invariant passes)

pub returns : goal.returns
returns c =
    let end : c.loop-n.n ≡ length (arcs_of c.args.net.now) = omega (arith, c.arcs-n-end.ensures.count) in
    sym (none_at (is_broken c.args.self.now) (arcs_of c.args.net.now) no_arc c.loop-n.n end c.loop-n.invariant)
