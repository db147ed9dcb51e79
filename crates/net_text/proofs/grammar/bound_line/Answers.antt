-- A line that adds two arcs.
use Rattle.std.proofs.Common.{subst, arith}
use Rattle.std.proofs.lemmas.Int.{ints}
use mir.Val.{to_z, of_z}
use mir.Syntax.{w64}
use Rattle.net_text.specs.Adding.{Adds}
use Rattle.net_text.proofs.Meanings.{bound_known}
use Rattle.net_text.proofs.grammar.bound_line.Goals as goal

pub returns : goal.returns
returns c =
    subst (λ s. Adds s c.add_bound.result c.add_bound.new.net)
    (bound_known c.args.net.now c.args.fields.now c.in_ok-low.low c.in_ok-high.high
    (to_z w64 (of_z w64 c.in_ok-low.low)) (to_z w64 (of_z w64 c.in_ok-high.high)) c.in_ok-from.from.0 c.in_ok-to.to.0
    c.in-len4.len_at_least c.in-len4.len_below c.in_ok-low.ensures c.in_ok-high.ensures
    c.in_ok-from.ensures.found c.in_ok-to.ensures.found (omega (arith, ints)) (omega (arith, ints)))
    c.add_bound.ensures
