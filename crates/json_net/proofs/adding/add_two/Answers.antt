-- Two arcs, one after the other.
use Rattle.std.proofs.Common.{◌≡◌, arith}
use Rattle.std.proofs.lemmas.Int.{ints}
use Rattle.net_text.proofs.Meanings.{two_arcs, within}
use Rattle.json_net.proofs.adding.add_two.Goals as goal

pub returns : goal.returns
returns c =
    let kept = within c.args.low c.requires.range in
    let both = two_arcs c.args.net.now c.add_arc.new.self c.add_arc-2.new.self c.args.from.0 c.args.to.0 _ c.args.high _ c.args.low
    c.in-Ok.ensures.ok.1 c.in-Ok-add_arc.ensures.ok.1 (omega (arith, ints)) (omega (arith, ints)) in
    cc
