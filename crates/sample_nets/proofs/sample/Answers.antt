use Rattle.std.proofs.Common.{◌≡◌, ◌++◌, ◌∷◌, [], ap, sym, ◌∙◌, refl, arith, rules, length, take, get_or, to_z, of_z, w64}
use Rattle.std.proofs.lemmas.Int.{ints}
use Rattle.std.proofs.lemmas.List.{take_all}
use Rattle.sample_nets.specs.Samples.{letters}
use Rattle.sample_nets.proofs.Letters.{letters-next}
use Rattle.sample_nets.proofs.sample.Goals as goal

pub loop-n-preserved : goal.loop-n-preserved
loop-n-preserved c =
    let more = letters-next 97 c.args.owners.now c.loop-n.n (search rules) in
    rw (c.in_ok-add_point.ensures, c.loop-n.invariant, more) (search rules)

pub returns : goal.returns
returns c =
    let xs = c.args.owners.now in
    let all : take c.loop-n.n xs ≡ xs = take_all c.loop-n.n xs (search rules) in
    let range = c.ranges.horizon.sfits in
    let kept : to_z w64 (of_z w64 c.args.horizon) ≡ c.args.horizon = omega (arith, ints) in
    rw (c.in_ok-add_arcs.ensures, c.loop-n.invariant, all, c.in_ok-net.ensures, kept) refl
