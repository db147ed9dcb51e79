use Rattle.std.proofs.Common.{map}
use Rattle.mastn.proofs.BoundTexts.{bounds_listed, says_bounds}
use Rattle.mastn.proofs.commands.say_bounds.Goals as goal

pub bounds_part-requires : goal.bounds_part-requires
bounds_part-requires c =
    let found = c.in_ok-bounds.ensures in
    let known = bounds_listed c.args.joined.now.network c.network.result.now (map (λ p. p.0) c.args.joined.now.order) found.0 c.in_ok-bounds.bounds.items
    c.as_slice.result.now c.network.ensures.joined.network found.1 found.2 c.as_slice.ensures.value c.network.ensures.network in
    record { from = known.0; to = known.1 }

pub returns : goal.returns
returns c =
    let found = c.in_ok-bounds.ensures in
    says_bounds c.args.joined.now.network c.network.result.now (map (λ p. p.0) c.args.joined.now.order) found.0 c.in_ok-bounds.bounds.items
    c.as_slice.result.now c.args.out.now.items c.bounds_part.new.out.items found.1 found.2 c.as_slice.ensures.value c.network.ensures.network
    c.in_ok-bounds_part.ensures.ok
