use Rattle.std.proofs.Common.{map}
use Rattle.mastn.proofs.CommandTexts.{said_more, command_of}
use Rattle.mastn.proofs.commands.say_all.Goals as goal

pub say-requires-clause-of : goal.say-requires-clause-of
say-requires-clause-of c =
    command_of c.args.joined.now.network c.args.commands.now c.loop-command.command-index c.command-item.result c.loop-command-test.true c.command-item.is
    c.requires.of

pub loop-command-preserved : goal.loop-command-preserved
loop-command-preserved c =
    let told = c.in_ok-say.ensures in
    said_more c.args.joined.now.network (map (λ p. p.0) c.args.joined.now.order) c.args.commands.now c.loop-command.command-index c.command-item.result
    c.args.out.now.items c.loop-command.out.items c.say.new.out.items told.0 c.loop-command-test.true c.command-item.is c.loop-command.invariant told.1 told.2
