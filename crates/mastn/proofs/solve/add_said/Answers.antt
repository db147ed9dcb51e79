use Rattle.std.proofs.Common.{subst, sym}
use Rattle.stn_model.specs.Net.{Net}
use Rattle.script_text.specs.Possible.{IsScriptOf}
use Rattle.mastn.proofs.Solving.{says_order}
use Rattle.mastn.proofs.solve.add_said.Goals as goal

pub say_all-requires-clause-of : goal.say_all-requires-clause-of
say_all-requires-clause-of c = subst (λ (n : Net). IsScriptOf n c.args.commands.now) (sym c.requires.network) c.requires.of

pub returns : goal.returns
returns c =
    let joined = c.args.joined.now in
    let told = c.in_ok-say_all.ensures in (
      told.0,
      says_order c.args.net.now joined.network joined.section joined.order c.args.commands.now told.0 c.requires.network
          c.network-network.ensures.joined.order told.1,
      told.2,
    )
