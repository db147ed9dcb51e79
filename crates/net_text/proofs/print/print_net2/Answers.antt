use Rattle.net_text.specs.declared.version.Version.TheVariants.{Two}
use Rattle.net_text.proofs.NetworksBack.{plain_read_back}
use Rattle.net_text.proofs.print.print_net2.Goals as goal

pub returns-clause-read_back : goal.returns-clause-read_back
returns-clause-read_back c = plain_read_back Two c.args.net.now c.print_in.ensures.valid tt
