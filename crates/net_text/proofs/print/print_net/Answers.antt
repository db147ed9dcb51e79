use Rattle.net_text.specs.Versions.{least_version}
use Rattle.net_text.proofs.NetworksBack.{plain_read_back, least_serves}
use Rattle.net_text.proofs.print.print_net.Goals as goal

pub returns-clause-read_back : goal.returns-clause-read_back
returns-clause-read_back c = plain_read_back (least_version c.args.net.now) c.args.net.now c.print_in.ensures.valid (least_serves c.args.net.now)
