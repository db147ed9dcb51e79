use Rattle.std.proofs.Common.{codes, []}
use Rattle.net_text.specs.Plain.{line}
use Rattle.net_gen.specs.Generated.{generated}
use Rattle.mastn.proofs.Scripts.{script_behind}
use Rattle.mastn.proofs.generate.generated_text.Goals as goal

pub returns : goal.returns
returns c =
    script_behind c.in_ok-net.net (generated c.args.number c.args.size) (line (codes "windows") []) (line (codes "done") []) c.new-text.result.items
    c.print_net.new.out.items c.add_line.new.out.items c.add_line-2.new.out.items c.in_ok-net.ensures.network c.new-text.ensures.items
    c.in_ok-print_net.ensures.ok c.in_ok-add_line.ensures.ok c.in_ok-add_line-2.ensures.ok
