use Rattle.std.proofs.Common.{◌<◌, arith, rules, None}
use Rattle.std.proofs.lemmas.List.{get_or_read}
use Rattle.elim_step.proofs.Rankings.{root_is_first}
use Rattle.elim_step.proofs.ranking.Ranking.first.Goals as goal

pub returns : goal.returns
returns c =
    let s = c.args.self.now in
    let some : 0 < s.size = search rules in
    let at = get_or_read s.nodes.items 1 c.index.result.now (let len = s.kept.len in omega (arith, len, some)) c.index.ensures None in
    rw c.number_of.ensures (root_is_first s.size s.nodes.items s.kept c.index.result.now at some)
