use Rattle.std.proofs.Common.{sym, subst}
use Rattle.stn_model.specs.Net.{Net, point_count, arcs_of}
use Rattle.stn_model.specs.Schedules.{IsConsistent}
use Rattle.net_gen.proofs.Consistent.{generated_is_consistent}
use Rattle.net_gen.proofs.Results.{if_ok}
use Rattle.net_gen.proofs.generator.make.Goals as goal

pub returns-clause-consistent : goal.returns-clause-consistent
returns-clause-consistent c =
    let P : Net → Type 0 = λ n. IsConsistent (point_count n) (arcs_of n) in
    if_ok c.build.result (λ net e. subst P (sym e) (generated_is_consistent c.args.number c.args.size c.requires.size_low)) c.build.ensures
