use Rattle.std.proofs.Common.{[], refl, sym, append-nil}
use Rattle.agent_worker.proofs.joiner.chosen.Goals as goal

pub returns-else-goes_on : goal.returns-else-goes_on
returns-else-goes_on c =
    record { face = refl; agree = c.requires.agree; steps = []; journal = sym (append-nil c.args.kept.journal); of_phase = refl }
