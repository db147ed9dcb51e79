use Rattle.shared_graph.proofs.times.Settings.{setting_holds}
use Rattle.shared_graph.proofs.times_laws.settings_hold.Goals as goal

pub returns : goal.returns
returns c = λ face known s together done. setting_holds face known s together done
