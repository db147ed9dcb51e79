use Rattle.std.specs.Prelude.{length}
use Rattle.agent_worker.proofs.reverse.sweep_all.Given as goal

-- the desk is named by its number of agents and its journal at the start
abbrev pub ghosts-sweep_desk-L-Ledger : goal.ghosts-sweep_desk-L-Ledger
ghosts-sweep_desk-L-Ledger g a = record { name = a.blank.name; parts = a.blank.parts }

abbrev pub ghosts-sweep_desk-L-DeskName : goal.ghosts-sweep_desk-L-DeskName
ghosts-sweep_desk-L-DeskName g a = record { agents = a.blank.parts; start = length a.shared.journal }
