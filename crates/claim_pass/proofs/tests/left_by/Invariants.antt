use Rattle.std.specs.Prelude.{length}
use Rattle.claim_pass.proofs.tests.left_by.Given as goal

-- the desk is named by its number of agents and its journal at the start
abbrev pub ghosts-all_answered-L-Ledger : goal.ghosts-all_answered-L-Ledger
ghosts-all_answered-L-Ledger g a = record { name = a.blank.name; parts = a.blank.parts }

abbrev pub ghosts-all_answered-L-DeskName : goal.ghosts-all_answered-L-DeskName
ghosts-all_answered-L-DeskName g a = record { agents = a.blank.parts; start = length a.shared.journal }
