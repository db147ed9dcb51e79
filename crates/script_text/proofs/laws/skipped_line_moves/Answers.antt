-- The law is a lemma.
use Rattle.script_text.proofs.Skipped.{skipped_line_moves}
use Rattle.script_text.proofs.laws.skipped_line_moves.Goals as goal

pub returns : goal.returns
returns c = skipped_line_moves
