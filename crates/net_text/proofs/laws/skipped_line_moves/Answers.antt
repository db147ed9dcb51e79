-- The law is a lemma.
use Rattle.net_text.proofs.SkippedLines.{skipped_line_moves}
use Rattle.net_text.proofs.laws.skipped_line_moves.Goals as goal

pub returns : goal.returns
returns c = skipped_line_moves
