use Rattle.std.proofs.Common.{map}
use Rattle.std.proofs.lemmas.List.{length-map}
use Rattle.mastn.proofs.WordLemmas.{four_words}
use Rattle.mastn.proofs.words.read_words.Goals as goal

pub returns-in_default-clause-job : goal.returns-in_default-clause-job
returns-in_default-clause-job c = four_words (map (λ w. w.items) c.args.words.now) (simp length-map c.in_default.len_at_least)
