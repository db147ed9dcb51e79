use Rattle.mastn.proofs.Digits.{zero_digit}
use Rattle.mastn.proofs.run.refuse_words.Goals as goal

pub returns-clause-writing : goal.returns-clause-writing
returns-clause-writing g c = rw zero_digit c.deliver.ensures.writing
