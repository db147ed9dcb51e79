use Rattle.std.proofs.Common.{Ok, Err, refl}
use Rattle.mastn.specs.Reports.{refusal_line}
use Rattle.mastn.specs.Runs.{refusal_word}
use Rattle.mastn.proofs.run.run_solve.Goals as goal

pub returns-in-Ok-clause-solve : goal.returns-in-Ok-clause-solve
returns-in-Ok-clause-solve g c = record {
  meant = Ok c.in-Ok.answer.outcome;
  text = c.in-Ok.answer.text.items;
  means = c.in-Ok.ensures.answer;
  writes = rw (c.as_slice.ensures.value, c.status.ensures) at c.deliver.ensures.writing;
}

pub returns-in-Err-clause-solve : goal.returns-in-Err-clause-solve
returns-in-Err-clause-solve g c = record {
  meant = Err c.in-Err.refusal;
  text = refusal_line (refusal_word c.in-Err.refusal);
  means = (c.in-Err.ensures.refused, refl);
  writes = c.refuse.ensures.writing;
}
