use Rattle.std.proofs.Common.{Ok, Err, refl}
use Rattle.stn_io.specs.declared.whole.ReadRefusal.TheVariants.{OutOfMemory}
use Rattle.mastn.specs.declared.answer.Outcome.TheVariants.{Done}
use Rattle.mastn.specs.Reports.{refusal_line}
use Rattle.mastn.specs.Runs.{refusal_word}
use Rattle.mastn.proofs.run.run_gen.Goals as goal

pub returns-in-Ok-clause-generated : goal.returns-in-Ok-clause-generated
returns-in-Ok-clause-generated g c = record {
  meant = Ok Done;
  text = c.in-Ok.text.items;
  means = c.in-Ok.ensures;
  writes = rw c.as_slice.ensures.value at c.deliver.ensures.writing;
}

pub returns-in-Err-clause-generated : goal.returns-in-Err-clause-generated
returns-in-Err-clause-generated g c = record {
  meant = Err OutOfMemory;
  text = refusal_line (refusal_word OutOfMemory);
  means = refl;
  writes = c.refuse.ensures.writing;
}
