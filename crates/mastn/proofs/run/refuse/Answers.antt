use Rattle.mastn.proofs.Digits.{zero_digit}
use Rattle.mastn.proofs.run.refuse.Goals as goal

pub returns-in-ReadFault-clause-writing : goal.returns-in-ReadFault-clause-writing
returns-in-ReadFault-clause-writing g c = rw (c.in-ReadFault.is, zero_digit) c.deliver.ensures.writing

pub returns-in-TooLong-clause-writing : goal.returns-in-TooLong-clause-writing
returns-in-TooLong-clause-writing g c = rw (c.in-TooLong.is, zero_digit) c.deliver-in-TooLong.ensures.writing

pub returns-in-OutOfMemory-clause-writing : goal.returns-in-OutOfMemory-clause-writing
returns-in-OutOfMemory-clause-writing g c = rw (c.in-OutOfMemory.is, zero_digit) c.deliver-in-OutOfMemory.ensures.writing
