-- How a run ends by what it means to answer: number_of, status_of, refusal_status, meant_status.
use Rattle.std.specs.Prelude.{ℕ, Result, Ok, Err}
use Rattle.stn_io.specs.declared.whole.ReadRefusal.{ReadRefusal}
use Rattle.stn_io.specs.declared.whole.ReadRefusal.TheVariants as refusal
use Rattle.mastn.specs.declared.answer.Outcome.{Outcome}
use Rattle.mastn.specs.declared.answer.Outcome.TheVariants as outcome
use Rattle.mastn.specs.declared.status.Status.{Status}
use Rattle.mastn.specs.declared.status.Status.TheVariants.{Done, Inconsistent, WordsBad, NetBad, ScriptBad, ReadFault, WriteFault, OutOfMemory, InputTooLong, NotProved, TooLargeToCertify}

-- the exit status of the program
abbrev pub number_of : Status → ℕ
number_of Done = 0
number_of Inconsistent = 1
number_of WordsBad = 2
number_of NetBad = 3
number_of ScriptBad = 4
number_of ReadFault = 5
number_of WriteFault = 6
number_of OutOfMemory = 7
number_of InputTooLong = 8
number_of NotProved = 9
number_of TooLargeToCertify = 10

-- the status of what a job says
abbrev pub status_of : Outcome → Status
status_of outcome.Done = Done
status_of outcome.Inconsistent = Inconsistent
status_of outcome.NetBad = NetBad
status_of outcome.ScriptBad = ScriptBad
status_of outcome.NotProved = NotProved
status_of outcome.TooLarge = TooLargeToCertify

-- the status of an input that was not read whole, or for which memory ran out
abbrev pub refusal_status : ReadRefusal → Status
refusal_status refusal.ReadFault = ReadFault
refusal_status refusal.TooLong = InputTooLong
refusal_status refusal.OutOfMemory = OutOfMemory

-- the status of either
abbrev pub meant_status : Result Outcome ReadRefusal → Status
meant_status (Ok outcome) = status_of outcome
meant_status (Err refusal) = refusal_status refusal
