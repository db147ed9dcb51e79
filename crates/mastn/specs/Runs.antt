-- What a run answers, what it takes of its source, and what its sink takes: Writes, ReadsWhole, Means, Runs, MeansAlone, RunsAlone.
use Rattle.std.specs.Prelude.{◌≡◌, ℕ, ◌+◌, ◌≤◌, ◌⊎◌, List, [], length, codes, Result, Ok, Err, Some, IfSome}
use Rattle.std.specs.Io.KnownBytes.{Appends}
use Rattle.stn_io.specs.Causes.{Rose}
use Rattle.stn_io.specs.Bytes.{Loses, LosesAtMost, TakesFront}
use Rattle.stn_io.specs.States.{SourceState, SinkState}
use Rattle.stn_io.specs.declared.whole.ReadRefusal.{ReadRefusal}
use Rattle.stn_io.specs.declared.whole.ReadRefusal.TheVariants.{ReadFault, TooLong, OutOfMemory}
use Rattle.mastn.specs.declared.answer.Outcome.{Outcome}
use Rattle.mastn.specs.declared.status.Status.{Status}
use Rattle.mastn.specs.declared.status.Status.TheVariants.{WriteFault}
use Rattle.mastn.specs.Limits.{longest_input}
use Rattle.mastn.specs.Reports.{refusal_line}
use Rattle.mastn.specs.Statuses.{meant_status}

-- the whole text was taken, and no write failed
pub record WritesWhole (text : List ℕ) (old new : SinkState) : Type 0 where
  pub taken : Appends old.taken new.taken text
  pub kept : new.faults ≡ old.faults

-- a write failed, so the count of faults rose; a prefix of the text was taken, and not all of it
pub record WritesPrefix (text : List ℕ) (old new : SinkState) : Type 0 where
  pub taken : TakesFront old.taken new.taken text
  pub rose : Rose old.faults new.faults

-- the answer is the one that was meant, or a write failed
abbrev pub Writes : Status → List ℕ → SinkState → SinkState → Status → Type 0
Writes meant text old new answer = ((answer ≡ meant) × WritesWhole text old new) ⊎ ((answer ≡ WriteFault) × WritesPrefix text old new)

-- these are all bytes that the source had, and they are within the limit; none is left, and no read failed
pub record ReadsWhole (old new : SourceState) (bytes : List ℕ) : Type 0 where
  pub few : length bytes ≤ longest_input
  pub told : IfSome old.left (λ xs. bytes ≡ xs)
  pub ended : IfSome old.left (λ xs. new.left ≡ Some [])
  pub kept : new.faults ≡ old.faults

-- the word of an input that was not read whole, or for which memory ran out
abbrev pub refusal_word : ReadRefusal → List ℕ
refusal_word ReadFault = codes "ReadFault"
refusal_word TooLong = codes "InputTooLong"
refusal_word OutOfMemory = codes "OutOfMemory"

-- an answer without a report, by what became of the source: a failed read only where the count of faults rose, and no more than the limit
-- was taken then; a long input exactly where one byte more than the limit was taken; want of memory is free
abbrev pub Refuses : ReadRefusal → SourceState → SourceState → Type 0
Refuses ReadFault old new = LosesAtMost old.left new.left longest_input × Rose old.faults new.faults
Refuses TooLong old new = Loses old.left new.left (longest_input + 1) × (new.faults ≡ old.faults)
Refuses OutOfMemory old new = LosesAtMost old.left new.left longest_input × (new.faults ≡ old.faults)

-- what a job that reads means to answer, and its text, where it says for the bytes of its input what the first argument tells
abbrev pub Means : (List ℕ → Outcome → List ℕ → Type 0) → SourceState → SourceState → Result Outcome ReadRefusal → List ℕ → Type 0
Means says old new (Ok outcome) text = (bytes : List ℕ) × ReadsWhole old new bytes × says bytes outcome text
Means says old new (Err refusal) text = Refuses refusal old new × (text ≡ refusal_line (refusal_word refusal))

-- a job that reads all of its input: what it means to answer, with the text, and what became of that text
pub record Runs (says : List ℕ → Outcome → List ℕ → Type 0) (source left : SourceState) (sink taken : SinkState) (answer : Status) : Type 0 where
  pub meant : Result Outcome ReadRefusal
  pub text : List ℕ
  pub means : Means says source left meant text
  pub writes : Writes (meant_status meant) text sink taken answer

-- what a job that reads nothing means to answer, and its text; want of memory is free
abbrev pub MeansAlone : (Outcome → List ℕ → Type 0) → Result Outcome ReadRefusal → List ℕ → Type 0
MeansAlone says (Ok outcome) text = says outcome text
MeansAlone says (Err OutOfMemory) text = text ≡ refusal_line (refusal_word OutOfMemory)
MeansAlone says (Err refusal) text = ⊥

-- a job that reads nothing: what it means to answer, with the text, and what became of that text
pub record RunsAlone (says : Outcome → List ℕ → Type 0) (sink taken : SinkState) (answer : Status) : Type 0 where
  pub meant : Result Outcome ReadRefusal
  pub text : List ℕ
  pub means : MeansAlone says meant text
  pub writes : Writes (meant_status meant) text sink taken answer
