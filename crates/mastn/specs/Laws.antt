-- Laws of runs: ValidInputsAreReported, JsonNetworksAreReported, SolvesAreReported, GeneratedIsReported, CertifiedIsVerified, AreRisingOrders,
-- NumbersRise.
use Rattle.std.specs.Prelude.{◌≡◌, ℕ, ◌+◌, ◌<◌, ◌≤◌, ◌⊎◌, ◌++◌, List, [], length, map, take, drop, slice_index_or, Some, Ok}
use Rattle.std.specs.List.{AllPairs}
use Rattle.stn_io.specs.Causes.{Rose}
use Rattle.stn_io.specs.States.{SourceState, SinkState}
use Rattle.stn_model.specs.Net.{Net, point_count}
use Rattle.net_text.specs.declared.read.NetRead.{NetRead}
use Rattle.net_text.specs.Lines.{EndsInFeed}
use Rattle.net_text.specs.Networks.{text_of}
use Rattle.cert_check.specs.declared.verdict.Verdict.{Verdict}
use Rattle.cert_check.specs.declared.verdict.Verdict.TheVariants as verdict
use Rattle.cert_check.specs.Certificates.{verdict_of}
use Rattle.script_text.specs.Scripts.{script_of}
use Rattle.elim_journal.specs.Sections.{SectionView}
use Rattle.joined_answer.specs.Joins.{ArePrivateOrders, ArePickedOrders}
use Rattle.mastn.specs.declared.answer.Outcome.{Outcome}
use Rattle.json_net.specs.Texts.{SaysNetwork}
use Rattle.mastn.specs.declared.json.JsonQuestion.{JsonQuestion}
use Rattle.mastn.specs.declared.question.Question.{Question}
use Rattle.mastn.specs.declared.question.Question.TheVariants.{Check, Certify, Verify, Upgrade, Repair}
use Rattle.mastn.specs.declared.status.Status.{Status}
use Rattle.mastn.specs.declared.status.Status.TheVariants.{Done, Inconsistent, OutOfMemory}
use Rattle.script_text.specs.declared.command.Command.{Command}
use Rattle.mastn.specs.declared.script.Asked.TheVariants.{Told}
use Rattle.mastn.specs.declared.words.Pick.{Pick}
use Rattle.mastn.specs.declared.words.Pick.TheVariants.{Number}
use Rattle.mastn.specs.Gens.{Generates}
use Rattle.mastn.specs.Json.{says_of_json}
use Rattle.mastn.specs.Limits.{longest_input, most_certified}
use Rattle.mastn.specs.Questions.{says_of}
use Rattle.mastn.specs.Runs.{Runs, RunsAlone}
use Rattle.mastn.specs.Solves.{Asks, is_answer, solves}

-- the certificate shows something
abbrev pub IsShown : Verdict → Type 0
IsShown verdict.Consistent = Unit {0}
IsShown verdict.Inconsistent = Unit {0}
IsShown (verdict.No number cause) = ⊥

-- the network that an input begins with, and what follows its text, are such as the job asks for
abbrev pub Suits : Question → List ℕ → NetRead → Type 0
Suits Check bytes read = Unit {0}
Suits Certify bytes read = point_count read.net ≤ most_certified
Suits Verify bytes read = (point_count read.net ≤ most_certified) × IsShown (verdict_of read.net (read.lines + 1) (drop read.used bytes))
Suits Upgrade bytes read = Unit {0}
Suits Repair bytes read = Unit {0}

-- a run on a valid input: the source told it, it is within the limit and such as the job asks for, and neither count of faults rose
pub record IsValidRun (question : Question) (source left : SourceState) (sink taken : SinkState) : Type 0 where
  pub bytes : List ℕ
  pub told : source.left ≡ Some bytes
  pub few : length bytes ≤ longest_input
  pub read : NetRead
  pub begins : text_of bytes ≡ Ok read
  pub suits : Suits question bytes read
  pub reads : Rose source.faults left.faults → ⊥
  pub writes : Rose sink.faults taken.faults → ⊥

-- a run on a network in JSON: the source told it, it is within the limit, and neither count of faults rose
pub record IsJsonRun (source left : SourceState) (sink taken : SinkState) : Type 0 where
  pub bytes : List ℕ
  pub told : source.left ≡ Some bytes
  pub few : length bytes ≤ longest_input
  pub net : Net
  pub says : SaysNetwork bytes net
  pub reads : Rose source.faults left.faults → ⊥
  pub writes : Rose sink.faults taken.faults → ⊥

-- a run of `solve` on a valid input: the source told it, it is within the limit, it begins with a network, what follows is a script of
-- built commands, and neither count of faults rose
pub record IsSolveRun (source left : SourceState) (sink taken : SinkState) : Type 0 where
  pub bytes : List ℕ
  pub told : source.left ≡ Some bytes
  pub few : length bytes ≤ longest_input
  pub read : NetRead
  pub begins : text_of bytes ≡ Ok read
  pub commands : List Command
  pub asks : Asks (read.lines + 1) (drop read.used bytes) (script_of read.net (read.lines + 1) (drop read.used bytes)) (Told commands)
  pub reads : Rose source.faults left.faults → ⊥
  pub writes : Rose sink.faults taken.faults → ⊥

-- the report was written whole, or memory ran out
abbrev pub IsReported : Status → Type 0
IsReported answer = (answer ≡ Done) ⊎ ((answer ≡ Inconsistent) ⊎ (answer ≡ OutOfMemory))

-- each job that reads a network text reports each valid input
abbrev pub ValidInputsAreReported : Type 0
ValidInputsAreReported =
    (question : Question) (source left : SourceState) (sink taken : SinkState) (answer : Status)
    → Runs (says_of question) source left sink taken answer → IsValidRun question source left sink taken → IsReported answer

-- each job that reads a network in JSON reports each
abbrev pub JsonNetworksAreReported : Type 0
JsonNetworksAreReported =
    (question : JsonQuestion) (source left : SourceState) (sink taken : SinkState) (answer : Status)
    → Runs (says_of_json question) source left sink taken answer → IsJsonRun source left sink taken → IsReported answer

-- `solve` reports each valid input
abbrev pub SolvesAreReported : Type 0
SolvesAreReported =
    (pick : Pick) (source left : SourceState) (sink taken : SinkState) (answer : Status)
    → Runs (solves pick) source left sink taken answer → IsSolveRun source left sink taken → IsReported answer

-- `gen` writes each network where no write fails
abbrev pub GeneratedIsReported : Type 0
GeneratedIsReported =
    (number size : ℕ) (sink taken : SinkState) (answer : Status)
    → RunsAlone (Generates number size) sink taken answer → (Rose sink.faults taken.faults → ⊥) → (answer ≡ Done) ⊎ (answer ≡ OutOfMemory)

-- what `certify` says of a text, `verify` says of that text with the certificate behind it: `Done` is `verified consistent`, `Inconsistent`
-- is `verified inconsistent`, and no line is false. The text ends in a line feed, so that the certificate begins a line
abbrev pub CertifiedIsVerified : Type 0
CertifiedIsVerified =
    (bytes certificate text : List ℕ) (read : NetRead) (certified verified : Outcome)
    → text_of bytes ≡ Ok read → EndsInFeed (take read.used bytes)
    → says_of Certify bytes certified certificate → says_of Verify (take read.used bytes ++ certificate) verified text
    → verified ≡ certified

-- the private points are those of each agent in turn, each agent's by rising number
pub record AreRisingOrders (net : Net) (section : SectionView) : Type 0 where
  pub orders : List (List ℕ)
  pub private : ArePrivateOrders net (map (λ p. p.0) section.private) orders
  pub rising : (a : ℕ) → a < length net.agents → AllPairs (λ p q. p < q) (slice_index_or orders a [])

-- private points that are picked by number rise
abbrev pub NumbersRise : Type 0
NumbersRise = (net : Net) (section : SectionView) → ArePickedOrders (is_answer Number) net section → AreRisingOrders net section
