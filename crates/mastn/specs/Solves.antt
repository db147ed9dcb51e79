-- What the job `solve` says of its input: key_of, is_answer, solved_report, ReportsSolved, SaysSolved, Solves, asked_behind, Asks,
-- IsOf, SaysAsked, OfScript, solves.
use Rattle.std.specs.Prelude.{◌≡◌, ℕ, ◌+◌, true, List, [], ◌++◌, codes, map, drop, Option, None, Some, Result, Ok, Err, if◌then◌else◌}
use Rattle.stn_model.specs.Net.{Net}
use Rattle.net_text.specs.declared.cause.TextCause.TheVariants.{AfterDone}
use Rattle.net_text.specs.declared.cause.TextError.{TextError}
use Rattle.net_text.specs.declared.cause.TextError.TheVariants as refused
use Rattle.net_text.specs.declared.read.NetRead.{NetRead}
use Rattle.net_text.specs.Causes.{cause_word}
use Rattle.net_text.specs.Lines.{lines, first_unskipped}
use Rattle.net_text.specs.Networks.{text_of}
use Rattle.script_text.specs.declared.command.Command.{Command}
use Rattle.script_text.specs.declared.read.ScriptRead.{ScriptRead}
use Rattle.script_text.specs.Possible.{IsScriptOf}
use Rattle.script_text.specs.Scripts.{script_of}
use Rattle.schedule_report.specs.Lines.{word_line, verdict_line, error_line}
use Rattle.schedule_report.specs.Parts.{order_lines}
use Rattle.elim_journal.specs.Sections.{SectionView}
use Rattle.joined_answer.specs.Joins.{IsLegalSection, ArePickedOrders, joined_order}
use Rattle.mastn.specs.declared.answer.Outcome.{Outcome}
use Rattle.mastn.specs.declared.answer.Outcome.TheVariants.{Done, Inconsistent, ScriptBad}
use Rattle.mastn.specs.declared.script.Asked.{Asked}
use Rattle.mastn.specs.declared.script.Asked.TheVariants as asked
use Rattle.mastn.specs.declared.words.Pick.{Pick}
use Rattle.mastn.specs.declared.words.Pick.TheVariants.{Degree, Number}
use Rattle.mastn.specs.Certificates.{IsVerdictOn}
use Rattle.mastn.specs.Commands.{are_built, SaysCommands}
use Rattle.mastn.specs.Checks.{ReportsInconsistent}
use Rattle.mastn.specs.Questions.{SaysRead}
use Rattle.mastn.specs.Reports.{refusal_line}

-- the key by which a pick takes a point, of its degree and its number: the point of least key comes next
abbrev pub key_of : Pick → ℕ → ℕ → ℕ
key_of Degree degree number = degree
key_of Number degree number = number

abbrev pub is_answer : Pick → ℕ → ℕ → ℕ → Type 0
is_answer pick degree number answer = answer ≡ key_of pick degree number

-- the report of a consistent network, by the record of how it was solved, and by what the commands say of it
abbrev pub solved_report : Net → SectionView → List ℕ → List ℕ
solved_report net section said = verdict_line true ++ order_lines net (joined_order section) ++ said ++ word_line (codes "done")

-- a legal record, whose private points are such as the pick allows, and its report with what the commands say of the network and of the order
pub record ReportsSolved (pick : Pick) (net : Net) (commands : List Command) (text : List ℕ) : Type 0 where
  pub section : SectionView
  pub legal : IsLegalSection net section
  pub picked : ArePickedOrders (is_answer pick) net section
  pub said : List ℕ
  pub says : SaysCommands net (map (λ p. p.0) (joined_order section)) commands said
  pub report : text ≡ solved_report net section said

-- the text for a network, by the outcome
abbrev pub SaysSolved : Pick → Net → List Command → Outcome → List ℕ → Type 0
SaysSolved pick net commands Done text = ReportsSolved pick net commands text
SaysSolved pick net commands Inconsistent text = ReportsInconsistent net text
SaysSolved pick net commands outcome text = ⊥

-- the outcome and the text for a network: `Done` exactly where some schedule satisfies it, and `Inconsistent` exactly where none does
pub record Solves (pick : Pick) (net : Net) (commands : List Command) (outcome : Outcome) (text : List ℕ) : Type 0 where
  pub verdict : IsVerdictOn net outcome
  pub says : SaysSolved pick net commands outcome text

-- what a script asks for, by the first line behind it that is neither blank nor a comment
abbrev pub asked_behind : Option ℕ → List Command → Asked
asked_behind (Some number) commands = asked.Bad number AfterDone
asked_behind None commands = if are_built commands then asked.Told commands else asked.NotBuilt

-- what the rest of an input asks for, by what it is as a script; its first line has that number, and lines count on
abbrev pub Asks : ℕ → List ℕ → Result ScriptRead TextError → Asked → Type 0
Asks first rest (Ok read) is = is ≡ asked_behind (first_unskipped (first + read.lines) (lines (drop read.used rest))) read.script
Asks first rest (Err (refused.At number cause)) is = is ≡ asked.Bad number cause
Asks first rest (Err refused.OutOfMemory) is = ⊥

-- the commands are such as a script that was read for the network has
abbrev pub IsOf : Net → Asked → Type 0
IsOf net (asked.Bad number cause) = Unit {0}
IsOf net asked.NotBuilt = Unit {0}
IsOf net (asked.Told commands) = IsScriptOf net commands

-- the outcome and the text for what is asked
abbrev pub SaysAsked : Pick → Net → Asked → Outcome → List ℕ → Type 0
SaysAsked pick net (asked.Bad number cause) outcome text = (outcome ≡ ScriptBad) × (text ≡ error_line number (cause_word cause) [])
SaysAsked pick net asked.NotBuilt outcome text = (outcome ≡ ScriptBad) × (text ≡ refusal_line (codes "NotBuilt"))
SaysAsked pick net (asked.Told commands) outcome text = Solves pick net commands outcome text

-- the outcome and the text for the network that an input begins with, and for the script behind its text
abbrev pub OfScript : Pick → List ℕ → NetRead → Outcome → List ℕ → Type 0
OfScript pick bytes read outcome text =
    let rest = drop read.used bytes in
    (is : Asked) × Asks (read.lines + 1) rest (script_of read.net (read.lines + 1) rest) is × SaysAsked pick read.net is outcome text

-- the outcome and the text for an input
abbrev pub solves : Pick → List ℕ → Outcome → List ℕ → Type 0
solves pick bytes outcome text = SaysRead (OfScript pick bytes) (text_of bytes) outcome text
