-- Scripts: how far a script has come, what its next line does, and what a whole text says: Reading, beginning, Step, unless, with_command,
-- is_full, add_joint, add_decoupled, add_clockless, add_executing, tighten, decouple, execute, begin_batch, add_to_batch, add_arc, close_batch,
-- close, does, does_what, line_does, missing, conclude, read_from, script_of, Reads, reading_of, Takes.
use Rattle.std.specs.Prelude.{ℕ, ◌+◌, ◌*◌, ◌≡◌, Bool, not, nat_le, List, [], ◌∷◌, ◌++◌, length, is_some, Option, Some, None, Result, Ok, Err, if◌then◌else◌}
use Rattle.std.specs.Option.{option_map}
use Rattle.stn_model.specs.declared.ids.Constraint.{Constraint}
use Rattle.stn_model.specs.Limits.{most_arcs}
use Rattle.stn_model.specs.Net.{Net}
use Rattle.net_text.specs.declared.cause.TextCause.{TextCause}
use Rattle.net_text.specs.declared.cause.TextCause.TheVariants as cause
use Rattle.net_text.specs.declared.cause.TextError.{TextError}
use Rattle.net_text.specs.declared.cause.TextError.TheVariants.{At, OutOfMemory}
use Rattle.net_text.specs.Lines.{Sized, lines}
use Rattle.script_text.specs.declared.command.Command.{Command}
use Rattle.script_text.specs.declared.command.Command.TheVariants as command
use Rattle.script_text.specs.declared.line.Line.{Line}
use Rattle.script_text.specs.declared.line.Line.TheVariants as line
use Rattle.script_text.specs.declared.phase.Phase.{Phase}
use Rattle.script_text.specs.declared.phase.Phase.TheVariants.{Joint, Decoupled, Executing}
use Rattle.script_text.specs.declared.read.ScriptRead.{ScriptRead}
use Rattle.script_text.specs.declared.stage.Stage.{Stage}
use Rattle.script_text.specs.declared.stage.Next.{Next}
use Rattle.script_text.specs.declared.stage.Next.TheVariants as next
use Rattle.script_text.specs.Lines.{line_in}
use Rattle.script_text.specs.Phases.{is_decoupled, is_executing}

-- how far a script has come: its commands, the arcs of a batch that is begun, how far the work has come, and how many arcs the network and
-- the script have so far, those of the horizon left out
pub record Reading : Type 0 where
  pub commands : List Command
  pub batch : Option (List Constraint)
  pub phase : Phase
  pub arcs : ℕ

-- two arcs for each act and the given arcs count from the beginning
abbrev pub beginning : Net → Reading
beginning net = record { commands = []; batch = None; phase = Joint; arcs = 2 * length net.acts + length net.given }

-- what a line does: the script goes on, it ends with its commands, or the line is refused
pub data Step : Type 0 where
  Goes : Reading → Step
  Ends : List Command → Step
  Fails : TextCause → Step

-- the next of these tests that fails, or what follows
abbrev pub unless : Bool → TextCause → Step → Step
unless failed c step = if failed then Fails c else step

abbrev pub with_command : Reading → Command → Reading
with_command r c = record r { commands = r.commands ++ c ∷ [] }

-- one arc more would be more than the limit
abbrev pub is_full : Reading → Bool
is_full r = nat_le most_arcs r.arcs

-- a command that stands before the decoupling
abbrev pub add_joint : Reading → Command → Step
add_joint r c = unless (is_decoupled r.phase) cause.AfterDecouple (Goes (with_command r c))

-- a command that stands after the decoupling
abbrev pub add_decoupled : Reading → Command → Step
add_decoupled r c = unless (not (is_decoupled r.phase)) cause.BeforeDecouple (Goes (with_command r c))

-- a command that stands after the decoupling, before the clock is started
abbrev pub add_clockless : Reading → Command → Step
add_clockless r c =
    unless (not (is_decoupled r.phase)) cause.BeforeDecouple (unless (is_executing r.phase) cause.AfterExecute (Goes (with_command r c)))

-- a command that stands after the clock was started
abbrev pub add_executing : Reading → Command → Step
add_executing r c =
    unless (not (is_decoupled r.phase)) cause.BeforeDecouple (unless (not (is_executing r.phase)) cause.BeforeExecute (Goes (with_command r c)))

abbrev pub tighten : Reading → Constraint → Step
tighten r arc =
    unless (is_decoupled r.phase) cause.AfterDecouple (unless (is_full r) cause.TooManyArcs
    (Goes (record (with_command r (command.Tighten arc)) { arcs = r.arcs + 1 })))

abbrev pub decouple : Reading → Step
decouple r =
    unless (is_decoupled r.phase) cause.AfterDecouple (Goes (record (with_command r command.Decouple) { phase = Decoupled }))

-- the start of the clock
abbrev pub execute : Reading → Step
execute r =
    unless (not (is_decoupled r.phase)) cause.BeforeDecouple (unless (is_executing r.phase) cause.AfterExecute
    (Goes (record (with_command r command.Execute) { phase = Executing })))

abbrev pub begin_batch : Reading → Step
begin_batch r = unless (is_decoupled r.phase) cause.AfterDecouple (Goes (record r { batch = Some [] }))

-- one arc more of the batch that is begun
abbrev pub add_to_batch : Reading → Constraint → Option (List Constraint) → Step
add_to_batch r arc None = Fails cause.UnknownWord
add_to_batch r arc (Some arcs) =
    unless (is_full r) cause.TooManyArcs (Goes (record r { batch = Some (arcs ++ arc ∷ []); arcs = r.arcs + 1 }))

abbrev pub add_arc : Reading → Constraint → Step
add_arc r arc = add_to_batch r arc r.batch

-- the end of the batch that is begun
abbrev pub close_batch : Reading → Option (List Constraint) → Step
close_batch r None = Fails cause.UnknownWord
close_batch r (Some []) = Fails cause.EmptyBatch
close_batch r (Some (a ∷ more)) = Goes (record (with_command r (command.Batch (a ∷ more))) { batch = None })

abbrev pub close : Reading → Step
close r = close_batch r r.batch

-- what a line asks for is done, where its place and the limit of arcs allow it
abbrev pub does : Reading → Line → Step
does r line.Nothing = Goes r
does r line.Bounds = Goes (with_command r command.Bounds)
does r line.Windows = Goes (with_command r command.Windows)
does r (line.Prove from to) = Goes (with_command r (command.Prove from to))
does r (line.Tighten arc) = tighten r arc
does r line.BeginBatch = begin_batch r
does r (line.BatchArc arc) = add_arc r arc
does r line.CloseBatch = close r
does r (line.Withdraw arc) = add_joint r (command.Withdraw arc)
does r line.Decouple = decouple r
does r (line.Choose point time) = add_clockless r (command.Choose point time)
does r line.Execute = execute r
does r (line.Advance time) = add_executing r (command.Advance time)
does r (line.Do point) = add_executing r (command.Do point)
does r line.Schedule = add_decoupled r command.Schedule
does r line.Done = Ends r.commands

abbrev pub does_what : Reading → Result Line TextCause → Step
does_what r (Ok l) = does r l
does_what r (Err c) = Fails c

-- what a line does
abbrev pub line_does : Net → Reading → List ℕ → Step
line_does net r text = does_what r (line_in net (is_some r.batch) text)

-- what is missing at the end of a text without a `done` line
abbrev pub missing : Reading → TextCause
missing r = if is_some r.batch then cause.BatchOpen else cause.NoDone

-- what a text says after a line: the line has that number, `used` bytes and `count` lines stand up to its end
abbrev pub conclude : Step → ℕ → ℕ → ℕ → (Reading → Result ScriptRead TextError) → Result ScriptRead TextError
conclude (Goes r) number count used rest = rest r
conclude (Ends commands) number count used rest = Ok (record { script = commands; used = used; lines = count })
conclude (Fails c) number count used rest = Err (At number c)

-- what lines say, where `count` lines and `used` bytes of the script stand before them, and the script's first line has the number `first`
abbrev pub read_from : Net → Reading → ℕ → ℕ → ℕ → List Sized → Result ScriptRead TextError
read_from net r first count used [] = Err (At (first + count) (missing r))
read_from net r first count used (l ∷ more) =
    conclude (line_does net r l.text) (first + count) (count + 1) (used + l.size)
    (λ t. read_from net t first (count + 1) (used + l.size) more)

-- what a text says: the script at its front, or the first line that fails and its first failing test
abbrev pub script_of : Net → ℕ → List ℕ → Result ScriptRead TextError
script_of net first bytes = read_from net (beginning net) first 0 0 (lines bytes)

-- a reader's answer is what the text says, unless memory ran out
abbrev pub Reads : Result ScriptRead TextError → Result ScriptRead TextError → Type 0
Reads (Ok r) said = said ≡ Ok r
Reads (Err (At number c)) said = said ≡ Err (At number c)
Reads (Err OutOfMemory) said = Unit {0}

-- what the reader keeps of a script, as a reading
abbrev pub reading_of : Stage → Reading
reading_of s = record { commands = s.commands.items; batch = option_map (λ v. v.items) s.batch; phase = s.phase; arcs = s.arcs }

-- the reader took a line that does this, and has come that far
abbrev pub Takes : Next → Reading → Step → Type 0
Takes next.Goes r step = step ≡ Goes r
Takes next.Ends r step = step ≡ Ends r.commands
Takes (next.Fails c) r step = step ≡ Fails c
