-- Network texts: what each line adds to the network, the first test that a line fails, and what a whole text says: Step, cause_of,
-- goes_unless, with_agent, with_point, arc_between, with_arcs, add_horizon, add_agent, add_point, add_act, add_bound, add_arc, given,
-- given_number, given_lean, given_agent, given_point, counts, read_agent, read_point, read_act, read_bound, read_arc, building,
-- line_in_network, read_horizon, read_opening, opening_line, network_line, named_version, read_header, header_line, headed, fields_do,
-- line_does, missing, conclude, read_from, text_of, Reads.
use Rattle.std.specs.Prelude.{ℕ, ℤ, pos, neg_ℤ, ◌+◌, ◌*◌, ◌≡◌, Bool, not, ◌==◌, ◌||◌, nat_le, int_lt, List, [], ◌∷◌, ◌++◌, length, Option, Some, None, Result, Ok, Err, codes, if◌then◌else◌}
use Rattle.std.specs.Str.{bytes_eq}
use Rattle.stn_model.specs.declared.ids.Constraint.{Constraint}
use Rattle.stn_model.specs.declared.ids.Lean.{Lean}
use Rattle.stn_model.specs.declared.ids.Lean.TheVariants.{Early}
use Rattle.stn_model.specs.declared.error.NetError.{NetError}
use Rattle.stn_model.specs.declared.error.NetError.TheVariants as refused
use Rattle.stn_model.specs.Limits.{most_arcs, greatest_bound}
use Rattle.stn_model.specs.Net.{Net, find_agent, find_point, with_act}
use Rattle.stn_model.specs.Refusals.{agent_refusal, act_refusal, arc_refusal, is_beyond}
use Rattle.net_text.specs.declared.cause.TextCause.{TextCause}
use Rattle.net_text.specs.declared.cause.TextCause.TheVariants as cause
use Rattle.net_text.specs.declared.cause.TextError.{TextError}
use Rattle.net_text.specs.declared.cause.TextError.TheVariants.{At, OutOfMemory}
use Rattle.net_text.specs.declared.read.NetRead.{NetRead}
use Rattle.net_text.specs.declared.stage.Stage.{Stage}
use Rattle.net_text.specs.declared.stage.Stage.TheVariants.{Start, Headed, Building}
use Rattle.net_text.specs.declared.version.Version.{Version}
use Rattle.net_text.specs.Lines.{Sized, lines, is_skipped, is_text}
use Rattle.net_text.specs.Fields.{fields}
use Rattle.net_text.specs.Numbers.{number_of}
use Rattle.net_text.specs.declared.words.Word.{Word}
use Rattle.net_text.specs.declared.words.Word.TheVariants as word
use Rattle.net_text.specs.Words.{lean_of}
use Rattle.net_text.specs.Versions.{version_of, word_in, point_refusal_in}

-- what a line does: the text goes on, it ends with its network, or the line is refused
pub data Step : Type 0 where
  Goes : Stage → Step
  Ends : Net → Step
  Fails : TextCause → Step

-- a network's refusal, as the cause of a line; want of memory is none, and stands last for the sake of the list
abbrev pub cause_of : NetError → TextCause
cause_of refused.NameBad = cause.NameBad
cause_of refused.NameTaken = cause.NameTaken
cause_of refused.TooManyAgents = cause.TooManyAgents
cause_of refused.TooManyPoints = cause.TooManyPoints
cause_of refused.TooManyArcs = cause.TooManyArcs
cause_of refused.SamePoint = cause.SamePoint
cause_of refused.BoundRange = cause.BoundRange
cause_of refused.HorizonRange = cause.HorizonRange
cause_of refused.PointsClosed = cause.PointsClosed
cause_of refused.NegativeDuration = cause.NegativeDuration
cause_of refused.OutOfMemory = cause.NotText

-- the network with one thing more, unless it refuses it
abbrev pub goes_unless : Option NetError → Net → Result Net TextCause
goes_unless (Some e) net = Err (cause_of e)
goes_unless None net = Ok net

abbrev pub with_agent : Net → List ℕ → Lean → Net
with_agent net name lean = record net { agents = net.agents ++ record { name = name; lean = lean } ∷ [] }

abbrev pub with_point : Net → ℕ → List ℕ → Net
with_point net agent name = record net { places = net.places ++ record { name = name; owner = agent } ∷ [] }

abbrev pub arc_between : ℕ → ℕ → ℤ → Constraint
arc_between from to bound = record { from = record { 0 = from }; to = record { 0 = to }; bound = bound }

abbrev pub with_arcs : Net → List Constraint → Net
with_arcs net arcs = record net { given = net.given ++ arcs }

abbrev pub add_horizon : ℤ → Result Net TextCause
add_horizon h =
    if int_lt h (pos 0) || int_lt (pos greatest_bound) h then Err cause.HorizonRange
    else Ok (record { horizon = h; agents = []; places = []; acts = []; given = [] })

abbrev pub add_agent : Net → List ℕ → Lean → Result Net TextCause
add_agent net name lean = goes_unless (agent_refusal net name) (with_agent net name lean)

-- each version has its own limit of points
abbrev pub add_point : Version → Net → ℕ → List ℕ → Result Net TextCause
add_point v net agent name = goes_unless (point_refusal_in v net name) (with_point net agent name)

abbrev pub add_act : Net → ℕ → List ℕ → ℤ → ℤ → Result Net TextCause
add_act net agent name low high = goes_unless (act_refusal net name low high) (with_act net agent name low high)

-- the arc there, and the arc back; a line needs room for both
abbrev pub add_bound : Net → ℕ → ℕ → ℤ → ℤ → Result Net TextCause
add_bound net from to low high =
    if from == to then Err cause.SamePoint
    else (if is_beyond high || is_beyond low then Err cause.BoundRange
    else (if not (nat_le (2 * length net.acts + length net.given + 2) most_arcs) then Err cause.TooManyArcs
    else Ok (with_arcs net (arc_between from to high ∷ arc_between to from (neg_ℤ low) ∷ []))))

abbrev pub add_arc : Net → ℕ → ℕ → ℤ → Result Net TextCause
add_arc net from to bound = goes_unless (arc_refusal net from to bound) (with_arcs net (arc_between from to bound ∷ []))

-- what follows from what was found, or the cause where nothing was
abbrev pub given : {A : Type 0} → Option A → TextCause → (A → Result Net TextCause) → Result Net TextCause
given None c next = Err c
given (Some x) c next = next x

-- a number, a lean, or a name that is looked up
abbrev pub given_number : List ℕ → (ℤ → Result Net TextCause) → Result Net TextCause
given_number field next = given (number_of field) cause.NumberBad next

abbrev pub given_lean : List ℕ → (Lean → Result Net TextCause) → Result Net TextCause
given_lean field next = given (lean_of field) cause.UnknownWord next

abbrev pub given_agent : Net → List ℕ → (ℕ → Result Net TextCause) → Result Net TextCause
given_agent net field next = given (find_agent net field) cause.NameUnknown next

abbrev pub given_point : Net → List ℕ → (ℕ → Result Net TextCause) → Result Net TextCause
given_point net field next = given (find_point net field) cause.NameUnknown next

-- how many fields stand after a word
abbrev pub counts : Word → ℕ → Bool
counts word.Horizon n = n == 1
counts word.Agent n = n == 1 || n == 2
counts word.Point n = n == 2
counts word.Act n = n == 4
counts word.Bound n = n == 4
counts word.Arc n = n == 3
counts word.End n = n == 0

-- what a line adds by the fields after its word: first the numbers and the lean, then the names, then what the network refuses
abbrev pub read_agent : Net → List (List ℕ) → Result Net TextCause
read_agent net (name ∷ []) = add_agent net name Early
read_agent net (name ∷ lean ∷ []) = given_lean lean (add_agent net name)
read_agent net fs = Err cause.FieldCount

abbrev pub read_point : Version → Net → List (List ℕ) → Result Net TextCause
read_point v net (agent ∷ name ∷ []) = given_agent net agent (λ a. add_point v net a name)
read_point v net fs = Err cause.FieldCount

abbrev pub read_act : Net → List (List ℕ) → Result Net TextCause
read_act net (agent ∷ name ∷ low ∷ high ∷ []) =
    given_number low (λ l. given_number high (λ h. given_agent net agent (λ a. add_act net a name l h)))
read_act net fs = Err cause.FieldCount

abbrev pub read_bound : Net → List (List ℕ) → Result Net TextCause
read_bound net (from ∷ to ∷ low ∷ high ∷ []) =
    given_number low (λ l. given_number high (λ h. given_point net from (λ i. given_point net to (λ j. add_bound net i j l h))))
read_bound net fs = Err cause.FieldCount

abbrev pub read_arc : Net → List (List ℕ) → Result Net TextCause
read_arc net (from ∷ to ∷ bound ∷ []) =
    given_number bound (λ b. given_point net from (λ i. given_point net to (λ j. add_arc net i j b)))
read_arc net fs = Err cause.FieldCount

-- a text of that version goes on with this network, or the line is refused
abbrev pub building : Version → Result Net TextCause → Step
building v (Ok net) = Goes (Building v net)
building v (Err c) = Fails c

-- a line of a network whose horizon is read
abbrev pub line_in_network : Version → Net → Word → List (List ℕ) → Step
line_in_network v net word.Horizon fs = Fails cause.SecondHorizon
line_in_network v net word.Agent fs = building v (read_agent net fs)
line_in_network v net word.Point fs = building v (read_point v net fs)
line_in_network v net word.Act fs = building v (read_act net fs)
line_in_network v net word.Bound fs = building v (read_bound net fs)
line_in_network v net word.Arc fs = building v (read_arc net fs)
line_in_network v net word.End fs = Ends net

-- the network of the horizon line
abbrev pub read_horizon : List (List ℕ) → Result Net TextCause
read_horizon (h ∷ []) = given_number h add_horizon
read_horizon fs = Err cause.FieldCount

-- a line between the header and the horizon, by its word
abbrev pub read_opening : Word → List (List ℕ) → Result Net TextCause
read_opening word.Horizon fs = read_horizon fs
read_opening w fs = Err cause.NoHorizon

abbrev pub opening_line : Option Word → List (List ℕ) → Result Net TextCause
opening_line None fs = Err cause.UnknownWord
opening_line (Some w) fs = if counts w (length fs) then read_opening w fs else Err cause.FieldCount

-- a line after the horizon
abbrev pub network_line : Version → Net → Option Word → List (List ℕ) → Step
network_line v net None fs = Fails cause.UnknownWord
network_line v net (Some w) fs = if counts w (length fs) then line_in_network v net w fs else Fails cause.FieldCount

-- the version that a header names
abbrev pub named_version : Option Version → Result Version TextCause
named_version None = Err cause.Version
named_version (Some v) = Ok v

abbrev pub read_header : List (List ℕ) → Result Version TextCause
read_header (version ∷ []) = named_version (version_of version)
read_header fs = Err cause.FieldCount

-- the first line
abbrev pub header_line : List ℕ → List (List ℕ) → Result Version TextCause
header_line f fs = if bytes_eq f (codes "mastn") then read_header fs else Err cause.NoHeader

-- the text goes on after a header of that version, or the line is refused
abbrev pub headed : Result Version TextCause → Step
headed (Ok v) = Goes (Headed v)
headed (Err c) = Fails c

-- a line by its fields, of which it has some
abbrev pub fields_do : Stage → List (List ℕ) → Step
fields_do s [] = Goes s
fields_do Start (f ∷ fs) = headed (header_line f fs)
fields_do (Headed v) (f ∷ fs) = building v (opening_line (word_in v f) fs)
fields_do (Building v net) (f ∷ fs) = network_line v net (word_in v f) fs

-- what a line does
abbrev pub line_does : Stage → List ℕ → Step
line_does s line =
    if is_skipped line then Goes s
    else (if is_text line then fields_do s (fields line) else Fails cause.NotText)

-- what is missing at the end of a text without an `end` line
abbrev pub missing : Stage → TextCause
missing Start = cause.NoHeader
missing (Headed v) = cause.NoEnd
missing (Building v net) = cause.NoEnd

-- what a text says after a line: of that number, with so many bytes up to its end
abbrev pub conclude : Step → ℕ → ℕ → (Stage → Result NetRead TextError) → Result NetRead TextError
conclude (Goes s) number used rest = rest s
conclude (Ends net) number used rest = Ok (record { net = net; used = used; lines = number })
conclude (Fails c) number used rest = Err (At number c)

-- what lines say from a stage on, where the first of them has that number, and that many bytes stand before it
abbrev pub read_from : Stage → ℕ → ℕ → List Sized → Result NetRead TextError
read_from s number before [] = Err (At number (missing s))
read_from s number before (line ∷ more) =
    conclude (line_does s line.text) number (before + line.size) (λ t. read_from t (number + 1) (before + line.size) more)

-- what a text says: the network text at its front, or the first line that fails and its first failing test
abbrev pub text_of : List ℕ → Result NetRead TextError
text_of bytes = read_from Start 1 0 (lines bytes)

-- a reader's answer is what the text says, unless memory ran out
abbrev pub Reads : Result NetRead TextError → Result NetRead TextError → Type 0
Reads (Ok r) said = said ≡ Ok r
Reads (Err (At number c)) said = said ≡ Err (At number c)
Reads (Err OutOfMemory) said = Unit {0}
