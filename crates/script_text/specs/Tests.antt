-- The tests of each line of a script in their order, each with its cause, and what the line does where it passes them all: first_cause,
-- field_at, number_at, point_at, arc_at, natural, has_not, is_no_number, is_out, is_no_point, are_one_point, is_z, is_inside, arcs_begun,
-- tests, does_then, judged, judged_line.
use Rattle.std.specs.Prelude.{ℕ, ℤ, pos, negsuc, ◌+◌, ◌==◌, Bool, true, not, nat_lt, List, [], ◌∷◌, ◌++◌, length, slice_index_or, is_some, Option, Some, None, if◌then◌else◌}
use Rattle.stn_model.specs.declared.ids.Constraint.{Constraint}
use Rattle.stn_model.specs.declared.ids.PointId.{PointId}
use Rattle.stn_model.specs.Net.{Net, find_point}
use Rattle.stn_model.specs.Refusals.{is_beyond}
use Rattle.net_text.specs.declared.cause.TextCause.{TextCause}
use Rattle.net_text.specs.declared.cause.TextCause.TheVariants as cause
use Rattle.net_text.specs.Lines.{is_text}
use Rattle.net_text.specs.Networks.{arc_between}
use Rattle.net_text.specs.Numbers.{number_of}
use Rattle.script_text.specs.declared.command.Command.TheVariants as command
use Rattle.script_text.specs.declared.phase.Phase.TheVariants.{Decoupled, Executing}
use Rattle.script_text.specs.declared.words.Word.{Word}
use Rattle.script_text.specs.declared.words.Word.TheVariants as word
use Rattle.script_text.specs.Lines.{arc_numbers}
use Rattle.script_text.specs.Phases.{is_decoupled, is_executing}
use Rattle.script_text.specs.Scripts.{Reading, Step, with_command, is_full}
use Rattle.script_text.specs.Scripts.Step.{Goes, Ends, Fails}

-- the cause of the first test that fails, or what the line does where none does
abbrev pub first_cause : List (Bool × TextCause) → Step → Step
first_cause [] step = step
first_cause ((fails, c) ∷ more) step = if fails then Fails c else first_cause more step

-- what stands in a place among the fields after the word; 0 and z where nothing right stands there
abbrev pub field_at : List (List ℕ) → ℕ → List ℕ
field_at fs i = slice_index_or fs i []

abbrev pub number_at : List (List ℕ) → ℕ → ℤ
number_at fs i = elim (number_of (field_at fs i)) [ None ↦ pos 0 | Some n ↦ n ]

abbrev pub point_at : Net → List (List ℕ) → ℕ → PointId
point_at net fs i = elim (find_point net (field_at fs i)) [ None ↦ record { 0 = 0 } | Some p ↦ record { 0 = p } ]

abbrev pub arc_at : Net → List (List ℕ) → Constraint
arc_at net fs = arc_between (point_at net fs 0).0 (point_at net fs 1).0 (number_at fs 2)

abbrev pub natural : ℤ → ℕ
natural (pos n) = n
natural (negsuc n) = 0

-- the tests
abbrev pub has_not : ℕ → List (List ℕ) → Bool
has_not n fs = not (length fs == n)

abbrev pub is_no_number : List (List ℕ) → ℕ → Bool
is_no_number fs i = not (is_some (number_of (field_at fs i)))

abbrev pub is_out : ℤ → Bool
is_out (pos n) = not (nat_lt n arc_numbers)
is_out (negsuc n) = true

abbrev pub is_no_point : Net → List (List ℕ) → ℕ → Bool
is_no_point net fs i = not (is_some (find_point net (field_at fs i)))

abbrev pub are_one_point : Net → List (List ℕ) → Bool
are_one_point net fs = (point_at net fs 0).0 == (point_at net fs 1).0

abbrev pub is_z : Net → List (List ℕ) → Bool
is_z net fs = (point_at net fs 0).0 == 0

abbrev pub is_inside : Reading → Bool
is_inside r = is_some r.batch

-- the batch that is begun; none is, where it is empty
abbrev pub arcs_begun : Option (List Constraint) → List Constraint
arcs_begun None = []
arcs_begun (Some arcs) = arcs

-- the tests of a line after NotText, by its word and the fields after it
abbrev pub tests : Net → Reading → Word → List (List ℕ) → List (Bool × TextCause)
tests net r word.Bounds fs = (is_inside r, cause.BatchOpen) ∷ (has_not 0 fs, cause.FieldCount) ∷ []
tests net r word.Windows fs = (is_inside r, cause.BatchOpen) ∷ (has_not 0 fs, cause.FieldCount) ∷ []
tests net r word.Prove fs =
    (is_inside r, cause.BatchOpen) ∷ (has_not 2 fs, cause.FieldCount) ∷ (is_no_point net fs 0, cause.NameUnknown)
    ∷ (is_no_point net fs 1, cause.NameUnknown) ∷ (are_one_point net fs, cause.SamePoint) ∷ []
tests net r word.Tighten fs =
    (is_inside r, cause.BatchOpen) ∷ (has_not 3 fs, cause.FieldCount) ∷ (is_no_number fs 2, cause.NumberBad)
    ∷ (is_no_point net fs 0, cause.NameUnknown) ∷ (is_no_point net fs 1, cause.NameUnknown) ∷ (are_one_point net fs, cause.SamePoint)
    ∷ (is_beyond (number_at fs 2), cause.BoundRange) ∷ (is_decoupled r.phase, cause.AfterDecouple) ∷ (is_full r, cause.TooManyArcs) ∷ []
tests net r word.Batch fs =
    (is_inside r, cause.BatchOpen) ∷ (has_not 0 fs, cause.FieldCount) ∷ (is_decoupled r.phase, cause.AfterDecouple) ∷ []
tests net r word.Arc fs =
    (not (is_inside r), cause.UnknownWord) ∷ (has_not 3 fs, cause.FieldCount) ∷ (is_no_number fs 2, cause.NumberBad)
    ∷ (is_no_point net fs 0, cause.NameUnknown) ∷ (is_no_point net fs 1, cause.NameUnknown) ∷ (are_one_point net fs, cause.SamePoint)
    ∷ (is_beyond (number_at fs 2), cause.BoundRange) ∷ (is_full r, cause.TooManyArcs) ∷ []
tests net r word.Close fs =
    (not (is_inside r), cause.UnknownWord) ∷ (has_not 0 fs, cause.FieldCount) ∷ (length (arcs_begun r.batch) == 0, cause.EmptyBatch) ∷ []
tests net r word.Withdraw fs =
    (is_inside r, cause.BatchOpen) ∷ (has_not 1 fs, cause.FieldCount) ∷ (is_no_number fs 0, cause.NumberBad)
    ∷ (is_out (number_at fs 0), cause.NumberBad) ∷ (is_decoupled r.phase, cause.AfterDecouple) ∷ []
tests net r word.Decouple fs =
    (is_inside r, cause.BatchOpen) ∷ (has_not 0 fs, cause.FieldCount) ∷ (is_decoupled r.phase, cause.AfterDecouple) ∷ []
tests net r word.Choose fs =
    (is_inside r, cause.BatchOpen) ∷ (has_not 2 fs, cause.FieldCount) ∷ (is_no_number fs 1, cause.NumberBad)
    ∷ (is_no_point net fs 0, cause.NameUnknown) ∷ (is_z net fs, cause.ReferencePoint) ∷ (not (is_decoupled r.phase), cause.BeforeDecouple)
    ∷ (is_executing r.phase, cause.AfterExecute) ∷ []
tests net r word.Execute fs =
    (is_inside r, cause.BatchOpen) ∷ (has_not 0 fs, cause.FieldCount) ∷ (not (is_decoupled r.phase), cause.BeforeDecouple)
    ∷ (is_executing r.phase, cause.AfterExecute) ∷ []
tests net r word.Advance fs =
    (is_inside r, cause.BatchOpen) ∷ (has_not 1 fs, cause.FieldCount) ∷ (is_no_number fs 0, cause.NumberBad)
    ∷ (not (is_decoupled r.phase), cause.BeforeDecouple) ∷ (not (is_executing r.phase), cause.BeforeExecute) ∷ []
tests net r word.Do fs =
    (is_inside r, cause.BatchOpen) ∷ (has_not 1 fs, cause.FieldCount) ∷ (is_no_point net fs 0, cause.NameUnknown)
    ∷ (is_z net fs, cause.ReferencePoint) ∷ (not (is_decoupled r.phase), cause.BeforeDecouple)
    ∷ (not (is_executing r.phase), cause.BeforeExecute) ∷ []
tests net r word.Schedule fs =
    (is_inside r, cause.BatchOpen) ∷ (has_not 0 fs, cause.FieldCount) ∷ (not (is_decoupled r.phase), cause.BeforeDecouple) ∷ []
tests net r word.Done fs = (is_inside r, cause.BatchOpen) ∷ (has_not 0 fs, cause.FieldCount) ∷ []

-- what a line does that passes its tests
abbrev pub does_then : Net → Reading → Word → List (List ℕ) → Step
does_then net r word.Bounds fs = Goes (with_command r command.Bounds)
does_then net r word.Windows fs = Goes (with_command r command.Windows)
does_then net r word.Prove fs = Goes (with_command r (command.Prove (point_at net fs 0) (point_at net fs 1)))
does_then net r word.Tighten fs = Goes (record (with_command r (command.Tighten (arc_at net fs))) { arcs = r.arcs + 1 })
does_then net r word.Batch fs = Goes (record r { batch = Some [] })
does_then net r word.Arc fs = Goes (record r { batch = Some (arcs_begun r.batch ++ arc_at net fs ∷ []); arcs = r.arcs + 1 })
does_then net r word.Close fs = Goes (record (with_command r (command.Batch (arcs_begun r.batch))) { batch = None })
does_then net r word.Withdraw fs = Goes (with_command r (command.Withdraw (natural (number_at fs 0))))
does_then net r word.Decouple fs = Goes (record (with_command r command.Decouple) { phase = Decoupled })
does_then net r word.Choose fs = Goes (with_command r (command.Choose (point_at net fs 0) (number_at fs 1)))
does_then net r word.Execute fs = Goes (record (with_command r command.Execute) { phase = Executing })
does_then net r word.Advance fs = Goes (with_command r (command.Advance (number_at fs 0)))
does_then net r word.Do fs = Goes (with_command r (command.Do (point_at net fs 0)))
does_then net r word.Schedule fs = Goes (with_command r command.Schedule)
does_then net r word.Done fs = Ends r.commands

-- a line by its first field, which is a word or none; it is text
abbrev pub judged : Net → Reading → Option Word → List (List ℕ) → Step
judged net r None fs = first_cause ((is_inside r, cause.BatchOpen) ∷ (true, cause.UnknownWord) ∷ []) (Goes r)
judged net r (Some w) fs = first_cause (tests net r w fs) (does_then net r w fs)

-- a line that is not skipped, by its first field and those after it
abbrev pub judged_line : Net → Reading → List ℕ → Option Word → List (List ℕ) → Step
judged_line net r text w fs = first_cause ((not (is_text text), cause.NotText) ∷ []) (judged net r w fs)
