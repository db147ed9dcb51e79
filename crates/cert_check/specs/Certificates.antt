-- Certificates: what each line does, the first test that a line fails, and what a whole text shows.
use Rattle.std.specs.Prelude.{ℕ, ℤ, pos, negsuc, ◌+◌, ◌+ℤ◌, ◌≡◌, ◌<◌, Bool, true, false, not, List, [], ◌∷◌, length, nat_eq, nat_lt, int_lt, set, is_some, Option, Some, None, Result, Ok, Err, codes, if◌then◌else◌}
use Rattle.std.specs.List.{list_all, position}
use Rattle.std.specs.Ordering.{int_eq}
use Rattle.std.specs.Option.{option_map}
use Rattle.std.specs.Result.{is_ok}
use Rattle.std.specs.Str.{bytes_eq}
use Rattle.stn_model.specs.declared.ids.Constraint.{Constraint}
use Rattle.stn_model.specs.Arcs.{arc_at}
use Rattle.stn_model.specs.Net.{Net, arcs_of, point_count}
use Rattle.net_text.specs.Fields.{fields}
use Rattle.net_text.specs.Lines.{Sized, lines, is_skipped, is_text}
use Rattle.net_text.specs.Numbers.{number_of}
use Rattle.cert_check.specs.declared.stage.Stage.{Stage}
use Rattle.cert_check.specs.declared.stage.Stage.TheVariants as stage
use Rattle.cert_check.specs.declared.verdict.CertCause.{CertCause}
use Rattle.cert_check.specs.declared.verdict.CertCause.TheVariants as cause
use Rattle.cert_check.specs.declared.verdict.Verdict.{Verdict}
use Rattle.cert_check.specs.declared.verdict.Verdict.TheVariants as verdict
use Rattle.cert_check.specs.declared.words.Word.{Word}
use Rattle.cert_check.specs.declared.words.Word.TheVariants as word
use Rattle.cert_check.specs.Words.{word_of}
use Rattle.cert_check.specs.Rows.{Row, distance_to, first_row, is_missing, is_broken}
use Rattle.cert_check.specs.Cycles.{is_cycle}

-- what follows, unless a test before it failed
abbrev pub and_then : {A B : Type 0} → Result A CertCause → (A → Result B CertCause) → Result B CertCause
and_then (Ok x) next = next x
and_then (Err c) next = Err c

-- the number of a field
abbrev pub number_in : List ℕ → Result ℤ CertCause
number_in field = elim (number_of field) [ None ↦ Err cause.NumberBad | Some n ↦ Ok n ]

-- the number of a field that stands for a point or an arc
abbrev pub index_in : List ℕ → Result ℤ CertCause
index_in field = and_then (number_in field) (λ n. if int_lt n (pos 0) then Err cause.NumberBad else Ok n)

-- a number that must be another one
abbrev pub kept_as : ℤ → ℤ → Result ℤ CertCause
kept_as kept given = if int_eq kept given then Ok given else Err (cause.WrongValue kept given)

-- a number below a limit, and none below 0
abbrev pub number_below : ℕ → ℤ → Option ℕ
number_below limit (pos n) = if nat_lt n limit then Some n else None
number_below limit (negsuc n) = None

-- the point of that number, if it is one without a distance; the section's own point has a distance from the beginning
abbrev pub point_in : Net → Row → ℤ → Result ℕ CertCause
point_in net row j =
    elim (number_below (point_count net) j) [
      | None ↦ Err (cause.AgainTo j)
      | Some p ↦ if is_some (distance_to row p) then Err (cause.AgainTo j) else Ok p
    ]

-- a distance and the bound of the arc n
abbrev pub sum_from : Option ℤ → ℤ → ℤ → Result ℤ CertCause
sum_from None bound n = Err (cause.BadArc n)
sum_from (Some d) bound n = Ok (d +ℤ bound)

-- the distance that an arc, which has the number n, gives to p
abbrev pub sum_along : Row → ℕ → Constraint → ℤ → Result ℤ CertCause
sum_along row p arc n = if nat_eq arc.to.0 p then sum_from (distance_to row arc.from.0) arc.bound n else Err (cause.BadArc n)

-- the distance that the arc of that number gives to p
abbrev pub sum_in : Net → Row → ℕ → ℤ → Result ℤ CertCause
sum_in net row p n = elim (number_below (length (arcs_of net)) n) [ None ↦ Err (cause.BadArc n) | Some m ↦ sum_along row p (arc_at (arcs_of net) m) n ]

-- a `to` line, by its numbers
abbrev pub to_step : Net → ℕ → Row → ℤ → ℤ → ℤ → Result Stage CertCause
to_step net i row j bound n =
    and_then (point_in net row j) (λ p. and_then (sum_in net row p n) (λ sum. and_then (kept_as sum bound) (λ d.
    Ok (stage.Section i (set row p (Some d))))))

-- a `to` line, by its three fields
abbrev pub to_fields : Net → ℕ → Row → List ℕ → List ℕ → List ℕ → Result Stage CertCause
to_fields net i row to bound arc =
    and_then (index_in to) (λ j. and_then (number_in bound) (λ b. and_then (index_in arc) (λ n. to_step net i row j b n)))

-- a `to` line, by the fields after its word
abbrev pub to_line : Net → ℕ → Row → List (List ℕ) → Result Stage CertCause
to_line net i row (to ∷ bound ∷ arc ∷ []) = to_fields net i row to bound arc
to_line net i row fs = Err cause.FieldCount

-- after the section of point i
abbrev pub after_section : Net → ℕ → Stage
after_section net i = if nat_lt (i + 1) (point_count net) then stage.FromDue (i + 1) else stage.EndDue true

-- the least arc that the distances break, if there is one
abbrev pub unless_broken : Option ℕ → Stage → Result Stage CertCause
unless_broken (Some n) next = Err (cause.ArcFails n)
unless_broken None next = Ok next

-- the least point without a distance, if there is one
abbrev pub unless_missing : Option ℕ → Result Stage CertCause → Result Stage CertCause
unless_missing (Some p) next = Err (cause.MissingTo p)
unless_missing None next = next

-- the end of a section: each point has a distance, and each arc holds
abbrev pub holds_line : Net → ℕ → Row → List (List ℕ) → Result Stage CertCause
holds_line net i row [] =
    unless_missing (position is_missing row) (unless_broken (position (is_broken row) (arcs_of net)) (after_section net i))
holds_line net i row (f ∷ fs) = Err cause.FieldCount

-- the number of a section's first line: the points have their sections in the order of their numbers
abbrev pub due_number : ℕ → List (List ℕ) → Result ℤ CertCause
due_number next (f ∷ []) = and_then (index_in f) (λ n. kept_as (pos next) n)
due_number next fs = Err cause.FieldCount

-- a section's first line
abbrev pub from_line : Net → ℕ → List (List ℕ) → Result Stage CertCause
from_line net next fs = and_then (due_number next fs) (λ n. Ok (stage.Section next (first_row (point_count net) next)))

-- the line after the header, where the certificate is of a consistent network
abbrev pub consistent_line : Net → List (List ℕ) → Result Stage CertCause
consistent_line net (f ∷ []) = and_then (number_in f) (λ n. and_then (kept_as (pos (point_count net)) n) (λ k. Ok (stage.FromDue 0)))
consistent_line net fs = Err cause.FieldCount

-- the field writes a number that may stand for a point or an arc
abbrev pub is_index : List ℕ → Bool
is_index field = is_ok (index_in field)

-- the arc's number that a field writes, if it is one
abbrev pub arc_number : Net → List ℕ → Option ℕ
arc_number net field = elim (number_of field) [ None ↦ None | Some n ↦ number_below (length (arcs_of net)) n ]

-- one number before others
abbrev pub with_number : Option ℕ → Option (List ℕ) → Option (List ℕ)
with_number None more = None
with_number (Some n) more = option_map (λ ns. n ∷ ns) more

-- the arcs' numbers that fields write, if all are such numbers
abbrev pub arc_numbers : Net → List (List ℕ) → Option (List ℕ)
arc_numbers net [] = Some []
arc_numbers net (f ∷ fs) = with_number (arc_number net f) (arc_numbers net fs)

-- the fields write a negative cycle in normal form
abbrev pub writes_cycle : Net → List (List ℕ) → Bool
writes_cycle net fs = elim (arc_numbers net fs) [ None ↦ false | Some ns ↦ is_cycle (arcs_of net) ns ]

abbrev pub cycle_line : Net → List (List ℕ) → Result Stage CertCause
cycle_line net fs =
    if nat_lt (length fs) 2 then Err cause.FieldCount
    else (if not (list_all is_index fs) then Err cause.NumberBad
    else (if writes_cycle net fs then Ok (stage.EndDue false) else Err cause.BadCycle))

-- a line of its word alone
abbrev pub alone : Stage → List (List ℕ) → Result Stage CertCause
alone next [] = Ok next
alone next (f ∷ fs) = Err cause.FieldCount

-- a line after the header, by its word and the fields after it: a word that is not due is unknown
abbrev pub headed_line : Net → Word → List (List ℕ) → Result Stage CertCause
headed_line net word.Consistent fs = consistent_line net fs
headed_line net word.Inconsistent fs = alone stage.CycleDue fs
headed_line net w fs = Err cause.UnknownWord

abbrev pub due_line : Net → ℕ → Word → List (List ℕ) → Result Stage CertCause
due_line net next word.From fs = from_line net next fs
due_line net next w fs = Err cause.UnknownWord

abbrev pub section_line : Net → ℕ → Row → Word → List (List ℕ) → Result Stage CertCause
section_line net i row word.To fs = to_line net i row fs
section_line net i row word.Holds fs = holds_line net i row fs
section_line net i row w fs = Err cause.UnknownWord

abbrev pub cycle_due_line : Net → Word → List (List ℕ) → Result Stage CertCause
cycle_due_line net word.Cycle fs = cycle_line net fs
cycle_due_line net w fs = Err cause.UnknownWord

abbrev pub end_due_line : Bool → Word → List (List ℕ) → Result Stage CertCause
end_due_line consistent word.End fs = alone (stage.Ended consistent) fs
end_due_line consistent w fs = Err cause.UnknownWord

abbrev pub line_after : Net → Stage → Word → List (List ℕ) → Result Stage CertCause
line_after net stage.Start w fs = Err cause.NoHeader
line_after net stage.Headed w fs = headed_line net w fs
line_after net (stage.FromDue next) w fs = due_line net next w fs
line_after net (stage.Section i row) w fs = section_line net i row w fs
line_after net stage.CycleDue w fs = cycle_due_line net w fs
line_after net (stage.EndDue consistent) w fs = end_due_line consistent w fs
line_after net (stage.Ended consistent) w fs = Err cause.AfterEnd

-- the same, where the first field may be no word
abbrev pub line_by_word : Net → Stage → Option Word → List (List ℕ) → Result Stage CertCause
line_by_word net s None fs = Err cause.UnknownWord
line_by_word net s (Some w) fs = line_after net s w fs

-- the first line after its first field
abbrev pub header : List (List ℕ) → Result Stage CertCause
header (version ∷ []) = if bytes_eq version (codes "1") then Ok stage.Headed else Err cause.Version
header fs = Err cause.FieldCount

-- the first line, by its fields
abbrev pub first_line : List ℕ → List (List ℕ) → Result Stage CertCause
first_line f fs = if bytes_eq f (codes "mastncert") then header fs else Err cause.NoHeader

abbrev pub is_start : Stage → Bool
is_start stage.Start = true
is_start s = false

abbrev pub is_ended : Stage → Bool
is_ended (stage.Ended consistent) = true
is_ended s = false

abbrev pub is_cycle_due : Stage → Bool
is_cycle_due stage.CycleDue = true
is_cycle_due s = false

-- a line by its fields, of which it has some
abbrev pub fields_do : Net → Stage → List (List ℕ) → Result Stage CertCause
fields_do net s [] = Ok s
fields_do net s (f ∷ fs) = if is_start s then first_line f fs else line_by_word net s (word_of f) fs

-- what a line does: blank lines and comments nothing; after the `end` line there is no other test
abbrev pub line_does : Net → Stage → List ℕ → Result Stage CertCause
line_does net s text =
    if is_skipped text then Ok s
    else (if is_ended s then Err cause.AfterEnd
    else (if is_text text then fields_do net s (fields text) else Err cause.NotText))

-- what a text shows that ends there
abbrev pub at_end : Stage → ℕ → Verdict
at_end (stage.Ended true) number = verdict.Consistent
at_end (stage.Ended false) number = verdict.Inconsistent
at_end s number = verdict.No number cause.NoEnd

-- what a text shows after a line of that number
abbrev pub conclude : Result Stage CertCause → ℕ → (Stage → Verdict) → Verdict
conclude (Ok s) number rest = rest s
conclude (Err c) number rest = verdict.No number c

-- what lines show from a stage on, where the first of them has that number
abbrev pub read_from : Net → Stage → ℕ → List Sized → Verdict
read_from net s number [] = at_end s number
read_from net s number (line ∷ more) = conclude (line_does net s line.text) number (λ t. read_from net t (number + 1) more)

-- what a text shows of a network: its verdict, or its first false line and the first test that the line fails
abbrev pub verdict_of : Net → ℕ → List ℕ → Verdict
verdict_of net first bytes = read_from net stage.Start first (lines bytes)

-- what is true of each stage: a section is that of a point, and has one place for each
abbrev pub IsStage : Net → Stage → Type 0
IsStage net stage.Start = Unit {0}
IsStage net stage.Headed = Unit {0}
IsStage net (stage.FromDue next) = next < point_count net
IsStage net (stage.Section i row) = (i < point_count net) × (length row ≡ point_count net)
IsStage net stage.CycleDue = Unit {0}
IsStage net (stage.EndDue consistent) = Unit {0}
IsStage net (stage.Ended consistent) = Unit {0}
