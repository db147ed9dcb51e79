-- What one line of a script asks for by itself, or the first that it fails of the tests on its bytes, its word, the count of its fields, its
-- numbers, its names and its arc: and_then, number_in, arc_numbers, arc_number, arc_number_in, point_in, not_z, free_point_in, arc_allowed,
-- arc_in, alone, prove_between, prove_line, choose_at, choose_line, withdraw_line, advance_line, do_line, arc_line, tighten_line,
-- batch_arc_line, line_outside, line_inside, line_by_word, line_of, line_in.
use Rattle.std.specs.Prelude.{ℕ, ℤ, pos, negsuc, Bool, true, false, ◌==◌, nat_lt, List, [], ◌∷◌, Option, Some, None, Result, Ok, Err, if◌then◌else◌}
use Rattle.stn_model.specs.declared.ids.Constraint.{Constraint}
use Rattle.stn_model.specs.declared.ids.PointId.{PointId}
use Rattle.stn_model.specs.Net.{Net, find_point}
use Rattle.stn_model.specs.Refusals.{is_beyond}
use Rattle.net_text.specs.declared.cause.TextCause.{TextCause}
use Rattle.net_text.specs.declared.cause.TextCause.TheVariants as cause
use Rattle.net_text.specs.Fields.{fields}
use Rattle.net_text.specs.Lines.{is_skipped, is_text}
use Rattle.net_text.specs.Numbers.{number_of}
use Rattle.net_text.specs.Networks.{arc_between}
use Rattle.script_text.specs.declared.line.Line.{Line}
use Rattle.script_text.specs.declared.line.Line.TheVariants as line
use Rattle.script_text.specs.declared.words.Word.{Word}
use Rattle.script_text.specs.declared.words.Word.TheVariants as word
use Rattle.script_text.specs.Words.{word_of}

-- what follows, unless a test before it failed
abbrev pub and_then : {A B : Type 0} → Result A TextCause → (A → Result B TextCause) → Result B TextCause
and_then (Ok x) next = next x
and_then (Err c) next = Err c

-- the number of a field
abbrev pub number_in : List ℕ → Result ℤ TextCause
number_in field = elim (number_of field) [ None ↦ Err cause.NumberBad | Some n ↦ Ok n ]

-- numbers of arcs are below 2^32
abbrev pub arc_numbers : ℕ
arc_numbers = 4294967296

-- the number of an arc
abbrev pub arc_number : ℤ → Result ℕ TextCause
arc_number (pos n) = if nat_lt n arc_numbers then Ok n else Err cause.NumberBad
arc_number (negsuc n) = Err cause.NumberBad

abbrev pub arc_number_in : List ℕ → Result ℕ TextCause
arc_number_in field = and_then (number_in field) arc_number

-- the point that a field names
abbrev pub point_in : Net → List ℕ → Result PointId TextCause
point_in net field = elim (find_point net field) [ None ↦ Err cause.NameUnknown | Some p ↦ Ok (record { 0 = p }) ]

-- the point that a field names, which is not z
abbrev pub not_z : PointId → Result PointId TextCause
not_z p = if p.0 == 0 then Err cause.ReferencePoint else Ok p

abbrev pub free_point_in : Net → List ℕ → Result PointId TextCause
free_point_in net field = and_then (point_in net field) not_z

-- the arc of these ends, whose bound is in range
abbrev pub arc_allowed : ℤ → PointId → PointId → Result Constraint TextCause
arc_allowed bound from to =
    if from.0 == to.0 then Err cause.SamePoint
    else (if is_beyond bound then Err cause.BoundRange else Ok (arc_between from.0 to.0 bound))

-- the arc of three fields: first the number, then the names from left to right
abbrev pub arc_in : Net → List ℕ → List ℕ → List ℕ → Result Constraint TextCause
arc_in net from to bound =
    and_then (number_in bound) (λ b. and_then (point_in net from) (λ i. and_then (point_in net to) (λ j. arc_allowed b i j)))

-- a line of its word alone
abbrev pub alone : Line → List (List ℕ) → Result Line TextCause
alone l [] = Ok l
alone l (f ∷ fs) = Err cause.FieldCount

-- a `prove` line of two points
abbrev pub prove_between : Net → List ℕ → List ℕ → Result Line TextCause
prove_between net from to =
    and_then (point_in net from) (λ i. and_then (point_in net to) (λ j.
    if i.0 == j.0 then Err cause.SamePoint else Ok (line.Prove i j)))

abbrev pub prove_line : Net → List (List ℕ) → Result Line TextCause
prove_line net (from ∷ to ∷ []) = prove_between net from to
prove_line net fs = Err cause.FieldCount

-- a `choose` line of a point and a time
abbrev pub choose_at : Net → List ℕ → List ℕ → Result Line TextCause
choose_at net point time = and_then (number_in time) (λ t. and_then (free_point_in net point) (λ p. Ok (line.Choose p t)))

abbrev pub choose_line : Net → List (List ℕ) → Result Line TextCause
choose_line net (point ∷ time ∷ []) = choose_at net point time
choose_line net fs = Err cause.FieldCount

-- a `withdraw` line of an arc's number
abbrev pub withdraw_line : List (List ℕ) → Result Line TextCause
withdraw_line (number ∷ []) = and_then (arc_number_in number) (λ n. Ok (line.Withdraw n))
withdraw_line fs = Err cause.FieldCount

-- an `advance` line of a time
abbrev pub advance_line : List (List ℕ) → Result Line TextCause
advance_line (time ∷ []) = and_then (number_in time) (λ t. Ok (line.Advance t))
advance_line fs = Err cause.FieldCount

-- a `do` line of a point
abbrev pub do_line : Net → List (List ℕ) → Result Line TextCause
do_line net (point ∷ []) = and_then (free_point_in net point) (λ p. Ok (line.Do p))
do_line net fs = Err cause.FieldCount

-- a line of an arc after its word
abbrev pub arc_line : Net → List (List ℕ) → Result Constraint TextCause
arc_line net (from ∷ to ∷ bound ∷ []) = arc_in net from to bound
arc_line net fs = Err cause.FieldCount

abbrev pub tighten_line : Net → List (List ℕ) → Result Line TextCause
tighten_line net fs = and_then (arc_line net fs) (λ a. Ok (line.Tighten a))

abbrev pub batch_arc_line : Net → List (List ℕ) → Result Line TextCause
batch_arc_line net fs = and_then (arc_line net fs) (λ a. Ok (line.BatchArc a))

-- a line outside a batch, by its word and the fields after it; `arc` and `close` are unknown there
abbrev pub line_outside : Net → Word → List (List ℕ) → Result Line TextCause
line_outside net word.Bounds fs = alone line.Bounds fs
line_outside net word.Windows fs = alone line.Windows fs
line_outside net word.Prove fs = prove_line net fs
line_outside net word.Tighten fs = tighten_line net fs
line_outside net word.Batch fs = alone line.BeginBatch fs
line_outside net word.Arc fs = Err cause.UnknownWord
line_outside net word.Close fs = Err cause.UnknownWord
line_outside net word.Withdraw fs = withdraw_line fs
line_outside net word.Decouple fs = alone line.Decouple fs
line_outside net word.Choose fs = choose_line net fs
line_outside net word.Execute fs = alone line.Execute fs
line_outside net word.Advance fs = advance_line fs
line_outside net word.Do fs = do_line net fs
line_outside net word.Schedule fs = alone line.Schedule fs
line_outside net word.Done fs = alone line.Done fs

-- a line in a batch: another arc, or its end
abbrev pub line_inside : Net → Word → List (List ℕ) → Result Line TextCause
line_inside net word.Arc fs = batch_arc_line net fs
line_inside net word.Close fs = alone line.CloseBatch fs
line_inside net w fs = Err cause.BatchOpen

-- a line by its word, if it is one
abbrev pub line_by_word : Net → Bool → Option Word → List (List ℕ) → Result Line TextCause
line_by_word net false None fs = Err cause.UnknownWord
line_by_word net false (Some w) fs = line_outside net w fs
line_by_word net true None fs = Err cause.BatchOpen
line_by_word net true (Some w) fs = line_inside net w fs

-- a line by its fields, inside a batch or outside one; a line without a field asks for nothing
abbrev pub line_of : Net → Bool → List (List ℕ) → Result Line TextCause
line_of net inside [] = Ok line.Nothing
line_of net inside (f ∷ fs) = line_by_word net inside (word_of f) fs

-- a line, inside a batch or outside one: a blank line and a comment ask for nothing
abbrev pub line_in : Net → Bool → List ℕ → Result Line TextCause
line_in net inside text =
    if is_skipped text then Ok line.Nothing
    else (if is_text text then line_of net inside (fields text) else Err cause.NotText)
