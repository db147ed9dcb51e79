-- A line does what its list of tests says.
use Rattle.std.proofs.Common.{◌≡◌, ◌≢◌, ℕ, ℤ, pos, negsuc, ◌==◌, Bool, true, false, not, nat_lt, cond, List, [], ◌∷◌, length, is_some, Option, Some, None, Result, Ok, Err, refl, ap, ◌∙◌, arith}
use Rattle.std.proofs.lemmas.Bool.{ne_eqb}
use Rattle.stn_model.specs.declared.ids.Constraint.{Constraint}
use Rattle.stn_model.specs.declared.ids.PointId.{PointId}
use Rattle.stn_model.specs.Net.{Net, find_point}
use Rattle.stn_model.specs.Refusals.{is_beyond}
use Rattle.net_text.specs.declared.cause.TextCause.{TextCause}
use Rattle.net_text.specs.declared.cause.TextCause.TheVariants as cause
use Rattle.net_text.specs.Fields.{fields}
use Rattle.net_text.specs.Lines.{is_text}
use Rattle.net_text.specs.Networks.{arc_between}
use Rattle.net_text.specs.Numbers.{number_of}
use Rattle.script_text.specs.declared.command.Command.{Command}
use Rattle.script_text.specs.declared.line.Line.{Line}
use Rattle.script_text.specs.declared.line.Line.TheVariants as line
use Rattle.script_text.specs.declared.phase.Phase.{Phase}
use Rattle.script_text.specs.declared.words.Word.{Word}
use Rattle.script_text.specs.declared.words.Word.TheVariants as word
use Rattle.script_text.specs.Laws.{LinesAreTested}
use Rattle.script_text.specs.Lines.{and_then, arc_numbers, number_in, arc_number, arc_number_in, point_in, not_z, free_point_in, arc_allowed, arc_in, line_by_word, line_of}
use Rattle.script_text.specs.Scripts.{Reading, Step, does, does_what}
use Rattle.script_text.specs.Tests.{first_cause, has_not, natural, is_out, judged}
use Rattle.script_text.specs.Words.{word_of}

-- the first cause of these tests, or what is there where none fails
abbrev after_tests : {A : Type 0} → List (Bool × TextCause) → Result A TextCause → Result A TextCause
after_tests [] x = x
after_tests ((fails, c) ∷ more) x = cond fails (Err c) (after_tests more x)

-- the number, or the point, of what was found, or 0
abbrev number_or : Option ℤ → ℤ
number_or o = elim o [ None ↦ pos 0 | Some n ↦ n ]

abbrev point_or : Option ℕ → PointId
point_or o = elim o [ None ↦ record { 0 = 0 } | Some p ↦ record { 0 = p } ]

then_after : {A B : Type 0} (ts : List (Bool × TextCause)) (x : Result A TextCause) (k : A → Result B TextCause)
    → and_then (after_tests ts x) k ≡ after_tests ts (and_then x k)
then_after [] x k = refl
then_after ((true, c) ∷ more) x k = refl
then_after ((false, c) ∷ more) x k = then_after more x k

bound : {A B : Type 0} (x : Result A TextCause) (ts : List (Bool × TextCause)) (a : A) (k : A → Result B TextCause)
    → x ≡ after_tests ts (Ok a) → and_then x k ≡ after_tests ts (k a)
bound x ts a k e = ap (λ y. and_then y k) e ∙ then_after ts (Ok a) k

does_after : (r : Reading) (ts : List (Bool × TextCause)) (x : Result Line TextCause) → does_what r (after_tests ts x) ≡ first_cause ts (does_what r x)
does_after r [] x = refl
does_after r ((true, c) ∷ more) x = refl
does_after r ((false, c) ∷ more) x = does_after r more x

-- a line that is asked for where its tests by itself pass
asks : (r : Reading) (x : Result Line TextCause) (ts : List (Bool × TextCause)) (l : Line) → x ≡ after_tests ts (Ok l)
    → does_what r x ≡ first_cause ts (does r l)
asks r x ts l e = ap (does_what r) e ∙ does_after r ts (Ok l)

number_tested : (f : List ℕ) → number_in f ≡ after_tests ((not (is_some (number_of f)), cause.NumberBad) ∷ []) (Ok (number_or (number_of f)))
number_tested f = found (number_of f)
  where
    found : (o : Option ℤ)
        → elim o [ None ↦ Err cause.NumberBad | Some n ↦ Ok n ] ≡ after_tests ((not (is_some o), cause.NumberBad) ∷ []) (Ok (number_or o))
    found None = refl
    found (Some n) = refl

point_tested : (net : Net) (f : List ℕ)
    → point_in net f ≡ after_tests ((not (is_some (find_point net f)), cause.NameUnknown) ∷ []) (Ok (point_or (find_point net f)))
point_tested net f = found (find_point net f)
  where
    found : (o : Option ℕ)
        → elim o [ None ↦ Err cause.NameUnknown | Some p ↦ Ok (record { 0 = p }) ]
        ≡ after_tests ((not (is_some o), cause.NameUnknown) ∷ []) (Ok (point_or o))
    found None = refl
    found (Some p) = refl

arc_number_tested : (z : ℤ) → arc_number z ≡ after_tests ((is_out z, cause.NumberBad) ∷ []) (Ok (natural z))
arc_number_tested (pos n) = either (nat_lt n arc_numbers)
  where
    either : (b : Bool) → cond b (Ok n) (Err cause.NumberBad) ≡ after_tests ((not b, cause.NumberBad) ∷ []) (Ok n)
    either true = refl
    either false = refl
arc_number_tested (negsuc n) = refl

withdraw_tested : (r : Reading) (f : List ℕ)
    → does_what r (and_then (arc_number_in f) (λ n. Ok (line.Withdraw n)))
    ≡ first_cause ((not (is_some (number_of f)), cause.NumberBad) ∷ (is_out (number_or (number_of f)), cause.NumberBad) ∷ [])
    (does r (line.Withdraw (natural (number_or (number_of f)))))
withdraw_tested r f =
    let z : ℤ = number_or (number_of f) in
    let one : List (Bool × TextCause) = (not (is_some (number_of f)), cause.NumberBad) ∷ [] in
    let both : List (Bool × TextCause) = (not (is_some (number_of f)), cause.NumberBad) ∷ (is_out z, cause.NumberBad) ∷ [] in
    asks r (and_then (arc_number_in f) (λ n. Ok (line.Withdraw n))) both (line.Withdraw (natural z))
    (bound (arc_number_in f) both (natural z) (λ n. Ok (line.Withdraw n))
    (bound (number_in f) one z arc_number (number_tested f) ∙ ap (after_tests one) (arc_number_tested z)))

free_tested : (net : Net) (f : List ℕ)
    → free_point_in net f
    ≡ after_tests ((not (is_some (find_point net f)), cause.NameUnknown) ∷ ((point_or (find_point net f)).0 == 0, cause.ReferencePoint) ∷ [])
    (Ok (point_or (find_point net f)))
free_tested net f =
    bound (point_in net f) ((not (is_some (find_point net f)), cause.NameUnknown) ∷ []) (point_or (find_point net f)) not_z (point_tested net f)

-- the tests of an arc's three fields
abbrev arc_tests : Net → List ℕ → List ℕ → List ℕ → List (Bool × TextCause)
arc_tests net from to high =
    (not (is_some (number_of high)), cause.NumberBad) ∷ (not (is_some (find_point net from)), cause.NameUnknown)
    ∷ (not (is_some (find_point net to)), cause.NameUnknown)
    ∷ ((point_or (find_point net from)).0 == (point_or (find_point net to)).0, cause.SamePoint)
    ∷ (is_beyond (number_or (number_of high)), cause.BoundRange) ∷ []

abbrev arc_read : Net → List ℕ → List ℕ → List ℕ → Constraint
arc_read net from to high = arc_between (point_or (find_point net from)).0 (point_or (find_point net to)).0 (number_or (number_of high))

arc_tested : (net : Net) (from to high : List ℕ) → arc_in net from to high ≡ after_tests (arc_tests net from to high) (Ok (arc_read net from to high))
arc_tested net from to high =
    let b : ℤ = number_or (number_of high) in
    let i : PointId = point_or (find_point net from) in
    let j : PointId = point_or (find_point net to) in
    let one : List (Bool × TextCause) = (not (is_some (number_of high)), cause.NumberBad) ∷ [] in
    let two : List (Bool × TextCause) = (not (is_some (find_point net from)), cause.NameUnknown) ∷ [] in
    let three : List (Bool × TextCause) = (not (is_some (find_point net to)), cause.NameUnknown) ∷ [] in
    bound (number_in high) one b (λ b. and_then (point_in net from) (λ i. and_then (point_in net to) (λ j. arc_allowed b i j))) (number_tested high)
    ∙ ap (after_tests one)
    (bound (point_in net from) two i (λ i. and_then (point_in net to) (λ j. arc_allowed b i j)) (point_tested net from)
    ∙ ap (after_tests two) (bound (point_in net to) three j (λ j. arc_allowed b i j) (point_tested net to)))

prove_tested : (net : Net) (r : Reading) (from to : List ℕ) → does_what r (line_by_word net false (Some word.Prove) (from ∷ to ∷ []))
    ≡ first_cause (
    (not (is_some (find_point net from)), cause.NameUnknown) ∷ (not (is_some (find_point net to)), cause.NameUnknown)
    ∷ ((point_or (find_point net from)).0 == (point_or (find_point net to)).0, cause.SamePoint) ∷ []
    ) (does r (line.Prove (point_or (find_point net from)) (point_or (find_point net to))))
prove_tested net r from to =
    let i : PointId = point_or (find_point net from) in
    let j : PointId = point_or (find_point net to) in
    let one : List (Bool × TextCause) = (not (is_some (find_point net from)), cause.NameUnknown) ∷ [] in
    let two : List (Bool × TextCause) = (not (is_some (find_point net to)), cause.NameUnknown) ∷ [] in
    let differ : PointId → PointId → Result Line TextCause = λ i j. cond (i.0 == j.0) (Err cause.SamePoint) (Ok (line.Prove i j)) in
    let all : List (Bool × TextCause) =
    (not (is_some (find_point net from)), cause.NameUnknown) ∷ (not (is_some (find_point net to)), cause.NameUnknown) ∷ (i.0 == j.0, cause.SamePoint)
    ∷ [] in
    asks r (line_by_word net false (Some word.Prove) (from ∷ to ∷ [])) all (line.Prove i j)
    (bound (point_in net from) one i (λ i. and_then (point_in net to) (λ j. differ i j)) (point_tested net from)
    ∙ ap (after_tests one) (bound (point_in net to) two j (λ j. differ i j) (point_tested net to)))

choose_tested : (net : Net) (r : Reading) (point time : List ℕ) → does_what r (line_by_word net false (Some word.Choose) (point ∷ time ∷ []))
    ≡ first_cause (
    (not (is_some (number_of time)), cause.NumberBad) ∷ (not (is_some (find_point net point)), cause.NameUnknown)
    ∷ ((point_or (find_point net point)).0 == 0, cause.ReferencePoint) ∷ []
    ) (does r (line.Choose (point_or (find_point net point)) (number_or (number_of time))))
choose_tested net r point time =
    let t : ℤ = number_or (number_of time) in
    let p : PointId = point_or (find_point net point) in
    let one : List (Bool × TextCause) = (not (is_some (number_of time)), cause.NumberBad) ∷ [] in
    let two : List (Bool × TextCause) = (not (is_some (find_point net point)), cause.NameUnknown) ∷ (p.0 == 0, cause.ReferencePoint) ∷ [] in
    let all : List (Bool × TextCause) =
    (not (is_some (number_of time)), cause.NumberBad) ∷ (not (is_some (find_point net point)), cause.NameUnknown) ∷ (p.0 == 0, cause.ReferencePoint) ∷ [] in
    asks r (line_by_word net false (Some word.Choose) (point ∷ time ∷ [])) all (line.Choose p t)
    (bound (number_in time) one t (λ t. and_then (free_point_in net point) (λ p. Ok (line.Choose p t))) (number_tested time)
    ∙ ap (after_tests one) (bound (free_point_in net point) two p (λ p. Ok (line.Choose p t)) (free_tested net point)))

advance_tested : (r : Reading) (time : List ℕ) → does_what r (and_then (number_in time) (λ t. Ok (line.Advance t)))
    ≡ first_cause ((not (is_some (number_of time)), cause.NumberBad) ∷ []) (does r (line.Advance (number_or (number_of time))))
advance_tested r time =
    let one : List (Bool × TextCause) = (not (is_some (number_of time)), cause.NumberBad) ∷ [] in
    asks r (and_then (number_in time) (λ t. Ok (line.Advance t))) one (line.Advance (number_or (number_of time)))
    (bound (number_in time) one (number_or (number_of time)) (λ t. Ok (line.Advance t)) (number_tested time))

do_tested : (net : Net) (r : Reading) (point : List ℕ) → does_what r (and_then (free_point_in net point) (λ p. Ok (line.Do p)))
    ≡ first_cause ((not (is_some (find_point net point)), cause.NameUnknown) ∷ ((point_or (find_point net point)).0 == 0, cause.ReferencePoint) ∷ [])
    (does r (line.Do (point_or (find_point net point))))
do_tested net r point =
    let p : PointId = point_or (find_point net point) in
    let two : List (Bool × TextCause) = (not (is_some (find_point net point)), cause.NameUnknown) ∷ (p.0 == 0, cause.ReferencePoint) ∷ [] in
    asks r (and_then (free_point_in net point) (λ p. Ok (line.Do p))) two (line.Do p)
    (bound (free_point_in net point) two p (λ p. Ok (line.Do p)) (free_tested net point))

tighten_tested : (net : Net) (r : Reading) (from to high : List ℕ) → does_what r (and_then (arc_in net from to high) (λ a. Ok (line.Tighten a)))
    ≡ first_cause (arc_tests net from to high) (does r (line.Tighten (arc_read net from to high)))
tighten_tested net r from to high =
    asks r (and_then (arc_in net from to high) (λ a. Ok (line.Tighten a))) (arc_tests net from to high) (line.Tighten (arc_read net from to high))
    (bound (arc_in net from to high) (arc_tests net from to high) (arc_read net from to high) (λ a. Ok (line.Tighten a)) (arc_tested net from to high))

batch_arc_tested : (net : Net) (r : Reading) (from to high : List ℕ) → does_what r (and_then (arc_in net from to high) (λ a. Ok (line.BatchArc a)))
    ≡ first_cause (arc_tests net from to high) (does r (line.BatchArc (arc_read net from to high)))
batch_arc_tested net r from to high =
    asks r (and_then (arc_in net from to high) (λ a. Ok (line.BatchArc a))) (arc_tests net from to high) (line.BatchArc (arc_read net from to high))
    (bound (arc_in net from to high) (arc_tests net from to high) (arc_read net from to high) (λ a. Ok (line.BatchArc a)) (arc_tested net from to high))

-- another count of fields
miscounted : (n : ℕ) (fs : List (List ℕ)) → length fs ≢ n → has_not n fs ≡ true
miscounted n fs ne = ap not (ne_eqb (length fs) n ne)

fails_at : (b : Bool) (x y : Step) → b ≡ true → x ≡ cond b x y
fails_at true x y e = refl
fails_at false x y e = absurd (cc)

passes_at : (b : Bool) (x y : Step) → b ≡ false → y ≡ cond b x y
passes_at false x y e = refl
passes_at true x y e = absurd (cc)

-- a reading without a batch, and one with a batch
abbrev outside : List Command → Phase → ℕ → Reading
outside cs phase n = record { commands = cs; batch = None; phase = phase; arcs = n }

abbrev within : List Command → List Constraint → Phase → ℕ → Reading
within cs arcs phase n = record { commands = cs; batch = Some arcs; phase = phase; arcs = n }

-- LINES OUTSIDE A BATCH, word by word and by how many fields stand after it.
outside_tested : (net : Net) (cs : List Command) (phase : Phase) (n : ℕ) (w : Word) (fs : List (List ℕ))
    → does_what (outside cs phase n) (line_by_word net false (Some w) fs) ≡ judged net (outside cs phase n) (Some w) fs
outside_tested net cs phase n word.Bounds [] = refl
outside_tested net cs phase n word.Bounds (f ∷ fs) = fails_at _ _ _ (miscounted 0 (f ∷ fs) (λ e. omega arith))
outside_tested net cs phase n word.Windows [] = refl
outside_tested net cs phase n word.Windows (f ∷ fs) = fails_at _ _ _ (miscounted 0 (f ∷ fs) (λ e. omega arith))
outside_tested net cs phase n word.Prove [] = refl
outside_tested net cs phase n word.Prove (from ∷ []) = refl
outside_tested net cs phase n word.Prove (from ∷ to ∷ []) = prove_tested net (outside cs phase n) from to
outside_tested net cs phase n word.Prove (from ∷ to ∷ next ∷ more) = fails_at _ _ _ (miscounted 2 (from ∷ to ∷ next ∷ more) (λ e. omega arith))
outside_tested net cs phase n word.Tighten [] = refl
outside_tested net cs phase n word.Tighten (from ∷ []) = refl
outside_tested net cs phase n word.Tighten (from ∷ to ∷ []) = refl
outside_tested net cs phase n word.Tighten (from ∷ to ∷ high ∷ []) = tighten_tested net (outside cs phase n) from to high
outside_tested net cs phase n word.Tighten (from ∷ to ∷ high ∷ next ∷ more) =
    fails_at _ _ _ (miscounted 3 (from ∷ to ∷ high ∷ next ∷ more) (λ e. omega arith))
outside_tested net cs phase n word.Batch [] = refl
outside_tested net cs phase n word.Batch (f ∷ fs) = fails_at _ _ _ (miscounted 0 (f ∷ fs) (λ e. omega arith))
outside_tested net cs phase n word.Arc fs = refl
outside_tested net cs phase n word.Close fs = refl
outside_tested net cs phase n word.Withdraw [] = refl
outside_tested net cs phase n word.Withdraw (f ∷ []) = withdraw_tested (outside cs phase n) f
outside_tested net cs phase n word.Withdraw (f ∷ next ∷ more) = fails_at _ _ _ (miscounted 1 (f ∷ next ∷ more) (λ e. omega arith))
outside_tested net cs phase n word.Decouple [] = refl
outside_tested net cs phase n word.Decouple (f ∷ fs) = fails_at _ _ _ (miscounted 0 (f ∷ fs) (λ e. omega arith))
outside_tested net cs phase n word.Choose [] = refl
outside_tested net cs phase n word.Choose (point ∷ []) = refl
outside_tested net cs phase n word.Choose (point ∷ time ∷ []) = choose_tested net (outside cs phase n) point time
outside_tested net cs phase n word.Choose (point ∷ time ∷ next ∷ more) = fails_at _ _ _ (miscounted 2 (point ∷ time ∷ next ∷ more) (λ e. omega arith))
outside_tested net cs phase n word.Execute [] = refl
outside_tested net cs phase n word.Execute (f ∷ fs) = fails_at _ _ _ (miscounted 0 (f ∷ fs) (λ e. omega arith))
outside_tested net cs phase n word.Advance [] = refl
outside_tested net cs phase n word.Advance (f ∷ []) = advance_tested (outside cs phase n) f
outside_tested net cs phase n word.Advance (f ∷ next ∷ more) = fails_at _ _ _ (miscounted 1 (f ∷ next ∷ more) (λ e. omega arith))
outside_tested net cs phase n word.Do [] = refl
outside_tested net cs phase n word.Do (f ∷ []) = do_tested net (outside cs phase n) f
outside_tested net cs phase n word.Do (f ∷ next ∷ more) = fails_at _ _ _ (miscounted 1 (f ∷ next ∷ more) (λ e. omega arith))
outside_tested net cs phase n word.Schedule [] = refl
outside_tested net cs phase n word.Schedule (f ∷ fs) = fails_at _ _ _ (miscounted 0 (f ∷ fs) (λ e. omega arith))
outside_tested net cs phase n word.Done [] = refl
outside_tested net cs phase n word.Done (f ∷ fs) = fails_at _ _ _ (miscounted 0 (f ∷ fs) (λ e. omega arith))

-- LINES IN A BATCH.
within_tested : (net : Net) (cs : List Command) (arcs : List Constraint) (phase : Phase) (n : ℕ) (w : Word) (fs : List (List ℕ))
    → does_what (within cs arcs phase n) (line_by_word net true (Some w) fs) ≡ judged net (within cs arcs phase n) (Some w) fs
within_tested net cs arcs phase n word.Bounds fs = refl
within_tested net cs arcs phase n word.Windows fs = refl
within_tested net cs arcs phase n word.Prove fs = refl
within_tested net cs arcs phase n word.Tighten fs = refl
within_tested net cs arcs phase n word.Batch fs = refl
within_tested net cs arcs phase n word.Arc [] = refl
within_tested net cs arcs phase n word.Arc (from ∷ []) = refl
within_tested net cs arcs phase n word.Arc (from ∷ to ∷ []) = refl
within_tested net cs arcs phase n word.Arc (from ∷ to ∷ high ∷ []) = batch_arc_tested net (within cs arcs phase n) from to high
within_tested net cs arcs phase n word.Arc (from ∷ to ∷ high ∷ next ∷ more) =
    fails_at _ _ _ (miscounted 3 (from ∷ to ∷ high ∷ next ∷ more) (λ e. omega arith))
within_tested net cs [] phase n word.Close [] = refl
within_tested net cs (a ∷ arcs) phase n word.Close [] = passes_at _ _ _ (ne_eqb (length (a ∷ arcs)) 0 (λ e. omega arith))
within_tested net cs arcs phase n word.Close (f ∷ fs) = fails_at _ _ _ (miscounted 0 (f ∷ fs) (λ e. omega arith))
within_tested net cs arcs phase n word.Withdraw fs = refl
within_tested net cs arcs phase n word.Decouple fs = refl
within_tested net cs arcs phase n word.Choose fs = refl
within_tested net cs arcs phase n word.Execute fs = refl
within_tested net cs arcs phase n word.Advance fs = refl
within_tested net cs arcs phase n word.Do fs = refl
within_tested net cs arcs phase n word.Schedule fs = refl
within_tested net cs arcs phase n word.Done fs = refl

outside_judged : (net : Net) (cs : List Command) (phase : Phase) (n : ℕ) (w : Option Word) (fs : List (List ℕ))
    → does_what (outside cs phase n) (line_by_word net false w fs) ≡ judged net (outside cs phase n) w fs
outside_judged net cs phase n None fs = refl
outside_judged net cs phase n (Some w) fs = outside_tested net cs phase n w fs

within_judged : (net : Net) (cs : List Command) (arcs : List Constraint) (phase : Phase) (n : ℕ) (w : Option Word) (fs : List (List ℕ))
    → does_what (within cs arcs phase n) (line_by_word net true w fs) ≡ judged net (within cs arcs phase n) w fs
within_judged net cs arcs phase n None fs = refl
within_judged net cs arcs phase n (Some w) fs = within_tested net cs arcs phase n w fs

by_word : (net : Net) (r : Reading) (w : Option Word) (fs : List (List ℕ)) → does_what r (line_by_word net (is_some r.batch) w fs) ≡ judged net r w fs
by_word net r w fs =
    elim r.batch as (λ b. does_what (record { commands = r.commands; batch = b; phase = r.phase; arcs = r.arcs }) (line_by_word net (is_some b) w fs)
    ≡ judged net (record { commands = r.commands; batch = b; phase = r.phase; arcs = r.arcs }) w fs) [
      | None ↦ outside_judged net r.commands r.phase r.arcs w fs
      | Some arcs ↦ within_judged net r.commands arcs r.phase r.arcs w fs
    ]

pub lines_are_tested : LinesAreTested
lines_are_tested net r text first fs plain same =
    ap (λ b. does_what r (cond b (Ok line.Nothing) (cond (is_text text) (line_of net (is_some r.batch) (fields text)) (Err cause.NotText)))) plain
    ∙ ap (λ (gs : List (List ℕ)). does_what r (cond (is_text text) (line_of net (is_some r.batch) gs) (Err cause.NotText))) same
    ∙ elim (is_text text) as (λ t. does_what r (cond t (line_by_word net (is_some r.batch) (word_of first) fs) (Err cause.NotText))
    ≡ first_cause ((not t, cause.NotText) ∷ []) (judged net r (word_of first) fs)) [
      | true ↦ by_word net r (word_of first) fs
      | false ↦ refl
    ]
