-- A script that is written out is read as its commands.
use Rattle.std.proofs.Common.{◌≡◌, ◌≢◌, ℕ, ◌+◌, ◌*◌, ◌<◌, ◌≤◌, ◌==◌, ℤ, pos, neg_ℤ, Bool, true, false, not, ◌&&◌, nat_le, is_some, cond, codes, List, [], ◌∷◌, ◌++◌, length, Some, None, Ok, Err, refl, sym, ap, subst, ◌∙◌, arith, length-append}
use Rattle.std.specs.Prelude.{int_lt}
use Rattle.std.specs.Fmt.{decimal, signed_decimal}
use Rattle.std.specs.List.{AllByRecursion, flat_map}
use Rattle.std.proofs.lemmas.Bool.{ne_eqb, lt-leb, lt-ltb, and_parts, or_from}
use Rattle.std.proofs.lemmas.List.{append_assoc, append-nil}
use Rattle.stn_model.specs.declared.ids.Constraint.{Constraint}
use Rattle.stn_model.specs.declared.ids.PointId.{PointId}
use Rattle.stn_model.specs.Limits.{most_arcs, greatest_bound}
use Rattle.stn_model.specs.Net.{Net, point_count, point_name_of}
use Rattle.stn_model.specs.Refusals.{is_beyond}
use Rattle.stn_model.specs.Valid.{IsNetwork, IsArcWithin}
use Rattle.net_text.specs.declared.cause.TextCause.{TextCause}
use Rattle.net_text.specs.declared.cause.TextCause.TheVariants as cause
use Rattle.net_text.specs.Fields.{fields}
use Rattle.net_text.specs.Lines.{lines, is_skipped, is_text}
use Rattle.net_text.specs.Networks.{arc_between}
use Rattle.net_text.specs.Plain.{spaced, line, arc_line}
use Rattle.net_text.proofs.FieldsOfLines.{IsField, fields_spaced, text_line}
use Rattle.net_text.proofs.LinesRead.{lines_feed, length-line}
use Rattle.net_text.proofs.NetworksBack.{point_back, point_name_is_field, not_below}
use Rattle.net_text.proofs.NumbersBack.{number_back, short_is_field, bound_short}
use Rattle.script_text.specs.declared.command.Command.{Command}
use Rattle.script_text.specs.declared.command.Command.TheVariants as command
use Rattle.script_text.specs.declared.line.Line.TheVariants as asked
use Rattle.script_text.specs.declared.phase.Phase.{Phase}
use Rattle.script_text.specs.declared.phase.Phase.TheVariants.{Joint, Decoupled, Executing}
use Rattle.script_text.specs.Laws.{WrittenScriptIsRead}
use Rattle.script_text.specs.Lines.{and_then, arc_numbers, number_in, arc_number, arc_number_in, point_in, not_z, free_point_in, arc_allowed, arc_in, line_of}
use Rattle.script_text.specs.Phases.{is_decoupled, is_executing}
use Rattle.script_text.specs.Written.{command_lines, written, lines_of_command, script_lines}
use Rattle.script_text.specs.Possible.{IsTime, IsCommandOf, command_arcs, script_arcs, may_stand, phase_after, stand_in_order}
use Rattle.script_text.specs.Scripts.{Reading, Step, unless, does, does_what, line_does, conclude, read_from}
use Rattle.script_text.specs.Scripts.Step.{Goes, Ends}

-- a written line does what its fields ask for
line_written : (net : Net) (r : Reading) (w : List ℕ) (fs : List (List ℕ)) → IsField w → AllByRecursion IsField fs → is_skipped (w ++ spaced fs) ≡ false
    → line_does net r (w ++ spaced fs) ≡ does_what r (line_of net (is_some r.batch) (w ∷ fs))
line_written net r w fs h hs word =
    let l : List ℕ = w ++ spaced fs in
    ap (λ b. does_what r (cond b (Ok asked.Nothing) (cond (is_text l) (line_of net (is_some r.batch) (fields l)) (Err cause.NotText)))) word
    ∙ ap (λ b. does_what r (cond b (line_of net (is_some r.batch) (fields l)) (Err cause.NotText))) (text_line w fs h hs)
    ∙ ap (λ (gs : List (List ℕ)). does_what r (line_of net (is_some r.batch) gs)) (fields_spaced w fs h hs)

-- THE STEP OF READING. A written line is its word and its fields with one space before each, and then a line feed. So the text is read as its
-- fields ask, and reading goes on after the line feed, one line and the line's length further.
read_line : (net : Net) (first : ℕ) (r : Reading) (step : Step) (w : List ℕ) (fs : List (List ℕ)) → IsField w → AllByRecursion IsField fs
    → is_skipped (w ++ spaced fs) ≡ false → does_what r (line_of net (is_some r.batch) (w ∷ fs)) ≡ step → (n u : ℕ) (more : List ℕ)
    → read_from net r first n u (lines (line w fs ++ more))
    ≡ conclude step (first + n) (n + 1) (u + length (line w fs)) (λ t. read_from net t first (n + 1) (u + length (line w fs)) (lines more))
read_line net first r step w fs h hs word does n u more =
    let l : List ℕ = w ++ spaced fs in
    ap (λ t. read_from net r first n u (lines t)) (append_assoc l (10 ∷ []) more)
    ∙ ap (read_from net r first n u) (lines_feed l more (text_line w fs h hs))
    ∙ ap (λ d. conclude d (first + n) (n + 1) (u + (length l + 1)) (λ t. read_from net t first (n + 1) (u + (length l + 1)) (lines more)))
    (line_written net r w fs h hs word ∙ does)
    ∙ ap (λ k. conclude step (first + n) (n + 1) (u + k) (λ t. read_from net t first (n + 1) (u + k) (lines more))) (sym (length-line w fs))

-- so many lines of a text bring a reading to another
abbrev Brings : Net → ℕ → List ℕ → ℕ → Reading → Reading → Type 0
Brings net first text many r s =
    (n u : ℕ) (more : List ℕ) → read_from net r first n u (lines (text ++ more)) ≡ read_from net s first (n + many) (u + length text) (lines more)

read_at : (net : Net) (first : ℕ) (s : Reading) (n m u v : ℕ) (more : List ℕ) → n ≡ m → u ≡ v
    → read_from net s first n u (lines more) ≡ read_from net s first m v (lines more)
read_at net first s n m u v more e f =
    ap (λ k. read_from net s first k u (lines more)) e ∙ ap (λ k. read_from net s first m k (lines more)) f

one_line : (net : Net) (first : ℕ) (r s : Reading) (w : List ℕ) (fs : List (List ℕ)) → IsField w → AllByRecursion IsField fs
    → is_skipped (w ++ spaced fs) ≡ false → does_what r (line_of net (is_some r.batch) (w ∷ fs)) ≡ Goes s → Brings net first (line w fs) 1 r s
one_line net first r s w fs h hs word does n u more = read_line net first r (Goes s) w fs h hs word does n u more

-- two texts, one after the other
brings_both : (net : Net) (first : ℕ) (a b : List ℕ) (i j : ℕ) (r s t : Reading) → Brings net first a i r s → Brings net first b j s t
    → Brings net first (a ++ b) (i + j) r t
brings_both net first a b i j r s t one two n u more =
    ap (λ x. read_from net r first n u (lines x)) (append_assoc a b more)
    ∙ one n u (b ++ more)
    ∙ two (n + i) (u + length a) more
    ∙ read_at net first t (n + i + j) (n + (i + j)) (u + length a + length b) (u + length (a ++ b)) more (omega arith) (omega (arith, length-append a b))

no_text : (net : Net) (first : ℕ) (r : Reading) → Brings net first [] 0 r r
no_text net first r n u more = read_at net first r n (n + 0) u (u + 0) more (omega arith) (omega arith)

-- FIELDS. A point's name is read as that point, a number as itself.
name_read : (net : Net) → IsNetwork net → (p : PointId) → p.0 < point_count net → point_in net (point_name_of net p.0) ≡ Ok p
name_read net valid p lt = ap (λ o. elim o [ None ↦ Err cause.NameUnknown | Some p ↦ Ok (record { 0 = p }) ]) (point_back net valid p.0 lt)

number_read : (z : ℤ) → IsTime z → number_in (signed_decimal z) ≡ Ok z
number_read z short = ap (λ o. elim o [ None ↦ Err cause.NumberBad | Some n ↦ Ok n ]) (number_back z short)

free_read : (net : Net) → IsNetwork net → (p : PointId) → p.0 < point_count net → 0 < p.0 → free_point_in net (point_name_of net p.0) ≡ Ok p
free_read net valid p lt free =
    ap (λ x. and_then x not_z) (name_read net valid p lt) ∙ ap (λ b. cond b (Err cause.ReferencePoint) (Ok p)) (ne_eqb p.0 0 (omega arith))

arc_number_read : (n : ℕ) → n < arc_numbers → arc_number_in (decimal n) ≡ Ok n
arc_number_read n lt =
    ap (λ x. and_then x arc_number) (number_read (pos n) (omega arith)) ∙ ap (λ b. cond b (Ok n) (Err cause.NumberBad)) (lt-ltb n arc_numbers lt)

arc_read : (net : Net) → IsNetwork net → (a : Constraint) → IsArcWithin (point_count net) a
    → arc_in net (point_name_of net a.from.0) (point_name_of net a.to.0) (signed_decimal a.bound) ≡ Ok a
arc_read net valid a within =
    let from : List ℕ = point_name_of net a.from.0 in
    let to : List ℕ = point_name_of net a.to.0 in
    ap (λ x. and_then x (λ b. and_then (point_in net from) (λ i. and_then (point_in net to) (λ j. arc_allowed b i j))))
    (number_read a.bound (bound_short a.bound within.low within.high))
    ∙ ap (λ x. and_then x (λ i. and_then (point_in net to) (λ j. arc_allowed a.bound i j))) (name_read net valid a.from within.starts)
    ∙ ap (λ x. and_then x (λ j. arc_allowed a.bound a.from j)) (name_read net valid a.to within.ends)
    ∙ ap (λ b. cond b (Err cause.SamePoint) (cond (is_beyond a.bound) (Err cause.BoundRange) (Ok (arc_between a.from.0 a.to.0 a.bound))))
    (ne_eqb a.from.0 a.to.0 within.different)
    ∙ ap (λ b. cond b (Err cause.BoundRange) (Ok (arc_between a.from.0 a.to.0 a.bound)))
    (or_from (int_lt a.bound (neg_ℤ (pos greatest_bound))) (int_lt (pos greatest_bound) a.bound)
    (not_below a.bound (neg_ℤ (pos greatest_bound)) within.low) (not_below (pos greatest_bound) a.bound within.high))

-- the three fields of an arc
arc_fields : (net : Net) → IsNetwork net → (a : Constraint) → IsArcWithin (point_count net) a
    → AllByRecursion IsField (point_name_of net a.from.0 ∷ point_name_of net a.to.0 ∷ signed_decimal a.bound ∷ [])
arc_fields net valid a within = (
  point_name_is_field net valid a.from.0 within.starts,
  (point_name_is_field net valid a.to.0 within.ends, (short_is_field a.bound (bound_short a.bound within.low within.high), tt)),
)

-- PLACES. A command that may stand where it stands is refused for no reason.
passes : (b : Bool) (c : TextCause) (s : Step) → b ≡ false → unless b c s ≡ s
passes false c s e = refl
passes true c s e = absurd (cc)

false_of : (b : Bool) → not b ≡ true → b ≡ false
false_of false e = refl
false_of true e = absurd (cc)

executing_is_decoupled : (p : Phase) → is_executing p ≡ true → is_decoupled p ≡ true
executing_is_decoupled Joint e = absurd (cc)
executing_is_decoupled Decoupled e = refl
executing_is_decoupled Executing e = refl

-- a reading outside a batch
abbrev outside : List Command → Phase → ℕ → Reading
outside cs p n = record { commands = cs; batch = None; phase = p; arcs = n }

abbrev inside : List Command → List Constraint → Phase → ℕ → Reading
inside cs arcs p n = record { commands = cs; batch = Some arcs; phase = p; arcs = n }

joint_goes : (p : Phase) (s : Step) → not (is_decoupled p) ≡ true → unless (is_decoupled p) cause.AfterDecouple s ≡ s
joint_goes p s e = passes (is_decoupled p) cause.AfterDecouple s (false_of (is_decoupled p) e)

decoupled_goes : (p : Phase) (s : Step) → is_decoupled p ≡ true → unless (not (is_decoupled p)) cause.BeforeDecouple s ≡ s
decoupled_goes p s e = passes (not (is_decoupled p)) cause.BeforeDecouple s (ap not e)

clockless_goes : (p : Phase) (s : Step) → (is_decoupled p && not (is_executing p)) ≡ true
    → unless (not (is_decoupled p)) cause.BeforeDecouple (unless (is_executing p) cause.AfterExecute s) ≡ s
clockless_goes p s e =
    let both = and_parts (is_decoupled p) (not (is_executing p)) e in
    decoupled_goes p (unless (is_executing p) cause.AfterExecute s) both.0
    ∙ passes (is_executing p) cause.AfterExecute s (false_of (is_executing p) both.1)

executing_goes : (p : Phase) (s : Step) → is_executing p ≡ true
    → unless (not (is_decoupled p)) cause.BeforeDecouple (unless (not (is_executing p)) cause.BeforeExecute s) ≡ s
executing_goes p s e =
    decoupled_goes p (unless (not (is_executing p)) cause.BeforeExecute s) (executing_is_decoupled p e)
    ∙ passes (not (is_executing p)) cause.BeforeExecute s (ap not e)

-- BATCHES. Each arc line adds its arc, where all arcs of the batch have room.
room_for : (n : ℕ) (s : Step) → n < most_arcs → unless (nat_le most_arcs n) cause.TooManyArcs s ≡ s
room_for n s lt = passes (nat_le most_arcs n) cause.TooManyArcs s (lt-leb most_arcs n lt)

batch_arc_read : (net : Net) (first : ℕ) → IsNetwork net → (cs : List Command) (arcs : List Constraint) (p : Phase) (k : ℕ) (a : Constraint)
    → IsArcWithin (point_count net) a → k < most_arcs → Brings net first (arc_line net a) 1 (inside cs arcs p k) (inside cs (arcs ++ a ∷ []) p (k + 1))
batch_arc_read net first valid cs arcs p k a within room =
    one_line net first (inside cs arcs p k) (inside cs (arcs ++ a ∷ []) p (k + 1)) (codes "arc")
    (point_name_of net a.from.0 ∷ point_name_of net a.to.0 ∷ signed_decimal a.bound ∷ []) (record { filled = refl; solid = refl })
    (arc_fields net valid a within) refl
    (ap (λ x. does_what (inside cs arcs p k) (and_then x (λ a. Ok (asked.BatchArc a)))) (arc_read net valid a within)
    ∙ room_for k (Goes (inside cs (arcs ++ a ∷ []) p (k + 1))) room)

batch_arcs_read : (net : Net) (first : ℕ) → IsNetwork net → (cs : List Command) (done todo : List Constraint) (p : Phase) (k : ℕ)
    → AllByRecursion (IsArcWithin (point_count net)) todo → k + length todo ≤ most_arcs
    → Brings net first (flat_map (arc_line net) todo) (length todo) (inside cs done p k) (inside cs (done ++ todo) p (k + length todo))
batch_arcs_read net first valid cs done [] p k within room n u more =
    let same : k ≡ k + 0 = omega arith in
    ap (λ (arcs : List Constraint). read_from net (inside cs arcs p k) first n u (lines more)) (sym (append-nil done))
    ∙ ap (λ m. read_from net (inside cs (done ++ []) p m) first n u (lines more)) same
    ∙ no_text net first (inside cs (done ++ []) p (k + 0)) n u more
batch_arcs_read net first valid cs done (a ∷ todo) p k within room n u more =
    let more_arcs : k + 1 + length todo ≡ k + length (a ∷ todo) = omega arith in
    let count : 1 + length todo ≡ length (a ∷ todo) = omega arith in
    brings_both net first (arc_line net a) (flat_map (arc_line net) todo) 1 (length todo) (inside cs done p k) (inside cs (done ++ a ∷ []) p (k + 1))
    (inside cs (done ++ a ∷ todo) p (k + 1 + length todo)) (batch_arc_read net first valid cs done p k a within.0 (omega arith))
    (subst (λ (arcs : List Constraint). Brings net first (flat_map (arc_line net) todo) (length todo) (inside cs (done ++ a ∷ []) p (k + 1))
    (inside cs arcs p (k + 1 + length todo)))
    (append_assoc done (a ∷ []) todo)
    (batch_arcs_read net first valid cs (done ++ a ∷ []) todo p (k + 1) within.1 (omega arith))) n u more
    ∙ ap (λ m. read_from net (inside cs (done ++ a ∷ todo) p (k + 1 + length todo)) first (n + m) (u + length (flat_map (arc_line net) (a ∷ todo)))
    (lines more)) count
    ∙ ap (λ m. read_from net (inside cs (done ++ a ∷ todo) p m) first (n + length (a ∷ todo)) (u + length (flat_map (arc_line net) (a ∷ todo)))
    (lines more)) more_arcs

batch_opened : (net : Net) (first : ℕ) (cs : List Command) (p : Phase) (k : ℕ) → not (is_decoupled p) ≡ true
    → Brings net first (line (codes "batch") []) 1 (outside cs p k) (inside cs [] p k)
batch_opened net first cs p k stands =
    one_line net first (outside cs p k) (inside cs [] p k) (codes "batch") [] (record { filled = refl; solid = refl }) tt refl
    (joint_goes p (Goes (inside cs [] p k)) stands)

batch_closed : (net : Net) (first : ℕ) (cs : List Command) (arcs : List Constraint) (p : Phase) (k : ℕ) → 0 < length arcs
    → Brings net first (line (codes "close") []) 1 (inside cs arcs p k) (outside (cs ++ command.Batch arcs ∷ []) p k)
batch_closed net first cs [] p k some = absurd (omega arith)
batch_closed net first cs (a ∷ arcs) p k some =
    one_line net first (inside cs (a ∷ arcs) p k) (outside (cs ++ command.Batch (a ∷ arcs) ∷ []) p k) (codes "close") []
    (record { filled = refl; solid = refl }) tt refl refl

batch_read : (net : Net) (first : ℕ) → IsNetwork net → (cs : List Command) (arcs : List Constraint) (p : Phase) (k : ℕ)
    → AllByRecursion (IsArcWithin (point_count net)) arcs → 0 < length arcs → not (is_decoupled p) ≡ true → k + length arcs ≤ most_arcs
    → Brings net first (command_lines net (command.Batch arcs)) (length arcs + 2) (outside cs p k)
    (outside (cs ++ command.Batch arcs ∷ []) p (k + length arcs))
batch_read net first valid cs arcs p k within some stands room =
    let last : Reading = outside (cs ++ command.Batch arcs ∷ []) p (k + length arcs) in
    let count : 1 + (length arcs + 1) ≡ length arcs + 2 = omega arith in
    subst (λ m. Brings net first (command_lines net (command.Batch arcs)) m (outside cs p k) last) count
    (brings_both net first (line (codes "batch") []) (flat_map (arc_line net) arcs ++ line (codes "close") []) 1 (length arcs + 1) (outside cs p k)
    (inside cs [] p k) last (batch_opened net first cs p k stands)
    (brings_both net first (flat_map (arc_line net) arcs) (line (codes "close") []) (length arcs) 1 (inside cs [] p k)
    (inside cs arcs p (k + length arcs)) last
    (batch_arcs_read net first valid cs [] arcs p k within room) (batch_closed net first cs arcs p (k + length arcs) some)))

-- COMMANDS. The line of a command that adds no arc brings it; a reading counts as many arcs as before.
simply : (net : Net) (first : ℕ) (cs : List Command) (p q : Phase) (k : ℕ) (c : Command) (w : List ℕ) (fs : List (List ℕ)) → IsField w
    → AllByRecursion IsField fs → is_skipped (w ++ spaced fs) ≡ false
    → does_what (outside cs p k) (line_of net false (w ∷ fs)) ≡ Goes (outside (cs ++ c ∷ []) q k)
    → Brings net first (line w fs) 1 (outside cs p k) (outside (cs ++ c ∷ []) q (k + 0))
simply net first cs p q k c w fs h hs word does =
    let same : k ≡ k + 0 = omega arith in
    subst (λ m. Brings net first (line w fs) 1 (outside cs p k) (outside (cs ++ c ∷ []) q m)) same
    (one_line net first (outside cs p k) (outside (cs ++ c ∷ []) q k) w fs h hs word does)

tighten_read : (net : Net) (first : ℕ) → IsNetwork net → (cs : List Command) (p : Phase) (k : ℕ) (a : Constraint) → IsArcWithin (point_count net) a
    → not (is_decoupled p) ≡ true → k + 1 ≤ most_arcs
    → Brings net first (command_lines net (command.Tighten a)) 1 (outside cs p k) (outside (cs ++ command.Tighten a ∷ []) p (k + 1))
tighten_read net first valid cs p k a within stands room =
    let last : Reading = outside (cs ++ command.Tighten a ∷ []) p (k + 1) in
    one_line net first (outside cs p k) last (codes "tighten") (point_name_of net a.from.0 ∷ point_name_of net a.to.0 ∷ signed_decimal a.bound ∷ [])
    (record { filled = refl; solid = refl }) (arc_fields net valid a within) refl
    (ap (λ x. does_what (outside cs p k) (and_then x (λ a. Ok (asked.Tighten a)))) (arc_read net valid a within)
    ∙ joint_goes p (unless (nat_le most_arcs k) cause.TooManyArcs (Goes last)) stands
    ∙ room_for k (Goes last) (omega arith))

prove_read : (net : Net) (first : ℕ) → IsNetwork net → (cs : List Command) (p : Phase) (k : ℕ) (from to : PointId) → from.0 < point_count net
    → to.0 < point_count net → from.0 ≢ to.0
    → Brings net first (command_lines net (command.Prove from to)) 1 (outside cs p k) (outside (cs ++ command.Prove from to ∷ []) p (k + 0))
prove_read net first valid cs p k from to starts ends differ =
    let r : Reading = outside cs p k in
    let a : List ℕ = point_name_of net from.0 in
    let b : List ℕ = point_name_of net to.0 in
    simply net first cs p p k (command.Prove from to) (codes "prove") (a ∷ b ∷ []) (record { filled = refl; solid = refl })
    (point_name_is_field net valid from.0 starts, (point_name_is_field net valid to.0 ends, tt)) refl
    (ap (λ x. does_what r (and_then x (λ i. and_then (point_in net b) (λ j. cond (i.0 == j.0) (Err cause.SamePoint) (Ok (asked.Prove i j))))))
    (name_read net valid from starts)
    ∙ ap (λ x. does_what r (and_then x (λ j. cond (from.0 == j.0) (Err cause.SamePoint) (Ok (asked.Prove from j))))) (name_read net valid to ends)
    ∙ ap (λ t. does_what r (cond t (Err cause.SamePoint) (Ok (asked.Prove from to)))) (ne_eqb from.0 to.0 differ))

withdraw_read : (net : Net) (first : ℕ) (cs : List Command) (p : Phase) (k arc : ℕ) → arc < arc_numbers → not (is_decoupled p) ≡ true
    → Brings net first (command_lines net (command.Withdraw arc)) 1 (outside cs p k) (outside (cs ++ command.Withdraw arc ∷ []) p (k + 0))
withdraw_read net first cs p k arc small stands =
    simply net first cs p p k (command.Withdraw arc) (codes "withdraw") (decimal arc ∷ []) (record { filled = refl; solid = refl })
    (short_is_field (pos arc) (omega arith), tt) refl
    (ap (λ x. does_what (outside cs p k) (and_then x (λ n. Ok (asked.Withdraw n)))) (arc_number_read arc small)
    ∙ joint_goes p (Goes (outside (cs ++ command.Withdraw arc ∷ []) p k)) stands)

choose_read : (net : Net) (first : ℕ) → IsNetwork net → (cs : List Command) (p : Phase) (k : ℕ) (point : PointId) (time : ℤ) → point.0 < point_count net
    → 0 < point.0 → IsTime time → (is_decoupled p && not (is_executing p)) ≡ true
    → Brings net first (command_lines net (command.Choose point time)) 1 (outside cs p k) (outside (cs ++ command.Choose point time ∷ []) p (k + 0))
choose_read net first valid cs p k point time known free short stands =
    let r : Reading = outside cs p k in
    let a : List ℕ = point_name_of net point.0 in
    simply net first cs p p k (command.Choose point time) (codes "choose") (a ∷ signed_decimal time ∷ []) (record { filled = refl; solid = refl })
    (point_name_is_field net valid point.0 known, (short_is_field time short, tt)) refl
    (ap (λ x. does_what r (and_then x (λ t. and_then (free_point_in net a) (λ q. Ok (asked.Choose q t))))) (number_read time short)
    ∙ ap (λ x. does_what r (and_then x (λ q. Ok (asked.Choose q time)))) (free_read net valid point known free)
    ∙ clockless_goes p (Goes (outside (cs ++ command.Choose point time ∷ []) p k)) stands)

advance_read : (net : Net) (first : ℕ) (cs : List Command) (p : Phase) (k : ℕ) (time : ℤ) → IsTime time → is_executing p ≡ true
    → Brings net first (command_lines net (command.Advance time)) 1 (outside cs p k) (outside (cs ++ command.Advance time ∷ []) p (k + 0))
advance_read net first cs p k time short stands =
    simply net first cs p p k (command.Advance time) (codes "advance") (signed_decimal time ∷ []) (record { filled = refl; solid = refl })
    (short_is_field time short, tt) refl
    (ap (λ x. does_what (outside cs p k) (and_then x (λ t. Ok (asked.Advance t)))) (number_read time short)
    ∙ executing_goes p (Goes (outside (cs ++ command.Advance time ∷ []) p k)) stands)

do_read : (net : Net) (first : ℕ) → IsNetwork net → (cs : List Command) (p : Phase) (k : ℕ) (point : PointId) → point.0 < point_count net → 0 < point.0
    → is_executing p ≡ true → Brings net first (command_lines net (command.Do point)) 1 (outside cs p k) (outside (cs ++ command.Do point ∷ []) p (k + 0))
do_read net first valid cs p k point known free stands =
    simply net first cs p p k (command.Do point) (codes "do") (point_name_of net point.0 ∷ []) (record { filled = refl; solid = refl })
    (point_name_is_field net valid point.0 known, tt) refl
    (ap (λ x. does_what (outside cs p k) (and_then x (λ q. Ok (asked.Do q)))) (free_read net valid point known free)
    ∙ executing_goes p (Goes (outside (cs ++ command.Do point ∷ []) p k)) stands)

-- a command whose line is its word alone
alone_read : (net : Net) (first : ℕ) (cs : List Command) (p q : Phase) (k : ℕ) (c : Command) (w : List ℕ) → IsField w → is_skipped (w ++ []) ≡ false
    → does_what (outside cs p k) (line_of net false (w ∷ [])) ≡ Goes (outside (cs ++ c ∷ []) q k)
    → Brings net first (line w []) 1 (outside cs p k) (outside (cs ++ c ∷ []) q (k + 0))
alone_read net first cs p q k c w h word does = simply net first cs p q k c w [] h tt word does

command_read : (net : Net) (first : ℕ) → IsNetwork net → (cs : List Command) (p : Phase) (k : ℕ) (c : Command) → IsCommandOf net c → may_stand p c ≡ true
    → k + command_arcs c ≤ most_arcs
    → Brings net first (command_lines net c) (lines_of_command c) (outside cs p k) (outside (cs ++ c ∷ []) (phase_after p c) (k + command_arcs c))
command_read net first valid cs p k command.Bounds h stands room =
    alone_read net first cs p p k command.Bounds (codes "bounds") (record { filled = refl; solid = refl }) refl refl
command_read net first valid cs p k command.Windows h stands room =
    alone_read net first cs p p k command.Windows (codes "windows") (record { filled = refl; solid = refl }) refl refl
command_read net first valid cs p k (command.Prove from to) h stands room = prove_read net first valid cs p k from to h.0 h.1 h.2
command_read net first valid cs p k (command.Tighten arc) h stands room = tighten_read net first valid cs p k arc h stands room
command_read net first valid cs p k (command.Batch arcs) h stands room = batch_read net first valid cs arcs p k h.0 h.1 stands room
command_read net first valid cs p k (command.Withdraw arc) h stands room = withdraw_read net first cs p k arc h stands
command_read net first valid cs p k command.Decouple h stands room =
    alone_read net first cs p Decoupled k command.Decouple (codes "decouple") (record { filled = refl; solid = refl }) refl
    (joint_goes p (Goes (outside (cs ++ command.Decouple ∷ []) Decoupled k)) stands)
command_read net first valid cs p k (command.Choose point time) h stands room =
    choose_read net first valid cs p k point time h.0 h.1 h.2 stands
command_read net first valid cs p k command.Execute h stands room =
    alone_read net first cs p Executing k command.Execute (codes "execute") (record { filled = refl; solid = refl }) refl
    (clockless_goes p (Goes (outside (cs ++ command.Execute ∷ []) Executing k)) stands)
command_read net first valid cs p k (command.Advance time) h stands room = advance_read net first cs p k time h stands
command_read net first valid cs p k (command.Do point) h stands room = do_read net first valid cs p k point h.0 h.1 stands
command_read net first valid cs p k command.Schedule h stands room =
    alone_read net first cs p p k command.Schedule (codes "schedule") (record { filled = refl; solid = refl }) refl
    (decoupled_goes p (Goes (outside (cs ++ command.Schedule ∷ []) p k)) stands)

-- SCRIPTS. The commands are read one after the other, and `done` ends them.
commands_read : (net : Net) (first : ℕ) → IsNetwork net → (past todo : List Command) (p : Phase) (k : ℕ) → AllByRecursion (IsCommandOf net) todo
    → stand_in_order p todo ≡ true → k + script_arcs todo ≤ most_arcs → (n u : ℕ) (rest : List ℕ)
    → read_from net (outside past p k) first n u (lines (written net todo ++ rest))
    ≡ Ok (record { script = past ++ todo; used = u + length (written net todo); lines = n + script_lines todo })
commands_read net first valid past [] p k h stands room n u rest =
    read_line net first (outside past p k) (Ends past) (codes "done") [] (record { filled = refl; solid = refl }) tt refl refl n u rest
    ∙ ap (λ (cs : List Command). Ok (record { script = cs; used = u + length (line (codes "done") []); lines = n + 1 })) (sym (append-nil past))
commands_read net first valid past (c ∷ todo) p k h stands room n u rest =
    let this : List ℕ = command_lines net c in
    let both = and_parts (may_stand p c) (stand_in_order (phase_after p c) todo) stands in
    let form : written net (c ∷ todo) ≡ this ++ written net todo = append_assoc this (flat_map (command_lines net) todo) (line (codes "done") []) in
    let long : length (written net (c ∷ todo)) ≡ length this + length (written net todo) = ap length form
    ∙ length-append this (written net todo) in
    let used : u + length this + length (written net todo) ≡ u + length (written net (c ∷ todo)) = omega arith in
    let count : n + lines_of_command c + script_lines todo ≡ n + (lines_of_command c + script_lines todo) = omega arith in
    ap (λ (t : List ℕ). read_from net (outside past p k) first n u (lines (t ++ rest))) form
    ∙ ap (λ (t : List ℕ). read_from net (outside past p k) first n u (lines t)) (append_assoc this (written net todo) rest)
    ∙ command_read net first valid past p k c h.0 both.0 (omega arith) n u (written net todo ++ rest)
    ∙ commands_read net first valid (past ++ c ∷ []) todo (phase_after p c) (k + command_arcs c) h.1 both.1 (omega arith) (n + lines_of_command c)
    (u + length this) rest
    ∙ ap (λ (cs : List Command). Ok
    (record { script = cs; used = u + length this + length (written net todo); lines = n + lines_of_command c + script_lines todo }))
    (append_assoc past (c ∷ []) todo)
    ∙ ap (λ k. Ok (record { script = past ++ c ∷ todo; used = k; lines = n + lines_of_command c + script_lines todo })) used
    ∙ ap (λ k. Ok (record { script = past ++ c ∷ todo; used = u + length (written net (c ∷ todo)); lines = k })) count

pub written_script_is_read : WrittenScriptIsRead
written_script_is_read net first cs rest valid possible =
    let none : 0 + length (written net cs) ≡ length (written net cs) = omega arith in
    let count : 0 + script_lines cs ≡ script_lines cs = omega arith in
    let few = possible.few_arcs in
    commands_read net first valid [] cs Joint (2 * length net.acts + length net.given) possible.commands possible.order (omega arith) 0 0 rest
    ∙ ap (λ k. Ok (record { script = cs; used = k; lines = 0 + script_lines cs })) none
    ∙ ap (λ k. Ok (record { script = cs; used = length (written net cs); lines = k })) count
