-- Each line keeps what is true of how far a script has come: the commands are possible in the network and stand in order, and all arcs are counted.
use Rattle.std.proofs.Common.{◌≡◌, ℕ, ◌+◌, ◌*◌, ◌<◌, ◌≤◌, ◌&&◌, Bool, true, false, not, List, [], ◌∷◌, ◌++◌, length, nat_le, is_some, Option, Some, None, Result, Ok, Err, IfOk, refl, sym, ap, subst, ◌∙◌, arith, length-append}
use Rattle.std.specs.List.{AllByRecursion}
use Rattle.std.proofs.lemmas.Bool.{false≢true}
use Rattle.std.proofs.lemmas.Bool.Decides.{nat_tests}
use Rattle.stn_model.specs.declared.ids.Constraint.{Constraint}
use Rattle.stn_model.specs.Limits.{most_arcs}
use Rattle.stn_model.specs.Net.{Net, point_count}
use Rattle.stn_model.specs.Valid.{IsArcWithin}
use Rattle.net_text.specs.declared.cause.TextCause.{TextCause}
use Rattle.net_text.specs.declared.cause.TextError.{TextError}
use Rattle.net_text.specs.Lines.{Sized, lines}
use Rattle.script_text.specs.declared.command.Command.{Command}
use Rattle.script_text.specs.declared.command.Command.TheVariants as command
use Rattle.script_text.specs.declared.line.Line.{Line}
use Rattle.script_text.specs.declared.line.Line.TheVariants as line
use Rattle.script_text.specs.declared.phase.Phase.{Phase}
use Rattle.script_text.specs.declared.phase.Phase.TheVariants.{Joint, Decoupled, Executing}
use Rattle.script_text.specs.declared.read.ScriptRead.{ScriptRead}
use Rattle.script_text.specs.Lines.{line_in}
use Rattle.script_text.specs.Phases.{is_decoupled, is_executing}
use Rattle.script_text.specs.Possible.{IsCommandOf, IsScriptOf, command_arcs, script_arcs, may_stand, phase_after, stand_in_order}
use Rattle.script_text.specs.Scripts.{Reading, Step, beginning, with_command, unless, is_full, add_joint, add_decoupled, add_clockless, add_executing, execute, tighten, decouple, begin_batch, add_to_batch, close_batch, does, does_what, line_does, conclude, read_from, script_of}
use Rattle.script_text.specs.Scripts.Step.{Goes, Ends, Fails}
use Rattle.script_text.proofs.Within.{IsLineOf, line_in_is}

all_more : {X : Type 0} (P : X → Type 0) (xs : List X) (x : X) → AllByRecursion P xs → P x → AllByRecursion P (xs ++ x ∷ [])
all_more P [] x h k = (k, tt)
all_more P (y ∷ ys) x h k = (h.0, all_more P ys x h.1 k)

script_arcs-push : (cs : List Command) (c : Command) → script_arcs (cs ++ c ∷ []) ≡ script_arcs cs + command_arcs c
script_arcs-push [] c = omega arith
script_arcs-push (d ∷ cs) c = let rest = script_arcs-push cs c in omega arith

-- how far the work has come after commands
abbrev pub phase_at : Phase → List Command → Phase
phase_at d [] = d
phase_at d (c ∷ cs) = phase_at (phase_after d c) cs

phase_at-push : (d : Phase) (cs : List Command) (c : Command) → phase_at d (cs ++ c ∷ []) ≡ phase_after (phase_at d cs) c
phase_at-push d [] c = refl
phase_at-push d (b ∷ cs) c = phase_at-push (phase_after d b) cs c

left_of : (a b : Bool) → (a && b) ≡ true → a ≡ true
left_of true b h = refl
left_of false b h = h

right_of : (a b : Bool) → (a && b) ≡ true → b ≡ true
right_of true b h = h
right_of false b h = absurd (false≢true h)

both : (a b : Bool) → a ≡ true → b ≡ true → (a && b) ≡ true
both true b p q = q
both false b p q = p

stand_in_order-push : (d : Phase) (cs : List Command) (c : Command) → stand_in_order d cs ≡ true → may_stand (phase_at d cs) c ≡ true
    → stand_in_order d (cs ++ c ∷ []) ≡ true
stand_in_order-push d [] c h stands = both (may_stand d c) true stands refl
stand_in_order-push d (b ∷ cs) c h stands =
    both (may_stand d b) (stand_in_order (phase_after d b) (cs ++ c ∷ []))
    (left_of (may_stand d b) (stand_in_order (phase_after d b) cs) h)
    (stand_in_order-push (phase_after d b) cs c (right_of (may_stand d b) (stand_in_order (phase_after d b) cs) h) stands)

-- a batch is begun only before the agents are decoupled
abbrev pub IsBatchOf : Net → Phase → Option (List Constraint) → Type 0
IsBatchOf net phase None = Unit {0}
IsBatchOf net phase (Some arcs) = AllByRecursion (IsArcWithin (point_count net)) arcs × (is_decoupled phase ≡ false)

abbrev pub batch_arcs : Option (List Constraint) → ℕ
batch_arcs None = 0
batch_arcs (Some arcs) = length arcs

pub record IsReading (net : Net) (r : Reading) : Type 0 where
  pub commands_are : AllByRecursion (IsCommandOf net) r.commands
  pub batch_is : IsBatchOf net r.phase r.batch
  pub counted : r.arcs ≡ 2 * length net.acts + length net.given + script_arcs r.commands + batch_arcs r.batch
  pub limit : r.arcs ≤ most_arcs
  pub order : stand_in_order Joint r.commands ≡ true
  pub side : phase_at Joint r.commands ≡ r.phase

abbrev pub IsStep : Net → Step → Type 0
IsStep net (Goes r) = IsReading net r
IsStep net (Ends cs) = IsScriptOf net cs
IsStep net (Fails c) = Unit {0}

unless_is : (net : Net) (failed : Bool) (c : TextCause) (s : Step) → (failed ≡ false → IsStep net s) → IsStep net (unless failed c s)
unless_is net true c s k = tt
unless_is net false c s k = k refl

pushed : (net : Net) (r : Reading) (c : Command) (batch : Option (List Constraint)) (phase : Phase) (arcs : ℕ)
    → IsReading net r → IsCommandOf net c → may_stand r.phase c ≡ true → phase_after r.phase c ≡ phase → IsBatchOf net phase batch
    → arcs + batch_arcs r.batch ≡ r.arcs + command_arcs c + batch_arcs batch → arcs ≤ most_arcs
    → IsReading net (record { commands = r.commands ++ c ∷ []; batch = batch; phase = phase; arcs = arcs })
pushed net r c batch phase arcs h ok stands after begun counts few =
    let sum = script_arcs-push r.commands c in
    let counted = h.counted in
    record {
      commands_are = all_more (IsCommandOf net) r.commands c h.commands_are ok;
      batch_is = begun;
      counted = omega arith;
      limit = few;
      order = stand_in_order-push Joint r.commands c h.order (ap (λ d. may_stand d c) h.side ∙ stands);
      side = phase_at-push Joint r.commands c ∙ ap (λ d. phase_after d c) h.side ∙ after;
    }

-- a command that adds no arc and decouples nothing
simply : (net : Net) (r : Reading) (c : Command) → IsReading net r → IsCommandOf net c → may_stand r.phase c ≡ true → phase_after r.phase c ≡ r.phase
    → command_arcs c ≡ 0 → IsReading net (with_command r c)
simply net r c h ok stands after none = pushed net r c r.batch r.phase r.arcs h ok stands after h.batch_is (omega arith) h.limit

not_false : (b : Bool) → not b ≡ false → b ≡ true
not_false true h = refl
not_false false h = sym h

add_joint_is : (net : Net) (r : Reading) (c : Command) → IsReading net r → IsCommandOf net c → may_stand r.phase c ≡ not (is_decoupled r.phase)
    → phase_after r.phase c ≡ r.phase → command_arcs c ≡ 0 → IsStep net (add_joint r c)
add_joint_is net r c h ok same after none =
    unless_is net (is_decoupled r.phase) _ _ (λ e. simply net r c h ok (same ∙ ap not e) after none)

add_decoupled_is : (net : Net) (r : Reading) (c : Command) → IsReading net r → IsCommandOf net c → may_stand r.phase c ≡ is_decoupled r.phase
    → phase_after r.phase c ≡ r.phase → command_arcs c ≡ 0 → IsStep net (add_decoupled r c)
add_decoupled_is net r c h ok same after none =
    unless_is net (not (is_decoupled r.phase)) _ _ (λ e. simply net r c h ok (same ∙ not_false (is_decoupled r.phase) e) after none)

clockless : (phase : Phase) → not (is_decoupled phase) ≡ false → is_executing phase ≡ false → (is_decoupled phase && not (is_executing phase)) ≡ true
clockless phase e f = both (is_decoupled phase) (not (is_executing phase)) (not_false (is_decoupled phase) e) (ap not f)

add_clockless_is : (net : Net) (r : Reading) (c : Command) → IsReading net r → IsCommandOf net c
    → may_stand r.phase c ≡ (is_decoupled r.phase && not (is_executing r.phase)) → phase_after r.phase c ≡ r.phase → command_arcs c ≡ 0
    → IsStep net (add_clockless r c)
add_clockless_is net r c h ok same after none =
    unless_is net (not (is_decoupled r.phase)) _ _ (λ e.
    unless_is net (is_executing r.phase) _ _ (λ f. simply net r c h ok (same ∙ clockless r.phase e f) after none))

add_executing_is : (net : Net) (r : Reading) (c : Command) → IsReading net r → IsCommandOf net c → may_stand r.phase c ≡ is_executing r.phase
    → phase_after r.phase c ≡ r.phase → command_arcs c ≡ 0 → IsStep net (add_executing r c)
add_executing_is net r c h ok same after none =
    unless_is net (not (is_decoupled r.phase)) _ _ (λ e.
    unless_is net (not (is_executing r.phase)) _ _ (λ f. simply net r c h ok (same ∙ not_false (is_executing r.phase) f) after none))

room_left : (n : ℕ) → nat_le most_arcs n ≡ false → n + 1 ≤ most_arcs
room_left n e = grind (arith, nat_tests)

tighten_is : (net : Net) (r : Reading) (arc : Constraint) → IsReading net r → IsArcWithin (point_count net) arc → IsStep net (tighten r arc)
tighten_is net r arc h ok =
    unless_is net (is_decoupled r.phase) _ _ (λ e.
    unless_is net (is_full r) _ _ (λ f.
    pushed net r (command.Tighten arc) r.batch r.phase (r.arcs + 1) h ok (ap not e) refl h.batch_is (omega arith) (room_left r.arcs f)))

none_batch : (net : Net) (b : Option (List Constraint)) → is_some b ≡ false → IsBatchOf net Decoupled b
none_batch net None out = tt
none_batch net (Some arcs) out = absurd (false≢true (sym out))

none_arcs : (b : Option (List Constraint)) → is_some b ≡ false → batch_arcs b ≡ 0
none_arcs None out = refl
none_arcs (Some arcs) out = absurd (false≢true (sym out))

decouple_is : (net : Net) (r : Reading) → IsReading net r → is_some r.batch ≡ false → IsStep net (decouple r)
decouple_is net r h out =
    unless_is net (is_decoupled r.phase) _ _ (λ e.
    pushed net r command.Decouple r.batch Decoupled r.arcs h tt (ap not e) refl (none_batch net r.batch out) (omega arith) h.limit)

-- no batch is begun once the agents are decoupled
late_batch : (net : Net) (phase later : Phase) (b : Option (List Constraint)) → not (is_decoupled phase) ≡ false → IsBatchOf net phase b
    → IsBatchOf net later b
late_batch net phase later None e h = tt
late_batch net phase later (Some arcs) e h = absurd (false≢true (sym h.1 ∙ not_false (is_decoupled phase) e))

execute_is : (net : Net) (r : Reading) → IsReading net r → IsStep net (execute r)
execute_is net r h =
    unless_is net (not (is_decoupled r.phase)) _ _ (λ e.
    unless_is net (is_executing r.phase) _ _ (λ f.
    pushed net r command.Execute r.batch Executing r.arcs h tt (clockless r.phase e f) refl (late_batch net r.phase Executing r.batch e h.batch_is)
    (omega arith) h.limit))

begin_batch_is : (net : Net) (r : Reading) → IsReading net r → is_some r.batch ≡ false → IsStep net (begin_batch r)
begin_batch_is net r h out =
    unless_is net (is_decoupled r.phase) _ _ (λ e.
    let none = none_arcs r.batch out in
    let counted = h.counted in
    record { commands_are = h.commands_are; batch_is = (tt, e); counted = omega arith; limit = h.limit; order = h.order; side = h.side })

add_to_batch_is : (net : Net) (r : Reading) (arc : Constraint) (b : Option (List Constraint)) → r.batch ≡ b → IsReading net r
    → IsArcWithin (point_count net) arc → IsStep net (add_to_batch r arc b)
add_to_batch_is net r arc None same h ok = tt
add_to_batch_is net r arc (Some arcs) same h ok =
    unless_is net (is_full r) _ _ (λ f.
    let begun : IsBatchOf net r.phase (Some arcs) = subst (IsBatchOf net r.phase) same h.batch_is in
    let had : batch_arcs r.batch ≡ length arcs = ap batch_arcs same in
    let more = length-append arcs (arc ∷ []) in
    let counted = h.counted in
    record {
      commands_are = h.commands_are;
      batch_is = (all_more (IsArcWithin (point_count net)) arcs arc begun.0 ok, begun.1);
      counted = omega arith;
      limit = room_left r.arcs f;
      order = h.order;
      side = h.side;
    })

close_batch_is : (net : Net) (r : Reading) (b : Option (List Constraint)) → r.batch ≡ b → IsReading net r → IsStep net (close_batch r b)
close_batch_is net r None same h = tt
close_batch_is net r (Some []) same h = tt
close_batch_is net r (Some (a ∷ more)) same h =
    let begun : IsBatchOf net r.phase (Some (a ∷ more)) = subst (IsBatchOf net r.phase) same h.batch_is in
    let had : batch_arcs r.batch ≡ length (a ∷ more) = ap batch_arcs same in
    let some : 0 < length (a ∷ more) = omega arith in
    pushed net r (command.Batch (a ∷ more)) None r.phase r.arcs h (begun.0, some) (ap not begun.1) refl tt (omega arith) h.limit

does_is : (net : Net) (r : Reading) (l : Line) → IsReading net r → IsLineOf net (is_some r.batch) l → IsStep net (does r l)
does_is net r line.Nothing h ok = h
does_is net r line.Bounds h ok = simply net r command.Bounds h tt refl refl refl
does_is net r line.Windows h ok = simply net r command.Windows h tt refl refl refl
does_is net r (line.Prove from to) h ok = simply net r (command.Prove from to) h ok refl refl refl
does_is net r (line.Tighten arc) h ok = tighten_is net r arc h ok
does_is net r line.BeginBatch h ok = begin_batch_is net r h ok
does_is net r (line.BatchArc arc) h ok = add_to_batch_is net r arc r.batch refl h ok
does_is net r line.CloseBatch h ok = close_batch_is net r r.batch refl h
does_is net r (line.Withdraw arc) h ok = add_joint_is net r (command.Withdraw arc) h ok refl refl refl
does_is net r line.Decouple h ok = decouple_is net r h ok
does_is net r (line.Choose point time) h ok = add_clockless_is net r (command.Choose point time) h ok refl refl refl
does_is net r line.Execute h ok = execute_is net r h
does_is net r (line.Advance time) h ok = add_executing_is net r (command.Advance time) h ok refl refl refl
does_is net r (line.Do point) h ok = add_executing_is net r (command.Do point) h ok refl refl refl
does_is net r line.Schedule h ok = add_decoupled_is net r command.Schedule h tt refl refl refl
does_is net r line.Done h ok =
    let counted = h.counted in
    let limit = h.limit in
    record { commands = h.commands_are; few_arcs = omega arith; order = h.order }

does_what_is : (net : Net) (r : Reading) (x : Result Line TextCause) → IsReading net r → IfOk x (IsLineOf net (is_some r.batch))
    → IsStep net (does_what r x)
does_what_is net r (Ok l) h ok = does_is net r l h ok
does_what_is net r (Err c) h ok = tt

concluded : (net : Net) (step : Step) (number count used : ℕ) (rest : Reading → Result ScriptRead TextError) → IsStep net step
    → ((t : Reading) → IsReading net t → IfOk (rest t) (λ x. IsScriptOf net x.script))
    → IfOk (conclude step number count used rest) (λ x. IsScriptOf net x.script)
concluded net (Goes t) number count used rest h k = k t h
concluded net (Ends cs) number count used rest h k = h
concluded net (Fails c) number count used rest h k = tt

read_is : (net : Net) (r : Reading) (first count used : ℕ) (ls : List Sized) → IsReading net r
    → IfOk (read_from net r first count used ls) (λ x. IsScriptOf net x.script)
read_is net r first count used [] h = tt
read_is net r first count used (l ∷ more) h =
    concluded net (line_does net r l.text) (first + count) (count + 1) (used + l.size) (λ t. read_from net t first (count + 1) (used + l.size) more)
    (does_what_is net r (line_in net (is_some r.batch) l.text) h (line_in_is net (is_some r.batch) l.text))
    (λ t k. read_is net t first (count + 1) (used + l.size) more k)

beginning_is : (net : Net) → 2 * length net.acts + length net.given ≤ most_arcs → IsReading net (beginning net)
beginning_is net few = record { commands_are = tt; batch_is = tt; counted = omega arith; limit = few; order = refl; side = refl }

pub script_is : (net : Net) (first : ℕ) (bytes : List ℕ) (x : ScriptRead) → 2 * length net.acts + length net.given ≤ most_arcs
    → script_of net first bytes ≡ Ok x → IsScriptOf net x.script
script_is net first bytes x few e =
    subst (λ (r : Result ScriptRead TextError). IfOk r (λ y. IsScriptOf net y.script)) e
    (read_is net (beginning net) first 0 0 (lines bytes) (beginning_is net few))
