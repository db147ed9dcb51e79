-- What is true of the commands of every script that is read for a network: command_arcs, script_arcs, IsTime, IsCommandOf, may_stand,
-- phase_after, stand_in_order, IsScriptOf.
use Rattle.std.specs.Prelude.{ℕ, ℤ, ◌+◌, ◌*◌, ◌^◌, ◌≢◌, ◌≡◌, ◌<◌, ◌≤◌, Bool, true, not, ◌&&◌, List, [], ◌∷◌, length, nat_abs}
use Rattle.std.specs.List.{AllByRecursion}
use Rattle.stn_model.specs.Limits.{most_arcs}
use Rattle.stn_model.specs.Net.{Net, point_count}
use Rattle.stn_model.specs.Valid.{IsArcWithin}
use Rattle.script_text.specs.declared.command.Command.{Command}
use Rattle.script_text.specs.declared.command.Command.TheVariants as command
use Rattle.script_text.specs.declared.phase.Phase.{Phase}
use Rattle.script_text.specs.declared.phase.Phase.TheVariants.{Joint, Decoupled, Executing}
use Rattle.script_text.specs.Lines.{arc_numbers}
use Rattle.script_text.specs.Phases.{is_decoupled, is_executing}

-- how many arcs a command adds
abbrev pub command_arcs : Command → ℕ
command_arcs (command.Tighten arc) = 1
command_arcs (command.Batch arcs) = length arcs
command_arcs c = 0

-- how many arcs commands add together
abbrev pub script_arcs : List Command → ℕ
script_arcs [] = 0
script_arcs (c ∷ cs) = command_arcs c + script_arcs cs

-- a time has at most 18 digits
abbrev pub IsTime : ℤ → Type 0
IsTime t = nat_abs t < 10 ^ 18

-- the points of a command are in range and differ, that of a `choose` and of a `do` is not z, arcs are arcs that the network may have, the
-- number of an arc is below 2^32, and times have at most 18 digits
abbrev pub IsCommandOf : Net → Command → Type 0
IsCommandOf net (command.Prove from to) = (from.0 < point_count net) × (to.0 < point_count net) × (from.0 ≢ to.0)
IsCommandOf net (command.Tighten arc) = IsArcWithin (point_count net) arc
IsCommandOf net (command.Batch arcs) = AllByRecursion (IsArcWithin (point_count net)) arcs × (0 < length arcs)
IsCommandOf net (command.Withdraw arc) = arc < arc_numbers
IsCommandOf net (command.Choose point time) = (point.0 < point_count net) × (0 < point.0) × IsTime time
IsCommandOf net (command.Advance time) = IsTime time
IsCommandOf net (command.Do point) = (point.0 < point_count net) × (0 < point.0)
IsCommandOf net c = Unit {0}

-- a command may stand where the work has come that far
abbrev pub may_stand : Phase → Command → Bool
may_stand phase command.Bounds = true
may_stand phase command.Windows = true
may_stand phase (command.Prove from to) = true
may_stand phase (command.Tighten arc) = not (is_decoupled phase)
may_stand phase (command.Batch arcs) = not (is_decoupled phase)
may_stand phase (command.Withdraw arc) = not (is_decoupled phase)
may_stand phase command.Decouple = not (is_decoupled phase)
may_stand phase (command.Choose point time) = is_decoupled phase && not (is_executing phase)
may_stand phase command.Execute = is_decoupled phase && not (is_executing phase)
may_stand phase (command.Advance time) = is_executing phase
may_stand phase (command.Do point) = is_executing phase
may_stand phase command.Schedule = is_decoupled phase

-- how far the work has come after a command
abbrev pub phase_after : Phase → Command → Phase
phase_after phase command.Decouple = Decoupled
phase_after phase command.Execute = Executing
phase_after phase c = phase

-- each command may stand where it stands
abbrev pub stand_in_order : Phase → List Command → Bool
stand_in_order phase [] = true
stand_in_order phase (c ∷ cs) = may_stand phase c && stand_in_order (phase_after phase c) cs

-- with the arcs of the network's acts and its given arcs, all arcs of the script are at most 65,536
pub record IsScriptOf (net : Net) (cs : List Command) : Type 0 where
  pub commands : AllByRecursion (IsCommandOf net) cs
  pub few_arcs : 2 * length net.acts + length net.given + script_arcs cs ≤ most_arcs
  pub order : stand_in_order Joint cs ≡ true
