-- A script written out, line by line: command_lines, written, lines_of_command, script_lines.
use Rattle.std.specs.Prelude.{ℕ, ◌+◌, List, [], ◌∷◌, ◌++◌, codes, length}
use Rattle.std.specs.List.{flat_map}
use Rattle.std.specs.Fmt.{decimal, signed_decimal}
use Rattle.stn_model.specs.Net.{Net, point_name_of}
use Rattle.net_text.specs.Plain.{line, arc_line}
use Rattle.script_text.specs.declared.command.Command.{Command}
use Rattle.script_text.specs.declared.command.Command.TheVariants as command

-- the line of a command, or the lines of a batch
abbrev pub command_lines : Net → Command → List ℕ
command_lines net command.Bounds = line (codes "bounds") []
command_lines net command.Windows = line (codes "windows") []
command_lines net (command.Prove from to) = line (codes "prove") (point_name_of net from.0 ∷ point_name_of net to.0 ∷ [])
command_lines net (command.Tighten arc) =
    line (codes "tighten") (point_name_of net arc.from.0 ∷ point_name_of net arc.to.0 ∷ signed_decimal arc.bound ∷ [])
command_lines net (command.Batch arcs) = line (codes "batch") [] ++ flat_map (arc_line net) arcs ++ line (codes "close") []
command_lines net (command.Withdraw arc) = line (codes "withdraw") (decimal arc ∷ [])
command_lines net command.Decouple = line (codes "decouple") []
command_lines net (command.Choose point time) = line (codes "choose") (point_name_of net point.0 ∷ signed_decimal time ∷ [])
command_lines net command.Execute = line (codes "execute") []
command_lines net (command.Advance time) = line (codes "advance") (signed_decimal time ∷ [])
command_lines net (command.Do point) = line (codes "do") (point_name_of net point.0 ∷ [])
command_lines net command.Schedule = line (codes "schedule") []

-- the lines of the commands in order, and then `done`
abbrev pub written : Net → List Command → List ℕ
written net cs = flat_map (command_lines net) cs ++ line (codes "done") []

-- how many lines a command has
abbrev pub lines_of_command : Command → ℕ
lines_of_command (command.Batch arcs) = length arcs + 2
lines_of_command c = 1

-- how many lines the script has
abbrev pub script_lines : List Command → ℕ
script_lines [] = 1
script_lines (c ∷ cs) = lines_of_command c + script_lines cs
