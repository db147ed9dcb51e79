-- How far the work has come that a script asks for: is_decoupled, is_executing.
use Rattle.std.specs.Prelude.{Bool, true, false}
use Rattle.script_text.specs.declared.phase.Phase.{Phase}
use Rattle.script_text.specs.declared.phase.Phase.TheVariants.{Joint, Decoupled, Executing}

-- a `decouple` stood before
abbrev pub is_decoupled : Phase → Bool
is_decoupled Joint = false
is_decoupled Decoupled = true
is_decoupled Executing = true

-- an `execute` stood before
abbrev pub is_executing : Phase → Bool
is_executing Joint = false
is_executing Decoupled = false
is_executing Executing = true
