-- What is known of an answer: it is what the value says, or memory ran out. IsRead, Adds, seen,
-- root_seen, agent_seen, act_seen, bound_seen, arc_seen.
use Rattle.std.specs.Prelude.{◌≡◌, Result, Ok, Err, Option, option_map}
use Rattle.stn_model.specs.Net.{Net}
use Rattle.serde_json.specs.Data.{Data}
use Rattle.serde_json.specs.View.{view}
use Rattle.serde_json.specs.declared.value.Value.{Value}
use denote.Ref.{Bor}
use Rattle.json_net.specs.declared.shapes.RootShape as root
use Rattle.json_net.specs.declared.shapes.AgentShape as agent
use Rattle.json_net.specs.declared.shapes.ActShape as act
use Rattle.json_net.specs.declared.shapes.ArcShape as arc
use Rattle.json_net.specs.declared.shapes.BoundShape as bounds
use Rattle.json_net.specs.declared.shapes.BoundShape.TheVariants as bound
use Rattle.json_net.specs.Networks.{RootShape, AgentShape, ActShape, ArcShape, BoundShape}
use Rattle.json_net.specs.Networks.BoundShape.{Bound, Between}
use Rattle.json_net.specs.declared.error.JsonError.{JsonError}
use Rattle.json_net.specs.declared.error.JsonError.TheVariants.{JsonBad, At, OutOfMemory}

-- an answer is what is said, unless memory ran out
abbrev pub IsRead : {A : Type 0} → Result A JsonError → Result A JsonError → Type 0
IsRead (Ok x) said = said ≡ Ok x
IsRead (Err (At path cause)) said = said ≡ Err (At path cause)
IsRead (Err JsonBad) said = said ≡ Err JsonBad
IsRead (Err OutOfMemory) said = Unit {0}

-- the answer of a call that added something to a network, and left this one
abbrev pub Adds : {A : Type 0} → Result Net JsonError → Result A JsonError → Net → Type 0
Adds said (Ok x) net = said ≡ Ok net
Adds said (Err (At path cause)) net = said ≡ Err (At path cause)
Adds said (Err JsonBad) net = said ≡ Err JsonBad
Adds said (Err OutOfMemory) net = Unit {0}

-- a value behind a reference
abbrev pub seen : Bor Value → Data
seen v = view v.now

abbrev pub root_seen : root.RootShape → RootShape
root_seen s = record { mastn = seen s.mastn; horizon = seen s.horizon; agents = seen s.agents; arcs = seen s.arcs }

abbrev pub agent_seen : agent.AgentShape → AgentShape
agent_seen s = record { name = seen s.name; lean = option_map seen s.lean; points = seen s.points }

abbrev pub act_seen : act.ActShape → ActShape
act_seen s = record { act = seen s.act; low = seen s.low; high = seen s.high }

abbrev pub bound_seen : bounds.BoundShape → BoundShape
bound_seen (bound.Bound b) = Bound (seen b)
bound_seen (bound.Between l h) = Between (seen l) (seen h)

abbrev pub arc_seen : arc.ArcShape → ArcShape
arc_seen s = record { from = seen s.from; to = seen s.to; bounds = bound_seen s.bounds }
