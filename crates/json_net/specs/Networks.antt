-- JSON networks: what a value says of a network, or the first value that fails a test, depth first, with its first failing test: RootShape,
-- AgentShape, ActShape, BoundShape, ArcShape, root_shape, agent_shape, act_shape, bound_shape, arc_shape, cause_of, error_of, unless,
-- is_version, version, opened, lean, point_at, read_each, read_array, read_act, point_or_act,
-- read_point, read_agent, both_refusal, read_bounds, read_arc, network_of.
use Rattle.std.specs.Prelude.{ℕ, ℤ, pos, negsuc, neg_ℤ, ◌+◌, ◌*◌, ◌||◌, Bool, false, not, nat_eq, nat_le, int_lt, List, [], ◌∷◌, ◌++◌, length, Option, Some, None, is_some, Result, Ok, Err, ok_or, if◌then◌else◌}
use Rattle.stn_model.specs.declared.ids.Constraint.{Constraint}
use Rattle.stn_model.specs.declared.ids.Lean.{Lean}
use Rattle.stn_model.specs.declared.ids.Lean.TheVariants.{Early}
use Rattle.stn_model.specs.declared.error.NetError.{NetError}
use Rattle.stn_model.specs.declared.error.NetError.TheVariants as refused
use Rattle.stn_model.specs.Limits.{most_arcs, greatest_bound}
use Rattle.stn_model.specs.Net.{Net, find_point, with_act}
use Rattle.stn_model.specs.Refusals.{agent_refusal, point_refusal, act_refusal, arc_refusal, is_beyond}
use Rattle.net_text.specs.Words.{lean_of}
use Rattle.net_text.specs.Networks.{with_agent, with_point, with_arcs, arc_between}
use Rattle.serde_json.specs.Data.{Data, Items, no_items, item, Members}
use Rattle.serde_json.specs.Find.{get_member, as_str}
use Rattle.json_net.specs.declared.path.JsonKey.{JsonKey}
use Rattle.json_net.specs.declared.path.JsonKey.TheVariants as key
use Rattle.json_net.specs.declared.path.Step.{Step}
use Rattle.json_net.specs.declared.path.Step.TheVariants.{Key, Item}
use Rattle.json_net.specs.declared.error.JsonCause.{JsonCause}
use Rattle.json_net.specs.declared.error.JsonCause.TheVariants as cause
use Rattle.json_net.specs.declared.error.JsonError.{JsonError}
use Rattle.json_net.specs.declared.error.JsonError.TheVariants as error
use Rattle.json_net.specs.Paths.{key_name}
use Rattle.json_net.specs.Members.{and_then, object, array, text, number, value_at, only}

-- the values of the root
pub record RootShape : Type 0 where
  pub mastn : Data
  pub horizon : Data
  pub agents : Data
  pub arcs : Data

-- the values of an agent; it may have no lean
pub record AgentShape : Type 0 where
  pub name : Data
  pub lean : Option Data
  pub points : Data

-- the values of an act
pub record ActShape : Type 0 where
  pub act : Data
  pub low : Data
  pub high : Data

-- the bounds of an arc: one, or the least and the greatest difference of its ends
pub data BoundShape : Type 0 where
  Bound : Data → BoundShape
  Between : Data → Data → BoundShape

-- the values of an arc
pub record ArcShape : Type 0 where
  pub from : Data
  pub to : Data
  pub bounds : BoundShape

abbrev pub root_shape : List Step → Data → Result RootShape JsonError
root_shape path d =
    and_then (object path d) (λ ms.
    and_then (value_at path ms key.Mastn) (λ mastn.
    and_then (value_at path ms key.Horizon) (λ horizon.
    and_then (value_at path ms key.Agents) (λ agents.
    and_then (value_at path ms key.Arcs) (λ arcs.
    only path ms (key.Mastn ∷ key.Horizon ∷ key.Agents ∷ key.Arcs ∷ [])
    (record { mastn = mastn; horizon = horizon; agents = agents; arcs = arcs }))))))

abbrev pub agent_shape : List Step → Data → Result AgentShape JsonError
agent_shape path d =
    and_then (object path d) (λ ms.
    and_then (value_at path ms key.Name) (λ name.
    and_then (value_at path ms key.Points) (λ points.
    only path ms (key.Name ∷ key.Lean ∷ key.Points ∷ [])
    (record { name = name; lean = get_member (key_name key.Lean) ms; points = points }))))

abbrev pub act_shape : List Step → Data → Result ActShape JsonError
act_shape path d =
    and_then (object path d) (λ ms.
    and_then (value_at path ms key.Act) (λ act.
    and_then (value_at path ms key.Low) (λ low.
    and_then (value_at path ms key.High) (λ high.
    only path ms (key.Act ∷ key.Low ∷ key.High ∷ [])
    (record { act = act; low = low; high = high })))))

-- `low` and `high` where one of them is there, else `bound`; and no other key beside `from` and `to`
abbrev pub bound_shape : List Step → Members → Result BoundShape JsonError
bound_shape path ms =
    if is_some (get_member (key_name key.Low) ms) || is_some (get_member (key_name key.High) ms)
    then and_then (value_at path ms key.Low) (λ low.
    and_then (value_at path ms key.High) (λ high.
    only path ms (key.From ∷ key.To ∷ key.Low ∷ key.High ∷ []) (Between low high)))
    else and_then (value_at path ms key.Bound) (λ bound. only path ms (key.From ∷ key.To ∷ key.Bound ∷ []) (Bound bound))

abbrev pub arc_shape : List Step → Data → Result ArcShape JsonError
arc_shape path d =
    and_then (object path d) (λ ms.
    and_then (value_at path ms key.From) (λ from.
    and_then (value_at path ms key.To) (λ to.
    and_then (bound_shape path ms) (λ bounds. Ok (record { from = from; to = to; bounds = bounds })))))

-- a network's refusal, as the failure of a value; want of memory is no test, and stands last for the sake of the list
abbrev pub error_of : List Step → NetError → JsonError
error_of path refused.NameBad = error.At path cause.NameBad
error_of path refused.NameTaken = error.At path cause.NameTaken
error_of path refused.TooManyAgents = error.At path cause.TooManyAgents
error_of path refused.TooManyPoints = error.At path cause.TooManyPoints
error_of path refused.TooManyArcs = error.At path cause.TooManyArcs
error_of path refused.SamePoint = error.At path cause.SamePoint
error_of path refused.BoundRange = error.At path cause.BoundRange
error_of path refused.HorizonRange = error.At path cause.HorizonRange
error_of path refused.PointsClosed = error.At path cause.PointsClosed
error_of path refused.NegativeDuration = error.At path cause.NegativeDuration
error_of path refused.OutOfMemory = error.OutOfMemory

-- the network with one thing more, unless it refuses it
abbrev pub unless : List Step → Option NetError → Net → Result Net JsonError
unless path (Some e) net = Err (error_of path e)
unless path None net = Ok net

-- the version is 2
abbrev pub is_version : ℤ → Bool
is_version (pos n) = nat_eq n 2
is_version (negsuc n) = false

abbrev pub version : List Step → Data → Result (Unit {0}) JsonError
version path d = and_then (number path d) (λ n. if is_version n then Ok tt else Err (error.At path cause.Version))

-- the network of the reference point alone, with that horizon
abbrev pub opened : List Step → Data → Result Net JsonError
opened path d =
    and_then (number path d) (λ h.
    if int_lt h (pos 0) || int_lt (pos greatest_bound) h then Err (error.At path cause.HorizonRange)
    else Ok (record { horizon = h; agents = []; places = []; acts = []; given = [] }))

-- an agent leans early where nothing is said of it
abbrev pub lean : List Step → Option Data → Result Lean JsonError
lean path None = Ok Early
lean path (Some d) = and_then (text path d) (λ word. ok_or (lean_of word) (error.At path cause.UnknownWord))

-- the point of that name
abbrev pub point_at : List Step → Net → Data → Result ℕ JsonError
point_at path net d = and_then (text path d) (λ name. ok_or (find_point net name) (error.At path cause.NameUnknown))

-- the items of an array, read one after another, of which the first has that number
abbrev pub read_each : (List Step → Net → Data → Result Net JsonError) → List Step → Net → ℕ → Items → Result Net JsonError
read_each read path net i no_items = Ok net
read_each read path net i (item d ds) = and_then (read (path ++ Item i ∷ []) net d) (λ grown. read_each read path grown (i + 1) ds)

abbrev pub read_array : (List Step → Net → Data → Result Net JsonError) → List Step → Net → Data → Result Net JsonError
read_array read path net d = and_then (array path d) (read_each read path net 0)

-- an act of an agent
abbrev pub read_act : ℕ → List Step → Net → Data → Result Net JsonError
read_act agent path net d =
    and_then (act_shape path d) (λ s.
    and_then (text (path ++ Key key.Act ∷ []) s.act) (λ name.
    and_then (number (path ++ Key key.Low ∷ []) s.low) (λ low.
    and_then (number (path ++ Key key.High ∷ []) s.high) (λ high.
    unless path (act_refusal net name low high) (with_act net agent name low high)))))

-- a text is a point, and anything else has to be an act
abbrev pub point_or_act : Option (List ℕ) → ℕ → List Step → Net → Data → Result Net JsonError
point_or_act (Some name) agent path net d = unless path (point_refusal net name) (with_point net agent name)
point_or_act None agent path net d = read_act agent path net d

-- an item of an agent's points
abbrev pub read_point : ℕ → List Step → Net → Data → Result Net JsonError
read_point agent path net d = point_or_act (as_str d) agent path net d

-- an agent: it is added before its points are looked at
abbrev pub read_agent : List Step → Net → Data → Result Net JsonError
read_agent path net d =
    and_then (agent_shape path d) (λ s.
    and_then (text (path ++ Key key.Name ∷ []) s.name) (λ name.
    and_then (lean (path ++ Key key.Lean ∷ []) s.lean) (λ lean.
    and_then (unless (path ++ Key key.Name ∷ []) (agent_refusal net name) (with_agent net name lean)) (λ grown.
    read_array (read_point (length net.agents)) (path ++ Key key.Points ∷ []) grown s.points))))

-- why the arc there, of the greatest difference, and the arc back, of the least, are refused: one after the other, and room for both last
abbrev pub both_refusal : Net → ℕ → ℕ → ℤ → ℤ → Option NetError
both_refusal net from to low high =
    if nat_eq from to then Some refused.SamePoint
    else (if is_beyond high || is_beyond low then Some refused.BoundRange
    else (if not (nat_le (2 * length net.acts + length net.given + 2) most_arcs) then Some refused.TooManyArcs
    else None))

-- the arcs of an item: one, or the arc there and the arc back
abbrev pub read_bounds : List Step → Net → ℕ → ℕ → BoundShape → Result Net JsonError
read_bounds path net from to (Bound bound) =
    and_then (number (path ++ Key key.Bound ∷ []) bound) (λ b.
    unless path (arc_refusal net from to b) (with_arcs net (arc_between from to b ∷ [])))
read_bounds path net from to (Between low high) =
    and_then (number (path ++ Key key.Low ∷ []) low) (λ l.
    and_then (number (path ++ Key key.High ∷ []) high) (λ h.
    unless path (both_refusal net from to l h) (with_arcs net (arc_between from to h ∷ arc_between to from (neg_ℤ l) ∷ []))))

-- an item of the arcs
abbrev pub read_arc : List Step → Net → Data → Result Net JsonError
read_arc path net d =
    and_then (arc_shape path d) (λ s.
    and_then (point_at (path ++ Key key.From ∷ []) net s.from) (λ from.
    and_then (point_at (path ++ Key key.To ∷ []) net s.to) (λ to.
    read_bounds path net from to s.bounds)))

-- the network that a value says, or its first failure: the version, the horizon, the agents and then the arcs
abbrev pub network_of : Data → Result Net JsonError
network_of d =
    and_then (root_shape [] d) (λ s.
    and_then (version (Key key.Mastn ∷ []) s.mastn) (λ done.
    and_then (opened (Key key.Horizon ∷ []) s.horizon) (λ net.
    and_then (read_array read_agent (Key key.Agents ∷ []) net s.agents) (λ grown.
    read_array read_arc (Key key.Arcs ∷ []) grown s.arcs))))
