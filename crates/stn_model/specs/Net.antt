-- What contracts see of a network (Dechter, Meiri and Pearl 1991; owners from Boerkoel and Durfee 2013; the horizon is this project's):
-- Agent, Place, Net, point_count, horizon_pair, horizon_arcs, act_pair, act_arcs, fixed_arcs, arcs_of, fixed_count, is_given, with_bound,
-- owner_of, point_names, agent_names, no_agent, no_place, no_act, agent_name_of, lean_of, point_name_of, find_point, find_agent,
-- act_start_name, act_end_name, act_name_of, with_act.
use Rattle.std.specs.Prelude.{ℕ, zero, suc, ◌+◌, ◌-◌, ◌*◌, ◌&&◌, nat_eq, nat_le, nat_lt, set, slice_index_or, ℤ, pos, neg_ℤ, Bool, List, [], ◌∷◌, ◌++◌, map, length, take, slice_get, if◌then◌else◌}
use Rattle.std.specs.Prelude.{Option, Some, None}
use Rattle.std.specs.List.{position}
use Rattle.std.specs.Str.{bytes_eq}
use Rattle.std.specs.Option.{option_map}
use Rattle.stn_model.specs.declared.ids.Constraint.{Constraint}
use Rattle.stn_model.specs.declared.ids.Act.{Act}
use Rattle.stn_model.specs.Arcs.{arc_at}
use Rattle.stn_model.specs.declared.ids.Lean.{Lean}
use Rattle.stn_model.specs.declared.ids.Lean.TheVariants.{Early}

-- an agent, by name and lean
pub record Agent : Type 0 where
  pub name : List ℕ
  pub lean : Lean

-- a point other than z, by name and the number of its agent
pub record Place : Type 0 where
  pub name : List ℕ
  pub owner : ℕ

-- a network: its places are the points from 1 on; its given arcs stand after the two of each place and the two of each act
pub record Net : Type 0 where
  pub horizon : ℤ
  pub agents : List Agent
  pub places : List Place
  pub acts : List Act
  pub given : List Constraint

-- how many points there are, with z
abbrev pub point_count : Net → ℕ
point_count net = length net.places + 1

-- the two arcs of point p: it lies from 0 to the horizon after z
abbrev pub horizon_pair : ℤ → ℕ → List Constraint
horizon_pair h p =
    record { from = record { 0 = 0 }; to = record { 0 = p }; bound = h } ∷ record { from = record { 0 = p }; to = record { 0 = 0 }; bound = pos 0 } ∷ []

-- the arcs of the points from 1 to n
abbrev pub horizon_arcs : ℤ → ℕ → List Constraint
horizon_arcs h zero = []
horizon_arcs h (suc n) = horizon_arcs h n ++ horizon_pair h (suc n)

-- the two arcs of an act: its end is low to high after its start
abbrev pub act_pair : Act → List Constraint
act_pair a = record { from = a.start; to = a.end; bound = a.high } ∷ record { from = a.end; to = a.start; bound = neg_ℤ a.low } ∷ []

-- the arcs of the acts, by the number of the act
abbrev pub act_arcs : List Act → List Constraint
act_arcs [] = []
act_arcs (a ∷ acts) = act_pair a ++ act_arcs acts

-- the arcs that were not given: for each point p from 1 on, 2p - 2 is (z, p, horizon) and 2p - 1 is (p, z, 0); those of the acts follow
abbrev pub fixed_arcs : Net → List Constraint
fixed_arcs net = horizon_arcs net.horizon (length net.places) ++ act_arcs net.acts

-- all arcs, by number: the given ones stand last
abbrev pub arcs_of : Net → List Constraint
arcs_of net = fixed_arcs net ++ net.given

-- how many arcs were not given, so the number of the first given one
abbrev pub fixed_count : Net → ℕ
fixed_count net = 2 * length net.places + 2 * length net.acts

-- the number is that of a given arc
abbrev pub is_given : Net → ℕ → Bool
is_given net n = nat_le (fixed_count net) n && nat_lt n (fixed_count net + length net.given)

-- the network with another bound at one of its given arcs
abbrev pub with_bound : Net → ℕ → ℤ → Net
with_bound net n b = record net { given = set net.given (n - fixed_count net) (record (arc_at net.given (n - fixed_count net)) { bound = b }) }

-- the owner of a point; none for z
abbrev pub owner_of : Net → ℕ → Option ℕ
owner_of net p = if nat_eq p 0 then None else option_map (λ q. q.owner) (slice_get net.places (p - 1))

-- the names of the points from 1 on
abbrev pub point_names : Net → List (List ℕ)
point_names net = map (λ p. p.name) net.places

-- the names of the agents
abbrev pub agent_names : Net → List (List ℕ)
agent_names net = map (λ a. a.name) net.agents

-- what stands past the end of the list of agents
abbrev pub no_agent : Agent
no_agent = record { name = []; lean = Early }

-- what stands past the end of the list of places
abbrev pub no_place : Place
no_place = record { name = []; owner = 0 }

-- what stands past the end of the list of acts
abbrev pub no_act : Act
no_act = record { start = record { 0 = 0 }; end = record { 0 = 0 }; low = pos 0; high = pos 0 }

-- the name of an agent
abbrev pub agent_name_of : Net → ℕ → List ℕ
agent_name_of net a = (slice_index_or net.agents a no_agent).name

-- the lean of an agent
abbrev pub lean_of : Net → ℕ → Lean
lean_of net a = (slice_index_or net.agents a no_agent).lean

-- the name of a point; that of point 0 is `z`
abbrev pub point_name_of : Net → ℕ → List ℕ
point_name_of net p = if nat_eq p 0 then 122 ∷ [] else (slice_index_or net.places (p - 1) no_place).name

-- the point of a name; `z` is point 0
abbrev pub find_point : Net → List ℕ → Option ℕ
find_point net name = if bytes_eq name (122 ∷ []) then Some 0 else option_map (λ n. n + 1) (position (bytes_eq name) (point_names net))

-- the agent of a name
abbrev pub find_agent : Net → List ℕ → Option ℕ
find_agent net name = position (bytes_eq name) (agent_names net)

-- the names of an act's two points: the act's own, a dot, and `s` or `e`
abbrev pub act_start_name : List ℕ → List ℕ
act_start_name name = name ++ 46 ∷ 115 ∷ []

abbrev pub act_end_name : List ℕ → List ℕ
act_end_name name = name ++ 46 ∷ 101 ∷ []

-- the name of an act: its start's without the last two bytes
abbrev pub act_name_of : Net → ℕ → List ℕ
act_name_of net k = let start = point_name_of net (slice_index_or net.acts k no_act).start.0 in take (length start - 2) start

-- the network with one more act, of an agent, and its two points
abbrev pub with_act : Net → ℕ → List ℕ → ℤ → ℤ → Net
with_act net agent name low high = record net {
  places = net.places ++ record { name = act_start_name name; owner = agent } ∷ record { name = act_end_name name; owner = agent } ∷ [];
  acts = net.acts ++ record { start = record { 0 = point_count net }; end = record { 0 = point_count net + 1 }; low = low; high = high } ∷ [];
}
