-- The limits of networks and schedules, each stated once: most_agents, most_points, most_arcs, longest_name, greatest_bound,
-- greatest_walk, greatest_time.
use Rattle.std.specs.Prelude.{ℕ}

-- the most agents
abbrev pub most_agents : ℕ
most_agents = 64

-- the most points, with z
abbrev pub most_points : ℕ
most_points = 8192

-- the most arcs of acts and given arcs together
abbrev pub most_arcs : ℕ
most_arcs = 65536

-- the most bytes of a name
abbrev pub longest_name : ℕ
longest_name = 64

-- the greatest horizon, and the greatest magnitude of a bound: 2^40
abbrev pub greatest_bound : ℕ
greatest_bound = 1099511627776

-- the greatest magnitude of the weight of a walk that passes no point twice, most_points times the greatest bound: 2^53
abbrev pub greatest_walk : ℕ
greatest_walk = 9007199254740992

-- the greatest magnitude of a time: 2^100
abbrev pub greatest_time : ℕ
greatest_time = 1267650600228229401496703205376
