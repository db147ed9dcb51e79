-- The network of a number and a size, place by place. Points other than the reference point are counted from 0 here, by agent.
--     width size                how many points an agent has
--     point_total, gap_total    how many points all agents have, and how many pairs of neighbours
--     agent_at i, place_at size q       agent i, and point q of all
--     time_of number q          the time of point q
--     chain_at, handover_at     the two arcs of the bound of pair g of neighbours, and of handover h
--     generated number size     the whole network
use Rattle.std.specs.Prelude.{◌≡◌, ℕ, ◌+◌, ◌-◌, ◌*◌, ◌/◌, ◌%◌, nat_eq, if◌then◌else◌, ℤ, pos, neg_ℤ, ◌+ℤ◌, ◌-ℤ◌, List, [], ◌∷◌, ◌++◌, map, length, decimal}
use Rattle.std.specs.List.{flat_map, range_with_len}
use Rattle.stn_model.specs.declared.ids.Constraint.{Constraint}
use Rattle.stn_model.specs.declared.ids.Lean.{Lean}
use Rattle.stn_model.specs.declared.ids.Lean.TheVariants.{Early, Late, Middle}
use Rattle.stn_model.specs.Net.{Net, Agent, Place}
use Rattle.net_gen.specs.Draws.{drawn}

-- how many points an agent has
abbrev pub width : ℕ → ℕ
width size = 2 * size

-- how many points all agents have
abbrev pub point_total : ℕ → ℕ
point_total size = size * width size

-- how many pairs of neighbours all agents have
abbrev pub gap_total : ℕ → ℕ
gap_total size = size * (width size - 1)

-- how many handovers there are: two between each agent and the next
abbrev pub handover_total : ℕ → ℕ
handover_total size = 2 * (size - 1)

-- `a0`, `a1` and so on
abbrev pub agent_name : ℕ → List ℕ
agent_name i = 97 ∷ decimal i

-- `a0p0`, `a0p1` and so on
abbrev pub point_name : ℕ → ℕ → List ℕ
point_name i k = agent_name i ++ 112 ∷ decimal k

-- early, late and middle in turn
abbrev pub agent_lean : ℕ → Lean
agent_lean i = if nat_eq (i % 3) 0 then Early else (if nat_eq (i % 3) 1 then Late else Middle)

abbrev pub agent_at : ℕ → Agent
agent_at i = record { name = agent_name i; lean = agent_lean i }

-- point q of all: point q % width of agent q / width
abbrev pub place_at : ℕ → ℕ → Place
place_at size q = record { name = point_name (q / width size) (q % width size); owner = q / width size }

-- the first draws, one for each point
abbrev pub time_of : ℕ → ℕ → ℕ
time_of number q = drawn number (q + 1) 900000

-- the times of that many points
abbrev pub AreTimes : ℕ → List ℕ → Type 0
AreTimes number times = times ≡ map (time_of number) (range_with_len 0 (length times))

-- the two arcs of a bound: the second point is from d - low to d + high after the first
abbrev pub bound_arcs : ℕ → ℕ → ℤ → ℕ → ℕ → List Constraint
bound_arcs from to d low high =
    record { from = record { 0 = from + 1 }; to = record { 0 = to + 1 }; bound = d +ℤ pos high }
    ∷ record { from = record { 0 = to + 1 }; to = record { 0 = from + 1 }; bound = neg_ℤ (d -ℤ pos low) } ∷ []

-- the bound round the distance of two times, with draws k and k + 1 for what it leaves below and above
abbrev pub drawn_bound : ℕ → ℕ → ℕ → ℕ → ℕ → List Constraint
drawn_bound number from to k below =
    bound_arcs from to (pos (time_of number to) -ℤ pos (time_of number from)) (drawn number k below) (drawn number (k + 1) below)

-- the first point of pair g of neighbours: pair g % (width - 1) of agent g / (width - 1)
abbrev pub gap_start : ℕ → ℕ → ℕ
gap_start size g = g / (width size - 1) * width size + g % (width size - 1)

abbrev pub chain_at : ℕ → ℕ → ℕ → List Constraint
chain_at number size g =
    drawn_bound number (gap_start size g) (gap_start size g + 1) (point_total size + 2 * g + 1) 1000

-- how many draws were made before handover h
abbrev pub draws_before : ℕ → ℕ → ℕ
draws_before size h = point_total size + 2 * gap_total size + 4 * h

-- from a point of agent h / 2 to one of the next
abbrev pub handover_at : ℕ → ℕ → ℕ → List Constraint
handover_at number size h =
    drawn_bound number (h / 2 * width size + drawn number (draws_before size h + 1) (width size))
    ((h / 2 + 1) * width size + drawn number (draws_before size h + 2) (width size))
    (draws_before size h + 3) 5000

abbrev pub chains : ℕ → ℕ → List Constraint
chains number size = flat_map (chain_at number size) (range_with_len 0 (gap_total size))

abbrev pub handovers : ℕ → ℕ → List Constraint
handovers number size = flat_map (handover_at number size) (range_with_len 0 (handover_total size))

abbrev pub generated : ℕ → ℕ → Net
generated number size = record {
  horizon = pos 1000000;
  agents = map agent_at (range_with_len 0 size);
  places = map (place_at size) (range_with_len 0 (point_total size));
  acts = [];
  given = chains number size ++ handovers number size;
}
