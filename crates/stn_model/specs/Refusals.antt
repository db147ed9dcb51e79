-- When a network refuses a change: the first test that fails, if one does: is_name_start, is_name_part, is_name, is_beyond, agent_refusal,
-- point_refusal, named_act_refusal, act_refusal, arc_refusal.
use Rattle.std.specs.Prelude.{ℕ, ◌+◌, ◌*◌, ℤ, pos, neg_ℤ, Bool, not, ◌&&◌, ◌||◌, List, length, nat_eq, nat_le, int_lt, if◌then◌else◌, Option, Some, None, is_some, slice_index}
use Rattle.std.specs.List.{list_all}
use Rattle.stn_model.specs.declared.error.NetError.{NetError}
use Rattle.stn_model.specs.declared.error.NetError.TheVariants.{NameBad, NameTaken, TooManyAgents, TooManyPoints, TooManyArcs, SamePoint, BoundRange, PointsClosed, NegativeDuration}
use Rattle.stn_model.specs.Limits.{most_agents, most_points, most_arcs, longest_name, greatest_bound}
use Rattle.stn_model.specs.Net.{Net, find_agent, find_point, point_count, act_start_name, act_end_name}

-- a letter or `_`
abbrev pub is_name_start : ℕ → Bool
is_name_start c = (nat_le 65 c && nat_le c 90) || (nat_le 97 c && nat_le c 122) || nat_eq c 95

-- a letter, a digit, `_`, `-` or `.`
abbrev pub is_name_part : ℕ → Bool
is_name_part c = is_name_start c || (nat_le 48 c && nat_le c 57) || nat_eq c 45 || nat_eq c 46

-- 1 to 64 bytes, of which the first may start a name
abbrev pub is_name : List ℕ → Bool
is_name name = nat_le 1 (length name) && nat_le (length name) longest_name && is_name_start (slice_index name 0) && list_all is_name_part name

-- why an agent is refused
abbrev pub agent_refusal : Net → List ℕ → Option NetError
agent_refusal net name =
    if not (is_name name) then Some NameBad
    else (if is_some (find_agent net name) then Some NameTaken
    else (if nat_le most_agents (length net.agents) then Some TooManyAgents
    else None))

-- why a point is refused; `z` is taken, and points come before arcs
abbrev pub point_refusal : Net → List ℕ → Option NetError
point_refusal net name =
    if not (is_name name) then Some NameBad
    else (if is_some (find_point net name) then Some NameTaken
    else (if not (nat_eq (length net.given) 0) then Some PointsClosed
    else (if nat_le most_points (point_count net) then Some TooManyPoints
    else None)))

-- the number has magnitude above 2^40
abbrev pub is_beyond : ℤ → Bool
is_beyond b = int_lt b (neg_ℤ (pos greatest_bound)) || int_lt (pos greatest_bound) b

-- why an act is refused whose points would have these names
abbrev pub named_act_refusal : Net → List ℕ → List ℕ → ℤ → ℤ → Option NetError
named_act_refusal net start end low high =
    if not (is_name start) then Some NameBad
    else (if is_some (find_point net start) || is_some (find_point net end) then Some NameTaken
    else (if not (nat_eq (length net.given) 0) then Some PointsClosed
    else (if nat_le most_points (point_count net + 1) then Some TooManyPoints
    else (if int_lt low (pos 0) then Some NegativeDuration
    else (if is_beyond high || is_beyond low then Some BoundRange
    else None)))))

-- why an act is refused; its least duration may be above the greatest
abbrev pub act_refusal : Net → List ℕ → ℤ → ℤ → Option NetError
act_refusal net name low high = named_act_refusal net (act_start_name name) (act_end_name name) low high

-- why an arc is refused; a bound may be above the horizon
abbrev pub arc_refusal : Net → ℕ → ℕ → ℤ → Option NetError
arc_refusal net from to bound =
    if nat_eq from to then Some SamePoint
    else (if is_beyond bound then Some BoundRange
    else (if nat_le most_arcs (2 * length net.acts + length net.given) then Some TooManyArcs
    else None))
