-- The plain form of a network: header, horizon, agents with leans, points and acts by point number, one line for each given arc, `end`:
-- spaced, line, agent_line, point_line, act_name, act_line, place_lines, places_left, StartsAt, arc_line, plain_text, plain_form, plain_form2, plain_lines, HasFront.
use Rattle.std.specs.Prelude.{◌≡◌, ℕ, ◌+◌, ◌-◌, ◌==◌, List, [], ◌∷◌, ◌++◌, codes, length, take, drop, slice_index_or, ◌<◌, if◌then◌else◌}
use Rattle.std.specs.List.{flat_map}
use Rattle.std.specs.Fmt.{signed_decimal}
use Rattle.stn_model.specs.declared.ids.Act.{Act}
use Rattle.stn_model.specs.declared.ids.Constraint.{Constraint}
use Rattle.stn_model.specs.Net.{Net, Agent, Place, no_act, agent_name_of, point_name_of}
use Rattle.net_text.specs.declared.version.Version.{Version}
use Rattle.net_text.specs.declared.version.Version.TheVariants.{Two}
use Rattle.net_text.specs.Versions.{version_word, least_version}
use Rattle.net_text.specs.Words.{lean_word}

-- fields with one space before each
abbrev pub spaced : List (List ℕ) → List ℕ
spaced fields = flat_map (λ f. 32 ∷ f) fields

-- a word, the fields after it, and a line feed
abbrev pub line : List ℕ → List (List ℕ) → List ℕ
line word fields = word ++ spaced fields ++ 10 ∷ []

abbrev pub agent_line : Agent → List ℕ
agent_line a = line (codes "agent") (a.name ∷ lean_word a.lean ∷ [])

abbrev pub point_line : Net → Place → List ℕ
point_line net p = line (codes "point") (agent_name_of net p.owner ∷ p.name ∷ [])

-- the name of an act: that of its start without the last two bytes
abbrev pub act_name : List ℕ → List ℕ
act_name start = take (length start - 2) start

-- the line of an act that starts at this place
abbrev pub act_line : Net → Place → Act → List ℕ
act_line net start a =
    line (codes "act") (agent_name_of net start.owner ∷ act_name start.name ∷ signed_decimal a.low ∷ signed_decimal a.high ∷ [])

-- the lines of the points from that number on and of the acts among them: an act stands where its start stands, in place of its two points
abbrev pub place_lines : Net → ℕ → List Place → List Act → List ℕ
place_lines net n [] acts = []
place_lines net n (p ∷ places) [] = point_line net p ++ place_lines net (n + 1) places []
place_lines net n (p ∷ []) (a ∷ acts) = point_line net p
place_lines net n (p ∷ q ∷ places) (a ∷ acts) =
    if a.start.0 == n then act_line net p a ++ place_lines net (n + 2) places acts
    else point_line net p ++ place_lines net (n + 1) (q ∷ places) (a ∷ acts)

-- what is left of them where that act and that point are the next
abbrev pub places_left : Net → ℕ → ℕ → List ℕ
places_left net point act = place_lines net point (drop (point - 1) net.places) (drop act net.acts)

-- the act of that number is there and starts at that point
abbrev pub StartsAt : List Act → ℕ → ℕ → Type 0
StartsAt acts act point = (act < length acts) × ((slice_index_or acts act no_act).start.0 ≡ point)

abbrev pub arc_line : Net → Constraint → List ℕ
arc_line net a = line (codes "arc") (point_name_of net a.from.0 ∷ point_name_of net a.to.0 ∷ signed_decimal a.bound ∷ [])

-- a network's text, with the header of that version
abbrev pub plain_text : Version → Net → List ℕ
plain_text v net =
    line (codes "mastn") (version_word v ∷ [])
    ++ line (codes "horizon") (signed_decimal net.horizon ∷ [])
    ++ flat_map agent_line net.agents
    ++ place_lines net 1 net.places net.acts
    ++ flat_map (arc_line net) net.given
    ++ line (codes "end") []

-- the plain form, with the least header that serves
abbrev pub plain_form : Net → List ℕ
plain_form net = plain_text (least_version net) net

-- the plain form with the header of version 2
abbrev pub plain_form2 : Net → List ℕ
plain_form2 net = plain_text Two net

-- how many lines the plain form has: two points of an act have one
abbrev pub plain_lines : Net → ℕ
plain_lines net = 3 + length net.agents + (length net.places - length net.acts) + length net.given

-- the bytes that stood there still stand at the front
abbrev pub HasFront : List ℕ → List ℕ → Type 0
HasFront old new = take (length old) new ≡ old
