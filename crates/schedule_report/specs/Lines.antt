-- The lines of a report, each from its values; points and acts are written by name, all other values as numbers:
-- word_line, verdict_line, kind_line, order_line, arc_line, least_line, window_line, time_line, act_line, blocker, box_line, choice_line,
-- repair_line, error_line.
use Rattle.std.specs.Prelude.{ℕ, ℤ, Bool, List, [], ◌∷◌, codes, slice_index_or, Option, Some, None, if◌then◌else◌}
use Rattle.std.specs.Fmt.{decimal, signed_decimal}
use Rattle.stn_model.specs.declared.ids.Kind.{Kind}
use Rattle.stn_model.specs.declared.ids.Kind.TheVariants.{Reference, Private, Shared}
use Rattle.stn_model.specs.Arcs.{from_at, to_at, bound_at}
use Rattle.stn_model.specs.Kinds.{kind_of}
use Rattle.stn_model.specs.Net.{Net, arcs_of, point_name_of, act_name_of, no_act}
use Rattle.stn_model.specs.Schedules.{time_at}
use Rattle.net_text.specs.Plain.{line}
use Rattle.schedule_report.specs.declared.window.Window3.{Window3}
use Rattle.schedule_report.specs.declared.boxes.BoxLine.{BoxLine}

-- bytes that stand alone in their line
abbrev pub word_line : List ℕ → List ℕ
word_line word = line word []

-- whether a network is consistent
abbrev pub verdict_line : Bool → List ℕ
verdict_line consistent = word_line (if consistent then codes "consistent" else codes "inconsistent")

-- a point of that kind and name; z has no line
abbrev pub kind_line : Kind → List ℕ → List ℕ
kind_line Reference name = []
kind_line Private name = line (codes "private") (name ∷ [])
kind_line Shared name = line (codes "shared") (name ∷ [])

-- a point of an elimination order
abbrev pub order_line : Net → ℕ → List ℕ
order_line net p = kind_line (kind_of net p) (point_name_of net p)

-- an arc, by its number
abbrev pub arc_line : Net → ℕ → List ℕ
arc_line net n =
    let arcs = arcs_of net in
    line (codes "arc")
    (decimal n ∷ point_name_of net (from_at arcs n) ∷ point_name_of net (to_at arcs n) ∷ signed_decimal (bound_at arcs n) ∷ [])

-- the least bound from one point to another
abbrev pub least_line : Net → ℕ → ℕ → ℤ → List ℕ
least_line net from to bound = line (codes "least") (point_name_of net from ∷ point_name_of net to ∷ signed_decimal bound ∷ [])

-- the least and the greatest time of a point
abbrev pub window_line : Net → Window3 → List ℕ
window_line net w = line (codes "window") (point_name_of net w.point.0 ∷ signed_decimal w.lo ∷ signed_decimal w.hi ∷ [])

-- the time of a point
abbrev pub time_line : Net → ℕ → ℤ → List ℕ
time_line net p t = line (codes "time") (point_name_of net p ∷ signed_decimal t ∷ [])

-- the times of an act's start and end
abbrev pub act_line : Net → List ℤ → ℕ → List ℕ
act_line net times k =
    let act = slice_index_or net.acts k no_act in
    line (codes "act")
    (act_name_of net k ∷ signed_decimal (time_at times act.start.0) ∷ signed_decimal (time_at times act.end.0) ∷ [])

-- what keeps an end of a box from being wider: an arc, or the point's own window
abbrev pub blocker : Option ℕ → List ℕ
blocker None = codes "own"
blocker (Some n) = decimal n

-- a point's window in a decoupling, and what blocks its two ends
abbrev pub box_line : Net → BoxLine → List ℕ
box_line net b =
    line (codes "box")
    (point_name_of net b.window.point.0 ∷ signed_decimal b.window.lo ∷ signed_decimal b.window.hi ∷ blocker b.low ∷ blocker b.high ∷ [])

-- a time that was set; or one outside the point's window, and that window
abbrev pub choice_line : Net → ℕ → ℤ → Option (ℤ × ℤ) → List ℕ
choice_line net p t None = line (codes "set") (point_name_of net p ∷ signed_decimal t ∷ [])
choice_line net p t (Some window) =
    line (codes "outside") (point_name_of net p ∷ signed_decimal t ∷ signed_decimal window.0 ∷ signed_decimal window.1 ∷ [])

-- by how much an arc is to be loosened; or that the conflict remains without it
abbrev pub repair_line : ℕ → Option ℤ → List ℕ
repair_line n None = line (codes "remains") (decimal n ∷ [])
repair_line n (Some by) = line (codes "repair") (decimal n ∷ signed_decimal by ∷ [])

-- a refusal: the line of the input, the cause and the cause's values
abbrev pub error_line : ℕ → List ℕ → List (List ℕ) → List ℕ
error_line number cause values = line (codes "error") (decimal number ∷ cause ∷ values)
