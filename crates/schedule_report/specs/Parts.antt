-- The parts of a report, each a few lines: order_lines, arc_lines, cycle_part, bounds_part, windows_part, times_part, prove_part, boxes_part.
use Rattle.std.specs.Prelude.{ℕ, ℤ, List, [], ◌∷◌, ◌++◌, codes, length}
use Rattle.std.specs.List.{flat_map, range_with_len}
use Rattle.std.specs.Fmt.{decimal, signed_decimal}
use Rattle.stn_model.specs.declared.ids.PointId.{PointId}
use Rattle.stn_model.specs.Net.{Net, point_name_of}
use Rattle.stn_model.specs.Schedules.{time_at}
use Rattle.net_text.specs.Plain.{line}
use Rattle.schedule_report.specs.declared.window.Window3.{Window3}
use Rattle.schedule_report.specs.declared.boxes.BoxLine.{BoxLine}
use Rattle.schedule_report.specs.Lines.{order_line, arc_line, least_line, window_line, time_line, act_line, box_line}

-- the points of an elimination order
abbrev pub order_lines : Net → List PointId → List ℕ
order_lines net order = flat_map (λ p. order_line net p.0) order

-- the arcs of a walk, in its order
abbrev pub arc_lines : Net → List ℕ → List ℕ
arc_lines net walk = flat_map (arc_line net) walk

-- the sum and the length of a cycle, and its arcs
abbrev pub cycle_part : Net → List ℕ → ℤ → List ℕ
cycle_part net walk sum = line (codes "cycle") (signed_decimal sum ∷ decimal (length walk) ∷ []) ++ arc_lines net walk

-- how many least bounds there are, and each of them
abbrev pub bounds_part : Net → List (PointId × PointId × ℤ) → List ℕ
bounds_part net edges =
    line (codes "bounds") (decimal (length edges) ∷ []) ++ flat_map (λ e. least_line net e.0.0 e.1.0 e.2) edges

-- how many windows there are, and each of them
abbrev pub windows_part : Net → List Window3 → List ℕ
windows_part net windows = line (codes "windows") (decimal (length windows) ∷ []) ++ flat_map (window_line net) windows

-- the time of each point but z, by number, and then those of each act, by number
abbrev pub times_part : Net → List ℤ → List ℕ
times_part net times =
    flat_map (λ p. time_line net p (time_at times p)) (range_with_len 1 (length net.places))
    ++ flat_map (act_line net times) (range_with_len 0 (length net.acts))

-- a least bound with its walk's length, the walk, and a schedule that attains it
abbrev pub prove_part : Net → ℕ → ℕ → ℤ → List ℕ → List ℤ → List ℕ
prove_part net from to bound walk times =
    line (codes "prove") (point_name_of net from ∷ point_name_of net to ∷ signed_decimal bound ∷ decimal (length walk) ∷ [])
    ++ arc_lines net walk ++ times_part net times

-- how many boxes there are, and each of them
abbrev pub boxes_part : Net → List BoxLine → List ℕ
boxes_part net boxes = line (codes "decoupled") (decimal (length boxes) ∷ []) ++ flat_map (box_line net) boxes
