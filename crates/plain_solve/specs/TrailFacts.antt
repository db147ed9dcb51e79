-- Walks along last arcs.
use Rattle.std.specs.Prelude.{◌≡◌, ◌≢◌, ℕ, ◌+◌, ◌-◌, ◌<◌, ◌≤◌, pos, ◌-ℤ◌, ◌≤ℤ◌, List, [], ◌∷◌, length, slice_index, drop}
use Rattle.std.specs.List.{sum_by}
use Rattle.stn_model.specs.Arcs.{to_at}
use Rattle.stn_model.specs.Schedules.{time_at}
use Rattle.stn_model.specs.Walks.{IsWalk, weight, IsNegativeClosed}
use Rattle.plain_solve.specs.declared.graph.Graph.{Graph}
use Rattle.plain_solve.specs.declared.labels.Labels.{Labels}
use Rattle.plain_solve.specs.declared.trail.Trail.{Trail}
use Rattle.plain_solve.specs.declared.trail.Trail.TheVariants.{Reaches, Closes}

-- a walk from i to j along last arcs
abbrev pub IsTrail : Graph → List ℕ → ℕ → ℕ → List ℕ → Type 0
IsTrail g last_arcs i j [] = i ≡ j
IsTrail g last_arcs i j (n ∷ ns) = (i ≢ g.root) × (i < g.points) × (n ≡ slice_index last_arcs i) × IsTrail g last_arcs (to_at g.arcs.items n) j ns

-- what has been followed from a point: the marks are the places in the walk, counted from 1, where the points were met
pub record IsFollowed (g : Graph) (last_arcs : List ℕ) (from now : ℕ) (places walk : List ℕ) : Type 0 where
  pub within : now < g.points
  pub marks : length places ≡ g.points
  pub whole : IsTrail g last_arcs from now walk
  pub met : (v : ℕ) → v < g.points → 0 < slice_index places v
      → (slice_index places v ≤ length walk) × IsTrail g last_arcs v now (drop (slice_index places v - 1) walk)
  pub few : length walk + sum_by (λ c. 1 - c) places ≡ g.points

-- what following last arcs from p comes to
abbrev pub AnswersTrail : Graph → Labels → ℕ → Trail → Type 0
AnswersTrail g s p (Reaches walk) =
    IsWalk g.arcs.items p g.root walk.items × (weight g.arcs.items walk.items ≤ℤ (pos 0 -ℤ time_at s.times.items p))
AnswersTrail g s p (Closes walk) = IsNegativeClosed g.arcs.items walk.items
