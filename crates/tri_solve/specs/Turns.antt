-- A pass over labels, point by point: starts, IsPassing, IsPassed, ArePassed.
use Rattle.std.specs.Prelude.{◌≡◌, ◌⊎◌, ℕ, Bool, true, false, pos, List, length, set, replicate, Option, Some, None, Contains}
use Rattle.stn_model.specs.declared.ids.PointId.{PointId}
use Rattle.tri_solve.specs.declared.label.Label.{Label}
use Rattle.tri_solve.specs.Edges.{Bounds, is_edge, bound_between}
use Rattle.tri_solve.specs.Layouts.{turned}
use Rattle.tri_solve.specs.Labels.{label_at, number_at, Came}
use Rattle.tri_solve.specs.Tables.{IsTable}

-- before the first pass the source has number 0
abbrev pub starts : ℕ → PointId → List (Option Label)
starts points source = set (replicate points None) source.0 (Some (record { number = pos 0; via = source }))

-- the points xs of the pass are set, each to a label that it had or that it got by way of one of them
pub record IsPassing (b : Bounds) (up : Bool) (old : List (Option Label)) (xs : List ℕ) (now : List (Option Label)) : Type 0 where
  pub len : length now ≡ length old
  pub table : IsTable (is_edge b.edges) (bound_between b.edges) (number_at old) xs (number_at now)
  pub unset : (p : ℕ) → (Contains xs p → ⊥) → label_at now p ≡ label_at old p
  pub vias : (p : ℕ) → Contains xs p → (label_at now p ≡ label_at old p) ⊎ Came b.order b.edges old now xs p up

-- all points are set
abbrev pub IsPassed : Bounds → Bool → List (Option Label) → List (Option Label) → Type 0
IsPassed b up old now = IsPassing b up old (turned up b.order) now

-- after the pass up from the source and the pass down
pub record ArePassed (b : Bounds) (source : PointId) (labels : List (Option Label)) : Type 0 where
  pub first : List (Option Label)
  pub up : IsPassed b true (starts (length b.order) source) first
  pub down : IsPassed b false first labels
