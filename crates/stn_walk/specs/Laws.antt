-- Laws about walks over any list of arcs: WeightsAdd, SchedulesBoundWalks, ClosedWalksExclude, WalksAreCut, CyclesAreFound, CyclesTurn,
-- NormalFormsAreThere, WalksArePruned, SimpleWalksAreLight, and of networks NetworkWalksAreLight; and over walks as lists of arcs ArcWeightsAdd,
-- SchedulesBoundArcWalks, ArcCyclesAreFound.
use Rattle.std.specs.Prelude.{◌≡◌, ℕ, Bool, ◌<ℤ◌, ◌*◌, ◌<◌, ◌≤◌, pos, neg_ℤ, ◌+ℤ◌, ◌-ℤ◌, ◌≤ℤ◌, ℤ, List, ◌++◌, length, take, drop, ◌⊎◌}
use Rattle.stn_model.specs.declared.ids.Constraint.{Constraint}
use Rattle.stn_model.specs.Limits.{greatest_bound, greatest_walk}
use Rattle.stn_model.specs.Net.{Net, arcs_of}
use Rattle.stn_model.specs.Valid.{IsNetwork}
use Rattle.stn_model.specs.Schedules.{KeepsArcs, IsConsistent, time_at}
use Rattle.stn_model.specs.Walks.{IsWalk, weight, PassesNoPointTwice, IsNegativeClosed, IsNegativeCycle, IsNormal}
use Rattle.stn_model.specs.ArcWalks.{GoesOn, IsArcWalk, arcs_weight}
use Rattle.stn_walk.specs.ClosedParts.{ClosedPart, FoundCycle, FoundArcCycle, PrunedWalk, AreWithin}

-- one walk after another is a walk, and their weights add
abbrev pub WeightsAdd : Type 0
WeightsAdd =
    (list : List Constraint) (i j k : ℕ) (xs ys : List ℕ) → IsWalk list i j xs → IsWalk list j k ys
    → IsWalk list i k (xs ++ ys) × (weight list (xs ++ ys) ≡ weight list xs +ℤ weight list ys)

-- a walk weighs at least what lies between the times of its ends, in every schedule that keeps the arcs
abbrev pub SchedulesBoundWalks : Type 0
SchedulesBoundWalks =
    (list : List Constraint) (times : List ℤ) → KeepsArcs list times
    → (i j : ℕ) (ns : List ℕ) → IsWalk list i j ns → (time_at times j -ℤ time_at times i) ≤ℤ weight list ns

-- a closed walk below 0 and a schedule exclude each other
abbrev pub ClosedWalksExclude : Type 0
ClosedWalksExclude =
    (list : List Constraint) (points : ℕ) (ns : List ℕ) → IsNegativeClosed list ns → IsConsistent points list → ⊥

-- a walk passes no point twice, or is cut at one
abbrev pub WalksAreCut : Type 0
WalksAreCut =
    (list : List Constraint) (i j : ℕ) (ns : List ℕ) → IsWalk list i j ns → PassesNoPointTwice list i j ns ⊎ ClosedPart list i j ns

-- the arcs of a closed walk below 0 have a negative cycle
abbrev pub CyclesAreFound : Type 0
CyclesAreFound = (list : List Constraint) (ns : List ℕ) → IsNegativeClosed list ns → FoundCycle list ns

-- a negative cycle may begin at any of its arcs
abbrev pub CyclesTurn : Type 0
CyclesTurn =
    (list : List Constraint) (ns : List ℕ) (k : ℕ) → k < length ns → IsNegativeCycle list ns
    → IsNegativeCycle list (drop k ns ++ take k ns) × (weight list (drop k ns ++ take k ns) ≡ weight list ns)

-- at some arc it is in normal form
abbrev pub NormalFormsAreThere : Type 0
NormalFormsAreThere =
    (list : List Constraint) (ns : List ℕ) → IsNegativeCycle list ns
    → (k : ℕ) × (k < length ns) × IsNegativeCycle list (drop k ns ++ take k ns) × IsNormal (drop k ns ++ take k ns)

-- the arcs of a walk have one that passes no point twice
abbrev pub WalksArePruned : Type 0
WalksArePruned = (list : List Constraint) (i j : ℕ) (ns : List ℕ) → IsWalk list i j ns → PrunedWalk list i j ns

-- a walk that passes no point twice has at most as many arcs as there are points, and so its weight is at most the greatest bound times as many
abbrev pub SimpleWalksAreLight : Type 0
SimpleWalksAreLight =
    (list : List Constraint) (points i j : ℕ) (ns : List ℕ) → AreWithin points list → IsWalk list i j ns → PassesNoPointTwice list i j ns
    → (length ns ≤ points) × (neg_ℤ (pos (greatest_bound * points)) ≤ℤ weight list ns) × (weight list ns ≤ℤ pos (greatest_bound * points))

-- such a walk of a network weighs at most 2^53 in magnitude
abbrev pub NetworkWalksAreLight : Type 0
NetworkWalksAreLight =
    (net : Net) (i j : ℕ) (ns : List ℕ) → IsNetwork net → IsWalk (arcs_of net) i j ns → PassesNoPointTwice (arcs_of net) i j ns
    → (neg_ℤ (pos greatest_walk) ≤ℤ weight (arcs_of net) ns) × (weight (arcs_of net) ns ≤ℤ pos greatest_walk)

-- one walk of arcs after another is a walk through points of the same kind, and their weights add
abbrev pub ArcWeightsAdd : Type 0
ArcWeightsAdd =
    (inner : ℕ → Bool) (list : List Constraint) (i j k : ℕ) (v w : List Constraint) → GoesOn inner list i j v → GoesOn inner list j k w
    → GoesOn inner list i k (v ++ w) × (arcs_weight (v ++ w) ≡ arcs_weight v +ℤ arcs_weight w)

-- a walk of arcs weighs at least what lies between the times of its ends, in every schedule that keeps the arcs
abbrev pub SchedulesBoundArcWalks : Type 0
SchedulesBoundArcWalks =
    (list : List Constraint) (times : List ℤ) → KeepsArcs list times
    → (i j : ℕ) (w : List Constraint) → IsArcWalk list i j w → (time_at times j -ℤ time_at times i) ≤ℤ arcs_weight w

-- the arcs of a closed walk of arcs below 0 have a negative cycle
abbrev pub ArcCyclesAreFound : Type 0
ArcCyclesAreFound = (list : List Constraint) (i : ℕ) (w : List Constraint) → IsArcWalk list i i w → arcs_weight w <ℤ pos 0 → FoundArcCycle list w
