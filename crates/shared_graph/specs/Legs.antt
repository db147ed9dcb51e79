-- Forward weights unfolded into arcs that agents know of each other: leg_at, IsLegFrom, IsLeg, LegsLead, legs_weight, AreTold.
use Rattle.std.specs.Prelude.{◌≡◌, ℕ, ℤ, pos, ◌<◌, ◌+ℤ◌, List, [], ◌∷◌, true, length, Contains}
use Rattle.dist_rows.specs.declared.cell.Cell.{Cell}
use Rattle.dist_rows.specs.declared.cell.Via.{Via}
use Rattle.dist_rows.specs.declared.cell.Via.TheVariants.{Given, Published as PublishedBy, Through}
use Rattle.elim_step.specs.Eliminated.{point_at}
use Rattle.elim_step.specs.Origins.{IsArcOf}
use Rattle.elim_step.specs.declared.leaves.Leaf.{Leaf}
use Rattle.shared_graph.specs.declared.unfold.Leg.{Leg}
use Rattle.shared_graph.specs.Graphs.{IsAgentArc}
use Rattle.shared_graph.specs.Interfaces.{InterfaceView}
use Rattle.shared_graph.specs.Publications.{entries_in}
use Rattle.shared_graph.specs.States.{State, Published, point_id, is_published}

-- the leg that a leaf is, by the points of its places
abbrev pub leg_at : List ℕ → Leaf → Leg
leg_at points l = record { from = point_id (point_at points l.from); to = point_id (point_at points l.to); weight = l.weight; via = l.via }

-- an arc from one point to another with this origin: an external arc by its place, or one that a published agent told
abbrev pub IsLegFrom : InterfaceView → State → ℕ → ℕ → Cell → Via → Type 0
IsLegFrom face s i j c (Given e) = IsArcOf (i ∷ j ∷ []) face.externals 0 1 c e
IsLegFrom face s i j c (PublishedBy a) = IsAgentArc face s i j c a.0
IsLegFrom face s i j c (Through p) = ⊥

abbrev pub IsLeg : InterfaceView → State → Leg → Type 0
IsLeg face s l = IsLegFrom face s l.from.0 l.to.0 (record { weight = l.weight; via = l.via }) l.via

-- the legs lead from i to j
abbrev pub LegsLead : List Leg → ℕ → ℕ → Type 0
LegsLead [] i j = i ≡ j
LegsLead (l ∷ legs) i j = (l.from.0 ≡ i) × LegsLead legs l.to.0 j

-- what they weigh together
abbrev pub legs_weight : List Leg → ℤ
legs_weight [] = pos 0
legs_weight (l ∷ legs) = l.weight +ℤ legs_weight legs

-- what is published was told by agents of the interface, each of which told one summary
abbrev pub AreTold : InterfaceView → State → Type 0
AreTold face s =
    (p : Published) → Contains s.published p
    → (p.agent < length face.leans) × (is_published s p.agent ≡ true) × (p.entries ≡ entries_in s.published p.agent)
