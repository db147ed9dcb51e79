-- Leaves of forward cells as legs: they are arcs that agents know of each other, lead from point to point and weigh as much as the forward weight:
-- AreLegs, unfolded_legs; what unfolding asks: leg_size, leg_there, leg_sums; there is no weight from or to a stranger: nothing_from,
-- nothing_to.
use Rattle.std.proofs.Common.{◌≡◌, ◌≢◌, ℕ, ◌<◌, List, [], ◌∷◌, true, Option, Some, None, ap, sym, ◌∙◌, refl, subst, arith, length, map}
use Rattle.std.specs.Prelude.{ℤ, ◌+ℤ◌, is_some, IfSome}
use Rattle.std.specs.List.{AllByRecursion}
use Rattle.std.proofs.lemmas.Bool.{false≢true}
use Rattle.dist_rows.specs.declared.cell.Cell.{Cell}
use Rattle.dist_rows.specs.declared.cell.Via.{Via}
use Rattle.dist_rows.specs.declared.cell.Via.TheVariants.{Given, Published as PublishedBy, Through}
use Rattle.elim_step.specs.Eliminated.{point_at, weight_at}
use Rattle.elim_step.specs.Origins.{is_leaf, IsFrom, HasOrigins}
use Rattle.elim_step.specs.Unfolds.{HasSums, IsLeafOf, LeadFrom, leaves_weight}
use Rattle.elim_step.specs.declared.leaves.Leaf.{Leaf}
use Rattle.elim_step.proofs.OriginFacts.{origins_wider}
use Rattle.shared_graph.specs.Graphs.{GraphView, Fields, IsGraph, IsMeetingLeaf, places_in}
use Rattle.shared_graph.specs.Interfaces.{InterfaceView, IsInterface}
use Rattle.shared_graph.specs.Legs.{leg_at, IsLegFrom, IsLeg, LegsLead, legs_weight}
use Rattle.shared_graph.specs.States.{State}
use Rattle.shared_graph.specs.Together.{HoldsTogether}
use Rattle.shared_graph.specs.Weights.{forward}
use Rattle.shared_graph.proofs.graphs.Telling.{IsStranger, strange_from, strange_to, no_forward}

-- leaves between these many places, which are legs from one point to another of the forward weight
pub record AreLegs (face : InterfaceView) (s : State) (points : List ℕ) (i j : ℕ) (leaves : List Leaf) : Type 0 where
  pub within : AllByRecursion (λ (l : Leaf). (l.from < length points) × (l.to < length points)) leaves
  pub lead : LegsLead (map (leg_at points) leaves) i j
  pub each : AllByRecursion (IsLeg face s) (map (leg_at points) leaves)
  pub weighs : Some (legs_weight (map (leg_at points) leaves)) ≡ forward face s i j

-- where a cell's weight is there, the cell is
cell_there : (o : Option Cell) (w : Option ℤ) → weight_at o ≡ w → is_some w ≡ true → is_some o ≡ true
cell_there None w e there = ap is_some e ∙ there
cell_there (Some c) w e there = refl

-- legs lead as the leaves do
legs_lead : (points : List ℕ) (i j : ℕ) (leaves : List Leaf) → LeadFrom leaves i j
    → LegsLead (map (leg_at points) leaves) (point_at points i) (point_at points j)
legs_lead points i j [] lead = ap (point_at points) lead
legs_lead points i j (l ∷ leaves) lead = (ap (point_at points) lead.0, legs_lead points l.to j leaves lead.1)

-- and weigh as much
legs_weigh : (points : List ℕ) (leaves : List Leaf) → legs_weight (map (leg_at points) leaves) ≡ leaves_weight leaves
legs_weigh points [] = refl
legs_weigh points (l ∷ leaves) = ap (λ w. l.weight +ℤ w) (legs_weigh points leaves)

module _ (face : InterfaceView) (s : State) (points : List ℕ) (at : ℕ → ℕ → Option Cell)
    (origins : HasOrigins (IsMeetingLeaf face s points) points s.order at) where
  leg_from : (p q : ℕ) (c : Cell) (v : Via) → is_leaf v ≡ true → IsFrom (IsMeetingLeaf face s points) points s.order at p q c v
      → IsLegFrom face s (point_at points p) (point_at points q) c v
  leg_from p q c (Given e) leaf h = record { within = h.within; starts = h.starts; ends = h.ends; weighs = h.weighs }
  leg_from p q c (PublishedBy a) leaf h = h
  leg_from p q c (Through k) leaf h = absurd (cc)

  leaf_leg : (j : ℕ) (l : Leaf) → IsLeafOf points s.order at j l → IsLeg face s (leg_at points l)
  leaf_leg j l h =
      leg_from l.from l.to (record { weight = l.weight; via = l.via }) l.via h.leaf
      (subst (λ (o : Option Cell). IfSome o (λ c. IsFrom (IsMeetingLeaf face s points) points s.order at l.from l.to c c.via)) h.cell (origins l.from l.to))

  each_leg : (j : ℕ) (leaves : List Leaf) → AllByRecursion (IsLeafOf points s.order at j) leaves
      → AllByRecursion (IsLeg face s) (map (leg_at points) leaves)
  each_leg j [] h = tt
  each_leg j (l ∷ leaves) h = (leaf_leg j l h.0, each_leg j leaves h.1)

  -- leaves stand between places, where only places have cells
  each_within : ((p q : ℕ) → is_some (at p q) ≡ true → (p < length points) × (q < length points)) → (j : ℕ) (leaves : List Leaf)
      → AllByRecursion (IsLeafOf points s.order at j) leaves → AllByRecursion (λ (l : Leaf). (l.from < length points) × (l.to < length points)) leaves
  each_within inside j [] h = tt
  each_within inside j (l ∷ leaves) h = (inside l.from l.to (ap is_some h.0.cell), each_within inside j leaves h.1)

module _ (g : Fields) (h : IsGraph g) where
  -- the same by the points of the interface
  origins_here : HasOrigins (IsMeetingLeaf g.face g.state (places_in g.face)) (places_in g.face) g.state.order g.at
  origins_here = subst (λ ps. HasOrigins (IsMeetingLeaf g.face g.state ps) ps g.state.order g.at) h.points h.origins

  weighs_here : (p q : ℕ) → p < length (places_in g.face) → q < length (places_in g.face) → p ≢ q
      → weight_at (g.at p q) ≡ forward g.face g.state (point_at (places_in g.face) p) (point_at (places_in g.face) q)
  weighs_here =
      subst (λ ps. (p q : ℕ) → p < length ps → q < length ps → p ≢ q → weight_at (g.at p q) ≡ forward g.face g.state (point_at ps p) (point_at ps q)) h.points
      h.cells.cells

  module _ (v : GraphView) (is : record { face = g.face; state = g.state } ≡ v) where
    pub leg_size : (points : List ℕ) → points ≡ places_in v.face → g.places ≡ length points
    leg_size points same = h.places ∙ ap length (h.points ∙ ap (λ (w : GraphView). places_in w.face) is ∙ sym same)

    -- every cell is a leaf or a sum
    pub leg_sums : (points es : List ℕ) → points ≡ places_in v.face → es ≡ v.state.order → HasSums points es g.at
    leg_sums points es same taken =
        subst (λ ps. HasSums ps es g.at) (ap (λ (w : GraphView). places_in w.face) is ∙ sym same)
        (subst (λ xs. HasSums (places_in g.face) xs g.at) (ap (λ (w : GraphView). w.state.order) is ∙ sym taken)
        (origins_wider (IsMeetingLeaf g.face g.state (places_in g.face)) (λ p q c v. Unit {0}) (places_in g.face) g.state.order g.at
        (λ p q c v h. tt) origins_here))

    pub leg_there : (p q : ℕ) → p < length (places_in v.face) → q < length (places_in v.face) → p ≢ q
        → is_some (forward v.face v.state (point_at (places_in v.face) p) (point_at (places_in v.face) q)) ≡ true → is_some (g.at p q) ≡ true
    leg_there =
        subst (λ (v : GraphView). (p q : ℕ) → p < length (places_in v.face) → q < length (places_in v.face) → p ≢ q
        → is_some (forward v.face v.state (point_at (places_in v.face) p) (point_at (places_in v.face) q)) ≡ true → is_some (g.at p q) ≡ true)
        is (λ p q lp lq apart there.
        cell_there (g.at p q) (forward g.face g.state (point_at (places_in g.face) p) (point_at (places_in g.face) q)) (weighs_here p q lp lq apart) there)

  -- the leaves of a cell are legs
  legs_here : ((p q : ℕ) → is_some (g.at p q) ≡ true → (p < g.places) × (q < g.places) × (p ≢ q)) → (p q : ℕ) → p < length (places_in g.face)
      → q < length (places_in g.face) → p ≢ q → (leaves : List Leaf) → LeadFrom leaves p q
      → AllByRecursion (IsLeafOf (places_in g.face) g.state.order g.at q) leaves → Some (leaves_weight leaves) ≡ weight_at (g.at p q)
      → AreLegs g.face g.state (places_in g.face) (point_at (places_in g.face) p) (point_at (places_in g.face) q) leaves
  legs_here inside p q lp lq apart leaves lead each weighs =
      let many : g.places ≡ length (places_in g.face) = h.places ∙ ap length h.points in
      record {
        within =
            each_within g.face g.state (places_in g.face) g.at origins_here
            (λ p q there. let room = inside p q there in let lp = room.0 in let lq = room.1 in (omega arith, omega arith)) q leaves each;
        lead = legs_lead (places_in g.face) p q leaves lead;
        each = each_leg g.face g.state (places_in g.face) g.at origins_here q leaves each;
        weighs = ap (λ (w : ℤ). Some w) (legs_weigh (places_in g.face) leaves) ∙ weighs ∙ weighs_here p q lp lq apart;
      }

  -- the same by the names that a caller has for the view, the points and the order
  pub unfolded_legs : ((p q : ℕ) → is_some (g.at p q) ≡ true → (p < g.places) × (q < g.places) × (p ≢ q)) → (v : GraphView)
      → record { face = g.face; state = g.state } ≡ v → (points es : List ℕ) → points ≡ places_in v.face → es ≡ v.state.order → (p q : ℕ)
      → p < length (places_in v.face) → q < length (places_in v.face) → p ≢ q → (leaves : List Leaf) → LeadFrom leaves p q
      → AllByRecursion (IsLeafOf points es g.at q) leaves → Some (leaves_weight leaves) ≡ weight_at (g.at p q)
      → AreLegs v.face v.state (places_in v.face) (point_at (places_in v.face) p) (point_at (places_in v.face) q) leaves
  unfolded_legs inside v is =
      subst (λ (v : GraphView). (points es : List ℕ) → points ≡ places_in v.face → es ≡ v.state.order → (p q : ℕ)
      → p < length (places_in v.face) → q < length (places_in v.face) → p ≢ q → (leaves : List Leaf) → LeadFrom leaves p q
      → AllByRecursion (IsLeafOf points es g.at q) leaves → Some (leaves_weight leaves) ≡ weight_at (g.at p q)
      → AreLegs v.face v.state (places_in v.face) (point_at (places_in v.face) p) (point_at (places_in v.face) q) leaves)
      is (λ points es same taken p q lp lq apart leaves lead each weighs.
      legs_here inside p q lp lq apart leaves lead (rw (same, taken) at each) weighs)

-- there is no weight from or to a stranger
none_there : (o : Option ℤ) → o ≡ None → is_some o ≡ true → ⊥
none_there o e there = false≢true (ap is_some (sym e) ∙ there)

pub nothing_from : (face : InterfaceView) → IsInterface face → (s : State) → HoldsTogether face s → (i j : ℕ) → IsStranger face i → i ≢ j
    → is_some (forward face s i j) ≡ true → ⊥
nothing_from face known s together i j strange apart =
    none_there (forward face s i j) (no_forward face known s together i j apart (strange_from face known s together i j strange))

pub nothing_to : (face : InterfaceView) → IsInterface face → (s : State) → HoldsTogether face s → (i j : ℕ) → IsStranger face j → i ≢ j
    → is_some (forward face s i j) ≡ true → ⊥
nothing_to face known s together i j strange apart =
    none_there (forward face s i j) (no_forward face known s together i j apart (strange_to face known s together i j strange))
