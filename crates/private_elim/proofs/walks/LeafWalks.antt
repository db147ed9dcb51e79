-- Leaves that are given arcs, as walks: IsUnfolded, unfolded; what unfolding asks: cell_there, sums_of.
use Rattle.std.proofs.Common.{◌≡◌, ℕ, List, [], ◌∷◌, true, Option, Some, None, ap, sym, ◌∙◌, refl, reverse, subst, ◌⊎◌, inl, inr}
use Rattle.std.specs.Prelude.{ℤ, ◌+ℤ◌, is_some, IfSome}
use Rattle.std.specs.List.{AllByRecursion}
use Rattle.stn_model.specs.declared.ids.Constraint.{Constraint}
use Rattle.stn_model.specs.Walks.{IsWalk, weight, heads}
use Rattle.stn_walk.specs.Eliminations.{is_in}
use Rattle.dist_rows.specs.declared.cell.Cell.{Cell}
use Rattle.dist_rows.specs.declared.cell.Via.{Via}
use Rattle.dist_rows.specs.declared.cell.Via.TheVariants.{Given, Published, Through}
use Rattle.elim_step.specs.declared.leaves.Leaf.{Leaf}
use Rattle.elim_step.specs.Eliminated.{point_at, weight_at, forward_of}
use Rattle.elim_step.specs.Origins.{is_leaf, IsArcOf, IsArcLeaf, IsFrom, HasOrigins}
use Rattle.elim_step.specs.Unfolds.{HasSums, IsLeafOf, LeadFrom, leaves_weight}
use Rattle.elim_step.proofs.OriginFacts.{origins_wider}
use Rattle.private_elim.specs.Locals.{LocalView, arcs_in}
use Rattle.private_elim.specs.Leaves.{is_given, given_in, numbers_of}

-- where a cell's weight is there, the cell is
pub cell_there : (x : Option Cell) (w : Option ℤ) → weight_at x ≡ w → is_some w ≡ true → is_some x ≡ true
cell_there None w e h = ap is_some e ∙ h
cell_there (Some c) w e h = refl

module _ (points : List ℕ) (arcs : List Constraint) (es : List ℕ) (at : ℕ → ℕ → Option Cell) (origins : HasOrigins (IsArcLeaf points arcs) points es at) where
  from-arc : (p q : ℕ) (c : Cell) (v : Via) → is_leaf v ≡ true → IsFrom (IsArcLeaf points arcs) points es at p q c v
      → IsArcOf points arcs p q c (given_in v) × (is_given v ≡ true)
  from-arc p q c (Given n) leaf h = (h, refl)
  from-arc p q c (Published a) leaf h = absurd h
  from-arc p q c (Through k) leaf h = absurd (cc)

  leaf-arc : (j : ℕ) (l : Leaf) → IsLeafOf points es at j l
      → IsArcOf points arcs l.from l.to (record { weight = l.weight; via = l.via }) (given_in l.via) × (is_given l.via ≡ true)
  leaf-arc j l h =
      from-arc l.from l.to (record { weight = l.weight; via = l.via }) l.via h.leaf
      (subst (λ (o : Option Cell). IfSome o (λ c. IsFrom (IsArcLeaf points arcs) points es at l.from l.to c c.via)) h.cell (origins l.from l.to))

  -- they are arcs
  are_given : (j : ℕ) (leaves : List Leaf) → AllByRecursion (IsLeafOf points es at j) leaves → AllByRecursion (λ (l : Leaf). is_given l.via ≡ true) leaves
  are_given j [] h = tt
  are_given j (l ∷ leaves) h = ((leaf-arc j l h.0).1, are_given j leaves h.1)

  -- which lead as the leaves do
  leaf_walk : (i j k : ℕ) (leaves : List Leaf) → LeadFrom leaves i j → AllByRecursion (IsLeafOf points es at k) leaves
      → IsWalk arcs (point_at points i) (point_at points j) (numbers_of leaves)
  leaf_walk i j k [] lead h = ap (point_at points) lead
  leaf_walk i j k (l ∷ leaves) lead h =
      let arc = (leaf-arc k l h.0).0 in
      let rest = leaf_walk l.to j k leaves lead.1 h.1 in
      (arc.within, arc.starts ∙ ap (point_at points) lead.0, subst (λ p. IsWalk arcs p (point_at points j) (numbers_of leaves)) (sym arc.ends) rest)

  -- weigh as much
  leaf_weight : (k : ℕ) (leaves : List Leaf) → AllByRecursion (IsLeafOf points es at k) leaves → weight arcs (numbers_of leaves) ≡ leaves_weight leaves
  leaf_weight k [] h = refl
  leaf_weight k (l ∷ leaves) h =
      let same = (leaf-arc k l h.0).0.weighs in
      let rest = leaf_weight k leaves h.1 in (λ t. same t +ℤ rest t)

  -- and end at eliminated points, or at the last one
  leaf_heads : (k : ℕ) (leaves : List Leaf) → AllByRecursion (IsLeafOf points es at k) leaves
      → AllByRecursion (λ p. (is_in es p ≡ true) ⊎ (p ≡ point_at points k)) (heads arcs (numbers_of leaves))
  leaf_heads k [] h = tt
  leaf_heads k (l ∷ leaves) h =
      let end = (leaf-arc k l h.0).0.ends in
      (subst (λ p. (is_in es p ≡ true) ⊎ (p ≡ point_at points k)) (sym end) (placed h.0.through), leaf_heads k leaves h.1) where
        placed : (is_in es (point_at points l.to) ≡ true) ⊎ (l.to ≡ k) → (is_in es (point_at points l.to) ≡ true) ⊎ (point_at points l.to ≡ point_at points k)
        placed (inl gone) = inl gone
        placed (inr last) = inr (ap (point_at points) last)

-- every cell is a leaf or a sum
pub sums_of : (v : LocalView) (order : List ℕ) (at : ℕ → ℕ → Option Cell) → HasOrigins (IsArcLeaf v.points (arcs_in v)) v.points (reverse order) at
    → (points es : List ℕ) → points ≡ v.points → es ≡ reverse order → HasSums points es at
sums_of v order at origins points es same taken =
    rw (same, taken) (origins_wider (IsArcLeaf v.points (arcs_in v)) (λ p q c v. Unit {0}) v.points (reverse order) at (λ p q c v h. tt) origins)

-- leaves that are a walk of own arcs of the forward weight
pub record IsUnfolded (v : LocalView) (order : List ℕ) (i j : ℕ) (leaves : List Leaf) : Type 0 where
  pub given : AllByRecursion (λ (l : Leaf). is_given l.via ≡ true) leaves
  pub walk : IsWalk (arcs_in v) (point_at v.points i) (point_at v.points j) (numbers_of leaves)
  pub weighs : Some (weight (arcs_in v) (numbers_of leaves)) ≡ forward_of (arcs_in v) (reverse order) (point_at v.points i) (point_at v.points j)
  pub through : AllByRecursion (λ p. (is_in (reverse order) p ≡ true) ⊎ (p ≡ point_at v.points j)) (heads (arcs_in v) (numbers_of leaves))

pub unfolded : (v : LocalView) (order : List ℕ) (at : ℕ → ℕ → Option Cell) → HasOrigins (IsArcLeaf v.points (arcs_in v)) v.points (reverse order) at
    → (points es : List ℕ) → points ≡ v.points → es ≡ reverse order → (i j : ℕ) (leaves : List Leaf) → LeadFrom leaves i j
    → AllByRecursion (IsLeafOf points es at j) leaves → Some (leaves_weight leaves) ≡ weight_at (at i j)
    → weight_at (at i j) ≡ forward_of (arcs_in v) (reverse order) (point_at v.points i) (point_at v.points j) → IsUnfolded v order i j leaves
unfolded v order at origins points es same taken i j leaves lead each weighs is =
    let arcs = arcs_in v in
    let here : AllByRecursion (IsLeafOf v.points (reverse order) at j) leaves = (rw (same, taken) at each) in
    record {
      given = are_given v.points arcs (reverse order) at origins j leaves here;
      walk = leaf_walk v.points arcs (reverse order) at origins i j j leaves lead here;
      weighs = ap (λ (w : ℤ). Some w) (leaf_weight v.points arcs (reverse order) at origins j leaves here) ∙ weighs ∙ is;
      through = leaf_heads v.points arcs (reverse order) at origins j leaves here;
    }
