-- An agent without an own conflict has no negative closed walk of own arcs whose points are all private, but perhaps the one where it begins
-- and ends: conflict_of, sound_no_negative.
use Rattle.std.proofs.Common.{◌≡◌, ℕ, true, List, [], ◌∷◌, ◌⊎◌, inl, inr}
use Rattle.std.specs.Prelude.{pos, ◌≤ℤ◌, ◌<ℤ◌}
use Rattle.std.specs.List.{All, AllByRecursion, Contains}
use Rattle.std.proofs.lemmas.Int.{by_lt_z}
use Rattle.std.proofs.lemmas.List.Elements.{All-from_recursion, recursion_from_All, All-weaker, All-contains, All-map}
use Rattle.stn_model.specs.declared.ids.Constraint.{Constraint}
use Rattle.stn_model.specs.Arcs.{arc_at, to_at}
use Rattle.stn_model.specs.Net.{Net, arcs_of}
use Rattle.stn_model.specs.Kinds.{is_own, is_private_of}
use Rattle.stn_model.specs.Walks.{heads}
use Rattle.stn_model.specs.ArcWalks.{GoesOn, IsArcWalk, IsInner, NoNegative, arcs_weight}
use Rattle.stn_model.specs.Conflicts.{own_arcs, IsOwnConflict}
use Rattle.stn_model.proofs.Bridges.{IsArcWalk-from_inner}
use Rattle.stn_walk.proofs.ArcWalks.{GoesOn-wider, arcs_cycle}
use Rattle.stn_walk.proofs.Exits.{every}
use Rattle.stn_walk.proofs.ButOne.{passes_but_one}
use Rattle.stn_walk.proofs.PrivateArcs.{own_contained, own_passes}

-- what holds of the arcs of a walk of own arcs to q through private points: each is own, and ends at a private point or at q
abbrev IsOwnTo : Net → ℕ → ℕ → Constraint → Type 0
IsOwnTo net agent q a = (is_own net agent a ≡ true) × ((is_private_of net agent a.to.0 ≡ true) ⊎ (a.to.0 ≡ q))

module _ (net : Net) (agent q : ℕ) where
  next : (m : ℕ) (w : List Constraint) → GoesOn (is_private_of net agent) (own_arcs net agent) m q w → (is_private_of net agent m ≡ true) ⊎ (m ≡ q)
  next m [] h = inr h
  next m (a ∷ w) h = inl h.0

  goes_own : (m : ℕ) (w : List Constraint) → GoesOn (is_private_of net agent) (own_arcs net agent) m q w → AllByRecursion (IsOwnTo net agent q) w
  goes_own m [] h = tt
  goes_own m (a ∷ w) h = ((own_passes net agent a h.1, next a.to.0 w h.3), goes_own a.to.0 w h.3)

  inner_own : (i : ℕ) (w : List Constraint) → IsInner (is_private_of net agent) (own_arcs net agent) i q w → AllByRecursion (IsOwnTo net agent q) w
  inner_own i [] h = absurd h
  inner_own i (a ∷ w) h = ((own_passes net agent a h.0, next a.to.0 w h.2), goes_own a.to.0 w h.2)

  -- The arcs of a negative closed walk have a negative cycle. Each of its arcs is an arc of the walk, so it is own, and ends at a private point
  -- or where the walk ends; and the points of the cycle are all different, so at most one of them is not private.
  conflict_of : (w : List Constraint) → IsInner (is_private_of net agent) (own_arcs net agent) q q w → arcs_weight w <ℤ pos 0
      → (cycle : List ℕ) × IsOwnConflict net agent cycle
  conflict_of w h low =
      let arcs = arcs_of net in
      let private = is_private_of net agent in
      let walk : IsArcWalk arcs q q w = GoesOn-wider every (own_arcs net agent) arcs (own_contained net agent) q q w
      (IsArcWalk-from_inner (own_arcs net agent) private q q w h) in
      let c = arcs_cycle arcs q w walk low in
      let each = All-from_recursion (IsOwnTo net agent q) w (inner_own q w h) in
      let here : All (λ n. IsOwnTo net agent q (arc_at arcs n)) c.cycle =
      All-weaker (λ n. Contains w (arc_at arcs n)) (λ n. IsOwnTo net agent q (arc_at arcs n))
      (λ n there. All-contains (IsOwnTo net agent q) w (arc_at arcs n) each there) c.cycle c.part in (
        c.cycle,
        record {
          negative = c.negative;
          own = recursion_from_All (λ n. is_own net agent (arc_at arcs n) ≡ true) c.cycle
              (All-weaker (λ n. IsOwnTo net agent q (arc_at arcs n)) (λ n. is_own net agent (arc_at arcs n) ≡ true) (λ n g. g.0) c.cycle here);
          private_but_one = passes_but_one private q (heads arcs c.cycle) c.negative.simple
              (recursion_from_All (λ p. (private p ≡ true) ⊎ (p ≡ q)) (heads arcs c.cycle)
              (All-map (λ p. (private p ≡ true) ⊎ (p ≡ q)) (to_at arcs) c.cycle
              (All-weaker (λ n. IsOwnTo net agent q (arc_at arcs n)) (λ n. (private (to_at arcs n) ≡ true) ⊎ (to_at arcs n ≡ q)) (λ n g. g.1) c.cycle here)));
        },
      )

-- so without one no such walk is negative
pub sound_no_negative : (net : Net) (agent : ℕ) → ((cycle : List ℕ) → IsOwnConflict net agent cycle → ⊥)
    → NoNegative (is_private_of net agent) (own_arcs net agent)
sound_no_negative net agent sound = λ p w h.
    by_lt_z (arcs_weight w) (pos 0)
    (λ (low : arcs_weight w <ℤ pos 0). let c = conflict_of net agent p w h low in absurd (sound c.0 c.1))
    (λ (light : pos 0 ≤ℤ arcs_weight w). light)
