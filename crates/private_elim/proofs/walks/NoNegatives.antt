-- Where an agent has no own conflict, no closed walk of its own arcs through its private points is negative: none_negative.
use Rattle.std.proofs.Common.{◌≡◌, ℕ, Bool, true, false, List, [], ◌∷◌, refl, arith, ◌⊎◌, inl, inr}
use Rattle.std.specs.Prelude.{pos, ◌≤ℤ◌, ◌<ℤ◌, int_lt, Contains}
use Rattle.std.specs.List.{All, AllByRecursion}
use Rattle.std.proofs.lemmas.Int.{ints}
use Rattle.std.proofs.lemmas.List.Elements.{All-from_recursion, recursion_from_All, All-weaker, All-contains, All-map}
use Rattle.stn_model.specs.declared.ids.Constraint.{Constraint}
use Rattle.stn_model.specs.Arcs.{arc_at, to_at}
use Rattle.stn_model.specs.ArcWalks.{GoesOn, IsArcWalk, IsInner, NoNegative, arcs_weight}
use Rattle.stn_model.specs.Net.{Net, arcs_of}
use Rattle.stn_model.specs.Kinds.{is_own, is_private_of}
use Rattle.stn_model.specs.Conflicts.{own_arcs, IsOwnConflict}
use Rattle.stn_model.specs.Walks.{heads}
use Rattle.stn_model.proofs.ArcKinds.{passes_of}
use Rattle.stn_walk.specs.ClosedParts.{FoundArcCycle}
use Rattle.stn_walk.proofs.ArcWalks.{arcs_cycle}
use Rattle.stn_walk.proofs.ButOne.{passes_but_one}
use Rattle.stn_walk.proofs.PrivateArcs.{own_contained}

module _ (net : Net) (agent p : ℕ) where
  abbrev passes : ℕ → Bool
  passes = is_private_of net agent

  -- an own arc that ends at a private point, or at the one where the walk ends
  abbrev Ends : Constraint → Type 0
  Ends a = (is_own net agent a ≡ true) × ((passes a.to.0 ≡ true) ⊎ (a.to.0 ≡ p))

  first_end : (m : ℕ) (w : List Constraint) → GoesOn passes (own_arcs net agent) m p w → (passes m ≡ true) ⊎ (m ≡ p)
  first_end m [] h = inr h
  first_end m (a ∷ w) h = inl h.0

  ends_of : (m : ℕ) (w : List Constraint) → GoesOn passes (own_arcs net agent) m p w → AllByRecursion Ends w
  ends_of m [] h = tt
  ends_of m (a ∷ w) h = ((passes_of (is_own net agent) (arcs_of net) a h.1, first_end a.to.0 w h.3), ends_of a.to.0 w h.3)

  -- it is a walk of the network's arcs
  plain : (m : ℕ) (w : List Constraint) → GoesOn passes (own_arcs net agent) m p w → IsArcWalk (arcs_of net) m p w
  plain m [] h = h
  plain m (a ∷ w) h = (refl, own_contained net agent a h.1, h.2, plain a.to.0 w h.3)

  inner_ends : (w : List Constraint) → IsInner passes (own_arcs net agent) p p w → AllByRecursion Ends w
  inner_ends [] h = tt
  inner_ends (a ∷ w) h = ((passes_of (is_own net agent) (arcs_of net) a h.0, first_end a.to.0 w h.2), ends_of a.to.0 w h.2)

  inner_plain : (w : List Constraint) → IsInner passes (own_arcs net agent) p p w → IsArcWalk (arcs_of net) p p w
  inner_plain [] h = absurd h
  inner_plain (a ∷ w) h = (refl, own_contained net agent a h.0, h.1, plain a.to.0 w h.2)

  -- a negative one has an own conflict
  conflict : (w : List Constraint) → IsInner passes (own_arcs net agent) p p w → arcs_weight w <ℤ pos 0 → (cycle : List ℕ) × IsOwnConflict net agent cycle
  conflict w h low =
      let f : FoundArcCycle (arcs_of net) w = arcs_cycle (arcs_of net) p w (inner_plain w h) low in
      let every : All Ends w = All-from_recursion Ends w (inner_ends w h) in
      let each : All (λ n. Ends (arc_at (arcs_of net) n)) f.cycle =
      All-weaker (λ n. Contains w (arc_at (arcs_of net) n)) (λ n. Ends (arc_at (arcs_of net) n))
      (λ n there. All-contains Ends w (arc_at (arcs_of net) n) every there) f.cycle f.part in (
        f.cycle,
        record {
          negative = f.negative;
          own = recursion_from_All (λ n. is_own net agent (arc_at (arcs_of net) n) ≡ true) f.cycle
              (All-weaker (λ n. Ends (arc_at (arcs_of net) n)) (λ n. is_own net agent (arc_at (arcs_of net) n) ≡ true) (λ n e. e.0) f.cycle each);
          private_but_one =
              passes_but_one passes p (heads (arcs_of net) f.cycle) f.negative.simple
              (recursion_from_All (λ x. (passes x ≡ true) ⊎ (x ≡ p)) (heads (arcs_of net) f.cycle)
              (All-map (λ x. (passes x ≡ true) ⊎ (x ≡ p)) (to_at (arcs_of net)) f.cycle
              (All-weaker (λ n. Ends (arc_at (arcs_of net) n)) (λ n. (passes (to_at (arcs_of net) n) ≡ true) ⊎ (to_at (arcs_of net) n ≡ p)) (λ n e. e.1) f.cycle each)));
        },
      )

pub none_negative : (net : Net) (agent : ℕ) → ((cycle : List ℕ) → IsOwnConflict net agent cycle → ⊥)
    → NoNegative (is_private_of net agent) (own_arcs net agent)
none_negative net agent none p w h =
    elim (int_lt (arcs_weight w) (pos 0)) as (λ b. int_lt (arcs_weight w) (pos 0) ≡ b → pos 0 ≤ℤ arcs_weight w) [
      | true ↦ λ t.
          let low : arcs_weight w <ℤ pos 0 = grind (arith, ints) in
          let c = conflict net agent p w h low in
          absurd (none c.0 c.1)
      | false ↦ λ t. grind (arith, ints)
    ] refl
