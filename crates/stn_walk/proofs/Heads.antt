-- The points that the arcs of a walk end at.
use Rattle.std.proofs.Common.{◌≡◌, ◌≢◌, ℕ, zero, suc, ◌<◌, ◌≤◌, List, [], ◌∷◌, length, get_or, take, refl, sym, subst, arith}
use Rattle.std.specs.List.{All, AllByRecursion}
use Rattle.std.proofs.lemmas.List.{get_or_default, get_or-map}
use Rattle.std.proofs.lemmas.List.Elements.{recursion_from_All}
use Rattle.stn_model.specs.declared.ids.Constraint.{Constraint}
use Rattle.stn_model.specs.Arcs.{to_at}
use Rattle.stn_model.specs.Walks.{IsWalk, end_of, heads}
use Rattle.stn_model.proofs.WalkLemmas.{walk_in_range}

module _ (arcs : List Constraint) where
  pub head_is : (ns : List ℕ) (k : ℕ) → k < length ns → get_or (heads arcs ns) k 0 ≡ to_at arcs (get_or ns k 0)
  head_is ns k lt = get_or-map (to_at arcs) ns k 0 0 lt

  pub in_range : (i j : ℕ) (ns : List ℕ) → IsWalk arcs i j ns → All (λ n. n < length arcs) ns
  in_range i j ns w k d lt = subst (λ (n : ℕ). n < length arcs) (get_or_default ns k 0 d lt) (walk_in_range arcs i j ns w k lt)

  -- a walk that is not empty ends at one of its heads
  pub ends_in_heads : (i j n : ℕ) (ns : List ℕ) → IsWalk arcs i j (n ∷ ns) → AllByRecursion (λ y. j ≢ y) (heads arcs (n ∷ ns)) → ⊥
  ends_in_heads i j n [] w h = h.0 (sym w.2)
  ends_in_heads i j n (m ∷ ms) w h = ends_in_heads (to_at arcs n) j m ms w.2 h.1

  each_below : (points : ℕ) → ((n : ℕ) → n < length arcs → to_at arcs n < points) → (ns : List ℕ)
      → AllByRecursion (λ n. n < length arcs) ns → AllByRecursion (λ p. p < points) (heads arcs ns)
  each_below points ends [] h = tt
  each_below points ends (n ∷ ns) h = (ends n h.0, each_below points ends ns h.1)

  -- where each arc ends at one of the first points, so does each arc of the list
  pub heads_below : (points : ℕ) → ((n : ℕ) → n < length arcs → to_at arcs n < points) → (ns : List ℕ)
      → All (λ n. n < length arcs) ns → AllByRecursion (λ p. p < points) (heads arcs ns)
  heads_below points ends ns h = each_below points ends ns (recursion_from_All (λ n. n < length arcs) ns h)

  -- the point at a place is where the arcs up to there end
  pub passed_at : (i : ℕ) (ns : List ℕ) (k : ℕ) → k ≤ length ns → get_or (i ∷ heads arcs ns) k 0 ≡ end_of arcs i (take k ns)
  passed_at i ns zero le = refl
  passed_at i [] (suc k) le = absurd (omega arith)
  passed_at i (n ∷ ns) (suc k) le = passed_at (to_at arcs n) ns k (omega arith)
