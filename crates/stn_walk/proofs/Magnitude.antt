-- How many arcs a walk has that passes no point twice, and how much it weighs.
use Rattle.std.proofs.Common.{◌≡◌, ◌≢◌, ℕ, ◌*◌, ◌≤◌, pos, neg_ℤ, ◌≤ℤ◌, List, [], ◌∷◌, length, arith, ⊎_elim}
use Rattle.std.proofs.lemmas.Int.{ints}
use Rattle.std.proofs.lemmas.Bool.{cases_eq}
use Rattle.std.proofs.lemmas.List.{length-map}
use Rattle.stn_model.specs.declared.ids.Constraint.{Constraint}
use Rattle.stn_model.specs.Arcs.{to_at}
use Rattle.stn_model.specs.Limits.{greatest_bound, greatest_walk}
use Rattle.stn_model.specs.Net.{Net, arcs_of, point_count}
use Rattle.stn_model.specs.Valid.{IsNetwork}
use Rattle.stn_model.specs.Walks.{IsWalk, weight, heads, AllDifferent, PassesNoPointTwice}
use Rattle.stn_model.proofs.ArcLemmas.{arcs_within}
use Rattle.stn_walk.specs.ClosedParts.{AreWithin}
use Rattle.stn_walk.proofs.Different.{few_different}
use Rattle.stn_walk.proofs.Heads.{in_range, heads_below}

module _ (list : List Constraint) (points : ℕ) (within : AreWithin points list) where
  -- each arc adds at most 2^40
  pub walk_weighs : (i j : ℕ) (ns : List ℕ) → IsWalk list i j ns
      → (neg_ℤ (pos (greatest_bound * length ns)) ≤ℤ weight list ns) × (weight list ns ≤ℤ pos (greatest_bound * length ns))
  walk_weighs i j [] w = (omega (arith, ints), omega (arith, ints))
  walk_weighs i j (n ∷ ns) w =
      let rest = walk_weighs (to_at list n) j ns w.2 in
      let rest_low = rest.0 in
      let rest_high = rest.1 in
      let low = (within n w.0).low in
      let high = (within n w.0).high in
      (omega (arith, ints), omega (arith, ints))

  different_heads : (i j : ℕ) (ns : List ℕ) → PassesNoPointTwice list i j ns → AllDifferent (heads list ns)
  different_heads i j ns s = ⊎_elim (λ (e : i ≡ j). s.ends_meet e) (λ (ne : i ≢ j). (s.ends_apart ne).1) (cases_eq i j)

  pub few_arcs : (i j : ℕ) (ns : List ℕ) → IsWalk list i j ns → PassesNoPointTwice list i j ns → length ns ≤ points
  few_arcs i j ns w s =
      let few = few_different points (heads list ns) (different_heads i j ns s) (heads_below list points (λ n lt. (within n lt).ends) ns (in_range list i j ns w)) in
      let len : length (heads list ns) ≡ length ns = length-map ns (to_at list) in
      omega arith

  pub simple_light : (i j : ℕ) (ns : List ℕ) → IsWalk list i j ns → PassesNoPointTwice list i j ns
      → (length ns ≤ points) × (neg_ℤ (pos (greatest_bound * points)) ≤ℤ weight list ns) × (weight list ns ≤ℤ pos (greatest_bound * points))
  simple_light i j ns w s =
      let few = few_arcs i j ns w s in
      let weighs = walk_weighs i j ns w in
      let low = weighs.0 in
      let high = weighs.1 in
      (few, omega (arith, ints), omega (arith, ints))

-- a network has so few points that this is at most 2^53
pub network_light : (net : Net) → IsNetwork net → (i j : ℕ) (ns : List ℕ) → IsWalk (arcs_of net) i j ns → PassesNoPointTwice (arcs_of net) i j ns
    → (neg_ℤ (pos greatest_walk) ≤ℤ weight (arcs_of net) ns) × (weight (arcs_of net) ns ≤ℤ pos greatest_walk)
network_light net valid i j ns w s =
    let light = simple_light (arcs_of net) (point_count net) (arcs_within net valid) i j ns w s in
    let low = light.1 in
    let high = light.2 in
    let few = valid.few_points in
    (omega (arith, ints), omega (arith, ints))
