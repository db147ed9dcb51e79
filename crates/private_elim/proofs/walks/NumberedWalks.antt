-- Walks of a local problem by the numbers that their arcs have in the network: IsSameWalk, same_walk, still_normal.
use Rattle.std.proofs.Common.{◌≡◌, ℕ, ◌<◌, ◌≤◌, true, List, [], ◌∷◌, length, map, Some, refl, sym, ap, subst, ◌∙◌, arith, ⊎_elim}
use Rattle.std.specs.List.{AllByRecursion}
use Rattle.std.specs.Option.{unwrap_or}
use Rattle.std.proofs.lemmas.Int.{ints}
use Rattle.std.proofs.lemmas.Bool.{cases_lt}
use Rattle.std.proofs.lemmas.List.{length-map}
use Rattle.stn_model.specs.declared.ids.Constraint.{Constraint}
use Rattle.stn_model.specs.Arcs.{arc_at, to_at}
use Rattle.stn_model.specs.Net.{Net, arcs_of}
use Rattle.stn_model.specs.Kinds.{is_own}
use Rattle.stn_model.specs.Walks.{IsWalk, weight, heads, IsNormal}
use Rattle.private_elim.specs.Locals.{LocalView, local_of, local_arc_at, arcs_in}
use Rattle.private_elim.specs.Numbers.{number_in}
use Rattle.private_elim.proofs.locals.LocalFacts.{arc_in_at, number_at, numbers_rise_of_net}

-- a walk of own arcs of the network, with the weight and the points of one of the local problem
pub record IsSameWalk (net : Net) (agent : ℕ) (arcs : List Constraint) (i j : ℕ) (places numbers : List ℕ) : Type 0 where
  pub walk : IsWalk (arcs_of net) i j numbers
  pub weighs : weight (arcs_of net) numbers ≡ weight arcs places
  pub points : heads (arcs_of net) numbers ≡ heads arcs places
  pub own : AllByRecursion (λ n. is_own net agent (arc_at (arcs_of net) n) ≡ true) numbers

-- the number of an own arc of the network that is this one
pub record IsNumberOf (net : Net) (agent : ℕ) (a : Constraint) (n : ℕ) : Type 0 where
  pub within : n < length (arcs_of net)
  pub arc : arc_at (arcs_of net) n ≡ a
  pub own : is_own net agent (arc_at (arcs_of net) n) ≡ true

module _ (v : LocalView) (net : Net) (e : v ≡ local_of net v.agent) where
  -- each arc has its number
  has_number : (k : ℕ) → k < length v.arcs → (local_arc_at v.arcs k).number ≡ Some (number_in v k)
  has_number k lt =
      let known = number_at v net e k lt in
      known.number ∙ ap Some (sym (ap (λ o. unwrap_or o 0) known.number))

  -- which is that of an own arc of the network
  pub number_of : (k : ℕ) → k < length v.arcs → IsNumberOf net v.agent (arc_at (arcs_in v) k) (number_in v k)
  number_of k lt =
      let known = number_at v net e k lt in
      let same : known.place ≡ number_in v k = sym (ap (λ o. unwrap_or o 0) known.number) in
      let place : arc_at (arcs_of net) known.place ≡ arc_at (arcs_in v) k = sym known.arc ∙ sym (arc_in_at v k lt) in
      let own : is_own net v.agent (arc_at (arcs_of net) known.place) ≡ true = ap (is_own net v.agent) (sym known.arc) ∙ known.own in
      subst (IsNumberOf net v.agent (arc_at (arcs_in v) k)) same (record { within = known.below; arc = place; own = own })

  -- the numbers of a walk are a walk
  pub same_walk : (i j : ℕ) (places : List ℕ) → IsWalk (arcs_in v) i j places → IsSameWalk net v.agent (arcs_in v) i j places (map (number_in v) places)
  same_walk i j [] w = record { walk = w; weighs = refl; points = refl; own = tt }
  same_walk i j (k ∷ ks) w =
      let here = number_of k (omega (arith, w.0, length-map v.arcs (λ a. a.arc))) in
      let rest = same_walk (to_at (arcs_in v) k) j ks w.2 in
      let numbers = map (number_in v) ks in
      let start = ap (λ (a : Constraint). a.from.0) here.arc in
      let end = ap (λ (a : Constraint). a.to.0) here.arc in
      let bound = ap (λ (a : Constraint). a.bound) here.arc in
      record {
        walk = (here.within, start ∙ w.1, subst (λ (p : ℕ). IsWalk (arcs_of net) p j numbers) (sym end) rest.walk);
        weighs = omega (arith, ints, bound, rest.weighs);
        points = ap (λ p. p ∷ heads (arcs_of net) numbers) end ∙ ap (λ ps. to_at (arcs_in v) k ∷ ps) rest.points;
        own = (here.own, rest.own);
      }

  -- the numbers rise with the places
  rises_with : (k m : ℕ) → k ≤ m → m < length v.arcs → number_in v k ≤ number_in v m
  rises_with k m low lt =
      ⊎_elim
      (λ (less : k < m).
      let more = numbers_rise_of_net v net e k m (number_in v k) (number_in v m) less lt (has_number k (omega arith)) (has_number m lt) in
      omega arith)
      (λ (more : m ≤ k).
      let same : k ≡ m = omega arith in
      omega (arith, ap (number_in v) same))
      (cases_lt k m)

  still_least : (k : ℕ) (places : List ℕ) → AllByRecursion (λ m. m < length v.arcs) places → AllByRecursion (λ m. k ≤ m) places
      → AllByRecursion (λ n. number_in v k ≤ n) (map (number_in v) places)
  still_least k [] within least = tt
  still_least k (m ∷ ms) within least = (rises_with k m least.0 within.0, still_least k ms within.1 least.1)

  -- so the least place has the least number
  pub still_normal : (places : List ℕ) → AllByRecursion (λ m. m < length v.arcs) places → IsNormal places → IsNormal (map (number_in v) places)
  still_normal [] within normal = tt
  still_normal (k ∷ ks) within normal = still_least k ks within.1 normal
