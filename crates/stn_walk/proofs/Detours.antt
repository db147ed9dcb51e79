-- Walks round withdrawn arcs: the arcs with z that stand for one, and a walk with an arc replaced.
use Rattle.std.proofs.Common.{◌≡◌, ℕ, ◌+◌, ◌-◌, ◌*◌, ◌/◌, ◌%◌, ◌<◌, ◌≤◌, ℤ, pos, ◌+ℤ◌, ◌≤ℤ◌, Bool, true, false, nat_eq, IsTrue, List, [], ◌∷◌, ◌++◌, length, get_or, get_or-set_same, get_or-set_other, length-set, set, drop, replicate, ◌≢◌, ⊎_elim, refl, sym, ap, subst, ◌∙◌, arith, if◌then◌else◌}
use Rattle.std.specs.List.{All, Contains}
use Rattle.std.proofs.lemmas.Int.{ints}
use Rattle.std.proofs.lemmas.Bool.Decides.{nat_tests}
use Rattle.std.proofs.lemmas.Bool.{cases_eq, cases_lt, false≢true}
use Rattle.std.proofs.lemmas.List.{drop_more, drop_all, append-nil, get_or-replicate, get_or_past, length-replicate}
use Rattle.std.proofs.lemmas.List.Elements.{All-append, All-push, All-weaker, All-contains, Contains-push, Contains-append_left}
use Rattle.stn_model.specs.declared.ids.Constraint.{Constraint}
use Rattle.stn_model.specs.Arcs.{arc_at, from_at, to_at, bound_at}
use Rattle.stn_model.specs.Net.{Net, arcs_of, fixed_count, point_count, is_given}
use Rattle.stn_model.specs.Valid.{IsNetwork, IsArcWithin}
use Rattle.stn_model.specs.Walks.{IsWalk, weight}
use Rattle.stn_model.proofs.ArcLemmas.{upper_arc, lower_arc, arc_even, arc_odd, given_at}
use Rattle.stn_model.proofs.NetLemmas.{length-arcs_of}
use Rattle.stn_model.proofs.WalkLemmas.{IsWalk-append, IsWalk-front, IsWalk-back, weight-append}
use Rattle.stn_walk.specs.Detours.{IsWithdrawn, Avoids, AreFlagsOf, to_z, from_z, detour}

-- no number is flagged at first
pub AreFlagsOf-none : (count : ℕ) → AreFlagsOf count [] (replicate count false)
AreFlagsOf-none count = record {
  size = length-replicate count false;
  set = λ k d lt. absurd (omega arith);
  alone = λ n t. absurd (false≢true (sym (unset n) ∙ t));
}
  where
    unset : (n : ℕ) → get_or (replicate count false) n false ≡ false
    unset n = ⊎_elim
        (λ (lt : n < count). get_or-replicate count n false false lt)
        (λ (le : count ≤ n). get_or_past (replicate count false) n false (omega (arith, length-replicate count false)))
        (cases_lt n count)

-- one more number is flagged
pub AreFlagsOf-push : (count : ℕ) (listed : List ℕ) (n : ℕ) (flags : List Bool) → n < count → AreFlagsOf count listed flags → AreFlagsOf count (listed ++ n ∷ []) (set flags n true)
AreFlagsOf-push count listed n flags lt h =
    let here : get_or (set flags n true) n false ≡ true = get_or-set_same flags n true false (omega (arith, h.size)) in
    record {
      size = length-set flags n true ∙ h.size;
      set = All-push (λ m. get_or (set flags n true) m false ≡ true) listed n
          (All-weaker (λ m. get_or flags m false ≡ true) (λ m. get_or (set flags n true) m false ≡ true)
          (λ m t. ⊎_elim
          (λ (e : m ≡ n). ap (λ q. get_or (set flags n true) q false) e ∙ here)
          (λ (other : m ≢ n). get_or-set_other flags n m true false other ∙ t)
          (cases_eq m n))
          listed h.set)
          here;
      alone = λ m t. ⊎_elim
          (λ (e : m ≡ n). subst (Contains (listed ++ n ∷ [])) (sym e) (Contains-push listed n))
          (λ (other : m ≢ n). Contains-append_left listed (n ∷ []) m (h.alone m (sym (get_or-set_other flags n m true false other) ∙ t)))
          (cases_eq m n);
    }

-- a walk that weighs at most so much, of arcs that were not given
pub record IsFixedWalk (net : Net) (i j : ℕ) (most : ℤ) (ns : List ℕ) : Type 0 where
  pub walk : IsWalk (arcs_of net) i j ns
  pub weighs : weight (arcs_of net) ns ≤ℤ most
  pub fixed : All (λ n. n < fixed_count net) ns

module _ (net : Net) where
  -- the two arcs of a point with z
  lower_at : (p : ℕ) → 0 < p → p < point_count net → arc_at (arcs_of net) (2 * p - 1) ≡ lower_arc p
  lower_at p low high = (let half : (2 * p - 1) / 2 + 1 ≡ p = omega arith in arc_odd net (2 * p - 1) (omega arith) (omega arith) ∙ ap lower_arc half)

  upper_at : (p : ℕ) → 0 < p → p < point_count net → arc_at (arcs_of net) (2 * p - 2) ≡ upper_arc net.horizon p
  upper_at p low high = (let half : (2 * p - 2) / 2 + 1 ≡ p = omega arith in arc_even net (2 * p - 2) (omega arith) (omega arith) ∙ ap (upper_arc net.horizon) half)

  -- an arc that was not given is a walk by itself
  one_arc : (n i j : ℕ) (b : ℤ) → n < fixed_count net → arc_at (arcs_of net) n ≡ record { from = record { 0 = i }; to = record { 0 = j }; bound = b } → IsFixedWalk net i j b (n ∷ [])
  one_arc n i j b lt is =
      let bound : bound_at (arcs_of net) n ≡ b = ap (λ a. a.bound) is in
      record {
        walk = (omega (arith, length-arcs_of net), ap (λ a. a.from.0) is, ap (λ a. a.to.0) is);
        weighs = omega (arith, ints);
        fixed = λ k d below. single k d below;
      }
    where
      single : (k d : ℕ) → k < 1 → get_or (n ∷ []) k d < fixed_count net
      single k d below = (let first : k ≡ 0 = omega arith in rw first lt)

  goes_to_z : (i : ℕ) → i < point_count net → IsFixedWalk net i 0 (pos 0) (to_z i)
  goes_to_z i lt =
      elim (nat_eq i 0) as (λ b. nat_eq i 0 ≡ b → IsFixedWalk net i 0 (pos 0) (if b then [] else (2 * i - 1) ∷ [])) [
        | true ↦ λ t. record { walk = grind (arith, nat_tests); weighs = omega (arith, ints); fixed = λ k d below. absurd (omega arith) }
        | false ↦ λ t. let low : 0 < i = grind (arith, nat_tests) in one_arc (2 * i - 1) i 0 (pos 0) (omega arith) (lower_at i low lt)
      ] refl

  goes_from_z : pos 0 ≤ℤ net.horizon → (j : ℕ) → j < point_count net → IsFixedWalk net 0 j net.horizon (from_z j)
  goes_from_z horizon j lt =
      elim (nat_eq j 0) as (λ b. nat_eq j 0 ≡ b → IsFixedWalk net 0 j net.horizon (if b then [] else (2 * j - 2) ∷ [])) [
        | true ↦ λ t. record { walk = grind (arith, nat_tests); weighs = omega (arith, ints); fixed = λ k d below. absurd (omega arith) }
        | false ↦ λ t. let low : 0 < j = grind (arith, nat_tests) in one_arc (2 * j - 2) 0 j net.horizon (omega arith) (upper_at j low lt)
      ] refl

  -- over z each point is reached within the horizon
  pub goes_round : pos 0 ≤ℤ net.horizon → (i j : ℕ) → i < point_count net → j < point_count net → IsFixedWalk net i j net.horizon (detour i j)
  goes_round horizon i j i_in j_in =
      let there = goes_to_z i i_in in
      let back = goes_from_z horizon j j_in in
      let one = there.weighs in
      let two = back.weighs in
      record {
        walk = IsWalk-append (arcs_of net) i 0 j (to_z i) (from_z j) there.walk back.walk;
        weighs = omega (arith, ints, weight-append (arcs_of net) (to_z i) (from_z j));
        fixed = All-append (λ n. n < fixed_count net) (to_z i) (from_z j) there.fixed back.fixed;
      }

module _ (list : List Constraint) (i j : ℕ) (front part rest : List ℕ) (n : ℕ) where
  -- a walk between the ends of an arc may stand for it
  replaced_walk : IsWalk list (from_at list n) (to_at list n) part → IsWalk list i j (front ++ n ∷ rest) → IsWalk list i j ((front ++ part) ++ rest)
  replaced_walk goes w =
      let before = IsWalk-front list i j front (n ∷ rest) w in
      let after = IsWalk-back list i j front (n ∷ rest) w in
      IsWalk-append list i (to_at list n) j (front ++ part) rest
      (IsWalk-append list i (from_at list n) (to_at list n) front part (subst (λ q. IsWalk list i q front) (sym after.1) before) goes) after.2

  replaced_weight : weight list part ≤ℤ bound_at list n → weight list ((front ++ part) ++ rest) ≤ℤ weight list (front ++ n ∷ rest)
  replaced_weight light =
      omega (arith, ints, weight-append list (front ++ part) rest, weight-append list front part, weight-append list front (n ∷ rest))

-- so far: with what is left of the walk the new list is a walk that is no heavier, and it names no listed arc
pub record IsRerouted (list : List Constraint) (from to : ℕ) (ns listed : List ℕ) (i : ℕ) (round : List ℕ) : Type 0 where
  pub walk : IsWalk list from to (round ++ drop i ns)
  pub weighs : weight list (round ++ drop i ns) ≤ℤ weight list ns
  pub avoids : Avoids listed round

module _ (list : List Constraint) (from to : ℕ) (ns listed : List ℕ) (i : ℕ) (round : List ℕ) (lt : i < length ns) (h : IsRerouted list from to ns listed i round) where
  ahead : IsWalk list from to (round ++ get_or ns i 0 ∷ drop (i + 1) ns)
  ahead = subst (λ xs. IsWalk list from to (round ++ xs)) (drop_more ns i 0 lt) h.walk

  -- the next arc begins where the new list ends
  pub next_in : get_or ns i 0 < length list
  next_in = (IsWalk-back list from to round (get_or ns i 0 ∷ drop (i + 1) ns) ahead).0

  -- it is replaced by a walk that avoids the listed arcs
  pub IsRerouted-step : (part new : List ℕ) → new ≡ round ++ part → IsWalk list (from_at list (get_or ns i 0)) (to_at list (get_or ns i 0)) part
      → weight list part ≤ℤ bound_at list (get_or ns i 0) → Avoids listed part → IsRerouted list from to ns listed (i + 1) new
  IsRerouted-step part new is goes light avoids =
      let lighter = replaced_weight list from to round part (drop (i + 1) ns) (get_or ns i 0) light in
      let old = h.weighs in
      let same : weight list (round ++ drop i ns) ≡ weight list (round ++ get_or ns i 0 ∷ drop (i + 1) ns) = ap (λ xs. weight list (round ++ xs)) (drop_more ns i 0 lt) in
      subst (IsRerouted list from to ns listed (i + 1)) (sym is)
      (record {
        walk = replaced_walk list from to round part (drop (i + 1) ns) (get_or ns i 0) goes ahead;
        weighs = omega (arith, ints);
        avoids = All-append (λ n. Contains listed n → ⊥) round part h.avoids avoids;
      })

  -- where the arc avoids the listed ones it stays
  pub IsRerouted-same : Avoids listed (get_or ns i 0 ∷ []) → (new : List ℕ) → new ≡ round ++ get_or ns i 0 ∷ [] → IsRerouted list from to ns listed (i + 1) new
  IsRerouted-same avoids new is = IsRerouted-step (get_or ns i 0 ∷ []) new is (next_in, refl, refl) (omega (arith, ints)) avoids

-- at the end the whole walk is replaced
pub IsRerouted-end : (list : List Constraint) (from to : ℕ) (ns listed : List ℕ) (i : ℕ) (round : List ℕ) → length ns ≤ i → IsRerouted list from to ns listed i round
    → IsWalk list from to round × (weight list round ≤ℤ weight list ns) × Avoids listed round
IsRerouted-end list from to ns listed i round le h =
    let whole : round ++ drop i ns ≡ round = ap (λ xs. round ++ xs) (drop_all i ns le) ∙ append-nil round in
    (subst (IsWalk list from to) whole h.walk, subst (λ xs. weight list xs ≤ℤ weight list ns) whole h.weighs, h.avoids)

module _ (net : Net) (listed : List ℕ) (withdrawn : All (IsWithdrawn net) listed) where
  -- listed arcs are given, and so in range
  pub listed_in_range : All (λ n. n < length (arcs_of net)) listed
  listed_in_range k d lt =
      let given = given_at (fixed_count net) (get_or listed k d) (length net.given) (withdrawn k d lt).0 in
      let low = given.0 in
      let high = given.1 in
      omega (arith, length-arcs_of net)

  -- no arc that was not given is listed
  pub fixed_avoid : (ns : List ℕ) → All (λ n. n < fixed_count net) ns → Avoids listed ns
  fixed_avoid = All-weaker (λ n. n < fixed_count net) (λ n. Contains listed n → ⊥) (λ n lt there.
      let low = (given_at (fixed_count net) n (length net.given) (All-contains (IsWithdrawn net) listed n withdrawn there).0).0 in
      absurd (omega arith))

  -- an arc without a flag stays
  pub unflagged_avoids : (count n : ℕ) (flags : List Bool) → AreFlagsOf count listed flags → get_or flags n false ≡ false → Avoids listed (n ∷ [])
  unflagged_avoids count n flags h off k d lt there =
      let first : k ≡ 0 = omega arith in
      let same : get_or (n ∷ []) k d ≡ n = ap (λ j. get_or (n ∷ []) j d) first in
      false≢true (sym off ∙ All-contains (λ m. get_or flags m false ≡ true) listed n h.set (subst (Contains listed) same there))

  module _ (valid : IsNetwork net) (from to : ℕ) (ns : List ℕ) (i : ℕ) (round : List ℕ) (lt : i < length ns) (h : IsRerouted (arcs_of net) from to ns listed i round) where
    -- a listed arc is replaced by the way over z
    pub IsRerouted-round : (count : ℕ) (flags : List Bool) → AreFlagsOf count listed flags → get_or flags (get_or ns i 0) false ≡ true
        → (a : Constraint) → a ≡ arc_at (arcs_of net) (get_or ns i 0) → IsArcWithin (point_count net) a
        → (new : List ℕ) → new ≡ round ++ detour a.from.0 a.to.0 → IsRerouted (arcs_of net) from to ns listed (i + 1) new
    IsRerouted-round count flags marks on a is within new new_is =
        let goes = goes_round net valid.horizon_low a.from.0 a.to.0 within.starts within.ends in
        let bound = (All-contains (IsWithdrawn net) listed (get_or ns i 0) withdrawn (marks.alone (get_or ns i 0) on)).1 in
        IsRerouted-step (arcs_of net) from to ns listed i round lt h (detour a.from.0 a.to.0) new new_is
        (subst (λ b. IsWalk (arcs_of net) b.from.0 b.to.0 (detour a.from.0 a.to.0)) is goes.walk)
        (subst (λ b. weight (arcs_of net) (detour a.from.0 a.to.0) ≤ℤ b) (sym bound) goes.weighs)
        (fixed_avoid (detour a.from.0 a.to.0) goes.fixed)
