-- Two lists of arcs that differ in the bound of one arc at most: what schedules and walks they share, and the least bound that is enough.
use Rattle.std.proofs.Common.{◌≡◌, ◌≢◌, ℕ, suc, ◌<◌, ℤ, pos, neg_ℤ, ◌+ℤ◌, ◌-ℤ◌, ◌≤ℤ◌, ◌<ℤ◌, List, [], ◌∷◌, length, set, get_or-set_other, get_or-set_same, length-set, refl, sym, ap, ap₂, subst, ◌∙◌, ⊎_elim, arith}
use Rattle.std.specs.List.{Contains}
use Rattle.std.proofs.lemmas.Int.{ints}
use Rattle.std.proofs.lemmas.Bool.{cases_eq}
use Rattle.stn_model.specs.declared.ids.Constraint.{Constraint}
use Rattle.stn_model.specs.Arcs.{arc_at, from_at, to_at, bound_at, no_arc}
use Rattle.stn_model.specs.Schedules.{Satisfies, IsConsistent, IsLeastBound, time_at}
use Rattle.stn_model.specs.Walks.{IsWalk, weight, heads, AllDifferent, IsNegativeCycle}
use Rattle.stn_model.proofs.WalkLemmas.{weight_bounds}

-- the arc of that number has the same ends in both, and every other arc is the same
pub record DifferAt (n : ℕ) (xs ys : List Constraint) : Type 0 where
  pub as_many : length xs ≡ length ys
  pub starts : from_at xs n ≡ from_at ys n
  pub ends : to_at xs n ≡ to_at ys n
  pub others : (k : ℕ) → k ≢ n → arc_at xs k ≡ arc_at ys k

-- as where that bound is set
pub DifferAt-set : (xs : List Constraint) (n : ℕ) (b : ℤ) → n < length xs → DifferAt n xs (set xs n (record (arc_at xs n) { bound = b }))
DifferAt-set xs n b lt =
    let new : Constraint = record (arc_at xs n) { bound = b } in
    let is : arc_at (set xs n new) n ≡ new = get_or-set_same xs n new no_arc lt in
    record {
      as_many = sym (length-set xs n new);
      starts = sym (ap (λ a. a.from.0) is);
      ends = sym (ap (λ a. a.to.0) is);
      others = λ k other. sym (get_or-set_other xs n k new no_arc other);
    }

pub DifferAt-sym : (n : ℕ) (xs ys : List Constraint) → DifferAt n xs ys → DifferAt n ys xs
DifferAt-sym n xs ys d = record { as_many = sym d.as_many; starts = sym d.starts; ends = sym d.ends; others = λ k other. sym (d.others k other) }

-- the first number of a list is in it, and so is each of the rest
Contains-first : (m : ℕ) (ns : List ℕ) → Contains (m ∷ ns) m
Contains-first m ns = (0, omega arith, refl)

Contains-rest : (m n : ℕ) (ns : List ℕ) → Contains ns n → Contains (m ∷ ns) n
Contains-rest m n ns here = (suc here.0, (let lt = here.1 in omega arith), here.2)

module _ (n : ℕ) (xs ys : List Constraint) (d : DifferAt n xs ys) where
  -- a schedule of the one that keeps the arc of the other satisfies the other
  pub satisfies_other : (points : ℕ) (times : List ℤ) → Satisfies points xs times
      → (time_at times (to_at ys n) -ℤ time_at times (from_at ys n)) ≤ℤ bound_at ys n → Satisfies points ys times
  satisfies_other points times s keeps =
      record {
        one_each = s.one_each;
        first = s.first;
        keeps = λ k lt. ⊎_elim
            (λ (e : k ≡ n). subst (λ (m : ℕ). (time_at times (to_at ys m) -ℤ time_at times (from_at ys m)) ≤ℤ bound_at ys m) (sym e) keeps)
            (λ (other : k ≢ n).
            let many = d.as_many in
            subst (λ (a : Constraint). (time_at times a.to.0 -ℤ time_at times a.from.0) ≤ℤ a.bound) (d.others k other) (s.keeps k (omega arith)))
            (cases_eq k n);
      }

  -- a walk that does not name the arc is a walk of both
  walk_of_both : (i j : ℕ) (ns : List ℕ) → (Contains ns n → ⊥) → IsWalk xs i j ns → IsWalk ys i j ns
  walk_of_both i j [] unnamed w = w
  walk_of_both i j (m ∷ ns) unnamed w =
      let same = d.others m (λ e. unnamed (subst (Contains (m ∷ ns)) e (Contains-first m ns))) in (
        subst (λ (l : ℕ). m < l) d.as_many w.0,
        sym (ap (λ a. a.from.0) same) ∙ w.1,
        subst (λ (p : ℕ). IsWalk ys p j ns) (ap (λ a. a.to.0) same)
            (walk_of_both (to_at xs m) j ns (λ here. unnamed (Contains-rest m n ns here)) w.2),
      )

  weight_of_both : (ns : List ℕ) → (Contains ns n → ⊥) → weight xs ns ≡ weight ys ns
  weight_of_both [] unnamed = refl
  weight_of_both (m ∷ ns) unnamed =
      let same = d.others m (λ e. unnamed (subst (Contains (m ∷ ns)) e (Contains-first m ns))) in
      ap₂ (λ (x y : ℤ). x +ℤ y) (ap (λ a. a.bound) same) (weight_of_both ns (λ here. unnamed (Contains-rest m n ns here)))

  heads_of_both : (ns : List ℕ) → (Contains ns n → ⊥) → heads xs ns ≡ heads ys ns
  heads_of_both [] unnamed = refl
  heads_of_both (m ∷ ns) unnamed =
      let same = d.others m (λ e. unnamed (subst (Contains (m ∷ ns)) e (Contains-first m ns))) in
      ap₂ (λ (p : ℕ) (ps : List ℕ). p ∷ ps) (ap (λ a. a.to.0) same) (heads_of_both ns (λ here. unnamed (Contains-rest m n ns here)))

  -- so is a negative cycle
  pub cycle_of_both : (ns : List ℕ) → (Contains ns n → ⊥) → IsNegativeCycle xs ns → IsNegativeCycle ys ns
  cycle_of_both ns unnamed c =
      record {
        start = c.start;
        walk = walk_of_both c.start c.start ns unnamed c.walk;
        simple = subst AllDifferent (heads_of_both ns unnamed) c.simple;
        negative = subst (λ (w : ℤ). w <ℤ pos 0) (weight_of_both ns unnamed) c.negative;
      }

module _ (n : ℕ) (xs ys : List Constraint) (d : DifferAt n xs ys) (points : ℕ) (enough : ℤ)
    (least : IsLeastBound points xs (to_at xs n) (from_at xs n) (neg_ℤ enough)) where
  -- with that bound of the arc, or a greater one, some schedule satisfies the other list
  pub enough_is_consistent : enough ≤ℤ bound_at ys n → IsConsistent points ys
  enough_is_consistent le =
      let from = ap (time_at least.times) d.starts in
      let to = ap (time_at least.times) d.ends in
      let attains = least.attains in
      (least.times, satisfies_other n xs ys d points least.times least.satisfies (omega (arith, ints)))

  -- with a lesser one none does, where the first list allows that bound
  pub less_is_inconsistent : n < length xs → enough ≤ℤ bound_at xs n → bound_at ys n <ℤ enough → IsConsistent points ys → ⊥
  less_is_inconsistent lt le less s =
      let many = d.as_many in
      let from = ap (time_at s.0) d.starts in
      let to = ap (time_at s.0) d.ends in
      let kept = s.1.keeps n (omega arith) in
      let sat = satisfies_other n ys xs (DifferAt-sym n xs ys d) points s.0 s.1 (omega (arith, ints)) in
      let back = weight_bounds xs s.0 sat.keeps (to_at xs n) (from_at xs n) least.walk least.is_walk in
      let weighs = least.weighs in
      absurd (omega (arith, ints))
