-- A network with another bound at one of its given arcs, beside the network and beside others of this kind.
use Rattle.std.proofs.Common.{◌≡◌, ◌≢◌, ◌↔◌, ℕ, ◌+◌, ◌-◌, ◌*◌, ◌<◌, ⊎_elim, ℤ, pos, neg_ℤ, ◌-ℤ◌, ◌≤ℤ◌, ◌<ℤ◌, IsTrue, true, false, int_le, nat_le, nat_lt, ◌&&◌, List, length, set, get_or-set_same, length-set, refl, sym, ap, subst, ◌∙◌, arith}
use Rattle.std.specs.List.{Contains}
use Rattle.std.proofs.lemmas.Bool.{cases_eq}
use Rattle.std.proofs.lemmas.Int.{ints}
use Rattle.std.proofs.lemmas.List.{set-set}
use Rattle.stn_model.specs.declared.ids.Constraint.{Constraint}
use Rattle.stn_model.specs.Arcs.{arc_at, from_at, to_at, bound_at, no_arc}
use Rattle.stn_model.specs.Net.{Net, arcs_of, point_count, fixed_count, is_given, with_bound}
use Rattle.stn_model.specs.Schedules.{Satisfies, IsConsistent, IsLeastBound, time_at}
use Rattle.stn_model.specs.Valid.{IsNetwork}
use Rattle.stn_model.specs.Walks.{IsNegativeCycle}
use Rattle.stn_model.proofs.ArcLemmas.{given_at, arc_even, arc_odd, lower_arc, upper_arc}
use Rattle.stn_model.proofs.BoundLemmas.{bound_is_set}
use Rattle.stn_model.proofs.NetLemmas.{length-arcs_of}
use Rattle.stn_walk.specs.Detours.{IsWithdrawn}
use Rattle.least_repair.specs.Loosened.{without, IsLeastEnough}
use Rattle.least_repair.proofs.Differ.{DifferAt, DifferAt-set, DifferAt-sym, satisfies_other, cycle_of_both, enough_is_consistent, less_is_inconsistent}

module _ (net : Net) (n : ℕ) (given : IsTrue (is_given net n)) where
  -- a given arc is an arc
  pub given_in_range : n < length (arcs_of net)
  given_in_range =
      let places = given_at (fixed_count net) n (length net.given) given in
      let low = places.0 in
      let high = places.1 in
      omega (arith, length-arcs_of net)

  pub DifferAt-bound : (b : ℤ) → DifferAt n (arcs_of net) (arcs_of (with_bound net n b))
  DifferAt-bound b = subst (DifferAt n (arcs_of net)) (sym (bound_is_set net n b given)) (DifferAt-set (arcs_of net) n b given_in_range)

  pub bound_of_set : (b : ℤ) → bound_at (arcs_of (with_bound net n b)) n ≡ b
  bound_of_set b =
      ap (λ arcs. bound_at arcs n) (bound_is_set net n b given)
      ∙ ap (λ (a : Constraint). a.bound) (get_or-set_same (arcs_of net) n (record (arc_at (arcs_of net) n) { bound = b }) no_arc given_in_range)

  -- the last bound counts
  pub with_bound-twice : (a b : ℤ) → with_bound (with_bound net n a) n b ≡ with_bound net n b
  with_bound-twice a b =
      let places = given_at (fixed_count net) n (length net.given) given in
      let low = places.0 in
      let high = places.1 in
      let place = n - fixed_count net in
      let first : Constraint = record (arc_at net.given place) { bound = a } in
      let second : Constraint = record (arc_at net.given place) { bound = b } in
      let is : arc_at (set net.given place first) place ≡ first = get_or-set_same net.given place first no_arc (omega arith) in
      ap (λ (list : List Constraint). record net { given = list })
      (ap (λ (arc : Constraint). set (set net.given place first) place (record arc { bound = b })) is ∙ set-set net.given place first second)

  -- the arc is still given
  pub is_given-bound : (b : ℤ) → IsTrue (is_given (with_bound net n b) n)
  is_given-bound b =
      let many = length-set net.given (n - fixed_count net) (record (arc_at net.given (n - fixed_count net)) { bound = b }) in
      subst (λ (l : ℕ). IsTrue (nat_le (fixed_count net) n && nat_lt n (fixed_count net + l))) (sym many) given

module _ (net : Net) (valid : IsNetwork net) where
  -- times lie from 0 to the horizon
  within_horizon : (times : List ℤ) → Satisfies (point_count net) (arcs_of net) times → (p : ℕ) → p < point_count net
      → (pos 0 ≤ℤ time_at times p) × (time_at times p ≤ℤ net.horizon)
  within_horizon times sat p within =
      let high = valid.horizon_low in
      let first = sat.first in
      ⊎_elim
      (λ (e : p ≡ 0). let t = ap (time_at times) e in (omega (arith, ints), omega (arith, ints)))
      (λ (away : p ≢ 0).
      let lower : arc_at (arcs_of net) (2 * p - 1) ≡ lower_arc p = arc_odd net (2 * p - 1) (omega arith) (omega arith) ∙ ap lower_arc (omega arith) in
      let upper : arc_at (arcs_of net) (2 * p - 2) ≡ upper_arc net.horizon p =
      arc_even net (2 * p - 2) (omega arith) (omega arith) ∙ ap (upper_arc net.horizon) (omega arith) in
      let one : (time_at times 0 -ℤ time_at times p) ≤ℤ pos 0 = subst Kept lower (sat.keeps (2 * p - 1) (omega (arith, length-arcs_of net))) in
      let two : (time_at times p -ℤ time_at times 0) ≤ℤ net.horizon = subst Kept upper (sat.keeps (2 * p - 2) (omega (arith, length-arcs_of net))) in
      (omega (arith, ints), omega (arith, ints)))
      (cases_eq p 0)
    where
      Kept : Constraint → Type 0
      Kept a = (time_at times a.to.0 -ℤ time_at times a.from.0) ≤ℤ a.bound

  -- a least bound lies within the horizon, either way
  pub least_within : (i j : ℕ) → i < point_count net → j < point_count net → (b : ℤ) → IsLeastBound (point_count net) (arcs_of net) i j b
      → (neg_ℤ net.horizon ≤ℤ b) × (b ≤ℤ net.horizon)
  least_within i j i_in j_in b least =
      let start = within_horizon least.times least.satisfies i i_in in
      let end = within_horizon least.times least.satisfies j j_in in
      let start_low = start.0 in
      let start_high = start.1 in
      let end_low = end.0 in
      let end_high = end.1 in
      let attains = least.attains in
      (omega (arith, ints), omega (arith, ints))

-- the withdrawn arc's least bound the other way round, with the sign changed, is the least bound that is enough
module _ (net : Net) (n : ℕ) (withdrawn : IsWithdrawn net n) (enough : ℤ)
    (least : IsLeastBound (point_count net) (arcs_of net) (to_at (arcs_of net) n) (from_at (arcs_of net) n) (neg_ℤ enough)) where
  pub IsLeastEnough-back : enough ≤ℤ net.horizon → IsLeastEnough net n enough
  IsLeastEnough-back high b =
      let given = withdrawn.0 in
      let free = withdrawn.1 in
      let is = bound_of_set net n given b in
      let beside = DifferAt-bound net n given b in (
        λ le. enough_is_consistent n (arcs_of net) (arcs_of (with_bound net n b)) beside (point_count net) enough least (omega (arith, ints)),
        λ s. not_less enough b (λ less.
            less_is_inconsistent n (arcs_of net) (arcs_of (with_bound net n b)) beside (point_count net) enough least (given_in_range net n given)
            (omega (arith, ints)) (omega (arith, ints)) s),
      )
    where
      not_less : (a b : ℤ) → (b <ℤ a → ⊥) → a ≤ℤ b
      not_less a b h =
          elim (int_le a b) as (λ t. int_le a b ≡ t → a ≤ℤ b) [
            | true ↦ λ t. omega (arith, ints)
            | false ↦ λ t. absurd (h (omega (arith, ints)))
          ] refl

module _ (net : Net) (n : ℕ) (given : IsTrue (is_given net n)) where
  -- so it is of the network whose arc was withdrawn
  pub IsLeastEnough-without : (enough : ℤ) → IsLeastEnough (without net n) n enough → IsLeastEnough net n enough
  IsLeastEnough-without enough h b =
      subst (λ (other : Net). (enough ≤ℤ b) ↔ IsConsistent (point_count other) (arcs_of other)) (with_bound-twice net n given net.horizon b) (h b)

  -- the network's own bound is less where no schedule satisfies it
  pub own_is_less : (enough : ℤ) → IsLeastEnough net n enough → (IsConsistent (point_count net) (arcs_of net) → ⊥) → bound_at (arcs_of net) n <ℤ enough
  own_is_less enough h none =
      let own = bound_at (arcs_of net) n in
      elim (int_le enough own) as (λ t. int_le enough own ≡ t → own <ℤ enough) [
        | true ↦ λ t.
            let s = (h own).0 (omega (arith, ints)) in
            let beside = DifferAt-sym n (arcs_of net) (arcs_of (with_bound net n own)) (DifferAt-bound net n given own) in
            let kept = s.1.keeps n (given_in_range (with_bound net n own) n (is_given-bound net n given own)) in
            let is = bound_of_set net n given own in
            let from = ap (time_at s.0) beside.starts in
            let to = ap (time_at s.0) beside.ends in
            absurd (none (s.0, satisfies_other n (arcs_of (with_bound net n own)) (arcs_of net) beside (point_count net) s.0 s.1 (omega (arith, ints))))
        | false ↦ λ t. omega (arith, ints)
      ] refl

  -- a bound that is set last
  pub set_last : (other new : Net) (a b c : ℤ) → other ≡ with_bound net n a → new ≡ with_bound other n c → c ≡ b → new ≡ with_bound net n b
  set_last other new a b c is set same =
      set ∙ ap (λ (o : Net). with_bound o n c) is ∙ with_bound-twice net n given a c ∙ ap (with_bound net n) same

  -- the withdrawn arc of a copy
  pub without_copy : (copy other : Net) → copy ≡ net → other ≡ with_bound copy n copy.horizon → other ≡ without net n
  without_copy copy other same set = set ∙ ap (λ (o : Net). with_bound o n o.horizon) same

  pub IsWithdrawn-without : IsWithdrawn (without net n) n
  IsWithdrawn-without = (is_given-bound net n given net.horizon, bound_of_set net n given net.horizon)

  -- a negative cycle that does not name the arc is one of both networks
  pub cycle_without : (walk : List ℕ) → (Contains walk n → ⊥) → IsNegativeCycle (arcs_of (without net n)) walk → IsNegativeCycle (arcs_of net) walk
  cycle_without walk unnamed cycle =
      let beside = DifferAt-bound net n given net.horizon in
      cycle_of_both n (arcs_of (without net n)) (arcs_of net) (DifferAt-sym n (arcs_of net) (arcs_of (without net n)) beside) walk unnamed cycle
