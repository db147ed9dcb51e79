-- Two points with which an earlier one is joined are joined with each other, and which of two points comes first.
--   joined_over      two later neighbours of a point are joined
--   same_place       no two points have the same place in an order
--   not_before       a point that does not come before another one of the order comes after it
use Rattle.std.proofs.Common.{suc, ◌≡◌, ◌≢◌, ℕ, ◌+◌, ◌<◌, ◌≤◌, List, [], ◌∷◌, Bool, true, false, not, cond, length, refl, arith, ⊎_elim}
use Rattle.std.specs.Prelude.{nat_eq}
use Rattle.std.proofs.lemmas.Bool.{cases_lt}
use Rattle.std.proofs.lemmas.Bool.Decides.{nat_tests}
use Rattle.stn_model.specs.declared.ids.Constraint.{Constraint}
use Rattle.stn_model.specs.Joined.{ComesBefore, IsJoined}
use Rattle.stn_walk.specs.Eliminations.{is_in}
use Rattle.conflict_cycle.proofs.HiddenPaths.{PathBy, path-turned, path-through, path-over}
use Rattle.conflict_cycle.proofs.LaidParts.{laid_place, place_within}

module _ (arcs : List Constraint) (order : List ℕ) (i j m : ℕ) (near : IsJoined arcs order i j) (far : IsJoined arcs order i m)
    (first : ComesBefore order i j) (later : ComesBefore order i m) where
  -- before both of the later neighbours
  abbrev Early : ℕ → Type 0
  Early p = ComesBefore order p m × ComesBefore order p j

  -- what comes before the point comes before both
  to_near : PathBy Early arcs i j
  to_near =
      path-over (λ p. ComesBefore order p i × ComesBefore order p j) Early arcs arcs i j (λ a h. h)
      (λ p h. (let one = h.0 in let two = h.1 in (omega arith, two))) near.inner near.path near.before

  to_far : PathBy Early arcs i m
  to_far =
      path-over (λ p. ComesBefore order p i × ComesBefore order p m) Early arcs arcs i m (λ a h. h)
      (λ p h. (let one = h.0 in let two = h.1 in (two, omega arith))) far.inner far.path far.before

  pub joined_over : m ≢ j → IsJoined arcs order m j
  joined_over apart =
      let path = path-through Early arcs m i j (later, first) (path-turned Early arcs i m to_far) to_near in
      record { different = apart; inner = path.0; path = path.1; before = path.2 }

pub same_place : (xs : List ℕ) (p q : ℕ) → laid_place xs p ≡ laid_place xs q → laid_place xs q < length xs → p ≡ q
same_place [] p q same low = absurd (omega arith)
same_place (x ∷ xs) p q same low = go (nat_eq p x) (nat_eq q x) refl refl same low (same_place xs p q) where
  go : (b c : Bool) → nat_eq p x ≡ b → nat_eq q x ≡ c → cond (not b) (1 + laid_place xs p) 0 ≡ cond (not c) (1 + laid_place xs q) 0
      → cond (not c) (1 + laid_place xs q) 0 < suc (length xs) → (laid_place xs p ≡ laid_place xs q → laid_place xs q < length xs → p ≡ q) → p ≡ q
  go true true one two e lt rest = grind (arith, nat_tests)
  go true false one two e lt rest = absurd (omega arith)
  go false true one two e lt rest = absurd (omega arith)
  go false false one two e lt rest = rest (omega arith) (omega arith)

pub not_before : (xs : List ℕ) (p q : ℕ) → p ≢ q → is_in xs q ≡ true → (ComesBefore xs p q → ⊥) → ComesBefore xs q p
not_before xs p q apart here never =
    ⊎_elim (λ (lt : laid_place xs q < laid_place xs p). lt)
    (λ (over : laid_place xs p ≤ laid_place xs q).
    ⊎_elim (λ (lt : laid_place xs p < laid_place xs q). absurd (never lt))
    (λ (still : laid_place xs q ≤ laid_place xs p).
    let low = place_within xs q here in
    absurd (apart (same_place xs p q (omega arith) low)))
    (cases_lt (laid_place xs p) (laid_place xs q)))
    (cases_lt (laid_place xs q) (laid_place xs p))
