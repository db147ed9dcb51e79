-- One item of a list written over: what holds of the items before, of those behind, and of all.
use Rattle.std.proofs.Common.{◌≡◌, ◌≢◌, ℕ, ◌+◌, ◌<◌, ◌≤◌, List, true, false, set, sym, ◌∙◌, refl, length, arith, subst}
use Rattle.std.proofs.Common.{get_or, get_or-set_other, get_or-set_same}
use Rattle.std.specs.Prelude.{◌==◌}
use Rattle.std.proofs.lemmas.Bool.Decides.{nat_tests}

pub set-done : {X : Type 0} (s : ℕ → X) (xs : List X) (n : ℕ) (d x : X) → n < length xs → ((m : ℕ) → m < n → get_or xs m d ≡ s m) → x ≡ s n
    → (m : ℕ) → m < n + 1 → get_or (set xs n x) m d ≡ s m
set-done s xs n d x lt was is m less =
    elim (m == n) as (λ b. (m == n) ≡ b → get_or (set xs n x) m d ≡ s m) [
      | true ↦ λ h. (let e : m ≡ n = grind (arith, nat_tests) in rw e (get_or-set_same xs n x d lt ∙ is))
      | false ↦ λ h. (let e : m ≢ n = grind (arith, nat_tests) in let l : m < n = grind (arith, nat_tests) in get_or-set_other xs n m x d e ∙ was m l)
    ] refl

pub set-left : {X : Type 0} (xs : List X) (n m : ℕ) (d x : X) → n + 1 ≤ m → get_or (set xs n x) m d ≡ get_or xs m d
set-left xs n m d x later = (let e : m ≢ n = grind arith in get_or-set_other xs n m x d e)

pub set-all : {X : Type 0} (P : X → Type 0) (xs : List X) (n m : ℕ) (d x : X) → n < length xs → P x → P (get_or xs m d) → P (get_or (set xs n x) m d)
set-all P xs n m d x lt new old =
    elim (m == n) as (λ b. (m == n) ≡ b → P (get_or (set xs n x) m d)) [
      | true ↦ λ h. (let e : m ≡ n = grind (arith, nat_tests) in subst P (sym (rw e (get_or-set_same xs n x d lt))) new)
      | false ↦ λ h. (let e : m ≢ n = grind (arith, nat_tests) in subst P (sym (get_or-set_other xs n m x d e)) old)
    ] refl
