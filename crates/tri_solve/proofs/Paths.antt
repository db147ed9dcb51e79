-- Each distance is the sum of the bounds along a path of joined points that goes up the order and then down.
use Rattle.std.proofs.Common.{◌≡◌, ℕ, Bool, true, false, List, [], ◌∷◌, ◌++◌, Some, None, ap, sym, ◌∙◌, refl, arith, subst}
use Rattle.std.specs.Prelude.{ℤ, pos, ◌+ℤ◌, ◌==◌, if◌then◌else◌, reverse}
use Rattle.std.proofs.lemmas.Bool.Decides.{nat_tests}
use Rattle.std.proofs.lemmas.Int.{ints}
use Rattle.tri_solve.specs.Passes.{at_source, risen, distance}
use Rattle.tri_solve.specs.Chordal.{Follows, IsPath, bounds_sum, Rises, Falls, RisesAndFalls}
use Rattle.tri_solve.proofs.Orders.{reverse-follows}
use Rattle.tri_solve.proofs.Numbers.{none_is, some_is}
use Rattle.tri_solve.proofs.PassNumbers.{pass_each}

-- one path after another
pub path-append : (Step : ℕ → ℕ → Type 0) (i j k : ℕ) (ps qs : List ℕ) → IsPath Step i ps j → IsPath Step j qs k → IsPath Step i (ps ++ qs) k
path-append Step i j k [] qs g h = subst (λ (x : ℕ). IsPath Step x qs k) (sym g) h
path-append Step i j k (p ∷ ps) qs g h = (g.0, path-append Step p j k ps qs g.1 h)

pub sum-append : (Step : ℕ → ℕ → Type 0) (bound : ℕ → ℕ → ℤ) (i j : ℕ) (ps qs : List ℕ) → IsPath Step i ps j
    → bounds_sum bound i (ps ++ qs) ≡ bounds_sum bound i ps +ℤ bounds_sum bound j qs
sum-append Step bound i j [] qs g =
    let e : bounds_sum bound i qs ≡ bounds_sum bound j qs = ap (λ k. bounds_sum bound k qs) g in
    omega (arith, ints)
sum-append Step bound i j (p ∷ ps) qs g = let rest = sum-append Step bound p j ps qs g.1 in omega (arith, ints)

-- steps of one kind are steps of another
pub path-map : (One Other : ℕ → ℕ → Type 0) → ((p q : ℕ) → One p q → Other p q) → (i j : ℕ) (ps : List ℕ) → IsPath One i ps j → IsPath Other i ps j
path-map One Other to i j [] g = g
path-map One Other to i j (p ∷ ps) g = (to i p g.0, path-map One Other to p j ps g.1)

module _ (joined : ℕ → ℕ → Bool) (bound : ℕ → ℕ → ℤ) (order : List ℕ) (i : ℕ) where
  abbrev Up : ℕ → ℤ → Type 0
  Up p d = (ps : List ℕ) × IsPath (Rises joined order) i ps p × (bounds_sum bound i ps ≡ d)

  up_start : (p : ℕ) (d : ℤ) → at_source i p ≡ Some d → Up p d
  up_start p d e =
      (elim (p == i) as (λ b. (p == i) ≡ b → (if b then Some (pos 0) else None) ≡ Some d → Up p d) [
        | true ↦ λ t e. let is : i ≡ p = grind (arith, nat_tests) in ([], is, some_is (pos 0) d e)
        | false ↦ λ t e. absurd (none_is d e)
      ]) refl e

  up_on : (p q : ℕ) (d : ℤ) → Follows (reverse order) p q → joined q p ≡ true → Up q d → Up p (d +ℤ bound q p)
  up_on p q d f j u =
      let sum = sum-append (Rises joined order) bound i q u.0 (p ∷ []) u.1 in
      let was = u.2 in (
        u.0 ++ p ∷ [],
        path-append (Rises joined order) i q p u.0 (p ∷ []) u.1 ((j, reverse-follows order p q f), refl),
        omega (arith, ints),
      )

  pub ups : (p : ℕ) (d : ℤ) → risen joined bound order i p ≡ Some d → Up p d
  ups p d e = pass_each joined bound (at_source i) Up up_start (reverse order) up_on p d e

  down_start : (p : ℕ) (d : ℤ) → risen joined bound order i p ≡ Some d → RisesAndFalls joined bound order i p d
  down_start p d e =
      let u = ups p d e in
      let was = u.2 in
      record { top = p; up = u.0; down = []; rises = u.1; falls = refl; sum = omega (arith, ints) }

  down_on : (p q : ℕ) (d : ℤ) → Follows order p q → joined q p ≡ true → RisesAndFalls joined bound order i q d → RisesAndFalls joined bound order i p (d +ℤ bound q p)
  down_on p q d f j u =
      let sum = sum-append (Falls joined order) bound u.top q u.down (p ∷ []) u.falls in
      let was = u.sum in
      record {
        top = u.top;
        up = u.up;
        down = u.down ++ p ∷ [];
        rises = u.rises;
        falls = path-append (Falls joined order) u.top q p u.down (p ∷ []) u.falls ((j, f), refl);
        sum = omega (arith, ints);
      }

  pub paths : (p : ℕ) (d : ℤ) → distance joined bound order i p ≡ Some d → RisesAndFalls joined bound order i p d
  paths p d e = pass_each joined bound (risen joined bound order i) (RisesAndFalls joined bound order i) down_start order down_on p d e

  -- as one path
  pub whole : (p : ℕ) (d : ℤ) (r : RisesAndFalls joined bound order i p d)
      → IsPath (λ p q. joined p q ≡ true) i (r.up ++ r.down) p × (bounds_sum bound i (r.up ++ r.down) ≡ d)
  whole p d r =
      let first = path-map (Rises joined order) (λ p q. joined p q ≡ true) (λ p q s. s.0) i r.top r.up r.rises in
      let second = path-map (Falls joined order) (λ p q. joined p q ≡ true) (λ p q s. s.0) r.top p r.down r.falls in
      (path-append (λ p q. joined p q ≡ true) i r.top p r.up r.down first second, sum-append (Rises joined order) bound i r.top r.up r.down r.rises ∙ r.sum)
