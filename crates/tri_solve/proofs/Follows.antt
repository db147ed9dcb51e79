-- Which points stand behind a point of a pass.
use Rattle.std.proofs.Common.{◌≡◌, ◌≢◌, ℕ, ◌<◌, Bool, true, false, List, [], ◌∷◌, ◌++◌, sym, ◌∙◌, refl, arith, inl, inr, ◌⊎◌, subst}
use Rattle.std.specs.Prelude.{Contains}
use Rattle.std.proofs.lemmas.Bool.Decides.{nat_tests}
use Rattle.std.proofs.lemmas.List.Elements.{Contains-append_right}
use Rattle.stn_model.specs.Walks.{AllDifferent}
use Rattle.tri_solve.specs.Chordal.{Follows}
use Rattle.tri_solve.specs.Layouts.{place, is_up, turned}
use Rattle.tri_solve.proofs.Lists.{contains_cases, contains_first, all_at}
use Rattle.tri_solve.proofs.Orders.{followed, follows-reverse, reverse-follows, different-reverse, contains-reverse}
use Rattle.tri_solve.proofs.Neighbours.{comes}

-- the back of a list without a repeated number has none either
pub different_back : (front xs : List ℕ) → AllDifferent (front ++ xs) → AllDifferent xs
different_back [] xs d = d
different_back (y ∷ front) xs d = different_back front xs d.1

-- what stands behind x is in the rest of the list
pub follows_rest : (front xs : List ℕ) (x q : ℕ) → AllDifferent (front ++ x ∷ xs) → Follows (front ++ x ∷ xs) x q → Contains xs q
follows_rest [] xs x q d (inl f) = f.1
follows_rest [] xs x q d (inr f) = absurd (all_at (λ y. x ≢ y) xs x d.0 (followed xs x q f) refl)
follows_rest (y ∷ front) xs x q d (inl f) = absurd (all_at (λ z. y ≢ z) (front ++ x ∷ xs) x d.0 (Contains-append_right front (x ∷ xs) x (contains_first x xs)) f.0)
follows_rest (y ∷ front) xs x q d (inr f) = follows_rest front xs x q d.1 f

pub rest_follows : (front xs : List ℕ) (x q : ℕ) → Contains xs q → Follows (front ++ x ∷ xs) x q
rest_follows [] xs x q c = inl (refl, c)
rest_follows (y ∷ front) xs x q c = inr (rest_follows front xs x q c)

-- of two points one stands behind the other
follows_either : (xs : List ℕ) (p q : ℕ) → Contains xs p → Contains xs q → p ≢ q → Follows xs p q ⊎ Follows xs q p
follows_either [] p q c d ne = absurd (omega (arith, c.1))
follows_either (x ∷ xs) p q c d ne = elim (contains_cases x p xs c) [
  | inl e ↦ elim (contains_cases x q xs d) [
    | inl f ↦ absurd (ne (sym e ∙ f))
    | inr d ↦ inl (inl (e, d))
  ]
  | inr c ↦ elim (contains_cases x q xs d) [
    | inl f ↦ inr (inl (f, c))
    | inr d ↦ elim (follows_either xs p q c d ne) [ inl f ↦ inl (inr f) | inr f ↦ inr (inr f) ]
  ]
]

module _ (order : List ℕ) (once : AllDifferent order) where
  pub different-turned : (up : Bool) → AllDifferent (turned up order)
  different-turned true = different-reverse order once
  different-turned false = once

  pub contains-turned : (up : Bool) (p : ℕ) → Contains order p → Contains (turned up order) p
  contains-turned true p c = contains-reverse order p c
  contains-turned false p c = c

  up_is : (p q : ℕ) → Follows order p q → is_up order p q ≡ true
  up_is p q f = let lt : place order p < place order q = comes order once p q f in grind (arith, nat_tests)

  down_is : (p q : ℕ) → Follows order q p → is_up order p q ≡ false
  down_is p q f = let lt : place order q < place order p = comes order once q p f in grind (arith, nat_tests)

  side_of : (up : Bool) (q x : ℕ) → Follows (turned up order) x q → is_up order q x ≡ up
  side_of true q x f = up_is q x (reverse-follows order x q f)
  side_of false q x f = down_is q x f

  of_side : (up : Bool) (q x : ℕ) → Contains order q → Contains order x → q ≢ x → is_up order q x ≡ up → Follows (turned up order) x q
  of_side true q x c d ne t = elim (follows_either order q x c d ne) [
    | inl f ↦ follows-reverse order q x f
    | inr f ↦ (let s = down_is q x f in absurd (grind arith))
  ]
  of_side false q x c d ne t = elim (follows_either order q x c d ne) [
    | inl f ↦ (let s = up_is q x f in absurd (grind arith))
    | inr f ↦ f
  ]

  module _ (up : Bool) (front xs : List ℕ) (x : ℕ) (is : turned up order ≡ front ++ x ∷ xs) where
    -- the points behind x in a pass come before it in the order exactly where the pass goes up
    pub rest_side : (q : ℕ) → Contains xs q → is_up order q x ≡ up
    rest_side q c = side_of up q x (subst (λ (l : List ℕ). Follows l x q) (sym is) (rest_follows front xs x q c))

    pub side_rest : (q : ℕ) → Contains order q → Contains order x → q ≢ x → is_up order q x ≡ up → Contains xs q
    side_rest q c d ne t =
        follows_rest front xs x q (subst AllDifferent is (different-turned up)) (subst (λ (l : List ℕ). Follows l x q) is (of_side up q x c d ne t))
