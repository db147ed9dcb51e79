-- Which points stand behind which, in a list and in the list turned round.
use Rattle.std.proofs.Common.{◌≢◌, ℕ, List, [], ◌∷◌, ◌++◌, sym, ◌∙◌, subst, refl, arith, inl, inr}
use Rattle.std.specs.Prelude.{Contains, reverse}
use Rattle.std.proofs.lemmas.List.{reverse-append, reverse-reverse, get_or_default}
use Rattle.std.proofs.lemmas.List.Elements.{Contains-append_right, Contains-append_left}
use Rattle.stn_model.specs.Walks.{AllDifferent}
use Rattle.stn_walk.proofs.Different.{AllDifferent-push}
use Rattle.tri_solve.specs.Chordal.{Follows}
use Rattle.tri_solve.proofs.Lists.{contains_cases, contains_first, contains_rest, all_at}

-- the second of two such points is among those after the first one of the list
pub follower : (xs : List ℕ) (p q : ℕ) → Follows xs p q → Contains xs q
follower [] p q f = absurd f
follower (x ∷ xs) p q (inl f) = contains_rest x q xs f.1
follower (x ∷ xs) p q (inr f) = contains_rest x q xs (follower xs p q f)

pub followed : (xs : List ℕ) (p q : ℕ) → Follows xs p q → Contains xs p
followed [] p q f = absurd f
followed (x ∷ xs) p q (inl f) = subst (λ (k : ℕ). Contains (x ∷ xs) k) f.0 (contains_first x xs)
followed (x ∷ xs) p q (inr f) = contains_rest x p xs (followed xs p q f)

follows_left : (xs ys : List ℕ) (p q : ℕ) → Follows xs p q → Follows (xs ++ ys) p q
follows_left [] ys p q f = absurd f
follows_left (x ∷ xs) ys p q (inl f) = inl (f.0, Contains-append_left xs ys q f.1)
follows_left (x ∷ xs) ys p q (inr f) = inr (follows_left xs ys p q f)

follows_across : (xs ys : List ℕ) (p q : ℕ) → Contains xs p → Contains ys q → Follows (xs ++ ys) p q
follows_across [] ys p q c d = absurd (omega (arith, c.1))
follows_across (x ∷ xs) ys p q c d = elim (contains_cases x p xs c) [
  | inl e ↦ inl (e, Contains-append_right xs ys q d)
  | inr c ↦ inr (follows_across xs ys p q c d)
]

pub contains-reverse : (xs : List ℕ) (p : ℕ) → Contains xs p → Contains (reverse xs) p
contains-reverse [] p c = c
contains-reverse (x ∷ xs) p c =
    subst (λ (l : List ℕ). Contains l p) (sym (reverse-append (x ∷ []) xs)) (elim (contains_cases x p xs c) [
      | inl e ↦ Contains-append_right (reverse xs) (x ∷ []) p (0, omega arith, e)
      | inr c ↦ Contains-append_left (reverse xs) (x ∷ []) p (contains-reverse xs p c)
    ])

pub follows-reverse : (xs : List ℕ) (p q : ℕ) → Follows xs p q → Follows (reverse xs) q p
follows-reverse [] p q f = absurd f
follows-reverse (x ∷ xs) p q f =
    subst (λ (l : List ℕ). Follows l q p) (sym (reverse-append (x ∷ []) xs)) (elim f [
      | inl f ↦ follows_across (reverse xs) (x ∷ []) q p (contains-reverse xs q f.1) (0, omega arith, f.0)
      | inr f ↦ follows_left (reverse xs) (x ∷ []) q p (follows-reverse xs p q f)
    ])

pub reverse-follows : (xs : List ℕ) (p q : ℕ) → Follows (reverse xs) p q → Follows xs q p
reverse-follows xs p q f = subst (λ (l : List ℕ). Follows l q p) (reverse-reverse xs) (follows-reverse (reverse xs) p q f)

pub different-reverse : (xs : List ℕ) → AllDifferent xs → AllDifferent (reverse xs)
different-reverse [] d = d
different-reverse (x ∷ xs) d =
    subst AllDifferent (sym (reverse-append (x ∷ []) xs)) (AllDifferent-push (reverse xs) x (different-reverse xs d.1) (λ k lt e. apart (k, lt, get_or_default (reverse xs) k x 0 lt ∙ e))) where
      apart : Contains (reverse xs) x → ⊥
      apart c = all_at (λ y. x ≢ y) xs x d.0 (subst (λ (l : List ℕ). Contains l x) (reverse-reverse xs) (contains-reverse (reverse xs) x c)) refl
