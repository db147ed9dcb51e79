-- Numbers that may be missing: the least of a list, and a number by way of a joined point.
use Rattle.std.proofs.Common.{◌≡◌, ℕ, Bool, true, false, List, [], ◌∷◌, Option, Some, None, ap, sym, refl, arith, inl, inr, ◌⊎◌, subst}
use Rattle.std.specs.Prelude.{ℤ, pos, ◌+ℤ◌, ◌-ℤ◌, ◌≤ℤ◌, int_lt, if◌then◌else◌, Contains}
use Rattle.std.specs.Option.{unwrap_or}
use Rattle.std.proofs.lemmas.Int.{ints}
use Rattle.stn_walk.specs.Eliminations.{lesser, sum_of}
use Rattle.stn_walk.proofs.Finals.{IsLower}
use Rattle.stn_walk.proofs.Potentials.{lower_left, lower_right, lower_cases}
use Rattle.tri_solve.specs.Passes.{least_over, by_way_of}
use Rattle.tri_solve.proofs.Lists.{contains_cases, contains_first, contains_rest}

-- no number is there
pub none_is : (d : ℤ) → None ≡ Some d → ⊥
none_is d e = subst (IsLower d) (sym e) (let le : d ≤ℤ d = omega (arith, ints) in le)

-- one number is one number
pub some_is : (a d : ℤ) → Some a ≡ Some d → a ≡ d
some_is a d e = ap (λ o. unwrap_or o (pos 0)) e

-- the lesser is one of the two
pub lesser_is : (a b : Option ℤ) (d : ℤ) → lesser a b ≡ Some d → (a ≡ Some d) ⊎ (b ≡ Some d)
lesser_is None b d e = inr e
lesser_is (Some a) None d e = inl e
lesser_is (Some a) (Some b) d e =
    (elim (int_lt b a) as (λ t. (if t then Some b else Some a) ≡ Some d → (Some a ≡ Some d) ⊎ (Some b ≡ Some d)) [ true ↦ λ e. inr e | false ↦ λ e. inl e ]) e

pub over_each : (f : ℕ → Option ℤ) (qs : List ℕ) (q : ℕ) (x : ℤ) → Contains qs q → IsLower x (f q) → IsLower x (least_over f qs)
over_each f [] q x c h = absurd (omega (arith, c.1))
over_each f (r ∷ qs) q x c h = elim (contains_cases r q qs c) [
  | inl e ↦ lower_left x (f r) (least_over f qs) (subst (λ (k : ℕ). IsLower x (f k)) (sym e) h)
  | inr c ↦ lower_right x (f r) (least_over f qs) (over_each f qs q x c h)
]

pub over_some : (f : ℕ → Option ℤ) (qs : List ℕ) (x : ℤ) → IsLower x (least_over f qs) → (q : ℕ) × Contains qs q × IsLower x (f q)
over_some f [] x h = absurd h
over_some f (r ∷ qs) x h = elim (lower_cases x (f r) (least_over f qs) h) [
  | inl h ↦ (r, contains_first r qs, h)
  | inr h ↦ (let s = over_some f qs x h in (s.0, contains_rest r s.0 qs s.1, s.2))
]

pub over_is : (f : ℕ → Option ℤ) (qs : List ℕ) (d : ℤ) → least_over f qs ≡ Some d → (q : ℕ) × Contains qs q × (f q ≡ Some d)
over_is f [] d e = absurd (none_is d e)
over_is f (r ∷ qs) d e = elim (lesser_is (f r) (least_over f qs) d e) [
  | inl e ↦ (r, contains_first r qs, e)
  | inr e ↦ (let s = over_is f qs d e in (s.0, contains_rest r s.0 qs s.1, s.2))
]

sum_in : (x b : ℤ) (o : Option ℤ) → IsLower x o → IsLower (x +ℤ b) (sum_of o (Some b))
sum_in x b None h = h
sum_in x b (Some a) h = omega (arith, ints)

sum_out : (x b : ℤ) (o : Option ℤ) → IsLower x (sum_of o (Some b)) → IsLower (x -ℤ b) o
sum_out x b None h = h
sum_out x b (Some a) h = omega (arith, ints)

sum_is : (d b : ℤ) (o : Option ℤ) → sum_of o (Some b) ≡ Some d → (e : ℤ) × (o ≡ Some e) × (e +ℤ b ≡ d)
sum_is d b None e = absurd (none_is d e)
sum_is d b (Some a) e = (a, refl, some_is (a +ℤ b) d e)

module _ (joined : ℕ → ℕ → Bool) (bound : ℕ → ℕ → ℤ) (number : ℕ → Option ℤ) (p q : ℕ) where
  pub way_in : (x : ℤ) → joined q p ≡ true → IsLower x (number q) → IsLower (x +ℤ bound q p) (by_way_of joined bound number p q)
  way_in x j h = rw j (sum_in x (bound q p) (number q) h)

  pub way_out : (x : ℤ) → IsLower x (by_way_of joined bound number p q) → (joined q p ≡ true) × IsLower (x -ℤ bound q p) (number q)
  way_out x h =
      (elim (joined q p) as (λ b. IsLower x (if b then sum_of (number q) (Some (bound q p)) else None) → (b ≡ true) × IsLower (x -ℤ bound q p) (number q)) [
        | true ↦ λ h. (refl, sum_out x (bound q p) (number q) h)
        | false ↦ λ h. absurd h
      ]) h

  pub way_is : (d : ℤ) → by_way_of joined bound number p q ≡ Some d → (joined q p ≡ true) × ((e : ℤ) × (number q ≡ Some e) × (e +ℤ bound q p ≡ d))
  way_is d h =
      (elim (joined q p) as (λ b. (if b then sum_of (number q) (Some (bound q p)) else None) ≡ Some d → (b ≡ true) × ((e : ℤ) × (number q ≡ Some e) × (e +ℤ bound q p ≡ d))) [
        | true ↦ λ h. (refl, sum_is d (bound q p) (number q) h)
        | false ↦ λ h. absurd (none_is d h)
      ]) h

-- what is at most the same numbers is the same
same_number : (a b : Option ℤ) → ((x : ℤ) → IsLower x a → IsLower x b) → ((x : ℤ) → IsLower x b → IsLower x a) → a ≡ b
same_number None None f g = refl
same_number None (Some b) f g = absurd (g b (omega (arith, ints)))
same_number (Some a) None f g = absurd (f a (omega (arith, ints)))
same_number (Some a) (Some b) f g =
    let low = f a (omega (arith, ints)) in
    let high = g b (omega (arith, ints)) in
    let e : a ≡ b = omega (arith, ints) in
    ap (λ (x : ℤ). Some x) e

-- a number is there and at most x
pub is_there : (x : ℤ) (o : Option ℤ) → IsLower x o → (d : ℤ) × (o ≡ Some d) × (d ≤ℤ x)
is_there x None h = absurd h
is_there x (Some d) h = (d, refl, h)

-- of the points of a list those that are joined suffice
pub joined_suffice : (joined : ℕ → ℕ → Bool) (bound : ℕ → ℕ → ℤ) (number : ℕ → Option ℤ) (p : ℕ) (xs ys : List ℕ)
    → ((q : ℕ) → Contains xs q → joined q p ≡ true → Contains ys q) → ((q : ℕ) → Contains ys q → Contains xs q)
    → least_over (by_way_of joined bound number p) xs ≡ least_over (by_way_of joined bound number p) ys
joined_suffice joined bound number p xs ys all among =
    same_number (least_over (by_way_of joined bound number p) xs) (least_over (by_way_of joined bound number p) ys)
    (λ x h.
    let some = over_some (by_way_of joined bound number p) xs x h in
    over_each (by_way_of joined bound number p) ys some.0 x (all some.0 some.1 (way_out joined bound number p some.0 x some.2).0) some.2)
    (λ x h.
    let some = over_some (by_way_of joined bound number p) ys x h in
    over_each (by_way_of joined bound number p) xs some.0 x (among some.0 some.1) some.2)

pub lesser-none : (a : Option ℤ) → lesser a None ≡ a
lesser-none None = refl
lesser-none (Some a) = refl

-- of three numbers the least
pub lesser-assoc : (a b c : Option ℤ) → lesser (lesser a b) c ≡ lesser a (lesser b c)
lesser-assoc a b c =
    same_number (lesser (lesser a b) c) (lesser a (lesser b c))
    (λ x h. elim (lower_cases x (lesser a b) c h) [
      | inl h ↦ elim (lower_cases x a b h) [ inl h ↦ lower_left x a (lesser b c) h | inr h ↦ lower_right x a (lesser b c) (lower_left x b c h) ]
      | inr h ↦ lower_right x a (lesser b c) (lower_right x b c h)
    ])
    (λ x h. elim (lower_cases x a (lesser b c) h) [
      | inl h ↦ lower_left x (lesser a b) c (lower_left x a b h)
      | inr h ↦ elim (lower_cases x b c h) [ inl h ↦ lower_left x (lesser a b) c (lower_right x a b h) | inr h ↦ lower_right x (lesser a b) c h ]
    ])
