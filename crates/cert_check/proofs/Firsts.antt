-- The first place of a list that passes a test.
use Rattle.std.proofs.Common.{◌≡◌, ℕ, ◌<◌, ◌≤◌, Bool, true, false, cond, List, length, get_or, nat_lt, Some, None, refl, ap, ◌∙◌, arith}
use Rattle.std.specs.List.{position, position_or_len}
use Rattle.std.proofs.lemmas.Bool.Decides.{nat_tests}
use Rattle.std.proofs.lemmas.List.Sums.{position_or_len_is, fails_before_first}
use Rattle.cert_check.proofs.Decided.{is_below}

module _ {X : Type 0} (p : X → Bool) (xs : List X) (d : X) where
  pub first_at : (i : ℕ) → i < length xs → ((k : ℕ) → k < i → p (get_or xs k d) ≡ false) → p (get_or xs i d) ≡ true → position p xs ≡ Some i
  first_at i lt fails passes =
      let at = position_or_len_is p xs i d (omega arith) fails (λ _. passes) in
      ap (λ n. cond (nat_lt n (length xs)) (Some n) None) at ∙ ap (λ b. cond b (Some i) None) (is_below i (length xs) lt)

  pub none_at : (i : ℕ) → i ≡ length xs → ((k : ℕ) → k < i → p (get_or xs k d) ≡ false) → position p xs ≡ None
  none_at i end fails =
      let at = position_or_len_is p xs i d (omega arith) fails (λ lt. absurd (omega arith)) in
      let past : nat_lt i (length xs) ≡ false = grind (arith, nat_tests) in
      ap (λ n. cond (nat_lt n (length xs)) (Some n) None) at ∙ ap (λ b. cond b (Some i) None) past

  -- where no place is first, none passes
  pub none_passes : position p xs ≡ None → (k : ℕ) → k < length xs → p (get_or xs k d) ≡ false
  none_passes is k lt = by (nat_lt (position_or_len p xs) (length xs)) refl is
    where
      by : (b : Bool) → nat_lt (position_or_len p xs) (length xs) ≡ b → cond b (Some (position_or_len p xs)) None ≡ None → p (get_or xs k d) ≡ false
      by true e s = absurd (cc)
      by false e s =
          let past : length xs ≤ position_or_len p xs = grind (arith, nat_tests) in
          fails_before_first p xs k d (omega arith)
