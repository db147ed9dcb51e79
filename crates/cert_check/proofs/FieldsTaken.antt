-- Fields that are taken from a line one by one, and a line of many fields.
use Rattle.std.proofs.Common.{◌≡◌, ℕ, zero, suc, ◌+◌, ◌<◌, ◌≤◌, Bool, true, false, cond, List, [], ◌∷◌, ◌++◌, length, take, drop, map, set, ◌-◌, get_or, filter, Option, Some, None, nat_lt, refl, sym, ap, subst, ◌∙◌, arith}
use Rattle.std.specs.List.{slice_split, position, position_or_len}
use Rattle.std.proofs.lemmas.Bool.{false≢true}
use Rattle.std.proofs.lemmas.Bool.Decides.{nat_tests}
use Rattle.std.proofs.lemmas.List.{drop_more, length-take-le, length-drop, drop_all, take_more_set, map-append, append_assoc}
use Rattle.std.proofs.lemmas.List.Splits.{slice_split-cons_yes, slice_split_first, slice_split_none}
use Rattle.std.proofs.lemmas.List.Sums.{position_or_len_is, fails_before_first}
use Rattle.std.proofs.lemmas.List.Quantifiers.{position-Some}
use Rattle.net_text.specs.Fields.{fields, is_blank, is_filled}
use Rattle.net_text.proofs.FieldsOfLines.{filled_from_length}
use Rattle.cert_check.specs.Taken.{TakesField}

pub blank_left : (line : List ℕ) (i : ℕ) → i < length line → is_blank (get_or line i 0) ≡ true → fields (drop i line) ≡ fields (drop (i + 1) line)
blank_left line i lt e =
    ap fields (drop_more line i 0 lt)
    ∙ ap (filter is_filled) (slice_split-cons_yes is_blank (get_or line i 0) (drop (i + 1) line) e)

-- a part that is not empty is a field
filled_first : (part : List ℕ) (parts : List (List ℕ)) → 0 < length part → filter is_filled (part ∷ parts) ≡ part ∷ filter is_filled parts
filled_first part parts some = ap (λ b. cond b (part ∷ filter is_filled parts) (filter is_filled parts)) (filled_from_length part some)

no_field_of_none : (line : List ℕ) → length line ≡ 0 → fields line ≡ []
no_field_of_none [] e = refl
no_field_of_none (b ∷ bs) e = absurd (omega arith)

pub no_field : (line filled : List ℕ) → fields filled ≡ fields line → length filled ≡ 0 → fields line ≡ []
no_field line filled same none = sym same ∙ no_field_of_none filled none

-- without a blank the place of the first one is the end
all_before : (line : List ℕ) → position is_blank line ≡ None → length line ≤ position_or_len is_blank line
all_before line nowhere =
    (elim (nat_lt (position_or_len is_blank line) (length line)) as
    (λ t. nat_lt (position_or_len is_blank line) (length line) ≡ t
    → cond t (Some (position_or_len is_blank line)) None ≡ None → length line ≤ position_or_len is_blank line) [
      | true ↦ λ e h. absurd (cc)
      | false ↦ λ e h. grind (arith, nat_tests)
    ]) refl nowhere

-- a line that begins with a byte of its last field
pub last_field : (line filled : List ℕ) → fields filled ≡ fields line → length filled ≤ length line → 0 < length filled → position is_blank filled ≡ None
    → TakesField line filled (drop (length filled) filled)
last_field line filled same size some nowhere =
    let far = all_before filled nowhere in
    let one = slice_split_none is_blank filled (λ k d lt. fails_before_first is_blank filled k d (omega arith)) in
    let none : drop (length filled) filled ≡ [] = drop_all (length filled) filled (omega arith) in
    record {
      first = sym same ∙ ap (filter is_filled) one ∙ filled_first filled [] some ∙ ap (λ rest. filled ∷ fields rest) (sym none);
      shorter = let e = ap length none in omega arith;
    }

-- a line that begins with a byte of a field, after which a blank stands
pub next_field : (line filled : List ℕ) (n : ℕ) → fields filled ≡ fields line → length filled ≤ length line → (0 < length filled → is_blank (get_or filled 0 0) ≡ false)
    → position is_blank filled ≡ Some n → TakesField line (take n filled) (drop (n + 1) filled)
next_field line filled n same size begins at =
    let here = position-Some is_blank filled n 0 at in
    let low : n < length filled = here.0 in
    let stands : position_or_len is_blank filled ≡ n = position_or_len_is is_blank filled n 0 (omega arith) here.2 (λ _. here.1) in
    let before : position_or_len is_blank filled < length filled = omega arith in
    let split : slice_split is_blank filled ≡ take n filled ∷ slice_split is_blank (drop (n + 1) filled) =
    subst (λ (k : ℕ). slice_split is_blank filled ≡ take k filled ∷ slice_split is_blank (drop (k + 1) filled)) stands (slice_split_first is_blank filled 0 before) in
    let long : length (take n filled) ≡ n = length-take-le n filled (omega arith) in
    let some : 0 < n = by n (omega arith) here.1 in
    let left = length-drop (n + 1) filled in
    record {
      first = sym same ∙ ap (filter is_filled) split ∙ filled_first (take n filled) (slice_split is_blank (drop (n + 1) filled)) (omega arith);
      shorter = omega arith;
    }
  where
    by : (k : ℕ) → 0 < length filled → is_blank (get_or filled k 0) ≡ true → 0 < k
    by zero some h = absurd (false≢true (sym (begins some) ∙ h))
    by (suc k) some h = omega arith

pub nowhere : (r : Option ℕ) → ((n : ℕ) → r ≡ Some n → ⊥) → r ≡ None
nowhere None h = refl
nowhere (Some n) h = absurd (h n refl)

-- one more of the first fields
pub few_more : {F : Type 0} (now : F → List ℕ) (found : List F) (f : F) (i : ℕ) (rest more line : List ℕ) → i < 4 → length found ≡ 4 → fields rest ≡ now f ∷ fields more
    → map now (take i found) ++ take (4 - i) (fields rest) ≡ take 4 (fields line)
    → map now (take (i + 1) (set found i f)) ++ take (4 - (i + 1)) (fields more) ≡ take 4 (fields line)
few_more now found f i rest more line lt many first so_far =
    ap (λ fs. map now fs ++ take (4 - (i + 1)) (fields more)) (take_more_set found i f (omega arith))
    ∙ ap (λ fs. fs ++ take (4 - (i + 1)) (fields more)) (map-append now (take i found) (f ∷ []))
    ∙ append_assoc (map now (take i found)) (now f ∷ []) (take (4 - (i + 1)) (fields more))
    ∙ ap (λ fs. map now (take i found) ++ fs) (sym (one_taken (4 - i) (4 - (i + 1)) (now f) (fields more) (omega arith)))
    ∙ ap (λ fs. map now (take i found) ++ take (4 - i) fs) (sym first)
    ∙ so_far
  where
    one_taken : (k j : ℕ) (x : List ℕ) (xs : List (List ℕ)) → k ≡ suc j → take k (x ∷ xs) ≡ x ∷ take j xs
    one_taken k j x xs e = ap (λ n. take n (x ∷ xs)) e
