-- A line's first field, and what follows it.
use Rattle.std.proofs.Common.{◌≡◌, ℕ, zero, suc, ◌+◌, ◌-◌, ◌<◌, ◌≤◌, Bool, true, false, not, cond, List, [], ◌∷◌, ◌++◌, length, take, drop, get_or, set, filter, Option, Some, None, refl, sym, ap, ◌∙◌, arith, subst, nat_lt}
use denote.Ref.{Bor}
use Rattle.std.specs.List.{slice_split, position, position_or_len}
use Rattle.std.proofs.lemmas.Bool.{false≢true}
use Rattle.std.proofs.lemmas.Bool.Decides.{nat_tests}
use Rattle.std.proofs.lemmas.List.{append-nil, append_assoc, map-append, take_more_set, take_all, drop_all, length-take-le, get_or-drop, length-set}
use Rattle.std.proofs.lemmas.List.Splits.{slice_split_first, slice_split_none, slice_split-cons_yes}
use Rattle.std.proofs.lemmas.List.Sums.{position_or_len_is, fails_before_first}
use Rattle.std.proofs.lemmas.List.Quantifiers.{position-Some}
use Rattle.net_text.specs.Fields.{is_blank, is_filled, fields}
use Rattle.net_text.proofs.FieldsOfLines.{filled_from_length}
use Rattle.net_text.proofs.Takes.{texts}

pub nowhere : (r : Option ℕ) → ((n : ℕ) → r ≡ Some n → ⊥) → r ≡ None
nowhere None h = refl
nowhere (Some n) h = absurd (h n refl)

-- blanks before a field make no difference
past_blanks : (n : ℕ) (line : List ℕ) → n ≤ length line → ((k : ℕ) → k < n → is_blank (get_or line k 0) ≡ true) → fields line ≡ fields (drop n line)
past_blanks zero line few blank = refl
past_blanks (suc n) [] few blank = absurd (omega arith)
past_blanks (suc n) (b ∷ bs) few blank =
    ap (filter is_filled) (slice_split-cons_yes is_blank b bs (blank 0 (omega arith)))
    ∙ past_blanks n bs (omega arith) (λ k lt. blank (suc k) (omega arith))

-- where no element passes, the place of the first one is the end
pub none_before : {X : Type 0} (p : X → Bool) (xs : List X) → position p xs ≡ None → length xs ≤ position_or_len p xs
none_before p xs nowhere =
    (elim (nat_lt (position_or_len p xs) (length xs))
    as (λ t. nat_lt (position_or_len p xs) (length xs) ≡ t → cond t (Some (position_or_len p xs)) None ≡ None → length xs ≤ position_or_len p xs) [
      | true ↦ λ e h. absurd (cc)
      | false ↦ λ e h. grind (arith, nat_tests)
    ]) refl nowhere

is_blank_from : (b : ℕ) → not (is_blank b) ≡ false → is_blank b ≡ true
is_blank_from b h =
    (elim (is_blank b) as (λ t. not t ≡ false → t ≡ true) [ true ↦ λ e. refl | false ↦ λ e. absurd (cc) ]) h

-- a line of blanks has no field
pub no_field : (line : List ℕ) → position (λ b. not (is_blank b)) line ≡ None → fields line ≡ []
no_field line nowhere =
    let far = none_before (λ b. not (is_blank b)) line nowhere in
    past_blanks (length line) line (omega arith)
    (λ k lt. is_blank_from (get_or line k 0) (fails_before_first (λ b. not (is_blank b)) line k 0 (omega arith)))
    ∙ ap fields (drop_all (length line) line (omega arith))

-- the fields of a line are those from its first filled byte on
pub from_filled : (line : List ℕ) (n : ℕ) → position (λ b. not (is_blank b)) line ≡ Some n → fields line ≡ fields (drop n line)
from_filled line n at =
    let here = position-Some (λ b. not (is_blank b)) line n 0 at in
    let low : n < length line = here.0 in
    past_blanks n line (omega arith) (λ k lt. is_blank_from (get_or line k 0) (here.2 k lt))

blank_from : (b : ℕ) → not (is_blank b) ≡ true → is_blank b ≡ false
blank_from b h =
    (elim (is_blank b) as (λ t. not t ≡ true → t ≡ false) [ true ↦ λ e. absurd (false≢true e) | false ↦ λ e. refl ]) h

-- and that byte is no blank
pub starts_filled : (line : List ℕ) (n : ℕ) → position (λ b. not (is_blank b)) line ≡ Some n → is_blank (get_or (drop n line) 0 0) ≡ false
starts_filled line n at =
    let here = position-Some (λ b. not (is_blank b)) line n 0 at in
    let same : get_or (drop n line) 0 0 ≡ get_or line n 0 = get_or-drop n line 0 0 ∙ ap (λ k. get_or line k 0) (omega arith) in
    ap is_blank same ∙ blank_from (get_or line n 0) here.1

first_filled : (part : List ℕ) (more : List (List ℕ)) → 0 < length part → filter is_filled (part ∷ more) ≡ part ∷ filter is_filled more
first_filled part more some = ap (λ (t : Bool). cond t (part ∷ filter is_filled more) (filter is_filled more)) (filled_from_length part some)

-- a line that has no blank is one field
pub last_field : (line : List ℕ) → 0 < length line → position is_blank line ≡ None → fields line ≡ line ∷ fields []
last_field line some nowhere =
    let far = none_before is_blank line nowhere in
    ap (filter is_filled) (slice_split_none is_blank line (λ k d lt. fails_before_first is_blank line k d (omega arith)))
    ∙ first_filled line [] some

later : (line : List ℕ) (n : ℕ) → is_blank (get_or line 0 0) ≡ false → is_blank (get_or line n 0) ≡ true → 0 < n
later line zero filled blank = absurd (false≢true (sym filled ∙ blank))
later line (suc n) filled blank = omega arith

-- a line that begins with a field is cut at its first blank
pub field_cut : (line : List ℕ) (n : ℕ) → is_blank (get_or line 0 0) ≡ false → position is_blank line ≡ Some n
    → fields line ≡ take n line ∷ fields (drop (n + 1) line)
field_cut line n filled at =
    let here = position-Some is_blank line n 0 at in
    let low : n < length line = here.0 in
    let stands : position_or_len is_blank line ≡ n = position_or_len_is is_blank line n 0 (omega arith) here.2 (λ _. here.1) in
    let before : position_or_len is_blank line < length line = omega arith in
    let split : slice_split is_blank line ≡ take n line ∷ slice_split is_blank (drop (n + 1) line) =
    subst (λ (k : ℕ). slice_split is_blank line ≡ take k line ∷ slice_split is_blank (drop (k + 1) line)) stands (slice_split_first is_blank line 0 before) in
    let size : length (take n line) ≡ n = length-take-le n line (omega arith) in
    let some : 0 < n = later line n filled here.1 in
    ap (filter is_filled) split ∙ first_filled (take n line) (slice_split is_blank (drop (n + 1) line)) (omega arith)

take_first : (n m : ℕ) (x : List ℕ) (xs : List (List ℕ)) → n ≡ suc m → take n (x ∷ xs) ≡ x ∷ take m xs
take_first n m x xs e = ap (λ k. take k (x ∷ xs)) e

-- ONE FIELD MORE. What was put, and what is left of as many as there is room for, are the line's first fields.
pub one_more : (line rest left : List ℕ) (room after : List (Bor (List ℕ))) (i : ℕ) (t : Bor (List ℕ)) → i < length room → after ≡ set room i t
    → texts (take i room) ++ take (length room - i) (fields rest) ≡ take (length room) (fields line) → fields rest ≡ t.now ∷ fields left
    → texts (take (i + 1) after) ++ take (length after - (i + 1)) (fields left) ≡ take (length after) (fields line)
one_more line rest left room after i t lt put so next =
    let size : length after ≡ length room = ap length put ∙ length-set room i t in
    let one : length room - i ≡ suc (length after - (i + 1)) = omega arith in
    ap (λ (xs : List (Bor (List ℕ))). texts (take (i + 1) xs) ++ take (length after - (i + 1)) (fields left)) put
    ∙ ap (λ (xs : List (Bor (List ℕ))). texts xs ++ take (length after - (i + 1)) (fields left)) (take_more_set room i t lt)
    ∙ ap (λ (xs : List (List ℕ)). xs ++ take (length after - (i + 1)) (fields left)) (map-append (λ (f : Bor (List ℕ)). f.now) (take i room) (t ∷ []))
    ∙ append_assoc (texts (take i room)) (t.now ∷ []) (take (length after - (i + 1)) (fields left))
    ∙ ap (λ (xs : List (List ℕ)). texts (take i room) ++ xs) (sym (take_first (length room - i) (length after - (i + 1)) t.now (fields left) one))
    ∙ ap (λ (xs : List (List ℕ)). texts (take i room) ++ take (length room - i) xs) (sym next)
    ∙ so ∙ ap (λ k. take k (fields line)) (sym size)

take_none : (n : ℕ) (xs : List (List ℕ)) → xs ≡ [] → take n xs ≡ []
take_none zero xs none = refl
take_none (suc n) [] none = refl
take_none (suc n) (x ∷ xs) none = absurd (cc)

-- no field is left
pub no_more : (line rest : List ℕ) (room : List (Bor (List ℕ))) (i : ℕ)
    → texts (take i room) ++ take (length room - i) (fields rest) ≡ take (length room) (fields line)
    → fields rest ≡ [] → texts (take i room) ≡ take (length room) (fields line)
no_more line rest room i so none =
    sym (ap (λ (xs : List (List ℕ)). texts (take i room) ++ xs) (take_none (length room - i) (fields rest) none) ∙ append-nil (texts (take i room))) ∙ so

-- the room is full
pub is_full : (line rest : List ℕ) (room : List (Bor (List ℕ))) (i : ℕ) → length room ≤ i
    → texts (take i room) ++ take (length room - i) (fields rest) ≡ take (length room) (fields line)
    → texts (take (length room) room) ≡ take (length room) (fields line)
is_full line rest room i full so =
    let none : length room - i ≡ 0 = omega arith in
    ap texts (take_all (length room) room (omega arith) ∙ sym (take_all i room full))
    ∙ sym (append-nil (texts (take i room))) ∙ ap (λ k. texts (take i room) ++ take k (fields rest)) (sym none) ∙ so
