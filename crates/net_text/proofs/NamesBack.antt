-- A written name is read as the number of what it names.
use Rattle.std.proofs.Common.{◌≡◌, ◌≢◌, ℕ, ◌<◌, Bool, true, false, nat_le, nat_lt, List, [], ◌∷◌, ◌++◌, length, get_or, Some, None, cond, refl, sym, ap, ◌∙◌, arith, length-append}
use Rattle.std.specs.List.{AllPairs, list_all, position, position_or_len}
use Rattle.std.specs.Str.{bytes_eq}
use Rattle.std.proofs.lemmas.Bool.{and_parts, lt-ltb, le-ltb, false_from_ne_true, leb-true}
use Rattle.std.proofs.lemmas.Bool.Decides.{nat_tests}
use Rattle.std.proofs.lemmas.List.{get_or_append_left, get_or_at}
use Rattle.std.proofs.lemmas.List.Sums.{position_or_len_is}
use Rattle.std.proofs.lemmas.Slice.Eq.{bytes_eq-Decides}
use Rattle.stn_model.specs.Refusals.{is_name, is_name_start, is_name_part}
use Rattle.net_text.proofs.FieldsOfLines.{IsField, is_solid, filled_from_length, list_all_weaker}

part_solid : (b : ℕ) → is_name_part b ≡ true → is_solid b ≡ true
part_solid b h = grind (arith, nat_tests)

pub name_is_field : (name : List ℕ) → is_name name ≡ true → IsField name
name_is_field name h =
    let front = and_parts _ (list_all is_name_part name) h in
    let lengths = and_parts _ (is_name_start (get_or name 0 0)) front.0 in
    let long = and_parts (nat_le 1 (length name)) (nat_le (length name) 64) lengths.0 in
    record {
      filled = filled_from_length name (leb-true 1 (length name) long.0);
      solid = list_all_weaker is_name_part is_solid part_solid name front.1;
    }

bytes_same : (a b : List ℕ) → a ≡ b → bytes_eq a b ≡ true
bytes_same a b e = (bytes_eq-Decides a b).1 e

pub bytes_other : (a b : List ℕ) → a ≢ b → bytes_eq a b ≡ false
bytes_other a b ne = false_from_ne_true (bytes_eq a b) (λ t. ne ((bytes_eq-Decides a b).0 t))

position_some : (p : List ℕ → Bool) (xs : List (List ℕ)) (i : ℕ) → i < length xs → ((k : ℕ) → k < i → p (get_or xs k []) ≡ false) → p (get_or xs i []) ≡ true
    → position p xs ≡ Some i
position_some p xs i lt before here =
    let at : position_or_len p xs ≡ i = position_or_len_is p xs i [] (omega arith) before (λ l. here) in
    ap (λ n. cond (nat_lt n (length xs)) (Some n) None) at ∙ ap (λ b. cond b (Some i) None) (lt-ltb i (length xs) lt)

pub position_none : (p : List ℕ → Bool) (xs : List (List ℕ)) → ((k : ℕ) → k < length xs → p (get_or xs k []) ≡ false) → position p xs ≡ None
position_none p xs before =
    let at : position_or_len p xs ≡ length xs = position_or_len_is p xs (length xs) [] (omega arith) before (λ l. absurd (omega arith)) in
    ap (λ n. cond (nat_lt n (length xs)) (Some n) None) at ∙ ap (λ b. cond b (Some (length xs)) None) (le-ltb (length xs) (length xs) (omega arith))

-- WHERE A NAME STANDS. Among names that differ pairwise the look-up of the name at a place finds that place: it passes
-- there, and at no place before it. So a name that is written is read as the number that it was written for.
pub position_back : (names : List (List ℕ)) (i : ℕ)
    → AllPairs (λ (x y : List ℕ). x ≢ y) names → i < length names → position (bytes_eq (get_or names i [])) names ≡ Some i
position_back names i differ lt =
    position_some (bytes_eq (get_or names i [])) names i lt
    (λ k before. bytes_other (get_or names i []) (get_or names k []) (λ e. differ k i [] before lt (sym e)))
    (bytes_same (get_or names i []) (get_or names i []) refl)

-- and the name that comes after some of them is not yet among these
pub position_fresh : (known : List (List ℕ)) (name : List ℕ) (more : List (List ℕ)) → AllPairs (λ (x y : List ℕ). x ≢ y) (known ++ name ∷ more)
    → position (bytes_eq name) known ≡ None
position_fresh known name more differ =
    position_none (bytes_eq name) known
    (λ k lt. bytes_other name (get_or known k [])
    (λ e. differ k (length known) [] lt (omega (arith, length-append known (name ∷ more)))
    (get_or_append_left known (name ∷ more) [] k lt ∙ sym e ∙ sym (get_or_at known name more [] (length known) refl))))
