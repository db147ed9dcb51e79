-- Names: one that a list lacks differs from all of it; the two names of an act.
use Rattle.std.proofs.Common.{◌≡◌, ◌≢◌, ℕ, suc, ◌+◌, ◌<◌, ◌≤◌, Bool, true, false, ◌&&◌, ◌||◌, not, nat_le, IsTrue, cond, List, [], ◌∷◌, ◌++◌, length, get_or, nat_lt, Option, Some, None, is_some, refl, sym, ap, subst, ◌∙◌, arith, length-append, if◌then◌else◌}
use Rattle.std.proofs.lemmas.List.Quantifiers.{all_pairs_push}
use Rattle.std.proofs.lemmas.List.Sums.{fails_before_first}
use Rattle.std.proofs.lemmas.Slice.Eq.{bytes_eq-Decides}
use Rattle.std.proofs.lemmas.Bool.{false≢true}
use Rattle.std.proofs.lemmas.Bool.Decides.{nat_tests}
use Rattle.std.specs.List.{AllPairs, position, position_or_len}
use Rattle.std.specs.Option.{option_map}
use Rattle.std.specs.Str.{bytes_eq}
use Rattle.std.specs.List.{list_all, list_any}
use Rattle.std.proofs.lemmas.List.{map_push}
use Rattle.std.proofs.lemmas.List.Folds.{list_all-append, list_any-append}
use Rattle.stn_model.specs.Limits.{longest_name}
use Rattle.stn_model.specs.Refusals.{is_name, is_name_start, is_name_part}
use Rattle.stn_model.specs.Net.{Net, Place, point_names, find_point, act_start_name, act_end_name}

pub apart : (name other : List ℕ) → bytes_eq name other ≡ false → other ≢ name
apart name other differ same = false≢true (sym differ ∙ (bytes_eq-Decides name other).1 (sym same))

none_found : (a n : ℕ) → is_some (cond (nat_lt a n) (Some a) None) ≡ false → n ≤ a
none_found a n h = grind (arith, nat_tests)

-- a name that the list lacks differs from each of it
pub names_lack : (name : List ℕ) (names : List (List ℕ)) → is_some (position (bytes_eq name) names) ≡ false → (k : ℕ) (d : List ℕ) → k < length names → get_or names k d ≢ name
names_lack name names lacks k d lt =
    let past = none_found (position_or_len (bytes_eq name) names) (length names) lacks in
    apart name (get_or names k d) (fails_before_first (bytes_eq name) names k d (omega arith))

pub push_name : (names all : List (List ℕ)) (name : List ℕ) → all ≡ names ++ name ∷ [] → is_some (position (bytes_eq name) names) ≡ false
    → AllPairs (λ x y. x ≢ y) names → AllPairs (λ x y. x ≢ y) all
push_name names all name is lacks h = subst (AllPairs (λ x y. x ≢ y)) (sym is) (all_pairs_push (λ x y. x ≢ y) names name h (names_lack name names lacks))

-- what `find` lacks is not `z`, and no point has it
pub point_lacks : (net : Net) (name : List ℕ) → is_some (find_point net name) ≡ false
    → (bytes_eq name (122 ∷ []) ≡ false) × (is_some (position (bytes_eq name) (point_names net)) ≡ false)
point_lacks net name h = parts (bytes_eq name (122 ∷ [])) (position (bytes_eq name) (point_names net)) h
  where
    parts : (b : Bool) (o : Option ℕ) → is_some (if b then Some 0 else option_map (λ n. n + 1) o) ≡ false → (b ≡ false) × (is_some o ≡ false)
    parts true o e = absurd (false≢true (sym e))
    parts false None e = (refl, refl)
    parts false (Some x) e = (refl, e)

-- the two names of an act differ in their last byte
pub ends_apart : (name : List ℕ) → bytes_eq (act_end_name name) (act_start_name name) ≡ false
ends_apart name = by (bytes_eq (act_end_name name) (act_start_name name)) refl
  where
    rest : List ℕ → List ℕ
    rest [] = []
    rest (x ∷ xs) = xs

    last_differs : (xs : List ℕ) → xs ++ 46 ∷ 101 ∷ [] ≢ xs ++ 46 ∷ 115 ∷ []
    last_differs [] e = let last : 101 ≡ 115 = ap (λ l. get_or l 1 0) e in absurd (omega (arith, last))
    last_differs (x ∷ xs) e = last_differs xs (ap rest e)

    by : (b : Bool) → bytes_eq (act_end_name name) (act_start_name name) ≡ b → bytes_eq (act_end_name name) (act_start_name name) ≡ false
    by true e = absurd (last_differs name ((bytes_eq-Decides (act_end_name name) (act_start_name name)).0 e))
    by false e = e

pub starts_apart : (name : List ℕ) → bytes_eq (act_start_name name) (act_end_name name) ≡ false
starts_apart name = by (bytes_eq (act_start_name name) (act_end_name name)) refl
  where
    by : (b : Bool) → bytes_eq (act_start_name name) (act_end_name name) ≡ b → bytes_eq (act_start_name name) (act_end_name name) ≡ false
    by true e =
        let same = (bytes_eq-Decides (act_start_name name) (act_end_name name)).0 e in
        absurd (false≢true (sym (ends_apart name) ∙ (bytes_eq-Decides (act_end_name name) (act_start_name name)).1 (sym same)))
    by false e = e

-- where the one is a name, so is the other
pub end_is_name : (name : List ℕ) → IsTrue (is_name (act_start_name name)) → IsTrue (is_name (act_end_name name))
end_is_name [] h = absurd (false≢true h)
end_is_name (x ∷ xs) h =
    let len : length (act_end_name (x ∷ xs)) ≡ length (act_start_name (x ∷ xs)) =
    omega (arith, length-append (x ∷ xs) (46 ∷ 101 ∷ []), length-append (x ∷ xs) (46 ∷ 115 ∷ [])) in
    let parts : list_all is_name_part (act_end_name (x ∷ xs)) ≡ list_all is_name_part (act_start_name (x ∷ xs)) =
    list_all-append is_name_part (x ∷ xs) (46 ∷ 101 ∷ []) ∙ sym (list_all-append is_name_part (x ∷ xs) (46 ∷ 115 ∷ [])) in
    subst IsTrue
    (ap (λ n. nat_le 1 n && nat_le n longest_name && is_name_start x && list_all is_name_part (act_start_name (x ∷ xs))) (sym len)
    ∙ ap (λ b. nat_le 1 (length (act_end_name (x ∷ xs))) && nat_le (length (act_end_name (x ∷ xs))) longest_name && is_name_start x && b) (sym parts)) h

-- whether a test finds an element
some_any : (test : List ℕ → Bool) (xs : List (List ℕ)) → is_some (position test xs) ≡ list_any test xs
some_any test xs = some_where (nat_lt (position_or_len test xs) (length xs)) (position_or_len test xs) ∙ counted xs
  where
    some_where : (b : Bool) (n : ℕ) → is_some (cond b (Some n) None) ≡ b
    some_where true n = refl
    some_where false n = refl

    counted : (xs : List (List ℕ)) → nat_lt (position_or_len test xs) (length xs) ≡ list_any test xs
    counted [] = refl
    counted (x ∷ xs) = by (test x) (position_or_len test xs) (length xs) (list_any test xs) (counted xs)
      where
        by : (b : Bool) (a n : ℕ) (rest : Bool) → nat_lt a n ≡ rest → nat_lt (cond (not b) (1 + a) 0) (suc n) ≡ (b || rest)
        by true a n rest e = grind (arith, nat_tests)
        by false a n rest e = more a n ∙ e
          where
            more : (a n : ℕ) → nat_lt (1 + a) (suc n) ≡ nat_lt a n
            more a n = grind (arith, nat_tests)

-- a name that is not found, and is not the new point's, is not found beside it
pub lacks_more : (net : Net) (place : Place) (name : List ℕ) → is_some (find_point net name) ≡ false → bytes_eq name place.name ≡ false
    → is_some (find_point (record net { places = net.places ++ place ∷ [] }) name) ≡ false
lacks_more net place name lacks other =
    let was = point_lacks net name lacks in
    let names : point_names (record net { places = net.places ++ place ∷ [] }) ≡ point_names net ++ place.name ∷ [] = map_push (λ p. p.name) net.places place in
    ap (λ b. is_some (if b then Some 0 else option_map (λ n. n + 1) (position (bytes_eq name) (point_names (record net { places = net.places ++ place ∷ [] }))))) was.0
    ∙ ap (λ ns. is_some (option_map (λ n. n + 1) (position (bytes_eq name) ns))) names
    ∙ not_mapped (position (bytes_eq name) (point_names net ++ place.name ∷ [])) (not_in (bytes_eq name) (point_names net) place.name was.1 other)
  where
    not_mapped : (o : Option ℕ) → is_some o ≡ false → is_some (option_map (λ n. n + 1) o) ≡ false
    not_mapped None e = refl
    not_mapped (Some x) e = e

    not_in : (test : List ℕ → Bool) (names : List (List ℕ)) (last : List ℕ) → is_some (position test names) ≡ false → test last ≡ false
        → is_some (position test (names ++ last ∷ [])) ≡ false
    not_in test names last h e =
        some_any test (names ++ last ∷ []) ∙ list_any-append test names (last ∷ []) ∙ ap (λ b. b || (test last || false)) (sym (some_any test names) ∙ h) ∙ ap (λ b. b || false) e
