-- Lists of joined places: one list among those of all places, and the places of a list that remain.
--   by_list, kept_set, pairs_set     another list for a place
--   list_read                        the list of a place that is read
--   row-joined, rooms_left           one list more whose place is joined with all of a list
--   IsFiltered, filtered-none, filtered-more     the places so far that pass a test
use Rattle.std.proofs.Common.{zero, suc, ◌≡◌, ◌≢◌, ℕ, ◌+◌, ◌<◌, ◌≤◌, List, Bool, true, false, ◌&&◌, ◌||◌, not, ap, sym, ◌∙◌, refl, length, get_or, set, subst}
use Rattle.std.proofs.Common.{add-one, arith, get_or-set_other, get_or-set_same, length-set, [], ◌∷◌, ◌++◌, inl, inr}
use Rattle.std.specs.Prelude.{◌==◌, if◌then◌else◌, slice_index_or, nat_le, nat_lt}
use Rattle.std.proofs.lemmas.Bool.Decides.{nat_tests}
use Rattle.std.proofs.lemmas.Bool.{cases_lt, false≢true}
use Rattle.std.proofs.Math.ListN.{get_or-eq_default}
use Rattle.std.proofs.lemmas.List.{get_or_read}
use Rattle.dist_rows.specs.Places.{AreRisingPlaces}
use Rattle.elim_step.specs.Eliminates.{count_below, remains}
use Rattle.elim_step.specs.PlaceLists.{PlaceListView, no_places, place_at, places_of, room_of, AreJoined}
use Rattle.stn_walk.specs.Eliminations.{is_in}
use Rattle.elim_step.specs.Blocks.{IsBlock}
use Rattle.stn_walk.proofs.Members.{is_in-at}
use Rattle.elim_step.proofs.Blocks.{block-more, block-longer, block-empty, count_below-gap, count-step}
use Rattle.elim_step.proofs.PlaceLists.{not_listed, below_up, above_up}
use Rattle.std.proofs.Math.Bool.{and-false}

list_set : (lists : List PlaceListView) (i p : ℕ) (l : PlaceListView) → i < length lists
    → slice_index_or (set lists i l) p no_places ≡ (if p == i then l else slice_index_or lists p no_places)
list_set lists i p l lt =
    elim (p == i) as (λ b. (p == i) ≡ b → slice_index_or (set lists i l) p no_places ≡ (if b then l else slice_index_or lists p no_places)) [
      | true ↦ λ h. (let e : p ≡ i = grind (arith, nat_tests) in rw e (get_or-set_same lists i l no_places lt))
      | false ↦ λ h. (let e : p ≢ i = grind (arith, nat_tests) in get_or-set_other lists i p l no_places e)
    ] refl

-- what holds of the new list and of all old ones holds of all
pub by_list : (P : ℕ → PlaceListView → Type 0) (lists : List PlaceListView) (i : ℕ) (l : PlaceListView) → i < length lists → P i l
    → ((p : ℕ) → P p (slice_index_or lists p no_places)) → (p : ℕ) → P p (slice_index_or (set lists i l) p no_places)
by_list P lists i l lt new old p =
    subst (λ (x : PlaceListView). P p x) (sym (list_set lists i p l lt))
    (elim (p == i) as (λ b. (p == i) ≡ b → P p (if b then l else slice_index_or lists p no_places)) [
      | true ↦ λ h. (let e : i ≡ p = grind (arith, nat_tests) in subst (λ (k : ℕ). P k l) e new)
      | false ↦ λ h. old p
    ] refl)

-- the lists are as they are to be where the new one rises and has other places below the size
pub kept_set : (size : ℕ) (lists : List PlaceListView) (i : ℕ) (l : PlaceListView) → AreJoined size lists → i < size → AreRisingPlaces l.places
    → ((q : ℕ) → is_in l.places q ≡ true → (q < size) × (i ≢ q)) → AreJoined size (set lists i l)
kept_set size lists i l k low rising within =
    let lt : i < length lists = rw k.len low in
    record {
      len = length-set lists i l ∙ k.len;
      rising = by_list (λ p x. AreRisingPlaces x.places) lists i l lt rising k.rising;
      within = by_list (λ p x. (q : ℕ) → is_in x.places q ≡ true → (q < size) × (p ≢ q)) lists i l lt within k.within;
    }

-- the pairs after places were added to a list
pub pairs_set : (lists : List PlaceListView) (i : ℕ) (l : PlaceListView) (more : ℕ → Bool) → i < length lists
    → ((q : ℕ) → is_in l.places q ≡ (is_in (places_of lists i) q || more q))
    → (p q : ℕ) → is_in (places_of (set lists i l) p) q ≡ (is_in (places_of lists p) q || ((p == i) && more q))
pairs_set lists i l more lt is p q =
    subst (λ (x : PlaceListView). is_in x.places q ≡ (is_in (places_of lists p) q || ((p == i) && more q))) (sym (list_set lists i p l lt))
    (elim (p == i) as (λ b. (p == i) ≡ b → is_in (if b then l else slice_index_or lists p no_places).places q
    ≡ (is_in (places_of lists p) q || (b && more q))) [
      | true ↦ λ h. (let e : i ≡ p = grind (arith, nat_tests) in subst
          (λ (k : ℕ). is_in l.places q ≡ (is_in (places_of lists k) q || more q)) e (is q))
      | false ↦ λ h. or-false (is_in (places_of lists p) q)
    ] refl) where
      or-false : (b : Bool) → b ≡ (b || false)
      or-false true = refl
      or-false false = refl

-- the list of a place that is read
pub list_read : (size : ℕ) (lists : List PlaceListView) → AreJoined size lists → (i : ℕ) → i < size → (x : PlaceListView) → x ≡ slice_index_or lists i x
    → x ≡ slice_index_or lists i no_places
list_read size lists k i low x is = get_or_read lists i x (rw k.len low) is no_places

-- there is room in the lists of the places so far
pub rooms_more : (old new : List PlaceListView) (xs : List ℕ) (n : ℕ) → ((p : ℕ) → places_of new p ≡ places_of old p)
    → ((p : ℕ) → room_of old p ≤ room_of new p) → length (places_of new (place_at xs n)) + length xs ≤ room_of new (place_at xs n)
    → ((m : ℕ) → m < n → length (places_of old (place_at xs m)) + length xs ≤ room_of old (place_at xs m))
    → (m : ℕ) → m < n + 1 → length (places_of new (place_at xs m)) + length xs ≤ room_of new (place_at xs m)
rooms_more old new xs n same grows last rooms m less =
    elim (cases_lt m n) [
      | inl before ↦
          let had = rooms m before in
          let as_long : length (places_of new (place_at xs m)) ≡ length (places_of old (place_at xs m)) = ap length (same (place_at xs m)) in
          let more = grows (place_at xs m) in
          omega (arith, had, as_long, more)
      | inr from ↦ (let e : m ≡ n = omega (arith, less, from) in rw e last)
    ]

-- and there is still room in the lists of the places behind
pub rooms_left : (old new : List PlaceListView) (xs : List ℕ) (n : ℕ) → AreRisingPlaces xs
    → ((p : ℕ) → p ≢ place_at xs n → (places_of new p ≡ places_of old p) × (room_of new p ≡ room_of old p))
    → ((m : ℕ) → n ≤ m → m < length xs → length (places_of old (place_at xs m)) + length xs ≤ room_of old (place_at xs m))
    → (m : ℕ) → n + 1 ≤ m → m < length xs → length (places_of new (place_at xs m)) + length xs ≤ room_of new (place_at xs m)
rooms_left old new xs n rising others rooms m from low =
    let less : place_at xs n < place_at xs m = rising n m (omega (arith, from)) low in
    let same = others (place_at xs m) (λ e. (omega (arith, less, e))) in
    let had = rooms m (omega (arith, from)) low in
    let as_long : length (places_of new (place_at xs m)) ≡ length (places_of old (place_at xs m)) = ap length same.0 in
    let as_roomy = same.1 in
    omega (arith, had, as_long, as_roomy)

-- lists without places
pub none_joined : (size : ℕ) (lists : List PlaceListView) → length lists ≡ size → ((p : ℕ) → places_of lists p ≡ []) → AreJoined size lists
none_joined size lists len none = record {
  len = len;
  rising = λ p. subst AreRisingPlaces (sym (none p)) (λ m n less l. absurd (omega (arith, l)));
  within = λ p q h. absurd (false≢true (sym (ap (λ xs. is_in xs q) (none p)) ∙ h));
}

-- as many lists of the same places
pub same_lists : (size : ℕ) (old new : List PlaceListView) → length old ≡ size → length new ≡ size
    → ((p : ℕ) → p < size → places_of new p ≡ places_of old p) → (p : ℕ) → places_of new p ≡ places_of old p
same_lists size old new many as_many same p =
    elim (cases_lt p size) [
      | inl low ↦ same p low
      | inr past ↦ ap (λ (l : PlaceListView). l.places) (get_or-eq_default new no_places (omega (arith, past, as_many))
          ∙ sym (get_or-eq_default old no_places (omega (arith, past, many))))
    ]

pub copied : (size : ℕ) (old new : List PlaceListView) → AreJoined size old → length new ≡ size → ((p : ℕ) → places_of new p ≡ places_of old p)
    → AreJoined size new
copied size old new k len same = record {
  len = len;
  rising = λ p. subst AreRisingPlaces (sym (same p)) (k.rising p);
  within = λ p q h. k.within p q (sym (ap (λ xs. is_in xs q) (same p)) ∙ h);
}

-- one more place that is joined with all of a list
pub row-joined : (x y : Bool) (p q i : ℕ) (a b : Bool) → y ≡ (x || (not (p == q) && a && b))
    → (y || ((p == i) && (b && not (q == i)))) ≡ (x || (not (p == q) && (a || (p == i)) && b))
row-joined x y p q i a b is = rw is (elim (p == i) as (λ t. (p == i) ≡ t
    → ((x || (not (p == q) && a && b)) || (t && (b && not (q == i)))) ≡ (x || (not (p == q) && (a || t) && b))) [
      | true ↦ λ h. (let e : (p == q) ≡ (q == i) = turned p q i h in rw e (here x (q == i) a b))
      | false ↦ λ h. away x (not (p == q)) a b
    ] refl) where
      turned : (p q i : ℕ) → (p == i) ≡ true → (p == q) ≡ (q == i)
      turned p q i h = grind (arith, nat_tests)

      here : (x s a b : Bool) → ((x || (not s && a && b)) || (b && not s)) ≡ (x || (not s && (a || true) && b))
      here true s a b = refl
      here false true a true = refl
      here false true a false = refl
      here false false true true = refl
      here false false true false = refl
      here false false false true = refl
      here false false false false = refl

      away : (x d a b : Bool) → ((x || (d && a && b)) || false) ≡ (x || (d && (a || false) && b))
      away true d a b = refl
      away false false a b = refl
      away false true true true = refl
      away false true true false = refl
      away false true false b = refl

-- The places so far of a list that rises that pass a test, before each number up to which the list has no further ones.
abbrev pub IsFiltered : (ℕ → Bool) → List ℕ → ℕ → List ℕ → Type 0
IsFiltered test xs n ys =
    (b : ℕ) → ((m : ℕ) → m < n → place_at xs m < b) → ((m : ℕ) → n ≤ m → m < length xs → b ≤ place_at xs m) → IsBlock test 0 b ys

-- no place before the list, and none between one of it and the next
gap_before : (test : ℕ → Bool) (xs : List ℕ) → ((p : ℕ) → is_in xs p ≡ false → test p ≡ false) → (b : ℕ)
    → ((m : ℕ) → m < length xs → b ≤ place_at xs m) → (p : ℕ) → p < b → test p ≡ false
gap_before test xs off b after p low = off p (not_listed xs p (λ m l e. (let le = after m l in omega (arith, le, low, e))))

gap_behind : (test : ℕ → Bool) (xs : List ℕ) (n : ℕ) → ((p : ℕ) → is_in xs p ≡ false → test p ≡ false) → AreRisingPlaces xs → n < length xs → (b : ℕ)
    → ((m : ℕ) → n + 1 ≤ m → m < length xs → b ≤ place_at xs m) → (p : ℕ) → place_at xs n + 1 ≤ p → p < b → test p ≡ false
gap_behind test xs n off rising lt b after p above low = off p (not_listed xs p differ) where
  differ : (m : ℕ) → m < length xs → place_at xs m ≢ p
  differ m l e =
      elim (cases_lt m (n + 1)) [
        | inl before ↦ let le = below_up xs m n (place_at xs n + 1) rising before lt (omega arith) in omega (arith, le, above, e)
        | inr from ↦ let le = after m from l in omega (arith, le, low, e)
      ]

pub filtered-none : (test : ℕ → Bool) (xs : List ℕ) → ((p : ℕ) → is_in xs p ≡ false → test p ≡ false) → IsFiltered test xs 0 []
filtered-none test xs off b before after =
    block-longer test 0 0 b [] (block-empty test 0) (omega arith) (λ p from low. gap_before test xs off b (λ m l. after m (omega arith) l) p low)

-- the block up to the next place
pub filtered-up : (test : ℕ → Bool) (xs : List ℕ) (n : ℕ) (ys : List ℕ) → AreRisingPlaces xs → n < length xs → IsFiltered test xs n ys
    → IsBlock test 0 (place_at xs n) ys
filtered-up test xs n ys rising lt was =
    was (place_at xs n) (λ m less. rising m n less lt) (λ m from l. above_up xs m n (place_at xs n) rising from l (omega arith))

pub filtered-more : (test : ℕ → Bool) (xs : List ℕ) (n : ℕ) (ys : List ℕ) (wanted : Bool) → ((p : ℕ) → is_in xs p ≡ false → test p ≡ false)
    → AreRisingPlaces xs → n < length xs → IsFiltered test xs n ys → test (place_at xs n) ≡ wanted
    → IsFiltered test xs (n + 1) (ys ++ (if wanted then place_at xs n ∷ [] else []))
filtered-more test xs n ys wanted off rising lt was is b before after =
    let x = place_at xs n in
    block-longer test 0 (x + 1) b (ys ++ (if wanted then x ∷ [] else []))
    (block-more test 0 x x wanted ys (filtered-up test xs n ys rising lt was) (omega arith) is (λ m from low. absurd (omega (arith, from, low))))
    (let past = before n (omega arith) in omega (arith, past))
    (gap_behind test xs n off rising lt b after)

pub filtered-all : (test : ℕ → Bool) (xs : List ℕ) (n : ℕ) (ys : List ℕ) (size : ℕ) → IsFiltered test xs n ys → length xs ≤ n
    → ((p : ℕ) → is_in xs p ≡ true → p < size) → n ≤ length xs → IsBlock test 0 size ys
filtered-all test xs n ys size was all within few =
    was size (λ m less. within (place_at xs m) (is_in-at xs m (omega (arith, less, few)))) (λ m from l. absurd (omega (arith, from, l, all)))

-- what is told of a list that is that of a place
pub list_off : (remain : List Bool) (xs ys : List ℕ) → ys ≡ xs → (p : ℕ) → is_in xs p ≡ false → (remains remain p && is_in ys p) ≡ false
list_off remain xs ys same p away = (λ t. remains remain p && is_in (same t) p) ∙ ap (λ b. remains remain p && b) away ∙ and-false (remains remain p)

pub list_on : (remain : List Bool) (xs ys : List ℕ) → ys ≡ xs → (n : ℕ) → n < length xs
    → (remains remain (get_or xs n 0) && is_in ys (get_or xs n 0)) ≡ remains remain (get_or xs n 0)
list_on remain xs ys same n lt =
    (λ t. remains remain (get_or xs n 0) && is_in (same t) (get_or xs n 0)) ∙ ap (λ b. remains remain (get_or xs n 0) && b) (is_in-at xs n lt)
    ∙ and_true (remains remain (get_or xs n 0)) where
      and_true : (b : Bool) → (b && true) ≡ b
      and_true true = refl
      and_true false = refl

-- a block of all places has exactly those that pass
pub block_whole : (test : ℕ → Bool) (size : ℕ) (ys : List ℕ) → IsBlock test 0 size ys → ((p : ℕ) → test p ≡ true → p < size) → (p : ℕ)
    → is_in ys p ≡ test p
block_whole test size ys block low p = block.each p ∙ whole (test p) (low p) where
  whole : (t : Bool) → (t ≡ true → p < size) → (nat_le 0 p && nat_lt p size && t) ≡ t
  whole true l = (let h = l refl in grind (arith, nat_tests))
  whole false l = grind (arith, nat_tests)

pub block_count : (test : ℕ → Bool) (size : ℕ) (ys : List ℕ) → IsBlock test 0 size ys → length ys ≡ count_below test size
block_count test size ys block = (let c = block.count in omega arith)

pub both_right : (a b : Bool) → (a && b) ≡ true → b ≡ true
both_right true b h = h
both_right false b h = absurd (false≢true h)

pub one_few : (wanted : Bool) (n : ℕ) → n ≡ (if wanted then 1 else 0) → n ≤ 1
one_few true n is = omega (arith, is)
one_few false n is = omega (arith, is)

-- The same as a number.
abbrev pub IsCounted : (ℕ → Bool) → List ℕ → ℕ → ℕ → Type 0
IsCounted test xs n count =
    (b : ℕ) → ((m : ℕ) → m < n → place_at xs m < b) → ((m : ℕ) → n ≤ m → m < length xs → b ≤ place_at xs m) → count ≡ count_below test b

pub counted-none : (test : ℕ → Bool) (xs : List ℕ) → ((p : ℕ) → is_in xs p ≡ false → test p ≡ false) → IsCounted test xs 0 0
counted-none test xs off b before after =
    sym (count_below-gap test 0 b (omega arith) (λ p from low. gap_before test xs off b (λ m l. after m (omega arith) l) p low))

pub counted-up : (test : ℕ → Bool) (xs : List ℕ) (n count : ℕ) → AreRisingPlaces xs → n < length xs → IsCounted test xs n count
    → count ≡ count_below test (place_at xs n)
counted-up test xs n count rising lt was =
    was (place_at xs n) (λ m less. rising m n less lt) (λ m from l. above_up xs m n (place_at xs n) rising from l (omega arith))

pub counted-more : (test : ℕ → Bool) (xs : List ℕ) (n count : ℕ) (wanted : Bool) → ((p : ℕ) → is_in xs p ≡ false → test p ≡ false)
    → AreRisingPlaces xs → n < length xs → IsCounted test xs n count → test (place_at xs n) ≡ wanted
    → IsCounted test xs (n + 1) (count + (if wanted then 1 else 0))
counted-more test xs n count wanted off rising lt was is b before after =
    let x = place_at xs n in
    let here = counted-up test xs n count rising lt was in
    let step = count-step test x x wanted (omega arith) is (λ m from low. absurd (omega (arith, from, low))) in
    let past : x + 1 ≤ b = (let p = before n (omega arith) in omega (arith, p)) in
    let on = count_below-gap test (x + 1) b past (gap_behind test xs n off rising lt b after) in
    omega arith

pub counted-all : (test : ℕ → Bool) (xs : List ℕ) (n count size : ℕ) → IsCounted test xs n count → length xs ≤ n
    → ((p : ℕ) → is_in xs p ≡ true → p < size) → n ≤ length xs → count ≡ count_below test size
counted-all test xs n count size was all within few =
    was size (λ m less. within (place_at xs m) (is_in-at xs m (omega (arith, less, few)))) (λ m from l. absurd (omega (arith, from, l, all)))

pub count_below-few : (test : ℕ → Bool) (n : ℕ) → count_below test n ≤ n
count_below-few test zero = omega arith
count_below-few test (suc n) =
    let few = count_below-few test n in
    elim (test n) as (λ b. (if b then 1 else 0) + count_below test n ≤ suc n) [ true ↦ omega (arith, few) | false ↦ omega (arith, few) ]

-- the places of a list that rises are as many as the numbers below a size that are in it
pub count_of_list : (xs : List ℕ) (size : ℕ) → AreRisingPlaces xs → ((p : ℕ) → is_in xs p ≡ true → p < size) → length xs ≡ count_below (is_in xs) size
count_of_list xs size rising within =
    counted-all (is_in xs) xs (length xs) (length xs) size (up_to (length xs) (omega arith)) (omega arith) within (omega arith) where
      up_to : (n : ℕ) → n ≤ length xs → IsCounted (is_in xs) xs n n
      up_to zero few = counted-none (is_in xs) xs (λ p away. away)
      up_to (suc n) few =
          subst (λ (m : ℕ). IsCounted (is_in xs) xs m m) (add-one n)
          (counted-more (is_in xs) xs n n true (λ p away. away) rising (omega arith) (up_to n (omega arith)) (is_in-at xs n (omega arith)))
