-- One row replaced among the rows.
use Rattle.std.proofs.Common.{zero, suc, ◌≡◌, ◌≢◌, ℕ, ◌+◌, ◌<◌, ◌≤◌, List, [], ◌∷◌, ◌++◌, Bool, true, false, ◌&&◌, ◌||◌, Option, Some, None, set, take, ap}
use Rattle.std.proofs.Common.{sym, ◌∙◌, refl, length, arith, subst, get_or-set_other, get_or-set_same, length-set}
use Rattle.std.proofs.lemmas.List.{get_or_read, get_or_default}
use Rattle.std.specs.Prelude.{◌==◌, not, if◌then◌else◌, is_some, IfSome, slice_index_or, nat_lt, int_lt}
use Rattle.std.proofs.lemmas.Bool.Decides.{nat_tests}
use Rattle.dist_rows.specs.declared.cell.Cell.{Cell}
use Rattle.dist_rows.specs.declared.cell.Offer.{Offer}
use Rattle.dist_rows.specs.Cells.{lesser, lowered, are_neighbours, IsLight, offer_at, no_offer, AreRising}
use Rattle.dist_rows.specs.Places.{lists, AreRisingPlaces, IsListing, is_roomless, count_roomless}
use Rattle.dist_rows.proofs.Listings.{listing_empty, listing_more}
use Rattle.std.proofs.lemmas.List.Sums.{count_by_more_yes, count_by_more_no, sum_by-take-le}
use Rattle.sparse_rows.specs.declared.entry.Entry.{Entry}
use Rattle.sparse_rows.specs.Entries.{cell_at, opens, knows, entry_in, place_at, IsRising, IsSought, IsHere}
use Rattle.sparse_rows.specs.SparseMaps.{row_of, AreRows, AreOpen, cells_of, rooms_of, known_from_room, have_room, are_light}
use Rattle.sparse_rows.proofs.RowEntries.{found, above_up, here_from_known, sought_here}

pub row_set : (rows : List (List Entry)) (i p : ℕ) (r : List Entry) → i < length rows → row_of (set rows i r) p ≡ (if p == i then r else row_of rows p)
row_set rows i p r lt =
    elim (p == i) as (λ b. (p == i) ≡ b → row_of (set rows i r) p ≡ (if b then r else row_of rows p)) [
      | true ↦ λ h. (let e : p ≡ i = grind (arith, nat_tests) in rw e (get_or-set_same rows i r [] lt))
      | false ↦ λ h. (let e : p ≢ i = grind (arith, nat_tests) in get_or-set_other rows i p r [] e)
    ] refl

-- what holds of the new row and of all old ones holds of all
by_row : (P : ℕ → List Entry → Type 0) (rows : List (List Entry)) (i : ℕ) (r : List Entry) → i < length rows → P i r → ((p : ℕ) → P p (row_of rows p))
    → (p : ℕ) → P p (row_of (set rows i r) p)
by_row P rows i r lt new old p =
    subst (λ (x : List Entry). P p x) (sym (row_set rows i p r lt))
    (elim (p == i) as (λ b. (p == i) ≡ b → P p (if b then r else row_of rows p)) [
      | true ↦ λ h. (let e : i ≡ p = grind (arith, nat_tests) in subst (λ (k : ℕ). P k r) e new)
      | false ↦ λ h. old p
    ] refl)

light_some : (o : Option Cell) (c : Cell) → IfSome o (λ d. IsLight 100 d.weight) → o ≡ Some c → IsLight 100 c.weight
light_some None c h e = absurd (cc)
light_some (Some d) c h e = (let same : d ≡ c = cc in subst (λ (x : Cell). IsLight 100 x.weight) same h)

-- the rows are kept where the new row rises, has entries of places below the size and of light cells, all that were there, none with room of its own place,
-- and room only where it is mirrored
pub kept : (n : ℕ) (rows : List (List Entry)) (i : ℕ) (r : List Entry) → AreRows n rows → i < n → IsRising r
    → ((q : ℕ) → knows r q ≡ true → q < n)
    → opens r i ≡ false
    → ((q : ℕ) → IfSome (cell_at r q) (λ c. IsLight 100 c.weight))
    → ((q : ℕ) → knows (row_of rows i) q ≡ true → knows r q ≡ true)
    → ((q : ℕ) → opens r q ≡ true → knows (row_of rows q) i ≡ true)
    → AreRows n (set rows i r)
kept n rows i r k lt rising within apart light more mirrored =
    let l : i < length rows = rw k.len lt in
    let grows : (q : ℕ) → (m : ℕ) → knows (row_of rows q) m ≡ true → knows (row_of (set rows i r) q) m
    ≡ true = by_row (λ q x. (m : ℕ) → knows (row_of rows q) m ≡ true → knows x m ≡ true) rows i r l more (λ q m h. h) in
    let shines : (p : ℕ) (q : ℕ) (c : Cell) → cell_at (row_of (set rows i r) p) q ≡ Some c
    → IsLight 100 c.weight = by_row (λ p x. (q : ℕ) (c : Cell) → cell_at x q ≡ Some c → IsLight 100 c.weight) rows i r l
    (λ q c e. light_some (cell_at r q) c (light q) e) k.light in
    record {
      len = length-set rows i r ∙ k.len;
      rising = by_row (λ p x. IsRising x) rows i r l rising k.rising;
      within = by_row (λ p x. (q : ℕ) → knows x q ≡ true → q < n) rows i r l within k.within;
      apart = by_row (λ p x. opens x p ≡ false) rows i r l apart k.apart;
      light = shines;
      mirrored = by_row (λ p x. (q : ℕ) → opens x q ≡ true → knows (row_of (set rows i r) q) p ≡ true) rows i r l (λ q h. grows q i (mirrored q h))
          (λ p q h. grows q p (k.mirrored p q h));
    }

-- the cells after one of them is lowered
pub cells_lowered : (rows : List (List Entry)) (i j : ℕ) (r : List Entry) (cell : Cell) → i < length rows
    → ((q : ℕ) → cell_at r q ≡ (if q == j then lesser (cell_at (row_of rows i) j) cell else cell_at (row_of rows i) q))
    → (p q : ℕ) → cells_of (set rows i r) p q ≡ lowered i j cell (cells_of rows) p q
cells_lowered rows i j r cell lt is p q =
    subst (λ (x : List Entry). cell_at x q ≡ lowered i j cell (cells_of rows) p q) (sym (row_set rows i p r lt))
    (elim (p == i) as (λ b. (p == i) ≡ b → cell_at (if b then r else row_of rows p) q
    ≡ (if b && (q == j) then lesser (cells_of rows i j) cell else cells_of rows p q)) [
      | true ↦ λ h. (let e : i ≡ p = grind (arith, nat_tests) in subst
          (λ (k : ℕ). cell_at r q ≡ (if q == j then lesser (cells_of rows i j) cell else cells_of rows k q)) e (is q))
      | false ↦ λ h. refl
    ] refl)

-- the room after that of one pair is made
pub room_made : (rows : List (List Entry)) (i j : ℕ) (r : List Entry) → i < length rows
    → ((q : ℕ) → opens r q ≡ ((q == j) || opens (row_of rows i) q))
    → (p q : ℕ) → rooms_of (set rows i r) p q ≡ (((p == i) && (q == j)) || rooms_of rows p q)
room_made rows i j r lt is p q =
    subst (λ (x : List Entry). opens x q ≡ (((p == i) && (q == j)) || rooms_of rows p q)) (sym (row_set rows i p r lt))
    (elim (p == i) as (λ b. (p == i) ≡ b → opens (if b then r else row_of rows p) q ≡ ((b && (q == j)) || rooms_of rows p q)) [
      | true ↦ λ h. (let e : i ≡ p = grind (arith, nat_tests) in subst (λ (k : ℕ). opens r q ≡ ((q == j) || rooms_of rows k q)) e (is q))
      | false ↦ λ h. refl
    ] refl)

-- a fact of a row that the new one shares
pub stays : {X : Type 0} (F : List Entry → ℕ → X) (rows : List (List Entry)) (i : ℕ) (r : List Entry) → i < length rows
    → ((q : ℕ) → F r q ≡ F (row_of rows i) q) → (p q : ℕ) → F (row_of (set rows i r) p) q ≡ F (row_of rows p) q
stays F rows i r lt is = by_row (λ p x. (q : ℕ) → F x q ≡ F (row_of rows p) q) rows i r lt is (λ p q. refl)

pub empty_push : (rows : List (List Entry)) → ((p : ℕ) → row_of rows p ≡ []) → (p : ℕ) → row_of (rows ++ [] ∷ []) p ≡ []
empty_push [] h zero = refl
empty_push [] h (suc p) = refl
empty_push (x ∷ xs) h zero = h zero
empty_push (x ∷ xs) h (suc p) = empty_push xs (λ k. h (suc k)) p

-- what is read at the place of a row
pub row_read : (n : ℕ) (rows : List (List Entry)) → AreRows n rows → (i : ℕ) → i < n → (x : List Entry) → x ≡ slice_index_or rows i x → x ≡ row_of rows i
row_read n rows k i lt x is = get_or_read rows i x (rw k.len lt) is []

pub read_rises : (n : ℕ) (rows : List (List Entry)) → AreRows n rows → (i : ℕ) → i < n → (x : List Entry) → x ≡ slice_index_or rows i x → IsRising x
read_rises n rows k i lt x is = subst (λ (y : List Entry). IsRising y) (sym (row_read n rows k i lt x is)) (k.rising i)

pub empty_kept : (n : ℕ) (rows : List (List Entry)) → length rows ≡ n → ((p : ℕ) → row_of rows p ≡ []) → AreRows n rows
empty_kept n rows len none = record {
  len = len;
  rising = λ i. subst (λ (y : List Entry). IsRising y) (sym (none i)) (λ p q less l. absurd (omega (arith, l)));
  within = λ i j. subst (λ (y : List Entry). knows y j ≡ true → j < n) (sym (none i)) (λ h. absurd (cc));
  apart = λ i. subst (λ (y : List Entry). opens y i ≡ false) (sym (none i)) refl;
  light = λ i j c. subst (λ (y : List Entry). cell_at y j ≡ Some c → IsLight 100 c.weight) (sym (none i)) (λ h. absurd (cc));
  mirrored = λ i j. subst (λ (y : List Entry). opens y j ≡ true → knows (row_of rows j) i ≡ true) (sym (none i)) (λ h. absurd (cc));
}

-- a place that a row knows is that of one of its entries
knows_at : (es : List Entry) (m : ℕ) (X : Type 0) → knows es m ≡ true → ((q : ℕ) → q < length es → place_at es q ≡ m → X) → X
knows_at [] m X h k = absurd (cc)
knows_at (e ∷ es) m X h k =
    elim (e.place == m) as (λ b. (e.place == m) ≡ b → is_some (if b then Some e else entry_in es m) ≡ true → X) [
      | true ↦ λ is g. k zero (omega arith) (grind (arith, nat_tests))
      | false ↦ λ is g. knows_at es m X g (λ q l at. k (suc q) (omega (arith, l)) at)
    ] refl h

-- a row knows the place of each of its entries
pub known_at : (es : List Entry) (p : ℕ) → IsRising es → p < length es → knows es (place_at es p) ≡ true
known_at es p rising lt = ap (λ (o : Option Entry). is_some o) (found es p (place_at es p) (λ q l. rising q p l lt) lt refl)

either : (a b : Bool) (X : Type 0) → (a || b) ≡ true → (a ≡ true → X) → (b ≡ true → X) → X
either true b X h f g = f refl
either false b X h f g = g h

-- a row knows the neighbours of its place
neighbour_known : (n : ℕ) (rows : List (List Entry)) (i m : ℕ) → AreRows n rows → are_neighbours (cells_of rows) i m ≡ true → knows (row_of rows i) m ≡ true
neighbour_known n rows i m k h =
    either (is_some (cells_of rows i m)) (is_some (cells_of rows m i)) (knows (row_of rows i) m ≡ true) h
    (λ a. known_from_room (row_of rows i) m (have_room rows i m a))
    (λ b. k.mirrored m i (have_room rows m i b))

-- the entries of lesser places come first
comes_before : (es : List Entry) (q p : ℕ) → IsRising es → q < length es → place_at es q < place_at es p → q < p
comes_before es q p rising lt less =
    elim (nat_lt q p) as (λ b. nat_lt q p ≡ b → q < p) [
      | true ↦ λ h. grind (arith, nat_tests)
      | false ↦ λ h. (let le : p ≤ q = grind (arith, nat_tests) in absurd (omega (arith, less, above_up es q p (place_at es p) rising le lt (omega arith))))
    ] refl

-- where no entry of some places is of a neighbour, no such place is
none_left : (n : ℕ) (rows : List (List Entry)) (i m : ℕ) → AreRows n rows
    → ((q : ℕ) → q < length (row_of rows i) → place_at (row_of rows i) q ≡ m → are_neighbours (cells_of rows) i (place_at (row_of rows i) q) ≡ false)
    → are_neighbours (cells_of rows) i m ≡ false
none_left n rows i m k old =
    elim (are_neighbours (cells_of rows) i m) as (λ b. are_neighbours (cells_of rows) i m ≡ b → b ≡ false) [
      | true ↦ λ h. knows_at (row_of rows i) m (true ≡ false) (neighbour_known n rows i m k h)
          (λ q l is. sym h ∙ subst (λ (p : ℕ). are_neighbours (cells_of rows) i p ≡ false) is (old q l is))
      | false ↦ λ h. refl
    ] refl

pub no_neighbour : (n : ℕ) (rows : List (List Entry)) (i : ℕ) (A : ℕ → Type 0) → AreRows n rows
    → ((q : ℕ) → q < length (row_of rows i) → A (place_at (row_of rows i) q) → are_neighbours (cells_of rows) i (place_at (row_of rows i) q) ≡ false)
    → (m : ℕ) → A m → are_neighbours (cells_of rows) i m ≡ false
no_neighbour n rows i A k old m a = none_left n rows i m k (λ q l is. old q l (subst A (sym is) a))

pub no_lesser : (n : ℕ) (rows : List (List Entry)) (i : ℕ) (A : ℕ → Type 0) (p : ℕ) → AreRows n rows
    → ((q : ℕ) → q < p → A (place_at (row_of rows i) q) → are_neighbours (cells_of rows) i (place_at (row_of rows i) q) ≡ false)
    → (m : ℕ) → m < place_at (row_of rows i) p → A m → are_neighbours (cells_of rows) i m ≡ false
no_lesser n rows i A p k old m less a =
    none_left n rows i m k (λ q l is. old q (comes_before (row_of rows i) q p (k.rising i) l (omega (arith, is, less))) (subst A (sym is) a))

lesser_light : (old : Option Cell) (cell : Cell) → IfSome old (λ c. IsLight 100 c.weight) → IsLight 100 cell.weight
    → IfSome (lesser old cell) (λ c. IsLight 100 c.weight)
lesser_light None cell h light = light
lesser_light (Some o) cell h light =
    elim (int_lt cell.weight o.weight) as (λ b. IfSome (if b then Some cell else Some o) (λ c. IsLight 100 c.weight)) [ true ↦ light | false ↦ h ]

-- the rows are kept after a cell with room is lowered
pub kept_lowered : (n : ℕ) (rows : List (List Entry)) (i j : ℕ) (x r : List Entry) (cell : Cell) → AreRows n rows → i < n → x ≡ slice_index_or rows i x
    → IsRising r
    → ((q : ℕ) → knows r q ≡ knows x q) → ((q : ℕ) → opens r q ≡ opens x q)
    → ((q : ℕ) → cell_at r q ≡ (if q == j then lesser (cell_at x j) cell else cell_at x q)) → IsLight 100 cell.weight → AreRows n (set rows i r)
kept_lowered n rows i j x r cell k lt at rising known room cells light =
    let e : x ≡ row_of rows i = row_read n rows k i lt x at in
    let known_now : (q : ℕ) → knows r q ≡ knows (row_of rows i) q = (λ q. known q ∙ ap (λ (y : List Entry). knows y q) e) in
    let room_now : (q : ℕ) → opens r q ≡ opens (row_of rows i) q = (λ q. room q ∙ ap (λ (y : List Entry). opens y q) e) in
    let cells_now : (q : ℕ) → cell_at r q ≡ (if q == j then lesser (cell_at (row_of rows i) j) cell else cell_at (row_of rows i) q) = (λ q. cells q
    ∙ ap (λ (y : List Entry). if q == j then lesser (cell_at y j) cell else cell_at y q) e) in
    let shines : (q : ℕ) → IfSome (if q == j then lesser (cell_at (row_of rows i) j) cell else cell_at (row_of rows i) q) (λ c. IsLight 100 c.weight)
    = (λ q. elim (q == j) as (λ b. IfSome (if b then lesser (cell_at (row_of rows i) j) cell else cell_at (row_of rows i) q) (λ c. IsLight 100 c.weight))
    [ true ↦ lesser_light (cell_at (row_of rows i) j) cell (are_light n rows k i j) light | false ↦ are_light n rows k i q ]) in
    kept n rows i r k lt rising
    (λ q h. k.within i q (sym (known_now q) ∙ h))
    (room_now i ∙ k.apart i)
    (λ q. subst (λ (o : Option Cell). IfSome o (λ c. IsLight 100 c.weight)) (sym (cells_now q)) (shines q))
    (λ q h. known_now q ∙ h)
    (λ q h. k.mirrored i q (sym (room_now q) ∙ h))

-- an entry that a search finds in a row that is read
pub here_read : (n : ℕ) (rows : List (List Entry)) (i j p : ℕ) (x : List Entry) → AreRows n rows → i < n → x ≡ slice_index_or rows i x
    → IsSought (row_of rows i) j p → opens (row_of rows i) j ≡ true → IsHere x j p
here_read n rows i j p x k lt at s room =
    subst (λ (y : List Entry). IsHere y j p) (sym (row_read n rows k i lt x at))
    (here_from_known (row_of rows i) p j (k.rising i) s (known_from_room (row_of rows i) j room))

-- what is not above an offer is below all later ones
pub before_later : (os : List Offer) (n m x : ℕ) (d : Offer) → AreRising os → n < length os → x < (slice_index_or os n d).place + 1 → n + 1 ≤ m → m < length os
    → x < (offer_at os m).place
before_later os n m x d rising lt less later there =
    let e : slice_index_or os n d ≡ offer_at os n = get_or_default os n d no_offer lt in
    let place : (slice_index_or os n d).place ≡ (offer_at os n).place = ap (λ (y : Offer). y.place) e in
    let up : (offer_at os n).place < (offer_at os m).place = rising n m (omega (arith, later)) there in
    omega (arith, place, up, less)

-- what is below a place of a list that rises is below all later ones
pub below_later : (list : List ℕ) (n m x d : ℕ) → AreRisingPlaces list → n < length list → x < slice_index_or list n d → n + 1 ≤ m → m < length list
    → x < slice_index_or list m 0
below_later list n m x d rising lt less later there =
    let e : slice_index_or list n d ≡ slice_index_or list n 0 = get_or_default list n d 0 lt in
    let up : slice_index_or list n 0 < slice_index_or list m 0 = rising n m (omega (arith, later)) there in
    omega (arith, e, up, less)

-- what is not above a place of a list that rises is below all later ones
pub upto_later : (list : List ℕ) (n m x d : ℕ) → AreRisingPlaces list → n < length list → x < slice_index_or list n d + 1 → n + 1 ≤ m → m < length list
    → x < slice_index_or list m 0
upto_later list n m x d rising lt less later there =
    let e : slice_index_or list n d ≡ slice_index_or list n 0 = get_or_default list n d 0 lt in
    let up : slice_index_or list n 0 < slice_index_or list m 0 = rising n m (omega (arith, later)) there in
    omega (arith, e, up, less)

-- the place of an entry is below the size
pub place_within : (size : ℕ) (rows : List (List Entry)) (i at : ℕ) → AreRows size rows → at < length (row_of rows i) → place_at (row_of rows i) at < size
place_within size rows i at k lt = k.within i (place_at (row_of rows i) at) (known_at (row_of rows i) at (k.rising i) lt)

-- all entries have places below the size
pub sought_end : (size : ℕ) (rows : List (List Entry)) (i at : ℕ) → AreRows size rows → at ≡ length (row_of rows i) → IsSought (row_of rows i) size at
sought_end size rows i at k end = record {
  within = omega (arith, end);
  below = λ q less. place_within size rows i q k (omega (arith, less, end));
  above = λ q least less. absurd (omega (arith, least, less, end));
}

-- no neighbour has a place between two numbers between which no entry has one
pub listing_start : (size : ℕ) (rows : List (List Entry)) (i from start : ℕ) → AreRows size rows → IsSought (row_of rows i) from start
    → (b : ℕ) → IsSought (row_of rows i) b start → IsListing (are_neighbours (cells_of rows) i) from b []
listing_start size rows i from start k low b high = listing_empty (are_neighbours (cells_of rows) i) from b (λ p above below. none_left size rows i p k
    (λ q l is. elim (nat_lt q start) as (λ t. nat_lt q start ≡ t → are_neighbours (cells_of rows) i (place_at (row_of rows i) q) ≡ false) [
      | true ↦ λ h. (let before : q < start = grind (arith, nat_tests) in let less = low.below q before in absurd (omega (arith, less, above, is)))
      | false ↦ λ h. (let after : start ≤ q = grind (arith, nat_tests) in let least = high.above q after l in absurd (omega (arith, least, below, is)))
    ] refl))

-- a listing goes on by the entry that comes next
pub listing_next : (size : ℕ) (rows : List (List Entry)) (i from start at n b : ℕ) (w : Bool) (xs : List ℕ) → AreRows size rows
    → IsSought (row_of rows i) from start → start ≤ at
    → at < length (row_of rows i) → n ≡ place_at (row_of rows i) at → w ≡ are_neighbours (cells_of rows) i n
    → ((c : ℕ) → IsSought (row_of rows i) c at → IsListing (are_neighbours (cells_of rows) i) from c xs)
    → IsSought (row_of rows i) b (at + 1) → IsListing (are_neighbours (cells_of rows) i) from b (xs ++ (if w then n ∷ [] else []))
listing_next size rows i from start at n b w xs k low on lt is wanted was sought =
    let here : IsSought (row_of rows i) n at = subst (λ (m : ℕ). IsSought (row_of rows i) m at) (sym is) (sought_here (row_of rows i) at (k.rising i) lt) in
    let first = low.above at on lt in
    let last = sought.below at (omega arith) in
    listing_more (are_neighbours (cells_of rows) i) from n n b w xs (was n here) (omega (arith, first, is)) (omega arith) (omega (arith, last, is)) (sym wanted)
    (λ p above below apart. none_left size rows i p k (λ q l at_p. absurd (apart (only q p above below l at_p)))) where
      only : (q p : ℕ) → n ≤ p → p < b → q < length (row_of rows i) → place_at (row_of rows i) q ≡ p → p ≡ n
      only q p above below l at_p =
          elim (nat_lt q at) as (λ t. nat_lt q at ≡ t → p ≡ n) [
            | true ↦ λ h. (let before : q < at = grind (arith, nat_tests) in let less = (k.rising i) q at before lt in
                absurd (omega (arith, less, above, at_p, is)))
            | false ↦ λ h. elim (nat_lt at q) as (λ t. nat_lt at q ≡ t → p ≡ n) [
              | true ↦ λ g. (let after : at + 1 ≤ q = grind (arith, nat_tests) in let least = sought.above q after l in
                  absurd (omega (arith, least, below, at_p)))
              | false ↦ λ g. (let same : q ≡ at = grind (arith, nat_tests) in sym at_p ∙ ap (λ (m : ℕ). place_at (row_of rows i) m) same ∙ sym is)
            ] refl
          ] refl

-- one pair more that may have no room
pub count_more : (room : ℕ → ℕ → Bool) (i : ℕ) (list : List ℕ) (n count : ℕ) → n < length list → count ≡ count_roomless room i (take n list)
    → count + (if is_roomless room i (slice_index_or list n 0) then 1 else 0) ≡ count_roomless room i (take (n + 1) list)
count_more room i list n count lt so =
    elim (is_roomless room i (slice_index_or list n 0)) as (λ w. is_roomless room i (slice_index_or list n 0) ≡ w
    → count + (if w then 1 else 0) ≡ count_roomless room i (take (n + 1) list)) [
      | true ↦ λ is. (let more = count_by_more_yes (is_roomless room i) list n 0 lt is in omega (arith, so, more))
      | false ↦ λ is. (let same = count_by_more_no (is_roomless room i) list n 0 lt is in omega (arith, so, same))
    ] refl

pub at_most_one : (w : Bool) → (if w then 1 else 0) ≤ 1
at_most_one true = omega arith
at_most_one false = omega arith

-- a place of a list stands somewhere in it
pub stands_at : (list : List ℕ) (p : ℕ) (X : Type 0) → lists list p ≡ true → ((m : ℕ) → m < length list → slice_index_or list m 0 ≡ p → X) → X
stands_at [] p X there k = absurd (cc)
stands_at (x ∷ xs) p X there k =
    elim (p == x) as (λ w. (p == x) ≡ w → (w || lists xs p) ≡ true → X) [
      | true ↦ λ same g. k zero (omega arith) (grind (arith, nat_tests))
      | false ↦ λ other g. stands_at xs p X g (λ m l is. k (suc m) (omega (arith, l)) is)
    ] refl there

-- where no pair of i with a place of a list is counted, all have room
pub counted_none : (room : ℕ → ℕ → Bool) (i : ℕ) (list : List ℕ) → count_roomless room i list ≡ 0 → (q : ℕ) → lists list q ≡ true → i ≢ q → room i q ≡ true
counted_none room i list none q there apart = stands_at list q (room i q ≡ true) there (λ m l is.
    elim (is_roomless room i (slice_index_or list m 0)) as (λ w. is_roomless room i (slice_index_or list m 0) ≡ w → room i q ≡ true) [
      | true ↦ λ h. (let more = count_by_more_yes (is_roomless room i) list m 0 l h in
          let few = sum_by-take-le (λ x. if is_roomless room i x then 1 else 0) list (m + 1) in absurd (omega (arith, more, few, none)))
      | false ↦ λ h. full (room i q) (subst (λ (k : ℕ). is_roomless room i k ≡ false) is h)
    ] refl) where
      full : (b : Bool) → (not (i == q) && not b) ≡ false → b ≡ true
      full true h = refl
      full false h = absurd (let yes : (not (i == q) && true) ≡ true = grind (arith, nat_tests) in let no : true ≡ false = sym yes ∙ h in cc)

-- one place more whose pairs with a list have room
pub open_more : (rows : List (List Entry)) (list : List ℕ) (n : ℕ)
    → ((m q : ℕ) → m < n → lists list q ≡ true → slice_index_or list m 0 ≢ q → rooms_of rows (slice_index_or list m 0) q ≡ true)
    → count_roomless (rooms_of rows) (slice_index_or list n 0) list ≡ 0
    → (m q : ℕ) → m < n + 1 → lists list q ≡ true → slice_index_or list m 0 ≢ q → rooms_of rows (slice_index_or list m 0) q ≡ true
open_more rows list n old none m q less there apart =
    elim (nat_lt m n) as (λ w. nat_lt m n ≡ w → rooms_of rows (slice_index_or list m 0) q ≡ true) [
      | true ↦ λ h. old m q (grind (arith, nat_tests)) there apart
      | false ↦ λ h. (let last : n ≡ m = grind (arith, nat_tests) in
          counted_none (rooms_of rows) (slice_index_or list m 0) list (subst (λ (k : ℕ). count_roomless (rooms_of rows) (slice_index_or list k 0) list ≡ 0)
          last none) q there apart)
    ] refl

pub open_all : (rows : List (List Entry)) (list : List ℕ)
    → ((m q : ℕ) → m < length list → lists list q ≡ true → slice_index_or list m 0 ≢ q → rooms_of rows (slice_index_or list m 0) q ≡ true) → AreOpen rows list
open_all rows list each p q first second apart = stands_at list p (rooms_of rows p q ≡ true) first
    (λ m l is. subst (λ (k : ℕ). rooms_of rows k q ≡ true) is (each m q l second (λ same. apart (sym is ∙ same))))

-- room that is there already
pub open_already : (rows : List (List Entry)) (list : List ℕ) → AreOpen rows list → (p q : ℕ)
    → rooms_of rows p q ≡ ((not (p == q) && lists list p && lists list q) || rooms_of rows p q)
open_already rows list each p q = there (lists list p) (lists list q) (rooms_of rows p q) (each p q) where
  there : (a b c : Bool) → (a ≡ true → b ≡ true → p ≢ q → c ≡ true) → c ≡ ((not (p == q) && a && b) || c)
  there true true true h = grind (arith, nat_tests)
  there true true false h = grind (arith, nat_tests)
  there true false c h = grind (arith, nat_tests)
  there false b c h = grind (arith, nat_tests)

pub row_open_already : (rows : List (List Entry)) (i : ℕ) (list : List ℕ) → count_roomless (rooms_of rows) i list ≡ 0
    → (p q : ℕ) → rooms_of rows p q ≡ ((not (p == q) && (p == i) && lists list q) || rooms_of rows p q)
row_open_already rows i list none p q =
    elim (p == i) as (λ w. (p == i) ≡ w → rooms_of rows p q ≡ ((not (p == q) && w && lists list q) || rooms_of rows p q)) [
      | true ↦ λ same. (let is : i ≡ p = grind (arith, nat_tests) in
          there (lists list q) (rooms_of rows p q) (λ h apart. subst (λ (k : ℕ). rooms_of rows k q ≡ true) is
          (counted_none (rooms_of rows) i list none q h (λ e. apart (sym is ∙ e)))))
      | false ↦ λ other. grind (arith, nat_tests)
    ] refl where
      there : (b c : Bool) → (b ≡ true → p ≢ q → c ≡ true) → c ≡ ((not (p == q) && true && b) || c)
      there true true h = grind (arith, nat_tests)
      there true false h = grind (arith, nat_tests)
      there false c h = grind (arith, nat_tests)
