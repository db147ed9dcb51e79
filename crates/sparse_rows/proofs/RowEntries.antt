-- A row: what a search finds, and what a write and an insertion change.
use Rattle.std.proofs.Common.{zero, suc, ◌≡◌, ◌≢◌, ℕ, ◌+◌, ◌<◌, ◌≤◌, List, [], ◌∷◌, Bool, true, false, ◌&&◌, ◌||◌, Option, Some, None, set, ap, sym, ◌∙◌}
use Rattle.std.proofs.Common.{refl, length, arith, subst}
use Rattle.std.specs.Prelude.{◌==◌, if◌then◌else◌, is_some, slice_index_or, nat_lt}
use Rattle.std.specs.List.{insert}
use Rattle.std.proofs.lemmas.Bool.Decides.{nat_tests}
use Rattle.dist_rows.specs.Cells.{far, weight_in}
use Rattle.sparse_rows.specs.declared.entry.Entry.{Entry}
use Rattle.sparse_rows.specs.Entries.{entry_in, cell_of, is_open, cell_at, opens, knows, no_entry, place_at, IsRising, cell_in, is_open_origin, IsSought}
use Rattle.sparse_rows.specs.Entries.{IsGap, IsHere, IsChanged}

-- the places rise from b on
abbrev pub IsRisingFrom : ℕ → List Entry → Type 0
IsRisingFrom b [] = Unit {0}
IsRisingFrom b (e ∷ es) = (b ≤ e.place) × IsRisingFrom (e.place + 1) es

-- each place is at least the bound
place_from : (b : ℕ) (es : List Entry) (p : ℕ) → IsRisingFrom b es → p < length es → b ≤ place_at es p
place_from b [] p h lt = absurd (omega (arith, lt))
place_from b (e ∷ es) zero h lt = h.0
place_from b (e ∷ es) (suc p) h lt = let rest = place_from (e.place + 1) es p h.1 (omega (arith, lt)) in omega (arith, rest, h.0)

-- the same by index
by_index : (b : ℕ) (es : List Entry) → IsRisingFrom b es → IsRising es
by_index b [] h p q less lt = absurd (omega (arith, lt))
by_index b (e ∷ es) h p zero less lt = absurd (omega (arith, less))
by_index b (e ∷ es) h zero (suc q) less lt = let rest = place_from (e.place + 1) es q h.1 (omega (arith, lt)) in omega (arith, rest)
by_index b (e ∷ es) h (suc p) (suc q) less lt = by_index (e.place + 1) es h.1 p q (omega (arith, less)) (omega (arith, lt))

from_index : (b : ℕ) (es : List Entry) → (0 < length es → b ≤ place_at es 0) → IsRising es → IsRisingFrom b es
from_index b [] first h = tt
from_index b (e ∷ es) first h = (
  first (omega arith),
  from_index (e.place + 1) es (λ l. (let less = h 0 1 (omega arith) (omega (arith, l)) in omega (arith, less)))
      (λ p q less l. h (suc p) (suc q) (omega (arith, less)) (omega (arith, l))),
)

rises : (es : List Entry) → IsRising es → IsRisingFrom 0 es
rises es h = from_index 0 es (λ l. omega arith) h

-- at the place of an entry that no earlier one has
pub found : (es : List Entry) (p j : ℕ) → ((q : ℕ) → q < p → place_at es q < j) → p < length es → place_at es p ≡ j
    → entry_in es j ≡ Some (slice_index_or es p no_entry)
found [] p j below lt is = absurd (omega (arith, lt))
found (e ∷ es) zero j below lt is = (let yes : (e.place == j) ≡ true = grind (arith, nat_tests) in rw yes refl)
found (e ∷ es) (suc p) j below lt is =
    let first : e.place < j = below zero (omega arith) in
    let no : (e.place == j) ≡ false = grind (arith, nat_tests) in
    rw no (found es p j (λ q l. below (suc q) (omega (arith, l))) (omega (arith, lt)) is)

-- at a place that no entry has
pub missing : (es : List Entry) (p j : ℕ) → ((q : ℕ) → q < p → place_at es q < j) → ((q : ℕ) → p ≤ q → q < length es → j < place_at es q) → entry_in es j ≡ None
missing [] p j below above = refl
missing (e ∷ es) zero j below above =
    let first : j < e.place = above zero (omega arith) (omega arith) in
    let no : (e.place == j) ≡ false = grind (arith, nat_tests) in
    rw no (missing es zero j (λ q l. absurd (omega (arith, l))) (λ q a l. above (suc q) (omega arith) (omega (arith, l))))
missing (e ∷ es) (suc p) j below above =
    let first : e.place < j = below zero (omega arith) in
    let no : (e.place == j) ≡ false = grind (arith, nat_tests) in
    rw no (missing es p j (λ q l. below (suc q) (omega (arith, l))) (λ q a l. above (suc q) (omega (arith, a)) (omega (arith, l))))

-- up to an entry below j all are below j
pub below_up : (es : List Entry) (q m j : ℕ) → IsRising es → q < m + 1 → m < length es → place_at es m < j → place_at es q < j
below_up es q m j rising less lt below =
    elim (q == m) as (λ b. (q == m) ≡ b → place_at es q < j) [
      | true ↦ λ h. (let e : q ≡ m = grind (arith, nat_tests) in rw e below)
      | false ↦ λ h. (let l : q < m = grind (arith, nat_tests) in omega (arith, below, rising q m l lt))
    ] refl

-- from an entry not below j on none is below j
pub above_up : (es : List Entry) (q m j : ℕ) → IsRising es → m ≤ q → q < length es → j ≤ place_at es m → j ≤ place_at es q
above_up es q m j rising less lt above =
    elim (q == m) as (λ b. (q == m) ≡ b → j ≤ place_at es q) [
      | true ↦ λ h. (let e : q ≡ m = grind (arith, nat_tests) in rw e above)
      | false ↦ λ h. (let l : m < q = grind (arith, nat_tests) in omega (arith, above, rising m q l lt))
    ] refl

-- after a search for j whose entry is another, all later ones are above
strictly_above : (es : List Entry) (p j : ℕ) → IsRising es → IsSought es j p → (p < length es → place_at es p ≢ j) → (q : ℕ) → p ≤ q → q < length es
    → j < place_at es q
strictly_above es p j rising s apart q a l =
    let here = s.above p (omega arith) (omega (arith, a, l)) in
    let other = apart (omega (arith, a, l)) in
    let here_above : j + 1 ≤ place_at es p = grind (arith, nat_tests) in
    let on = above_up es q p (j + 1) rising a l here_above in
    omega (arith, on)

not_known : (o : Option Entry) → o ≡ None → is_some o ≡ true → ⊥
not_known None none h = absurd (cc)
not_known (Some e) none h = cc

-- what a search finds
pub is_here : (es : List Entry) (p j : ℕ) → IsSought es j p → p < length es → place_at es p ≡ j → IsHere es j p
is_here es p j s lt is = record { within = lt; place = is; below = s.below; entry = found es p j s.below lt is }

pub is_gap : (es : List Entry) (p j : ℕ) → IsRising es → IsSought es j p → (p < length es → place_at es p ≢ j) → IsGap es j p
is_gap es p j rising s apart = record { within = s.within; below = s.below; above = strictly_above es p j rising s apart }

pub gap_none : (es : List Entry) (p j : ℕ) → IsGap es j p → entry_in es j ≡ None
gap_none es p j g = missing es p j g.below g.above

swap : (a b : Bool) (x y r : Option Entry) → (a && b) ≡ false → (if a then x else (if b then y else r)) ≡ (if b then y else (if a then x else r))
swap true true x y r h = absurd (cc)
swap true false x y r h = refl
swap false true x y r h = refl
swap false false x y r h = refl

nested : (a : Bool) (x y r : Option Entry) → (if a then x else r) ≡ (if a then x else (if a then y else r))
nested true x y r = refl
nested false x y r = refl

-- two different places are not both q
not_both : (a b q : ℕ) → a < b → ((a == q) && (b == q)) ≡ false
not_both a b q h = grind (arith, nat_tests)

-- an entry written over one of its place
pub set_entry : (es : List Entry) (p : ℕ) (e : Entry) → p < length es → e.place ≡ place_at es p → ((q : ℕ) → q < p → place_at es q < e.place) → (q : ℕ)
    → entry_in (set es p e) q ≡ (if e.place == q then Some e else entry_in es q)
set_entry [] p e lt is below q = absurd (omega (arith, lt))
set_entry (x ∷ xs) zero e lt is below q = subst (λ (k : ℕ). (if e.place == q then Some e else entry_in xs q)
    ≡ (if e.place == q then Some e else (if k == q then Some x else entry_in xs q))) is (nested (e.place == q) (Some e) (Some x) (entry_in xs q))
set_entry (x ∷ xs) (suc p) e lt is below q =
    rw (set_entry xs p e (omega (arith, lt)) is (λ k l. below (suc k) (omega (arith, l))) q)
    (swap (x.place == q) (e.place == q) (Some x) (Some e) (entry_in xs q) (not_both x.place e.place q (below zero (omega arith))))

-- a row rises when an entry is written over one of its place
pub set_rises : (b : ℕ) (es : List Entry) (p : ℕ) (e : Entry) → IsRisingFrom b es → e.place ≡ place_at es p → IsRisingFrom b (set es p e)
set_rises b [] p e h is = tt
set_rises b (x ∷ xs) zero e h is = rw is h
set_rises b (x ∷ xs) (suc p) e h is = (h.0, set_rises (x.place + 1) xs p e h.1 is)

set_places : (es : List Entry) (p : ℕ) (e : Entry) → e.place ≡ place_at es p → (q : ℕ) → place_at (set es p e) q ≡ place_at es q
set_places [] p e is q = refl
set_places (x ∷ xs) zero e is zero = is
set_places (x ∷ xs) zero e is (suc q) = refl
set_places (x ∷ xs) (suc p) e is zero = refl
set_places (x ∷ xs) (suc p) e is (suc q) = set_places xs p e is q

-- an entry inserted at its place
pub insert_entry : (es : List Entry) (p : ℕ) (e : Entry) → p ≤ length es → ((q : ℕ) → q < p → place_at es q < e.place) → (q : ℕ)
    → entry_in (insert es p e) q ≡ (if e.place == q then Some e else entry_in es q)
insert_entry [] zero e le below q = refl
insert_entry [] (suc p) e le below q = absurd (omega (arith, le))
insert_entry (x ∷ xs) zero e le below q = refl
insert_entry (x ∷ xs) (suc p) e le below q =
    rw (insert_entry xs p e (omega (arith, le)) (λ k l. below (suc k) (omega (arith, l))) q)
    (swap (x.place == q) (e.place == q) (Some x) (Some e) (entry_in xs q) (not_both x.place e.place q (below zero (omega arith))))

-- the bound of a row all of whose places are above
raised : (b c : ℕ) (es : List Entry) → IsRisingFrom b es → (0 < length es → c ≤ place_at es 0) → IsRisingFrom c es
raised b c [] h first = tt
raised b c (x ∷ xs) h first = (first (omega arith), h.1)

-- a row rises when an entry is inserted at its place
pub insert_rises : (b : ℕ) (es : List Entry) (p : ℕ) (e : Entry) → IsRisingFrom b es → b ≤ e.place → p ≤ length es
    → ((q : ℕ) → q < p → place_at es q < e.place) → ((q : ℕ) → p ≤ q → q < length es → e.place < place_at es q) → IsRisingFrom b (insert es p e)
insert_rises b [] zero e h low le below above = (low, tt)
insert_rises b [] (suc p) e h low le below above = absurd (omega (arith, le))
insert_rises b (x ∷ xs) zero e h low le below above =
    let first : e.place < x.place = above zero (omega arith) (omega arith) in
    (low, (omega (arith, first), h.1))
insert_rises b (x ∷ xs) (suc p) e h low le below above =
    let first : x.place < e.place = below zero (omega arith) in (
      h.0,
      insert_rises (x.place + 1) xs p e h.1 (omega (arith, first)) (omega (arith, le)) (λ k l. below (suc k) (omega (arith, l)))
          (λ k a l. above (suc k) (omega (arith, a)) (omega (arith, l))),
    )

-- an entry written over one of its place, and one inserted
pub written_entries : (es : List Entry) (p : ℕ) (e : Entry) → IsHere es e.place p → IsChanged es (set es p e) e
written_entries es p e h q = set_entry es p e h.within (sym h.place) h.below q

pub written_rises : (es : List Entry) (p : ℕ) (e : Entry) → IsRising es → IsHere es e.place p → IsRising (set es p e)
written_rises es p e rising h = by_index 0 _ (set_rises 0 es p e (rises es rising) (sym h.place))

pub inserted_entries : (es : List Entry) (p : ℕ) (e : Entry) → IsGap es e.place p → IsChanged es (insert es p e) e
inserted_entries es p e g q = insert_entry es p e g.within g.below q

pub inserted_rises : (es : List Entry) (p : ℕ) (e : Entry) → IsRising es → IsGap es e.place p → IsRising (insert es p e)
inserted_rises es p e rising g = by_index 0 _ (insert_rises 0 es p e (rises es rising) (omega arith) g.within g.below g.above)

-- the cells, the room and the entries after a change
flip : (p q : ℕ) → (p == q) ≡ (q == p)
flip p q = grind (arith, nat_tests)

cell_if : (b : Bool) (x y : Option Entry) → cell_of (if b then x else y) ≡ (if b then cell_of x else cell_of y)
cell_if true x y = refl
cell_if false x y = refl

open_if : (b : Bool) (x y : Option Entry) → is_open (if b then x else y) ≡ (if b then is_open x else is_open y)
open_if true x y = refl
open_if false x y = refl

some_if : (b : Bool) (x : Entry) (y : Option Entry) → is_some (if b then Some x else y) ≡ (b || is_some y)
some_if true x y = refl
some_if false x y = refl

pub changed_cells : (old new : List Entry) (e : Entry) (j : ℕ) → IsChanged old new e → e.place ≡ j → (q : ℕ)
    → cell_at new q ≡ (if q == j then cell_in e else cell_at old q)
changed_cells old new e j ch is q = ap cell_of (ch q) ∙ cell_if (e.place == q) (Some e) (entry_in old q)
    ∙ ap (λ (b : Bool). if b then cell_in e else cell_at old q) (ap (λ (k : ℕ). k == q) is ∙ flip j q)

pub changed_opens : (old new : List Entry) (e : Entry) (j : ℕ) → IsChanged old new e → e.place ≡ j → (q : ℕ)
    → opens new q ≡ (if q == j then is_open_origin e.origin else opens old q)
changed_opens old new e j ch is q = ap is_open (ch q) ∙ open_if (e.place == q) (Some e) (entry_in old q)
    ∙ ap (λ (b : Bool). if b then is_open_origin e.origin else opens old q) (ap (λ (k : ℕ). k == q) is ∙ flip j q)

pub changed_knows : (old new : List Entry) (e : Entry) (j : ℕ) → IsChanged old new e → e.place ≡ j → (q : ℕ) → knows new q ≡ ((q == j) || knows old q)
changed_knows old new e j ch is q = ap (λ (o : Option Entry). is_some o) (ch q) ∙ some_if (e.place == q) e (entry_in old q)
    ∙ ap (λ (b : Bool). b || knows old q) (ap (λ (k : ℕ). k == q) is ∙ flip j q)

-- the places after an entry is written over one of its place
pub written_places : (es : List Entry) (p : ℕ) (e : Entry) → IsHere es e.place p → (q : ℕ) → place_at (set es p e) q ≡ place_at es q
written_places es p e h = set_places es p e (sym h.place)

-- a search finds the entry of a place that is known
pub here_from_known : (es : List Entry) (p j : ℕ) → IsRising es → IsSought es j p → knows es j ≡ true → IsHere es j p
here_from_known es p j rising s known =
    let gone : (p < length es → place_at es p ≢ j) → IsHere es j p = (λ apart.
    (let none : entry_in es j ≡ None = gap_none es p j (is_gap es p j rising s apart) in absurd (not_known (entry_in es j) none known))) in
    elim (nat_lt p (length es)) as (λ b. nat_lt p (length es) ≡ b → IsHere es j p) [
      | true ↦ λ l. elim (place_at es p == j) as (λ b. (place_at es p == j) ≡ b → IsHere es j p) [
        | true ↦ λ e. is_here es p j s (grind (arith, nat_tests)) (grind (arith, nat_tests))
        | false ↦ λ e. gone (λ lt is. (let no : place_at es p ≢ j = grind (arith, nat_tests) in no is))
      ] refl
      | false ↦ λ l. gone (λ lt. (let no : length es ≤ p = grind (arith, nat_tests) in absurd (omega (arith, no, lt))))
    ] refl

-- up to the entry of a place that is known no place is above
pub known_end : (es : List Entry) (p j : ℕ) → IsRising es → IsSought es j p → knows es j ≡ true → p < length es
known_end es p j rising s known = (here_from_known es p j rising s known).within

pub known_upto : (es : List Entry) (p j : ℕ) → IsRising es → IsSought es j p → knows es j ≡ true → (q : ℕ) → q < p + 1 → place_at es q < j + 1
known_upto es p j rising s known q less =
    let is : place_at es p ≡ j = (here_from_known es p j rising s known).place in
    elim (q == p) as (λ b. (q == p) ≡ b → place_at es q < j + 1) [
      | true ↦ λ h. (let e : q ≡ p = grind (arith, nat_tests) in rw e (omega (arith, is)))
      | false ↦ λ h. (let l : q < p = grind (arith, nat_tests) in omega (arith, s.below q l))
    ] refl

-- the cell of a place, where a search for it has ended
pub cell_there : (es : List Entry) (p j : ℕ) → IsSought es j p → p < length es → place_at es p ≡ j → cell_in (slice_index_or es p no_entry) ≡ cell_at es j
cell_there es p j s lt is = sym (ap cell_of (found es p j s.below lt is))

pub cell_missing : (es : List Entry) (p j : ℕ) → IsRising es → IsSought es j p → (p < length es → place_at es p ≢ j) → None ≡ cell_at es j
cell_missing es p j rising s apart = sym (ap cell_of (gap_none es p j (is_gap es p j rising s apart)))

-- the entries before one that is inserted stay
pub inserted_before : (es : List Entry) (p : ℕ) (e : Entry) → p ≤ length es → (q : ℕ) → q < p → place_at (insert es p e) q ≡ place_at es q
inserted_before [] zero e le q less = absurd (omega (arith, less))
inserted_before [] (suc p) e le q less = absurd (omega (arith, le))
inserted_before (x ∷ xs) zero e le q less = absurd (omega (arith, less))
inserted_before (x ∷ xs) (suc p) e le zero less = refl
inserted_before (x ∷ xs) (suc p) e le (suc q) less = inserted_before xs p e (omega (arith, le)) q (omega (arith, less))

pub inserted_len : (es : List Entry) (p : ℕ) (e : Entry) → p ≤ length es → p ≤ length (insert es p e)
inserted_len [] zero e le = omega arith
inserted_len [] (suc p) e le = absurd (omega (arith, le))
inserted_len (x ∷ xs) zero e le = omega arith
inserted_len (x ∷ xs) (suc p) e le = (let rest = inserted_len xs p e (omega (arith, le)) in omega (arith, rest))

-- the room of a place, where a search for it has ended
pub room_there : (es : List Entry) (p j : ℕ) → IsSought es j p → p < length es → place_at es p ≡ j
    → is_open_origin (slice_index_or es p no_entry).origin ≡ opens es j
room_there es p j s lt is = sym (ap is_open (found es p j s.below lt is))

pub room_missing : (es : List Entry) (p j : ℕ) → IsRising es → IsSought es j p → (p < length es → place_at es p ≢ j) → false ≡ opens es j
room_missing es p j rising s apart = sym (ap is_open (gap_none es p j (is_gap es p j rising s apart)))

-- a walk that has reached a place
pub sought_at : (es : List Entry) (j p : ℕ) → IsRising es → p ≤ length es → ((q : ℕ) → q < p → place_at es q < j) → (p < length es → j ≤ place_at es p)
    → IsSought es j p
sought_at es j p rising within below above = record {
  within = within;
  below = below;
  above = λ q least less. above_up es q p j rising least less (above (omega (arith, least, less)));
}

-- before an entry stand those of lesser places
pub sought_here : (es : List Entry) (p : ℕ) → IsRising es → p < length es → IsSought es (place_at es p) p
sought_here es p rising lt = record {
  within = omega (arith, lt);
  below = λ q less. rising q p less lt;
  above = λ q least less. above_up es q p (place_at es p) rising least less (omega arith);
}

-- the cell of an entry is that of its place
pub cell_of_entry : (es : List Entry) (p : ℕ) → IsRising es → p < length es → cell_in (slice_index_or es p no_entry) ≡ cell_at es (place_at es p)
cell_of_entry es p rising lt = cell_there es p (place_at es p) (sought_here es p rising lt) lt refl

-- behind the entry of a place, and behind where it would stand, a search for the next number ends
pub sought_behind : (es : List Entry) (p j : ℕ) → IsRising es → IsSought es j p → p < length es → place_at es p ≡ j → IsSought es (j + 1) (p + 1)
sought_behind es p j rising s lt is = record {
  within = omega (arith, lt);
  below = λ q less. (let le : place_at es q < place_at es p + 1 = below_up es q p (place_at es p + 1) rising less lt (omega arith) in omega (arith, le, is));
  above = λ q least less. (let up = rising p q (omega (arith, least)) less in omega (arith, up, is));
}

pub sought_past : (es : List Entry) (p j : ℕ) → IsRising es → IsSought es j p → (p < length es → place_at es p ≢ j) → IsSought es (j + 1) p
sought_past es p j rising s apart = record {
  within = s.within;
  below = λ q less. (let l = s.below q less in omega (arith, l));
  above = λ q least less. (let up = strictly_above es p j rising s apart q least less in omega (arith, up));
}

-- the weight of a place, where a search for it has ended
pub weight_missing : (es : List Entry) (p j : ℕ) → IsRising es → IsSought es j p → (p < length es → place_at es p ≢ j) → far ≡ weight_in (cell_at es j)
weight_missing es p j rising s apart = ap weight_in (cell_missing es p j rising s apart)
