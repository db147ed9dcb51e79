-- A row with an entry of each place below a size: where each stands, and that cells and room are as before.
use Rattle.std.proofs.Common.{◌≡◌, ℕ, ◌<◌, ◌≤◌, List, [], ◌∷◌, true, false, Option, Some, None, ap, sym, ◌∙◌, refl, length, arith}
use Rattle.std.specs.Prelude.{◌==◌, if◌then◌else◌, is_some, slice_index_or, nat_lt}
use Rattle.std.proofs.lemmas.Bool.Decides.{nat_tests}
use Rattle.sparse_rows.specs.declared.entry.Entry.{Entry}
use Rattle.sparse_rows.specs.Entries.{entry_in, entry_or, cell_of, is_open, cell_at, opens, knows, no_entry, place_at, IsRising}
use Rattle.sparse_rows.proofs.RowEntries.{found, missing}

-- the entry of a place has that place
place_in : (es : List Entry) (j : ℕ) → (entry_or (entry_in es j) j).place ≡ j
place_in [] j = refl
place_in (e ∷ es) j =
    elim (e.place == j) as (λ b. (e.place == j) ≡ b → (entry_or (if b then Some e else entry_in es j) j).place ≡ j) [
      | true ↦ λ h. grind (arith, nat_tests)
      | false ↦ λ h. place_in es j
    ] refl

cell_or : (o : Option Entry) (j : ℕ) → cell_of (Some (entry_or o j)) ≡ cell_of o
cell_or None j = refl
cell_or (Some e) j = refl

open_or : (o : Option Entry) (j : ℕ) → is_open (Some (entry_or o j)) ≡ is_open o
open_or None j = refl
open_or (Some e) j = refl

not_there : (o : Option Entry) → (is_some o ≡ true → ⊥) → o ≡ None
not_there None h = refl
not_there (Some e) h = absurd (h refl)

module _ (es new : List Entry) (size : ℕ) (within : (q : ℕ) → knows es q ≡ true → q < size) (len : length new ≡ size)
    (each : (q : ℕ) → q < size → slice_index_or new q no_entry ≡ entry_or (entry_in es q) q) where
  stands : (q : ℕ) → q < size → place_at new q ≡ q
  stands q lt = ap (λ (e : Entry). e.place) (each q lt) ∙ place_in es q

  pub spread_rises : IsRising new
  spread_rises p q less lt =
      let first = stands p (omega (arith, less, lt, len)) in
      let second = stands q (omega (arith, lt, len)) in
      omega (arith, first, second, less)

  here : (q : ℕ) → q < size → entry_in new q ≡ Some (entry_or (entry_in es q) q)
  here q lt = found new q q (λ p less. (let at = stands p (omega (arith, less, lt)) in omega (arith, at, less))) (omega (arith, lt, len)) (stands q lt)
      ∙ ap (λ (e : Entry). Some e) (each q lt)

  gone : (q : ℕ) → size ≤ q → entry_in new q ≡ None
  gone q le = missing new size q (λ p less. (let at = stands p less in omega (arith, at, less, le)))
      (λ p least less. absurd (omega (arith, least, less, len)))

  gone_before : (q : ℕ) → size ≤ q → entry_in es q ≡ None
  gone_before q le = not_there (entry_in es q) (λ known. (let lt = within q known in omega (arith, lt, le)))

  same : {X : Type 0} (F : Option Entry → X) → ((o : Option Entry) (j : ℕ) → F (Some (entry_or o j)) ≡ F o) → (q : ℕ) → F (entry_in new q) ≡ F (entry_in es q)
  same F alike q =
      elim (nat_lt q size) as (λ b. nat_lt q size ≡ b → F (entry_in new q) ≡ F (entry_in es q)) [
        | true ↦ λ h. ap F (here q (grind (arith, nat_tests))) ∙ alike (entry_in es q) q
        | false ↦ λ h. (let le : size ≤ q = grind (arith, nat_tests) in ap F (gone q le ∙ sym (gone_before q le)))
      ] refl

  pub spread_cells : (q : ℕ) → cell_at new q ≡ cell_at es q
  spread_cells = same cell_of cell_or

  pub spread_room : (q : ℕ) → opens new q ≡ opens es q
  spread_room = same is_open open_or

  pub spread_more : (q : ℕ) → knows es q ≡ true → knows new q ≡ true
  spread_more q known = ap (λ (o : Option Entry). is_some o) (here q (within q known))

  pub spread_within : (q : ℕ) → knows new q ≡ true → q < size
  spread_within q known =
      elim (nat_lt q size) as (λ b. nat_lt q size ≡ b → q < size) [
        | true ↦ λ h. grind (arith, nat_tests)
        | false ↦ λ h. (let none : entry_in new q ≡ None = gone q (grind (arith, nat_tests)) in absurd (let no : is_some (entry_in new q) ≡ false = ap (λ (o : Option Entry). is_some o) none in cc))
      ] refl
