-- The entries of a row, as they are added for the places of a list: pair_met, IsRowTo, row_none, row_more, row_all.
use Rattle.std.proofs.Common.{zero, suc, ◌≡◌, ℕ, ◌+◌, ◌<◌, ◌≤◌, Bool, true, false, ◌&&◌, not, List, [], ◌∷◌, ◌++◌, length, refl, sym, ap, ◌∙◌, arith, append_assoc, inl, inr}
use Rattle.std.specs.Prelude.{◌==◌, if◌then◌else◌, slice_index_or, reverse}
use Rattle.std.proofs.lemmas.Bool.{cases_lt, false≢true}
use Rattle.std.proofs.lemmas.List.{append-nil}
use Rattle.dist_rows.specs.Places.{AreRisingPlaces}
use Rattle.stn_walk.specs.Eliminations.{is_in}
use Rattle.stn_walk.proofs.Members.{is_in-at}
use Rattle.elim_step.specs.declared.summary.SummaryEntry.{SummaryEntry}
use Rattle.elim_step.proofs.PlaceLists.{not_listed, below_up, above_up}
use Rattle.elim_step.specs.Eliminated.{point_at}
use Rattle.private_elim.specs.Locals.{private_at}
use Rattle.private_elim.specs.Taken.{TakenView, HasTaken}
use Rattle.private_elim.specs.SummaryRows.{is_pair_at, joined_at, entry_at, pair_entries, row_below}
use Rattle.private_elim.proofs.summary.SumsUp.{pair_parts, left_here}

-- a place that makes a pair is left and joined
pub pair_met : (t : TakenView) → HasTaken t → (i p : ℕ) (m : Bool) → p < length t.local.points
    → m ≡ (not (is_in (reverse t.order) (point_at t.local.points p)) && not (i == p) && joined_at t i p) → m ≡ false → is_pair_at t i p ≡ false
pair_met t h i p m lp is off = by (is_pair_at t i p) refl where
  by : (b : Bool) → is_pair_at t i p ≡ b → b ≡ false
  by false e = refl
  by true e =
      let parts = pair_parts (i == p) (private_at t.local i) (private_at t.local p) (joined_at t i p) e in
      let left = left_here t h p lp parts.2 in
      absurd (false≢true (sym off ∙ is ∙ (λ k. not (left k) && not (parts.0 k) && parts.3 k)))

-- no entries between two places of which none between makes a pair
row_gap : (t : TakenView) (i a b : ℕ) → a ≤ b → ((m : ℕ) → a ≤ m → m < b → is_pair_at t i m ≡ false) → row_below t i b ≡ row_below t i a
row_gap t i a zero le none = (let e : a ≡ 0 = omega arith in ap (row_below t i) (sym e))
row_gap t i a (suc b) le none =
    elim (cases_lt b a) [
      | inl less ↦ (let e : a ≡ suc b = omega (arith, le, less) in ap (row_below t i) (sym e))
      | inr from ↦
          ap (λ xs. xs ++ pair_entries t i b) (row_gap t i a b from (λ m least low. none m least (omega arith)))
          ∙ ap (λ o. row_below t i a ++ (if o then entry_at t i b ∷ [] else [])) (none b from (omega arith)) ∙ append-nil (row_below t i a)
    ]

-- The entries of a row, once they are added for the first n places of a list that has each that makes a pair: those before each number up to which the
-- list has no further place.
abbrev pub IsRowTo : TakenView → ℕ → List ℕ → List SummaryEntry → ℕ → List SummaryEntry → Type 0
IsRowTo t i xs was n entries =
    (b : ℕ) → ((m : ℕ) → m < n → slice_index_or xs m 0 < b) → ((m : ℕ) → n ≤ m → m < length xs → b ≤ slice_index_or xs m 0) → b ≤ length t.local.points
    → entries ≡ was ++ row_below t i b

module _ (t : TakenView) (i : ℕ) (xs : List ℕ) (was : List SummaryEntry) (rising : AreRisingPlaces xs)
    (only : (p : ℕ) → p < length t.local.points → is_in xs p ≡ false → is_pair_at t i p ≡ false) where
  pub row_none : IsRowTo t i xs was 0 was
  row_none b before after le =
      sym (ap (λ es. was ++ es) (row_gap t i 0 b (omega arith)
      (λ m least low. only m (omega arith) (not_listed xs m (λ k l e. (let past = after k (omega arith) l in omega (arith, past, low, e))))))
      ∙ append-nil was)

  pub row_more : (n : ℕ) (entries more : List SummaryEntry) → n < length xs → slice_index_or xs n 0 < length t.local.points → IsRowTo t i xs was n entries
      → more ≡ entries ++ pair_entries t i (slice_index_or xs n 0) → IsRowTo t i xs was (n + 1) more
  row_more n entries more lt within so is b before after le =
      let x = slice_index_or xs n 0 in
      let here = so x (λ m less. rising m n less lt) (λ m from l. above_up xs m n x rising from l (omega arith)) (omega arith) in
      let past = before n (omega arith) in
      is ∙ ap (λ es. es ++ pair_entries t i x) here ∙ append_assoc was (row_below t i x) (pair_entries t i x)
      ∙ ap (λ es. was ++ es) (sym (row_gap t i (suc x) b (omega (arith, past)) (λ m least low. only m (omega arith) (away m least low)))) where
        away : (m : ℕ) → suc (slice_index_or xs n 0) ≤ m → m < b → is_in xs m ≡ false
        away m least low =
            not_listed xs m (λ k l e. elim (cases_lt k (n + 1)) [
              | inl before_it ↦
                  let le = below_up xs k n (slice_index_or xs n 0 + 1) rising before_it lt (omega arith) in omega (arith, le, least, e)
              | inr from ↦ (let past = after k from l in omega (arith, past, low, e))
            ])

  pub row_all : (n : ℕ) (entries : List SummaryEntry) → length xs ≤ n → n ≤ length xs → ((p : ℕ) → is_in xs p ≡ true → p < length t.local.points)
      → IsRowTo t i xs was n entries → entries ≡ was ++ row_below t i (length t.local.points)
  row_all n entries all few within so =
      so (length t.local.points) (λ m less. within (slice_index_or xs m 0) (is_in-at xs m (omega arith))) (λ m from l. absurd (omega (arith, from, l, all)))
      (omega arith)
