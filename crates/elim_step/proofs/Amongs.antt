-- An elimination among the places of a list is one among the places that remain, where the list has all remaining neighbours of k.
use Rattle.std.proofs.Common.{◌≡◌, ℕ, List, Bool, true, false, ◌&&◌, ◌||◌, not, Option, Some, None, ap, sym, ◌∙◌, refl}
use Rattle.std.specs.Prelude.{◌==◌, if◌then◌else◌, is_some}
use Rattle.std.proofs.Math.Bool.{and-false}
use Rattle.std.proofs.lemmas.Bool.{false≢true}
use Rattle.dist_rows.specs.declared.cell.Cell.{Cell}
use Rattle.dist_rows.specs.Cells.{are_neighbours}
use Rattle.stn_walk.specs.Eliminations.{is_in}
use Rattle.elim_step.specs.Eliminates.{sum_through, lesser_of, remains, is_neighbour, is_negative, is_below, StepGives}
use Rattle.elim_step.specs.Among.{eliminated_among, StepAmong, HasNeighbours}
use Rattle.elim_step.specs.Regions.{region_after}
use Rattle.elim_step.specs.declared.step.Found.{Found}
use Rattle.elim_step.specs.declared.step.Found.TheVariants.{Clear, Negative}
use Rattle.elim_step.proofs.Whole.{whole, through-first, through-second}

-- two tests that hold of the same are one
same_test : (a b : Bool) → (a ≡ true → b ≡ true) → (b ≡ true → a ≡ true) → a ≡ b
same_test true true f g = refl
same_test true false f g = sym (f refl)
same_test false true f g = g refl
same_test false false f g = refl

some_first : (a b : Bool) → a ≡ true → (a || b) ≡ true
some_first a b h = ap (λ x. x || b) h

some_second : (a b : Bool) → b ≡ true → (a || b) ≡ true
some_second true b h = refl
some_second false b h = h

both : (a b : Bool) → a ≡ true → b ≡ true → (a && b) ≡ true
both a b f g = (λ t. f t && g t)

either : (b : Bool) (x y : Option Cell) → x ≡ y → (if b then x else y) ≡ y
either true x y h = h
either false x y h = refl

negative_cells : (a b : Option Cell) → is_negative a b ≡ true → is_some a ≡ true
negative_cells None b h = h
negative_cells (Some a) b h = refl

module _ (remain : List Bool) (f : ℕ → ℕ → Option Cell) (k : ℕ) (list : List ℕ) (has : HasNeighbours remain f k list) where
  -- a place that has a cell with k is in the list exactly where it remains
  listed_where : (p : ℕ) → are_neighbours f k p ≡ true → is_in list p ≡ is_neighbour remain f k p
  listed_where p near = same_test (is_in list p) (is_neighbour remain f k p) (λ here. both (remains remain p) (are_neighbours f k p) (has.only p here) near)
      (has.all p)

  among_pairs : (p q : ℕ) → eliminated_among list k f p q ≡ region_after k (λ a b. is_neighbour remain f k a && is_neighbour remain f k b) f p q
  among_pairs p q =
      elim (f p k) as (λ x. f p k ≡ x → eliminated_among list k f p q ≡ region_after k (λ a b. is_neighbour remain f k a && is_neighbour remain f k b) f p q) [
        | None ↦ λ h. let t = through-first k f p q h in either _ _ _ t ∙ sym (either _ _ _ t)
        | Some a ↦ λ h. elim (f k q) as
            (λ y. f k q ≡ y → eliminated_among list k f p q ≡ region_after k (λ a b. is_neighbour remain f k a && is_neighbour remain f k b) f p q) [
              | None ↦ λ e. let t = through-second k f p q e in either _ _ _ t ∙ sym (either _ _ _ t)
              | Some b ↦ λ e.
                  let at_p = listed_where p (some_second (is_some (f k p)) (is_some (f p k)) (ap is_some h)) in
                  let at_q = listed_where q (some_first (is_some (f k q)) (is_some (f q k)) (ap is_some e)) in
                  (λ t. if (at_p t && at_q t) && not (p == q) then lesser_of (f p q) (sum_through k (f p k) (f k q)) else f p q)
            ] refl
      ] refl

  below_where : (m : ℕ) → (is_in list m ≡ true → is_negative (f k m) (f m k) ≡ false) → is_below remain f k m ≡ false
  below_where m away =
      elim (is_negative (f k m) (f m k)) as (λ b. is_negative (f k m) (f m k) ≡ b → (remains remain m && b) ≡ false) [
        | true ↦ λ t. elim (remains remain m) as (λ r. remains remain m ≡ r → (r && true) ≡ false) [
          | true ↦ λ s.
              let near = some_first (is_some (f k m)) (is_some (f m k)) (negative_cells (f k m) (f m k) t) in
              absurd (false≢true (sym (away (has.all m (both (remains remain m) (are_neighbours f k m) s near))) ∙ t))
          | false ↦ λ s. refl
        ] refl
        | false ↦ λ t. and-false (remains remain m)
      ] refl

  -- what is done among the places of the list is done among those that remain
  pub step_among : (g : ℕ → ℕ → Option Cell) (found : Found) → f k k ≡ None → StepAmong list k f g found → StepGives remain k f g found
  step_among g Clear none step = (λ m. below_where m (step.0 m), λ p q. step.1 p q ∙ among_pairs p q ∙ whole remain k f none p q)
  step_among g (Negative i) none step = (
    both (remains remain i) (is_negative (f k i) (f i k)) (has.only i step.0) step.1,
    λ m less. below_where m (step.2 m less),
    step.3,
  )
