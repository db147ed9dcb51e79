-- Places of points in an order that is laid of several, one after another: `front ++ (part ++ rest)`.
--   laid_place, place_at_most         the place of a point, and that it is at most the length
--   place_within, place_lacking       that of a point that the order has, or lacks
--   place_front, place_behind         the place in one order laid before another
--   part_before, part_has, part_first what comes before points of a part, within the part
--   whole_before                      and in the whole order
--   LaidAround, laid_around           each private order is a part of the joined order, behind those of the agents before
use Rattle.std.proofs.Common.{zero, suc, ◌≡◌, ℕ, ◌+◌, ◌<◌, ◌≤◌, List, [], ◌∷◌, ◌++◌, Bool, true, false, ◌||◌, not, cond, Some, map}
use Rattle.std.proofs.Common.{length, ap, sym, ◌∙◌, refl, arith, inl, inr, append_assoc}
use Rattle.std.specs.Prelude.{◌==◌, nat_eq, slice_get}
use Rattle.std.specs.List.{position_or_len}
use Rattle.std.proofs.lemmas.Bool.{false≢true, eq-eqb, ne_eqb, or_cases}
use Rattle.std.proofs.lemmas.List.Folds.{prefix_len-append}
use Rattle.std.proofs.lemmas.List.Sums.{prefix_len-le-length}
use Rattle.stn_model.specs.Joined.{ComesBefore, joined_order}
use Rattle.stn_walk.specs.Eliminations.{is_in}
use Rattle.elim_step.proofs.Parts.{is_in-append}

-- the place of a point in an order, or the length where the order lacks it
abbrev pub laid_place : List ℕ → ℕ → ℕ
laid_place order p = position_or_len (nat_eq p) order

pub place_within : (xs : List ℕ) (p : ℕ) → is_in xs p ≡ true → laid_place xs p < length xs
place_within [] p h = absurd (false≢true h)
place_within (x ∷ xs) p h = more (p == x) (is_in xs p) (laid_place xs p) (length xs) h (place_within xs p) where
  more : (b c : Bool) (m n : ℕ) → (c || b) ≡ true → (c ≡ true → m < n) → cond (not b) (1 + m) 0 < suc n
  more true c m n e low = omega arith
  more false true m n e low = (let lt = low refl in omega arith)
  more false false m n e low = absurd (false≢true e)

pub place_lacking : (xs : List ℕ) (p : ℕ) → is_in xs p ≡ false → laid_place xs p ≡ length xs
place_lacking [] p h = refl
place_lacking (x ∷ xs) p h = more (p == x) (is_in xs p) (laid_place xs p) (length xs) h (place_lacking xs p) where
  more : (b c : Bool) (m n : ℕ) → (c || b) ≡ false → (c ≡ false → m ≡ n) → cond (not b) (1 + m) 0 ≡ suc n
  more true true m n e same = absurd (false≢true (sym e))
  more true false m n e same = absurd (false≢true (sym e))
  more false true m n e same = absurd (false≢true (sym e))
  more false false m n e same = (let is = same refl in omega arith)

-- no place is above the length
pub place_at_most : (xs : List ℕ) (p : ℕ) → laid_place xs p ≤ length xs
place_at_most xs p = prefix_len-le-length (λ x. not (nat_eq p x)) xs

-- the place of a point of the first of two orders, and of one that it lacks
pub place_front : (xs ys : List ℕ) (p : ℕ) → is_in xs p ≡ true → laid_place (xs ++ ys) p ≡ laid_place xs p
place_front xs ys p h =
    let low = place_within xs p h in
    prefix_len-append (λ x. not (nat_eq p x)) xs ys
    ∙ ap (λ b. cond b (length xs + laid_place ys p) (laid_place xs p)) (ne_eqb (laid_place xs p) (length xs) (λ e. omega arith))

pub place_behind : (xs ys : List ℕ) (p : ℕ) → is_in xs p ≡ false → laid_place (xs ++ ys) p ≡ length xs + laid_place ys p
place_behind xs ys p h =
    prefix_len-append (λ x. not (nat_eq p x)) xs ys
    ∙ ap (λ b. cond b (length xs + laid_place ys p) (laid_place xs p)) (eq-eqb (laid_place xs p) (length xs) (place_lacking xs p h))

-- what comes before another point in an order is one of it
pub part_first : (xs : List ℕ) (p q : ℕ) → ComesBefore xs p q → is_in xs p ≡ true
part_first xs p q h =
    elim (is_in xs p) as (λ b. is_in xs p ≡ b → b ≡ true) [
      | true ↦ λ t. refl
      | false ↦ λ t. absurd (let last = place_lacking xs p t in let most = place_at_most xs q in omega arith)
    ] refl

module _ (front part rest : List ℕ) (apart : (p : ℕ) → is_in part p ≡ true → is_in front p ≡ false) where
  -- places in the whole order, of points of the part and of those that neither it nor the front has
  place_inside : (p : ℕ) → is_in part p ≡ true → laid_place (front ++ (part ++ rest)) p ≡ length front + laid_place part p
  place_inside p h = place_behind front (part ++ rest) p (apart p h) ∙ ap (λ n. length front + n) (place_front part rest p h)

  place_after : (p : ℕ) → is_in front p ≡ false → is_in part p ≡ false
      → laid_place (front ++ (part ++ rest)) p ≡ length front + (length part + laid_place rest p)
  place_after p away h = place_behind front (part ++ rest) p away ∙ ap (λ n. length front + n) (place_behind part rest p h)

  -- a point of the part that comes before another in the whole order does so in the part
  pub part_before : (p q : ℕ) → is_in part p ≡ true → ComesBefore (front ++ (part ++ rest)) p q → ComesBefore part p q
  part_before p q here h =
      let at = place_inside p here in
      elim (is_in part q) as (λ b. is_in part q ≡ b → ComesBefore part p q) [
        | true ↦ λ t. (let other = place_inside q t in omega arith)
        | false ↦ λ t. (let low = place_within part p here in let last = place_lacking part q t in omega arith)
      ] refl

  -- and the other way round, where the front lacks the other
  pub whole_before : (p q : ℕ) → is_in part p ≡ true → is_in front q ≡ false → ComesBefore part p q → ComesBefore (front ++ (part ++ rest)) p q
  whole_before p q here away h =
      let at = place_inside p here in
      elim (is_in part q) as (λ b. is_in part q ≡ b → ComesBefore (front ++ (part ++ rest)) p q) [
        | true ↦ λ t. (let other = place_inside q t in omega arith)
        | false ↦ λ t. (let low = place_within part p here in let last = place_after q away t in omega arith)
      ] refl

  -- what comes before a point of the part, and is not in the front, is one of the part
  pub part_has : (p q : ℕ) → is_in part q ≡ true → is_in front p ≡ false → ComesBefore (front ++ (part ++ rest)) p q → is_in part p ≡ true
  part_has p q here away h =
      elim (is_in part p) as (λ b. is_in part p ≡ b → b ≡ true) [
        | true ↦ λ t. refl
        | false ↦ λ t. absurd
            (let at = place_inside q here in let low = place_within part q here in let last = place_after p away t in omega arith)
      ] refl

-- the order of the item is a part of the joined order; what stands before it are points of the orders of items before
pub record LaidAround {X : Type 0} (order : X → List ℕ) (shared : List ℕ) (items : List X) (a : ℕ) (x : X) : Type 0 where
  pub front : List ℕ
  pub rest : List ℕ
  pub is : joined_order (map order items) shared ≡ front ++ (order x ++ rest)
  pub earlier : (p : ℕ) → is_in front p ≡ true → (b : ℕ) × (y : X) × (b < a) × (slice_get items b ≡ Some y) × (is_in (order y) p ≡ true)

module _ {X : Type 0} (order : X → List ℕ) (shared : List ℕ) where
  pub laid_around : (items : List X) (a : ℕ) (x : X) → slice_get items a ≡ Some x → LaidAround order shared items a x
  laid_around [] a x h = absurd (cc)
  laid_around (y ∷ ys) zero x h = record {
    front = [];
    rest = joined_order (map order ys) shared;
    is = (let same : y ≡ x = cc in ap (λ z. order z ++ joined_order (map order ys) shared) same);
    earlier = λ p f. absurd (false≢true f);
  }
  laid_around (y ∷ ys) (suc a) x h =
      let more = laid_around ys a x h in
      record {
        front = order y ++ more.front;
        rest = more.rest;
        is = ap (λ zs. order y ++ zs) more.is ∙ sym (append_assoc (order y) more.front (order x ++ more.rest));
        earlier = λ p f. elim (or_cases (is_in (order y) p) (is_in more.front p) (sym (is_in-append (order y) more.front p) ∙ f)) [
          | inl here ↦ (0, y, omega arith, refl, here)
          | inr before ↦ (let e = more.earlier p before in (suc e.0, e.1, (let low = e.2 in omega arith), e.3, e.4))
        ];
      }
