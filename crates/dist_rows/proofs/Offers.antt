-- Offers in turn, and what they come to.
use Rattle.std.proofs.Common.{suc, ◌≡◌, ◌≢◌, ℕ, ◌+◌, ◌<◌, ℤ, List, [], ◌∷◌, Bool, true, false, ◌&&◌, Option, Some, None, drop, length, ap, sym, ◌∙◌, refl}
use Rattle.std.proofs.Common.{arith}
use Rattle.std.specs.Prelude.{◌+ℤ◌, ◌==◌, not, if◌then◌else◌, slice_index_or}
use Rattle.std.proofs.lemmas.List.{drop_more}
use Rattle.std.proofs.lemmas.Bool.Decides.{nat_tests}
use Rattle.dist_rows.specs.declared.cell.Cell.{Cell}
use Rattle.dist_rows.specs.declared.cell.Offer.{Offer}
use Rattle.dist_rows.specs.declared.cell.Via.TheVariants.{Through}
use Rattle.dist_rows.specs.Cells.{lowered, lesser, cell_through, offer_to, after_offer, row_lowered, offer_at, AreRising}
use Rattle.dist_rows.specs.Turns.{offered, all_offered}

offered_alike : (i k : ℕ) (by : ℤ) (o : Offer) (f g : ℕ → ℕ → Option Cell) → ((p q : ℕ) → f p q ≡ g p q) → (p q : ℕ)
    → offered i k by o f p q ≡ offered i k by o g p q
offered_alike i k by o f g is p q =
    let c : Cell = cell_through k by o in
    elim (o.place == i) as (λ b. (if b then f p q else lowered i o.place c f p q) ≡ (if b then g p q else lowered i o.place c g p q)) [
      | true ↦ is p q
      | false ↦ elim ((p == i) && (q == o.place)) as (λ b. (if b then lesser (f i o.place) c else f p q) ≡ (if b then lesser (g i o.place) c else g p q))
          [ true ↦ ap (λ (x : Option Cell). lesser x c) (is i o.place) | false ↦ is p q ]
    ]

pub all_alike : (i k : ℕ) (by : ℤ) (os : List Offer) (f g : ℕ → ℕ → Option Cell) → ((p q : ℕ) → f p q ≡ g p q) → (p q : ℕ)
    → all_offered i k by os f p q ≡ all_offered i k by os g p q
all_alike i k by [] f g is p q = is p q
all_alike i k by (o ∷ os) f g is p q = all_alike i k by os (offered i k by o f) (offered i k by o g) (offered_alike i k by o f g is) p q

-- one more offer
pub one_more : (i k : ℕ) (by : ℤ) (os : List Offer) (n : ℕ) (o : Offer) (f g : ℕ → ℕ → Option Cell) → n < length os → o ≡ slice_index_or os n o
    → ((p q : ℕ) → g p q ≡ offered i k by o f p q)
    → (p q : ℕ) → all_offered i k by (drop (n + 1) os) g p q ≡ all_offered i k by (drop n os) f p q
one_more i k by os n o f g lt at is p q =
    let e : drop n os ≡ slice_index_or os n o ∷ drop (n + 1) os = drop_more os n o lt in
    let alike : (p q : ℕ) → g p q ≡ offered i k by (slice_index_or os n o) f p q = (λ p q. is p q ∙ ap (λ (y : Offer). offered i k by y f p q) at) in
    all_alike i k by (drop (n + 1) os) g (offered i k by (slice_index_or os n o) f) alike p q ∙ sym (ap (λ (xs : List Offer). all_offered i k by xs f p q) e)

-- an offer to another place is a cell that is lowered
pub offered_other : (i k : ℕ) (by : ℤ) (o : Offer) (f : ℕ → ℕ → Option Cell) (w : ℤ) → o.place ≢ i → w ≡ by +ℤ o.weight → (p q : ℕ)
    → lowered i o.place (record { weight = w; via = Through k }) f p q ≡ offered i k by o f p q
offered_other i k by o f w apart is p q = (let other : (o.place == i) ≡ false = grind (arith, nat_tests) in rw (other, is) refl)

-- an offer to another place than q
passed_by : (i k : ℕ) (by : ℤ) (o : Offer) (f : ℕ → ℕ → Option Cell) (p q : ℕ) → ((p == i) && (q == o.place)) ≡ false → offered i k by o f p q ≡ f p q
passed_by i k by o f p q away = elim (o.place == i) as (λ b. (if b then f p q else lowered i o.place (cell_through k by o) f p q) ≡ f p q)
    [ true ↦ refl | false ↦ rw away refl ]

-- an offer to i itself
left_out : (i k : ℕ) (by : ℤ) (o : Offer) (f : ℕ → ℕ → Option Cell) (p q : ℕ) → o.place ≡ i → offered i k by o f p q ≡ f p q
left_out i k by o f p q is = (let own : (o.place == i) ≡ true = grind (arith, nat_tests) in rw own refl)

-- an offer to q, in the row of i
taken : (i k : ℕ) (by : ℤ) (o : Offer) (f : ℕ → ℕ → Option Cell) (p q : ℕ) → p ≡ i → q ≢ i → o.place ≡ q
    → offered i k by o f p q ≡ lesser (f p q) (cell_through k by o)
taken i k by o f p q row apart is =
    let other : (o.place == i) ≡ false = grind (arith, nat_tests) in
    let here : ((p == i) && (q == o.place)) ≡ true = grind (arith, nat_tests) in
    let same : f i o.place ≡ f p q = cc in
    rw (other, here) (ap (λ (x : Option Cell). lesser x (cell_through k by o)) same)

-- no offer to a place below those of all
none_to : (os : List Offer) (q : ℕ) → ((m : ℕ) → m < length os → q < (offer_at os m).place) → offer_to os q ≡ None
none_to [] q above = refl
none_to (o ∷ os) q above =
    let first : q < o.place = above 0 (omega arith) in
    let no : (o.place == q) ≡ false = grind (arith, nat_tests) in
    rw no (none_to os q (λ m l. above (suc m) (omega (arith, l))))

-- one offer more, of which the others know nothing
offer_step : (i k : ℕ) (by : ℤ) (o : Offer) (f : ℕ → ℕ → Option Cell) (p q : ℕ) (rest : Option Offer) → (o.place ≡ q → rest ≡ None)
    → (if (p == i) && not (q == i) then after_offer k by rest (offered i k by o f p q) else offered i k by o f p q)
    ≡ (if (p == i) && not (q == i) then after_offer k by (if o.place == q then Some o else rest) (f p q) else f p q)
offer_step i k by o f p q rest none =
    elim (o.place == q) as (λ b. (o.place == q) ≡ b
    → (if (p == i) && not (q == i) then after_offer k by rest (offered i k by o f p q) else offered i k by o f p q)
    ≡ (if (p == i) && not (q == i) then after_offer k by (if b then Some o else rest) (f p q) else f p q)) [
      | true ↦ λ here. (let to : o.place ≡ q = grind (arith, nat_tests) in
          elim ((p == i) && not (q == i)) as (λ t. ((p == i) && not (q == i)) ≡ t
          → (if t then after_offer k by rest (offered i k by o f p q) else offered i k by o f p q)
          ≡ (if t then lesser (f p q) (cell_through k by o) else f p q)) [
            | true ↦ λ inside. rw (none to) (taken i k by o f p q (grind (arith, nat_tests)) (grind (arith, nat_tests)) to)
            | false ↦ λ outside. outside_row outside to
          ] refl)
      | false ↦ λ away. (let no : ((p == i) && (q == o.place)) ≡ false = grind (arith, nat_tests) in rw (passed_by i k by o f p q no) refl)
    ] refl where
      outside_row : ((p == i) && not (q == i)) ≡ false → o.place ≡ q → offered i k by o f p q ≡ f p q
      outside_row outside to =
          elim (q == i) as (λ b. (q == i) ≡ b → offered i k by o f p q ≡ f p q) [
            | true ↦ λ own. left_out i k by o f p q (grind (arith, nat_tests))
            | false ↦ λ other. passed_by i k by o f p q (grind (arith, nat_tests))
          ] refl

either_way : {X : Type 0} (b : Bool) (x : X) → x ≡ (if b then x else x)
either_way true x = refl
either_way false x = refl

-- offers to rising places in turn lower the row of i
pub all_offered_is : (i k : ℕ) (by : ℤ) (os : List Offer) → AreRising os → (f : ℕ → ℕ → Option Cell) (p q : ℕ)
    → all_offered i k by os f p q ≡ row_lowered i k by os f p q
all_offered_is i k by [] rising f p q = either_way ((p == i) && not (q == i)) (f p q)
all_offered_is i k by (o ∷ os) rising f p q =
    all_offered_is i k by os (λ m n less l. rising (suc m) (suc n) (omega (arith, less)) (omega (arith, l))) (offered i k by o f) p q
    ∙ offer_step i k by o f p q (offer_to os q)
    (λ is. none_to os q (λ m l. (let above : o.place < (offer_at os m).place = rising 0 (suc m) (omega arith) (omega (arith, l)) in omega (arith, above, is))))
