-- A revisit, part by part: one place through one other, one place through all, and all places; at the end the least sums.
use Rattle.std.proofs.Common.{zero, suc, ◌≡◌, ◌≢◌, ℕ, ◌<◌, List, [], ◌∷◌, ◌++◌, Bool, true, false, ◌&&◌, ◌||◌, not, Option, Some, None, ap, sym, ◌∙◌}
use Rattle.std.proofs.Common.{refl, length, take, get_or, arith, subst, inl, inr, ◌⊎◌}
use Rattle.std.specs.Prelude.{ℤ, pos, ◌≤ℤ◌, ◌<ℤ◌, ◌==◌, if◌then◌else◌, int_lt, IfSome}
use Rattle.std.proofs.Math.Bool.{and-false}
use Rattle.std.proofs.lemmas.Bool.{or_cases}
use Rattle.std.proofs.lemmas.Bool.Decides.{nat_tests}
use Rattle.std.proofs.lemmas.Int.{ints}
use Rattle.dist_rows.specs.declared.cell.Cell.{Cell}
use Rattle.dist_rows.specs.declared.cell.Via.TheVariants.{Given}
use Rattle.elim_step.specs.Eliminates.{lesser_of, sum_through}
use Rattle.stn_walk.specs.Eliminations.{is_in}
use Rattle.elim_step.specs.Revisits.{reach_of, out_sum, in_sum, least_over, sum_lowered, through_after, place_after, places_after, names_once}
use Rattle.elim_step.specs.Revisits.{IsLeastSum, Revisits}
use Rattle.stn_walk.proofs.Members.{is_in-first, is_in-behind, is_in-push, is_in-at, is_in-apart}

pub least_over-push : (sum : ℕ → Option Cell) (old : Option Cell) (xs : List ℕ) (m : ℕ)
    → least_over sum old (xs ++ m ∷ []) ≡ lesser_of (least_over sum old xs) (sum m)
least_over-push sum old [] m = refl
least_over-push sum old (x ∷ xs) m = least_over-push sum (lesser_of old (sum x)) xs m

pub least_over-same : (s t : ℕ → Option Cell) (old : Option Cell) (xs : List ℕ) → ((m : ℕ) → is_in xs m ≡ true → s m ≡ t m)
    → least_over s old xs ≡ least_over t old xs
least_over-same s t old [] same = refl
least_over-same s t old (x ∷ xs) same =
    let first : s x ≡ t x = same x (is_in-first x xs) in
    ap (λ o. least_over s (lesser_of old o) xs) first
    ∙ least_over-same s t (lesser_of old (t x)) xs (λ m here. same m (is_in-behind (x ∷ []) xs m here))

-- the two cells that are lowered
pub through-both : (forward : ℕ → ℕ → Option Cell) (k j m : ℕ) (f : ℕ → ℕ → Option Cell) → j ≢ k → (p q : ℕ)
    → sum_lowered j k (in_sum forward f k j m) (sum_lowered k j (out_sum forward f k j m) f) p q ≡ through_after forward k j m f p q
through-both forward k j m f apart p q =
    chosen (p == k) (q == j) (p == j) (q == k) (f p q) (out_sum forward f k j m) (in_sum forward f k j m)
    (elim (p == k) as (λ b. (p == k) ≡ b → (b && (p == j)) ≡ false) [
      | true ↦ λ t. (let e : (p == j) ≡ false = grind (arith, nat_tests) in e)
      | false ↦ λ t. refl
    ] refl) where
      chosen : (a b c d : Bool) (x s t : Option Cell) → (a && c) ≡ false
          → (if c && d then lesser_of (if a && b then lesser_of x s else x) t else (if a && b then lesser_of x s else x))
          ≡ (if a && b then lesser_of x s else (if c && d then lesser_of x t else x))
      chosen true b true d x s t h = absurd (cc)
      chosen true true false d x s t h = refl
      chosen true false false d x s t h = refl
      chosen false b true true x s t h = refl
      chosen false b true false x s t h = refl
      chosen false b false d x s t h = refl

-- cells away from k stay
place-away : (forward : ℕ → ℕ → Option Cell) (k j : ℕ) (done : List ℕ) (f : ℕ → ℕ → Option Cell) (p q : ℕ) → p ≢ k → q ≢ k
    → place_after forward k j done f p q ≡ f p q
place-away forward k j done f p q first second =
    let a : (p == k) ≡ false = grind (arith, nat_tests) in
    let b : (q == k) ≡ false = grind (arith, nat_tests) in
    rw (a, b) (elim (p == j) as (λ c. (if c && false then least_over (in_sum forward f k j) (f p q) done else f p q) ≡ f p q) [ true ↦ refl | false ↦ refl ])

pub place-stays : (forward : ℕ → ℕ → Option Cell) (k j : ℕ) (done : List ℕ) (f : ℕ → ℕ → Option Cell) (p q : ℕ) → p ≢ k → q ≢ k
    → place_after forward k j done f p q ≡ f p q
place-stays = place-away

reach-same : (f g : ℕ → ℕ → Option Cell) (p q : ℕ) → f p q ≡ g p q → reach_of f p q ≡ reach_of g p q
reach-same f g p q same =
    let nought : Option Cell = Some (record { weight = pos 0; via = Given 0 }) in
    elim (p == q) as (λ b. (if b then nought else f p q) ≡ (if b then nought else g p q)) [ true ↦ refl | false ↦ same ]

pub out-same : (forward f g : ℕ → ℕ → Option Cell) (k j m : ℕ) → f m j ≡ g m j → out_sum forward f k j m ≡ out_sum forward g k j m
out-same forward f g k j m same = ap (λ o. sum_through m (forward k m) o) (reach-same f g m j same)

pub in-same : (forward f g : ℕ → ℕ → Option Cell) (k j m : ℕ) → f j m ≡ g j m → in_sum forward f k j m ≡ in_sum forward g k j m
in-same forward f g k j m same = ap (λ o. sum_through m o (forward m k)) (reach-same f g j m same)

-- one other place more
pub place-more : (forward : ℕ → ℕ → Option Cell) (k j m : ℕ) (done : List ℕ) (f : ℕ → ℕ → Option Cell) → j ≢ k → m ≢ k → (p q : ℕ)
    → through_after forward k j m (place_after forward k j done f) p q ≡ place_after forward k j (done ++ m ∷ []) f p q
place-more forward k j m done f at_j at_m p q =
    rw (
      out-same forward (place_after forward k j done f) f k j m (place-away forward k j done f m j at_m at_j),
      in-same forward (place_after forward k j done f) f k j m (place-away forward k j done f j m at_j at_m),
      least_over-push (out_sum forward f k j) (f p q) done m,
      least_over-push (in_sum forward f k j) (f p q) done m,
    ) (chosen ((p == k) && (q == j)) ((p == j) && (q == k)) (f p q) (least_over (out_sum forward f k j) (f p q) done)
    (least_over (in_sum forward f k j) (f p q) done) (out_sum forward f k j m) (in_sum forward f k j m)) where
      chosen : (a b : Bool) (x o i s t : Option Cell)
          → (if a then lesser_of (if a then o else (if b then i else x)) s else
          (if b then lesser_of (if a then o else (if b then i else x)) t else (if a then o else (if b then i else x))))
          ≡ (if a then lesser_of o s else (if b then lesser_of i t else x))
      chosen true b x o i s t = refl
      chosen false true x o i s t = refl
      chosen false false x o i s t = refl

-- cells away from k stay
pub places-away : (forward : ℕ → ℕ → Option Cell) (k : ℕ) (done later : List ℕ) (f : ℕ → ℕ → Option Cell) (p q : ℕ) → p ≢ k → q ≢ k
    → places_after forward k done later f p q ≡ f p q
places-away forward k done later f p q first second =
    let a : (p == k) ≡ false = grind (arith, nat_tests) in
    let b : (q == k) ≡ false = grind (arith, nat_tests) in
    rw (a, b) refl

-- cells of k and a place that is not done stay
pub places-ahead : (forward : ℕ → ℕ → Option Cell) (k : ℕ) (done later : List ℕ) (f : ℕ → ℕ → Option Cell) (j : ℕ) → j ≢ k → is_in done j ≡ false
    → places_after forward k done later f k j ≡ f k j
places-ahead forward k done later f j apart ahead =
    let b : (j == k) ≡ false = grind (arith, nat_tests) in
    rw (ahead, b) (elim (k == k) as
    (λ c. (if c && false then least_over (out_sum forward f k j) (f k j) later else f k j) ≡ f k j) [ true ↦ refl | false ↦ refl ])

pub same_right : (a : Bool) (q j : ℕ) (P : ℕ → Option Cell) (x : Option Cell) → (if a && (q == j) then P j else x) ≡ (if a && (q == j) then P q else x)
same_right false q j P x = refl
same_right true q j P x =
    elim (q == j) as (λ b. (q == j) ≡ b → (if b then P j else x) ≡ (if b then P q else x)) [
      | true ↦ λ t. let e : j ≡ q = grind (arith, nat_tests) in ap P e
      | false ↦ λ t. refl
    ] refl

pub same_left : (b : Bool) (p j : ℕ) (P : ℕ → Option Cell) (x : Option Cell) → (if (p == j) && b then P j else x) ≡ (if (p == j) && b then P p else x)
same_left b p j P x =
    elim (p == j) as (λ a. (p == j) ≡ a → (if a && b then P j else x) ≡ (if a && b then P p else x)) [
      | true ↦ λ t. let e : j ≡ p = grind (arith, nat_tests) in ap (λ y. if b then P y else x) e
      | false ↦ λ t. refl
    ] refl

chosen_places : (pk qj pj qk qd pd : Bool) (O I : Option Cell → Option Cell) (x : Option Cell)
    → (qj && qd) ≡ false → (pj && pd) ≡ false → (pk && pj) ≡ false → (qk && qj) ≡ false
    → (if pk && qj then O (if pk && qd then O x else (if qk && pd then I x else x))
    else (if pj && qk then I (if pk && qd then O x else (if qk && pd then I x else x))
    else (if pk && qd then O x else (if qk && pd then I x else x))))
    ≡ (if pk && (qd || qj) then O x else (if qk && (pd || pj) then I x else x))
chosen_places true qj true qk qd pd O I x a b c d = absurd (cc)
chosen_places true true false true qd pd O I x a b c d = absurd (cc)
chosen_places true true false false true pd O I x a b c d = absurd (cc)
chosen_places true true false false false pd O I x a b c d = refl
chosen_places true false false qk true pd O I x a b c d = refl
chosen_places true false false true false true O I x a b c d = refl
chosen_places true false false true false false O I x a b c d = refl
chosen_places true false false false false pd O I x a b c d = refl
chosen_places false qj true qk qd true O I x a b c d = absurd (cc)
chosen_places false qj true true qd false O I x a b c d = refl
chosen_places false qj true false qd false O I x a b c d = refl
chosen_places false qj false true qd true O I x a b c d = refl
chosen_places false qj false true qd false O I x a b c d = refl
chosen_places false qj false false qd pd O I x a b c d = refl

-- what is one of two different numbers is not the other
not_both : (q k j : ℕ) → j ≢ k → ((q == k) && (q == j)) ≡ false
not_both q k j apart = grind (arith, nat_tests)

not_in : (q j : ℕ) (done : List ℕ) → is_in done j ≡ false → ((q == j) && is_in done q) ≡ false
not_in q j done away =
    elim (q == j) as (λ b. (q == j) ≡ b → (b && is_in done q) ≡ false) [
      | true ↦ λ t. let e : j ≡ q = grind (arith, nat_tests) in subst (λ y. is_in done y ≡ false) e away
      | false ↦ λ t. refl
    ] refl

-- one place more
pub places-more : (forward : ℕ → ℕ → Option Cell) (k j : ℕ) (done later : List ℕ) (f : ℕ → ℕ → Option Cell) → j ≢ k → is_in done j ≡ false
    → is_in later k ≡ false → (p q : ℕ)
    → place_after forward k j later (places_after forward k done later f) p q ≡ places_after forward k (done ++ j ∷ []) later f p q
places-more forward k j done later f apart ahead away p q =
    let g = places_after forward k done later f in
    let outs : least_over (out_sum forward g k j) (g p q) later ≡ least_over (out_sum forward f k j) (g p q) later =
    least_over-same (out_sum forward g k j) (out_sum forward f k j) (g p q) later
    (λ m here. out-same forward g f k j m (places-away forward k done later f m j (is_in-apart later m k here away) apart)) in
    let ins : least_over (in_sum forward g k j) (g p q) later ≡ least_over (in_sum forward f k j) (g p q) later =
    least_over-same (in_sum forward g k j) (in_sum forward f k j) (g p q) later
    (λ m here. in-same forward g f k j m (places-away forward k done later f j m apart (is_in-apart later m k here away))) in
    let O : ℕ → Option Cell → Option Cell = λ y x. least_over (out_sum forward f k y) x later in
    let I : ℕ → Option Cell → Option Cell = λ y x. least_over (in_sum forward f k y) x later in
    (λ t. if (p == k) && (q == j) then outs t else (if (p == j) && (q == k) then ins t else g p q))
    ∙ same_right (p == k) q j (λ y. O y (g p q)) (if (p == j) && (q == k) then I j (g p q) else g p q)
    ∙ ap (λ z. if (p == k) && (q == j) then O q (g p q) else z) (same_left (q == k) p j (λ y. I y (g p q)) (g p q))
    ∙ chosen_places (p == k) (q == j) (p == j) (q == k) (is_in done q) (is_in done p) (O q) (I p) (f p q) (not_in q j done ahead) (not_in p j done ahead)
    (not_both p k j apart) (not_both q k j apart)
    ∙ (λ t. if (p == k) && sym (is_in-push done j q) t then O q (f p q) else (if (q == k) && sym (is_in-push done j p) t then I p (f p q) else f p q))

-- each item of a list that names none twice is not in the list before itself
pub once_ahead : (xs : List ℕ) (n : ℕ) → names_once xs ≡ true → n < length xs → is_in (take n xs) (get_or xs n 0) ≡ false
once_ahead [] n once low = absurd (omega arith)
once_ahead (x ∷ xs) zero once low = refl
once_ahead (x ∷ xs) (suc n) once low =
    let both = halves (is_in xs x) (names_once xs) once in
    let later : (get_or xs n 0 == x) ≡ false = (let e = is_in-apart xs (get_or xs n 0) x (is_in-at xs n (omega arith)) both.0 in grind (arith, nat_tests)) in
    let behind = once_ahead xs n both.1 (omega arith) in
    (λ t. behind t || later t) where
      halves : (a b : Bool) → (not a && b) ≡ true → (a ≡ false) × (b ≡ true)
      halves true b h = absurd (cc)
      halves false b h = (refl, h)

lesser_none : (old s : Option Cell) → lesser_of old s ≡ None → (old ≡ None) × (s ≡ None)
lesser_none old None h = (h, refl)
lesser_none None (Some c) h = absurd (cc)
lesser_none (Some o) (Some c) h =
    (elim (int_lt c.weight o.weight) as
    (λ b. (if b then Some c else Some o) ≡ None → (Some o ≡ None) × (Some c ≡ None)) [ true ↦ λ e. absurd (cc) | false ↦ λ e. absurd (cc) ]) h

lesser_is : (old s : Option Cell) (r : Cell) → lesser_of old s ≡ Some r → (old ≡ Some r) ⊎ (s ≡ Some r)
lesser_is old None r h = inl h
lesser_is None (Some c) r h = inr h
lesser_is (Some o) (Some c) r h =
    (elim (int_lt c.weight o.weight) as
    (λ b. (if b then Some c else Some o) ≡ Some r → (Some o ≡ Some r) ⊎ (Some c ≡ Some r)) [ true ↦ λ e. inr e | false ↦ λ e. inl e ]) h

IsAtLeast : ℤ → Option Cell → Type 0
IsAtLeast b o = IfSome o (λ c. b ≤ℤ c.weight)

lesser_le : (old s : Option Cell) (b : ℤ) → IsAtLeast b (lesser_of old s) → IsAtLeast b old × IsAtLeast b s
unfolding IsAtLeast
lesser_le old None b h = (h, tt)
lesser_le None (Some c) b h = (tt, h)
lesser_le (Some o) (Some c) b h =
    (elim (int_lt c.weight o.weight) as
    (λ t. int_lt c.weight o.weight ≡ t → IfSome (if t then Some c else Some o) (λ c. b ≤ℤ c.weight) → (b ≤ℤ o.weight) × (b ≤ℤ c.weight)) [
      | true ↦ λ t e. let lt : c.weight <ℤ o.weight = grind (arith, ints) in (omega (arith, ints), e)
      | false ↦ λ t e. let le : o.weight ≤ℤ c.weight = grind (arith, ints) in (e, omega (arith, ints))
    ]) refl h

-- the least of a cell and of these sums
IsLeastFrom : (ℕ → Option Cell) → List ℕ → Option Cell → Option Cell → Type 0
IsLeastFrom sum xs old None = (old ≡ None) × ((m : ℕ) → is_in xs m ≡ true → sum m ≡ None)
IsLeastFrom sum xs old (Some r) =
    ((old ≡ Some r) ⊎ ((m : ℕ) × (is_in xs m ≡ true) × (sum m ≡ Some r)))
    × IsAtLeast r.weight old × ((m : ℕ) → is_in xs m ≡ true → IsAtLeast r.weight (sum m))

-- what holds of the first and of the rest
each_in : (P : ℕ → Type 0) (x : ℕ) (xs : List ℕ) → P x → ((m : ℕ) → is_in xs m ≡ true → P m) → (m : ℕ) → is_in (x ∷ xs) m ≡ true → P m
each_in P x xs first rest m here =
    elim (or_cases (is_in xs m) (m == x) here) [
      | inl behind ↦ rest m behind
      | inr t ↦ subst P (let s : x ≡ m = grind (arith, nat_tests) in s) first
    ]

from_more : (sum : ℕ → Option Cell) (x : ℕ) (xs : List ℕ) (old r : Option Cell) → IsLeastFrom sum xs (lesser_of old (sum x)) r
    → IsLeastFrom sum (x ∷ xs) old r
unfolding IsLeastFrom
from_more sum x xs old None h =
    let e = lesser_none old (sum x) h.0 in
    (e.0, each_in (λ m. sum m ≡ None) x xs e.1 h.1)
from_more sum x xs old (Some r) h =
    let le = lesser_le old (sum x) r.weight h.1 in (
      elim h.0 [
        | inl e ↦ elim (lesser_is old (sum x) r e) [ inl o ↦ inl o | inr s ↦ inr (x, is_in-first x xs, s) ]
        | inr w ↦ inr (w.0, is_in-behind (x ∷ []) xs w.0 w.1, w.2)
      ],
      le.0,
      each_in (λ m. IsAtLeast r.weight (sum m)) x xs le.1 h.2,
    )

least_from : (sum : ℕ → Option Cell) (xs : List ℕ) (old : Option Cell) → IsLeastFrom sum xs old (least_over sum old xs)
unfolding IsLeastFrom IsAtLeast
least_from sum [] None = (refl, λ m here. absurd (cc))
least_from sum [] (Some c) = (inl refl, omega (arith, ints), λ m here. absurd (cc))
least_from sum (x ∷ xs) old = from_more sum x xs old (least_over sum (lesser_of old (sum x)) xs) (least_from sum xs (lesser_of old (sum x)))

least_of : (sum : ℕ → Option Cell) (xs : List ℕ) (old r : Option Cell) → old ≡ None → IsLeastFrom sum xs old r → IsLeastSum sum xs r
unfolding IsLeastFrom IsAtLeast
least_of sum xs old None none h = h.1
least_of sum xs old (Some r) none h = (elim h.0 [ inl e ↦ absurd (let f : None ≡ Some r = sym none ∙ e in cc) | inr w ↦ w ], h.2)

least_sum : (sum : ℕ → Option Cell) (xs : List ℕ) (old : Option Cell) → old ≡ None → IsLeastSum sum xs (least_over sum old xs)
least_sum sum xs old none = least_of sum xs old (least_over sum old xs) none (least_from sum xs old)

-- the clause of a revisit
pub revisits : (forward : ℕ → ℕ → Option Cell) (k : ℕ) (later : List ℕ) (old new : ℕ → ℕ → Option Cell) → is_in later k ≡ false
    → ((j : ℕ) → is_in later j ≡ true → (old k j ≡ None) × (old j k ≡ None))
    → ((p q : ℕ) → new p q ≡ places_after forward k later later old p q) → Revisits forward k later old new
revisits forward k later old new away fresh is = record {
  out = λ j here. subst (IsLeastSum (out_sum forward old k j) later) (sym (is k j ∙ at_out j here))
      (least_sum (out_sum forward old k j) later (old k j) (fresh j here).0);
  back = λ j here. subst (IsLeastSum (in_sum forward old k j) later) (sym (is j k ∙ at_back j here))
      (least_sum (in_sum forward old k j) later (old j k) (fresh j here).1);
  others = λ p q first second. is p q ∙ rw (first, second) refl;
} where
  same : (k == k) ≡ true
  same = grind (arith, nat_tests)

  at_out : (j : ℕ) → is_in later j ≡ true → places_after forward k later later old k j ≡ least_over (out_sum forward old k j) (old k j) later
  at_out j here = rw (same, here) refl

  at_back : (j : ℕ) → is_in later j ≡ true → places_after forward k later later old j k ≡ least_over (in_sum forward old k j) (old j k) later
  at_back j here = (let first : ((j == k) && is_in later k) ≡ false = rw away (and-false (j == k)) in rw (first, same, here) refl)
