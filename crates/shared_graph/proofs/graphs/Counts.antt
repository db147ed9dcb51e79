-- How many numbers below one pass a test: count_same, count_filter, filter_same, count_more, count_less, count_at, count_split, count_off,
-- count_on, count_none, count_some, count_rising. One more counted at each place of a list: counted_one.
use Rattle.std.proofs.Common.{zero, suc, ◌≡◌, ◌≢◌, ℕ, ◌+◌, ◌<◌, ◌≤◌, List, [], ◌∷◌, Bool, true, false, not, ap, sym, ◌∙◌, refl, arith, length, set}
use Rattle.std.proofs.Common.{filter, add-one, get_or, get_or-set_same, get_or-set_other, take, inl, inr}
use Rattle.std.specs.Prelude.{◌||◌, ◌&&◌, ◌==◌, if◌then◌else◌}
use Rattle.std.proofs.lemmas.Bool.{cases_lt, cases_eq}
use Rattle.std.proofs.lemmas.Bool.Decides.{nat_tests}
use Rattle.std.proofs.Math.Bool.{or-true, or-false}
use Rattle.stn_walk.specs.Eliminations.{is_in}
use Rattle.stn_walk.proofs.Members.{is_in-at, is_in-first, is_in-next}
use Rattle.dist_rows.specs.Places.{AreRisingPlaces}
use Rattle.elim_step.specs.Eliminated.{point_at}
use Rattle.elim_step.specs.Eliminates.{remains, count_below}
use Rattle.elim_step.proofs.JoinWrites.{IsCounted, counted-none, counted-more, counted-all}
use Rattle.elim_step.proofs.Parts.{ahead_fresh}
use Rattle.shared_graph.specs.Graphs.{flag_at}

-- tests that agree below the number
pub count_same : (f g : ℕ → Bool) (n : ℕ) → ((k : ℕ) → k < n → f k ≡ g k) → count_below f n ≡ count_below g n
count_same f g zero same = refl
count_same f g (suc n) same =
    let here = same n (omega arith) in
    let rest = count_same f g n (λ k lt. same k (omega arith)) in
    (λ t. (if here t then 1 else 0) + rest t)

-- the first number apart
pub count_shift : (f : ℕ → Bool) (n : ℕ) → count_below f (suc n) ≡ (if f 0 then 1 else 0) + count_below (λ k. f (suc k)) n
count_shift f zero = refl
count_shift f (suc n) =
    let rest = count_shift f n in
    let one : ℕ = if f (suc n) then 1 else 0 in
    let first : ℕ = if f 0 then 1 else 0 in
    let back = count_below (λ k. f (suc k)) n in
    omega arith

-- the places of a list whose points pass are as many as these points
pub count_filter : (test : ℕ → Bool) (xs : List ℕ) → count_below (λ k. test (point_at xs k)) (length xs) ≡ length (filter test xs)
count_filter test [] = refl
count_filter test (x ∷ xs) =
    count_shift (λ k. test (point_at (x ∷ xs) k)) (length xs) ∙ ap (λ n. (if test x then 1 else 0) + n) (count_filter test xs)
    ∙ one (test x) where
      one : (b : Bool) → (if b then 1 else 0) + length (filter test xs) ≡ length (if b then x ∷ filter test xs else filter test xs)
      one true = omega arith
      one false = omega arith

-- tests that agree on the members of a list
pub filter_same : (f g : ℕ → Bool) (xs : List ℕ) → ((p : ℕ) → is_in xs p ≡ true → f p ≡ g p) → filter f xs ≡ filter g xs
filter_same f g [] same = refl
filter_same f g (x ∷ xs) same =
    let here = same x (is_in-first x xs) in
    let rest = filter_same f g xs (λ p there. same p (ap (λ b. b || (p == x)) there)) in
    (λ t. if here t then x ∷ rest t else rest t)

-- one number more passes
pub count_more : (f g : ℕ → Bool) (k n : ℕ) → k < n → f k ≡ true → g k ≡ false → ((m : ℕ) → m < n → m ≢ k → g m ≡ f m)
    → count_below f n ≡ suc (count_below g n)
count_more f g k zero low on off same = absurd (omega arith)
count_more f g k (suc n) low on off same =
    elim (cases_eq k n) [
      | inl e ↦
          let one : f n ≡ true = ap f (sym e) ∙ on in
          let none : g n ≡ false = ap g (sym e) ∙ off in
          let rest = count_same f g n (λ m lt. sym (same m (omega arith) (omega arith))) in
          let up : count_below f (suc n) ≡ 1 + count_below f n = ap (λ b. (if b then 1 else 0) + count_below f n) one in
          let down : count_below g (suc n) ≡ 0 + count_below g n = ap (λ b. (if b then 1 else 0) + count_below g n) none in
          omega arith
      | inr ne ↦
          let rest = count_more f g k n (omega arith) on off (λ m lt apart. same m (omega arith) apart) in
          let here : g n ≡ f n = same n (omega arith) (λ e. ne (sym e)) in
          let down : count_below g (suc n) ≡ (if f n then 1 else 0) + count_below g n = ap (λ b. (if b then 1 else 0) + count_below g n) here in
          omega arith
    ]

-- one number passes no more
pub count_less : (f g : ℕ → Bool) (k n : ℕ) → k < n → f k ≡ true → g k ≡ false → ((m : ℕ) → m ≢ k → g m ≡ f m)
    → count_below f n ≡ suc (count_below g n)
count_less f g k n low on off same = count_more f g k n low on off (λ m lt. same m)

-- a number that did not pass, and may pass now
pub count_at : (f g : ℕ → Bool) (k n : ℕ) → k < n → g k ≡ false → ((m : ℕ) → m < n → m ≢ k → g m ≡ f m)
    → count_below f n ≡ count_below g n + (if f k then 1 else 0)
count_at f g k n low off same = by (f k) refl where
  by : (b : Bool) → f k ≡ b → count_below f n ≡ count_below g n + (if b then 1 else 0)
  by true on = (let more = count_more f g k n low on off same in omega arith)
  by false none =
      let equal = count_same f g n (λ m lt. elim (cases_eq m k) [
        | inl e ↦ ap f e ∙ none ∙ sym (ap g e ∙ off)
        | inr ne ↦ sym (same m lt ne)
      ]) in
      omega arith

-- of those that pass, some pass another test and the others do not
pub count_split : (f r : ℕ → Bool) (n : ℕ) → count_below f n ≡ count_below (λ k. f k && not (r k)) n + count_below (λ k. f k && r k) n
count_split f r zero = refl
count_split f r (suc n) =
    by (f n) (r n) (count_below f n) (count_below (λ k. f k && not (r k)) n) (count_below (λ k. f k && r k) n) (count_split f r n) where
      by : (a b : Bool) (x y z : ℕ) → x ≡ y + z → (if a then 1 else 0) + x ≡ ((if a && not b then 1 else 0) + y) + ((if a && b then 1 else 0) + z)
      by true true x y z e = omega (arith, e)
      by true false x y z e = omega (arith, e)
      by false b x y z e = omega (arith, e)

-- a flag that is taken away
pub count_off : (flags : List Bool) (k n : ℕ) → k < length flags → k < n → remains flags k ≡ true
    → count_below (remains flags) n ≡ suc (count_below (remains (set flags k false)) n)
count_off flags k n within low on =
    count_less (remains flags) (remains (set flags k false)) k n low on (get_or-set_same flags k false false within)
    (λ m ne. get_or-set_other flags k m false false ne)

-- a flag that is set
pub count_on : (flags : List Bool) (k n : ℕ) → k < length flags → k < n → flag_at flags k ≡ false
    → count_below (λ m. not (flag_at flags m)) n ≡ suc (count_below (λ m. not (flag_at (set flags k true) m)) n)
count_on flags k n within low off =
    count_less (λ m. not (flag_at flags m)) (λ m. not (flag_at (set flags k true) m)) k n low (ap not off)
    (ap not (get_or-set_same flags k true false within)) (λ m ne. ap not (get_or-set_other flags k m true false ne))

-- none passes where the count is 0, and some number does where it is not
pub count_none : (test : ℕ → Bool) (n : ℕ) → count_below test n ≡ 0 → (k : ℕ) → k < n → test k ≡ false
count_none test zero none k low = absurd (omega arith)
count_none test (suc n) none k low = by (count_none test n) (test n) refl none where
  by : (count_below test n ≡ 0 → (k : ℕ) → k < n → test k ≡ false) → (b : Bool) → test n ≡ b → (if b then 1 else 0) + count_below test n ≡ 0 → test k ≡ false
  by rest true e h = absurd (omega arith)
  by rest false e h = elim (cases_eq k n) [
    | inl same ↦ ap test same ∙ e
    | inr apart ↦ rest (omega arith) k (omega arith)
  ]

pub count_some : (test : ℕ → Bool) (k n : ℕ) → k < n → test k ≡ true → 0 < count_below test n
count_some test k n low on =
    elim (cases_lt 0 (count_below test n)) [
      | inl some ↦ some
      | inr few ↦ absurd (let off = count_none test n (omega arith) k low in cc)
    ]

-- a list that rises has as many places as its test counts
counts_up : (xs : List ℕ) (n : ℕ) → AreRisingPlaces xs → n ≤ length xs → IsCounted (is_in xs) xs n n
counts_up xs zero rising le = counted-none (is_in xs) xs (λ p h. h)
counts_up xs (suc n) rising le =
    rw add-one at
    (counted-more (is_in xs) xs n n true (λ p h. h) rising (omega arith) (counts_up xs n rising (omega arith)) (is_in-at xs n (omega arith)))

pub count_rising : (xs : List ℕ) (n : ℕ) → AreRisingPlaces xs → ((m : ℕ) → is_in xs m ≡ true → m < n) → length xs ≡ count_below (is_in xs) n
count_rising xs n rising within =
    counted-all (is_in xs) xs (length xs) (length xs) n (counts_up xs (length xs) rising (omega arith)) (omega arith) within (omega arith)

-- one place more of a list, which rises, is counted
pub counted_one : (counts : List ℕ) (places : List ℕ) (n : ℕ) (old : ℕ → ℕ) → AreRisingPlaces places → n < length places
    → get_or places n 0 < length counts
    → ((p : ℕ) → get_or counts p 0 ≡ old p + (if is_in (take n places) p then 1 else 0))
    → (p : ℕ) → get_or (set counts (get_or places n 0) (get_or counts (get_or places n 0) 0 + 1)) p 0
    ≡ old p + (if is_in (take (n + 1) places) p then 1 else 0)
counted_one counts places n old rising lt low was p =
    let q = get_or places n 0 in
    let more = is_in-next places n p lt in
    elim (cases_eq p q) [
      | inl e ↦
          let fresh = ahead_fresh places n rising lt in
          let there : is_in (take (n + 1) places) q ≡ true =
          sym (is_in-next places n q lt) ∙ ap (λ b. is_in (take n places) q || b) (let same : q ≡ q = refl in grind (arith, nat_tests))
          ∙ or-true (is_in (take n places) q) in
          let one : get_or counts q 0 ≡ old q = was q ∙ ap (λ b. old q + (if b then 1 else 0)) fresh ∙ omega arith in
          rw (e, there) (get_or-set_same counts q (get_or counts q 0 + 1) 0 low ∙ ap (λ x. x + 1) one)
      | inr apart ↦
          let off : (p == q) ≡ false = grind (arith, nat_tests) in
          let same : is_in (take (n + 1) places) p ≡ is_in (take n places) p =
          sym more ∙ ap (λ b. is_in (take n places) p || b) off ∙ or-false (is_in (take n places) p) in
          get_or-set_other counts q p (get_or counts q 0 + 1) 0 apart ∙ was p ∙ sym (ap (λ b. old p + (if b then 1 else 0)) same)
    ]
