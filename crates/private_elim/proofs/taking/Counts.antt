-- How many places pass a test, and how many of those that are joined with a place are gone.
--   count-same, count-one-more, count-some     tests that agree; a test that one place more passes, or some
--   count-split, count-full        a test by two halves; a test as good as a wider one
--   counted_one                    one place more is counted at a place of a list
--   gone_after                     the counts once one point more is taken
use Rattle.std.proofs.Common.{zero, suc, ◌≡◌, ◌≢◌, ℕ, ◌+◌, ◌<◌, ◌≤◌, List, Bool, true, false, ◌&&◌, ◌||◌, not, ap, sym, ◌∙◌, refl, arith, length, get_or}
use Rattle.std.proofs.Common.{set, take, get_or-set_same, get_or-set_other, inl, inr}
use Rattle.std.specs.Prelude.{◌==◌, if◌then◌else◌}
use Rattle.std.proofs.lemmas.Bool.{cases_eq, false≢true}
use Rattle.std.proofs.lemmas.Bool.Decides.{nat_tests}
use Rattle.std.proofs.Math.Bool.{or-true, or-false, and-false}
use Rattle.dist_rows.specs.Places.{AreRisingPlaces}
use Rattle.stn_walk.specs.Eliminations.{is_in}
use Rattle.stn_walk.proofs.Members.{is_in-next}
use Rattle.elim_step.specs.Eliminates.{remains, count_below}
use Rattle.elim_step.proofs.Parts.{ahead_fresh}

-- tests that agree below n count the same
pub count-same : (f g : ℕ → Bool) (n : ℕ) → ((q : ℕ) → q < n → f q ≡ g q) → count_below f n ≡ count_below g n
count-same f g zero e = refl
count-same f g (suc n) e =
    let here = e n (omega arith) in let rest = count-same f g n (λ q low. e q (omega arith)) in (λ t. (if here t then 1 else 0) + rest t)

-- a test that one place more passes
pub count-one-more : (f g : ℕ → Bool) (k n : ℕ) → k < n → f k ≡ false → g k ≡ true → ((q : ℕ) → q < n → q ≢ k → g q ≡ f q)
    → count_below g n ≡ count_below f n + 1
count-one-more f g k zero lk off on same = absurd (omega arith)
count-one-more f g k (suc n) lk off on same =
    elim (cases_eq k n) [
      | inl e ↦
          let rest = count-same g f n (λ q low. same q (omega arith) (λ t. omega (arith, e, low, t))) in
          let here : g n ≡ true = ap g (sym e) ∙ on in
          let was : f n ≡ false = ap f (sym e) ∙ off in
          rw (here, was) (omega (arith, rest))
      | inr apart ↦
          let rest = count-one-more f g k n (omega (arith, apart)) off on (λ q low ne. same q (omega arith) ne) in
          let here = same n (omega arith) (λ t. apart (sym t)) in
          rw here (omega (arith, rest))
    ]

-- a test that some place passes
pub count-some : (f : ℕ → Bool) (k n : ℕ) → k < n → f k ≡ true → 1 ≤ count_below f n
count-some f k zero lk on = absurd (omega arith)
count-some f k (suc n) lk on =
    elim (cases_eq k n) [
      | inl e ↦ (let here : f n ≡ true = ap f (sym e) ∙ on in rw here (omega arith))
      | inr apart ↦ (let rest = count-some f k n (omega (arith, apart)) on in omega (arith, rest))
    ]

-- what passes passes another test too, or does not
pub count-split : (r f : ℕ → Bool) (n : ℕ) → count_below f n ≡ count_below (λ q. r q && f q) n + count_below (λ q. not (r q) && f q) n
count-split r f zero = refl
count-split r f (suc n) =
    by (r n) (f n) (count_below f n) (count_below (λ q. r q && f q) n) (count_below (λ q. not (r q) && f q) n) (count-split r f n) where
      by : (a b : Bool) (x y z : ℕ) → x ≡ y + z → (if b then 1 else 0) + x ≡ ((if a && b then 1 else 0) + y) + ((if not a && b then 1 else 0) + z)
      by true true x y z e = omega (arith, e)
      by true false x y z e = omega (arith, e)
      by false true x y z e = omega (arith, e)
      by false false x y z e = omega (arith, e)

-- a wider test counts no less
count-mono : (f g : ℕ → Bool) (n : ℕ) → ((q : ℕ) → f q ≡ true → g q ≡ true) → count_below f n ≤ count_below g n
count-mono f g zero up = omega arith
count-mono f g (suc n) up = by (f n) (g n) (up n) (count-mono f g n up) where
  by : (a b : Bool) → (a ≡ true → b ≡ true) → count_below f n ≤ count_below g n
      → (if a then 1 else 0) + count_below f n ≤ (if b then 1 else 0) + count_below g n
  by true true h le = omega (arith, le)
  by true false h le = absurd (false≢true (h refl))
  by false true h le = omega (arith, le)
  by false false h le = omega (arith, le)

-- and where it counts no more, it lets nothing more through
pub count-full : (f g : ℕ → Bool) (n : ℕ) → ((q : ℕ) → f q ≡ true → g q ≡ true) → count_below g n ≤ count_below f n → (q : ℕ) → q < n → g q ≡ true
    → f q ≡ true
count-full f g zero up few q low there = absurd (omega arith)
count-full f g (suc n) up few q low there =
    elim (cases_eq q n) [
      | inl e ↦ ap f e ∙ last (f n) (g n) (ap g (sym e) ∙ there) few (count-mono f g n up)
      | inr apart ↦ count-full f g n up (rest (f n) (g n) (up n) few) q (omega (arith, apart)) there
    ] where
      last : (a b : Bool) → b ≡ true → (if b then 1 else 0) + count_below g n ≤ (if a then 1 else 0) + count_below f n → count_below f n ≤ count_below g n
          → a ≡ true
      last true b h le mono = refl
      last false true h le mono = absurd (omega (arith, le, mono))
      last false false h le mono = absurd (false≢true h)

      rest : (a b : Bool) → (a ≡ true → b ≡ true) → (if b then 1 else 0) + count_below g n ≤ (if a then 1 else 0) + count_below f n
          → count_below g n ≤ count_below f n
      rest true true h le = omega (arith, le)
      rest true false h le = absurd (false≢true (h refl))
      rest false true h le = omega (arith, le)
      rest false false h le = omega (arith, le)

-- what passes, and what does not, is all
pub count-not : (f : ℕ → Bool) (n : ℕ) → count_below (λ q. not (f q)) n + count_below f n ≡ n
count-not f zero = refl
count-not f (suc n) = by (f n) (count-not f n) where
  by : (a : Bool) → count_below (λ q. not (f q)) n + count_below f n ≡ n
      → ((if not a then 1 else 0) + count_below (λ q. not (f q)) n) + ((if a then 1 else 0) + count_below f n) ≡ suc n
  by true e = omega (arith, e)
  by false e = omega (arith, e)

pub count-none : (n : ℕ) → count_below (λ _. false) n ≡ 0
count-none zero = refl
count-none (suc n) = omega (arith, count-none n)

-- where all places remain none is gone
pub none_gone : (remain : List Bool) (size : ℕ) (f : ℕ → Bool) → ((q : ℕ) → q < size → remains remain q ≡ true)
    → count_below (λ q. not (remains remain q) && f q) size ≡ 0
none_gone remain size f all = count-same (λ q. not (remains remain q) && f q) (λ _. false) size (λ q low. ap (λ b. not b && f q) (all q low)) ∙ count-none size

pub count-few : (f : ℕ → Bool) (n : ℕ) → count_below f n ≤ n
count-few f zero = omega arith
count-few f (suc n) = by (f n) (count-few f n) where
  by : (a : Bool) → count_below f n ≤ n → (if a then 1 else 0) + count_below f n ≤ suc n
  by true le = omega (arith, le)
  by false le = omega (arith, le)

-- one place more of a list, which rises, is counted
pub counted_one : (counts : List ℕ) (places : List ℕ) (n : ℕ) (old : ℕ → ℕ) → AreRisingPlaces places → n < length places
    → get_or places n 0 < length counts
    → ((p : ℕ) → get_or counts p 0 ≡ old p + (if is_in (take n places) p then 1 else 0))
    → (p : ℕ) → get_or (set counts (get_or places n 0) (get_or counts (get_or places n 0) 0 + 1)) p 0
    ≡ old p + (if is_in (take (n + 1) places) p then 1 else 0)
counted_one counts places n old rising lt low was p =
    let q = get_or places n 0 in
    let more = is_in-next places n p lt in
    elim (cases_eq p q) [
      | inl e ↦
          let fresh = ahead_fresh places n rising lt in
          let there : is_in (take (n + 1) places) q ≡ true =
          sym (is_in-next places n q lt) ∙ ap (λ b. is_in (take n places) q || b) (let same : q ≡ q = refl in grind (arith, nat_tests))
          ∙ or-true (is_in (take n places) q) in
          let one : get_or counts q 0 ≡ old q = was q ∙ ap (λ b. old q + (if b then 1 else 0)) fresh ∙ omega arith in
          rw (e, there) (get_or-set_same counts q (get_or counts q 0 + 1) 0 low ∙ ap (λ x. x + 1) one)
      | inr apart ↦
          let off : (p == q) ≡ false = grind (arith, nat_tests) in
          let same : is_in (take (n + 1) places) p ≡ is_in (take n places) p =
          sym more ∙ ap (λ b. is_in (take n places) p || b) off ∙ or-false (is_in (take n places) p) in
          get_or-set_other counts q p (get_or counts q 0 + 1) 0 apart ∙ was p ∙ sym (ap (λ b. old p + (if b then 1 else 0)) same)
    ]

-- How many places that are gone each place that remains is joined with, once k is taken and those that were joined with it are joined.
module _ (size : ℕ) (remain : List Bool) (k : ℕ) (f g : ℕ → ℕ → Bool) (met : List ℕ) (old new : ℕ → ℕ) (lk : k < length remain) (within : k < size)
    (here : remains remain k ≡ true) (each : (p : ℕ) → is_in met p ≡ (remains remain p && f k p)) (symmetric : (p q : ℕ) → f p q ≡ true → f q p ≡ true)
    (joins : (p q : ℕ) → g p q ≡ (f p q || (not (p == q) && (remains remain p && f k p) && (remains remain q && f k q))))
    (was : (p : ℕ) → remains remain p ≡ true → old p ≡ count_below (λ q. not (remains remain q) && f p q) size)
    (now : (p : ℕ) → new p ≡ old p + (if is_in met p then 1 else 0)) where
  -- whether a place is gone and joined with another, before and after
  abbrev test : ℕ → ℕ → Bool
  test p q = not (remains remain q) && f p q

  abbrev after : ℕ → ℕ → Bool
  after p q = not (remains (set remain k false) q) && g p q

  -- a place that is gone is joined with the same places as before
  gone-row : (p q : ℕ) → q ≢ k → (not (remains (set remain k false) q) && g p q) ≡ (not (remains remain q) && f p q)
  gone-row p q apart =
      ap (λ b. not b && g p q) (get_or-set_other remain k q false false apart)
      ∙ (λ t. not (remains remain q) && joins p q t)
      ∙ by (remains remain q) (f p q) (not (p == q)) (remains remain p && f k p) (f k q) where
        by : (r x d a b : Bool) → (not r && (x || (d && a && (r && b)))) ≡ (not r && x)
        by true x d a b = refl
        by false true d a b = refl
        by false false true true b = refl
        by false false true false b = refl
        by false false false a b = refl

  k_gone : remains (set remain k false) k ≡ false
  k_gone = get_or-set_same remain k false false lk

  pub gone_after : (p : ℕ) → remains (set remain k false) p ≡ true → new p ≡ count_below (λ q. not (remains (set remain k false) q) && g p q) size
  gone_after p there =
      let apart : p ≢ k = λ e. false≢true (sym k_gone ∙ ap (remains (set remain k false)) (sym e) ∙ there) in
      let left : remains remain p ≡ true = sym (get_or-set_other remain k p false false apart) ∙ there in
      let listed : is_in met p ≡ f k p = each p ∙ ap (λ b. b && f k p) left in
      now p ∙ by p left (f k p) refl listed where
        flip : (p : ℕ) → f k p ≡ false → (b : Bool) → f p k ≡ b → f p k ≡ false
        flip p none true h = absurd (false≢true (sym none ∙ symmetric p k h))
        flip p none false h = h

        by : (p : ℕ) → remains remain p ≡ true → (b : Bool) → f k p ≡ b → is_in met p ≡ f k p
            → old p + (if is_in met p then 1 else 0) ≡ count_below (after p) size
        by p left true h listed =
            let on : g p k ≡ true = joins p k ∙ ap (λ x. x || (not (p == k) && (remains remain p && f k p) && (remains remain k && f k k))) (symmetric k p h) in
            let more =
            count-one-more (test p) (after p) k size within (ap (λ r. not r && f p k) here) (ap (λ r. not r && g p k) k_gone ∙ on)
            (λ q low ne. gone-row p q ne) in
            ap (λ x. old p + (if x then 1 else 0)) (listed ∙ h) ∙ ap (λ x. x + 1) (was p left) ∙ sym more
        by p left false h listed =
            let none : f p k ≡ false = flip p h (f p k) refl in
            let off : g p k ≡ false =
            joins p k ∙ ap (λ x. f p k || (not (p == k) && (remains remain p && x) && (remains remain k && f k k))) h
            ∙ ap (λ x. x || (not (p == k) && (remains remain p && false) && (remains remain k && f k k))) none
            ∙ nothing (not (p == k)) (remains remain p) (remains remain k && f k k) in
            ap (λ x. old p + (if x then 1 else 0)) (listed ∙ h) ∙ (let w = was p left in omega (arith, w))
            ∙ count-same (test p) (after p) size (λ q low. same p none off q) where
              nothing : (d r m : Bool) → (d && (r && false) && m) ≡ false
              nothing true true m = refl
              nothing true false m = refl
              nothing false r m = refl

              same : (p : ℕ) → f p k ≡ false → g p k ≡ false → (q : ℕ) → test p q ≡ after p q
              same p none off q =
                  elim (cases_eq q k) [
                    | inl e ↦ rw e (ap (λ b. not (remains remain k) && b) none ∙ and-false (not (remains remain k))
                        ∙ sym (ap (λ b. not (remains (set remain k false) k) && b) off ∙ and-false (not (remains (set remain k false) k))))
                    | inr ne ↦ sym (gone-row p q ne)
                  ]
