-- The entries of a summary, row by row: IsEarlier, IsEntry, HasEntries.
use Rattle.std.proofs.Common.{◌≡◌, ℕ, zero, suc, ◌<◌, ◌≤◌, Bool, true, false, ◌&&◌, not, List, [], ◌∷◌, ◌++◌, length, if◌then◌else◌, Some, inl, inr}
use Rattle.std.proofs.Common.{◌⊎◌, refl, sym, ap, subst, ◌∙◌, arith, append_assoc}
use Rattle.std.specs.Prelude.{◌==◌}
use Rattle.std.specs.List.{All, AllPairs, Contains}
use Rattle.std.proofs.lemmas.Bool.{cases_lt, false≢true}
use Rattle.std.proofs.lemmas.Bool.Decides.{nat_tests}
use Rattle.std.proofs.lemmas.List.{append-nil}
use Rattle.std.proofs.lemmas.List.Elements.{All-nil, All-head, All-tail, All-push, All-weaker, Contains-push, Contains-append_left}
use Rattle.std.proofs.lemmas.List.Quantifiers.{all_pairs_push}
use Rattle.elim_step.specs.declared.summary.SummaryEntry.{SummaryEntry}
use Rattle.elim_step.specs.Summaries.{is_valid, is_less, may_all_follow, is_summary}
use Rattle.elim_step.specs.Eliminated.{point_at}
use Rattle.private_elim.specs.Locals.{private_at}
use Rattle.private_elim.specs.Taken.{TakenView}
use Rattle.private_elim.specs.SummaryRows.{is_pair_at, joined_at, entry_at, pair_entries, row_below, rows_below}
use Rattle.private_elim.proofs.locals.Places.{Rises}

-- the pair of an entry is less than that of another
abbrev pub IsLess : SummaryEntry → SummaryEntry → Type 0
IsLess a b = is_less a b ≡ true

both : (a b : Bool) → a ≡ true → b ≡ true → (a && b) ≡ true
both a b e f = (λ k. e k && f k)

tail_rises : (e : SummaryEntry) (es : List SummaryEntry) → AllPairs IsLess (e ∷ es) → AllPairs IsLess es
tail_rises e es rising = λ i j d lt within. rising (suc i) (suc j) d (omega arith) (omega arith)

follows : (last : SummaryEntry) (xs : List SummaryEntry) → All (λ e. is_valid e ≡ true) xs → AllPairs IsLess (last ∷ xs)
    → may_all_follow (Some last) xs ≡ true
follows last [] valid rising = refl
follows last (e ∷ es) valid rising =
    both (is_less last e && is_valid e) (may_all_follow (Some e) es)
    (both (is_less last e) (is_valid e) (rising 0 1 e (omega arith) (omega arith)) (All-head (λ x. is_valid x ≡ true) e es valid))
    (follows e es (All-tail (λ x. is_valid x ≡ true) e es valid) (tail_rises last (e ∷ es) rising))

-- entries whose pairs rise, each of which is valid, are a summary
pub is_summary-from_rising : (xs : List SummaryEntry) → All (λ e. is_valid e ≡ true) xs → AllPairs IsLess xs → is_summary xs ≡ true
is_summary-from_rising [] valid rising = refl
is_summary-from_rising (e ∷ es) valid rising =
    both (is_valid e) (may_all_follow (Some e) es) (All-head (λ x. is_valid x ≡ true) e es valid)
    (follows e es (All-tail (λ x. is_valid x ≡ true) e es valid) rising)

-- a private place has no entries
private_pair : (a b c d : Bool) → b ≡ true → (not a && not b && not c && d) ≡ false
private_pair true b c d is = refl
private_pair false true c d is = refl
private_pair false false c d is = absurd (false≢true is)

pub row_private : (t : TakenView) (i : ℕ) → private_at t.local i ≡ true → (n : ℕ) → row_below t i n ≡ []
row_private t i is zero = refl
row_private t i is (suc n) =
    let other : is_pair_at t i n ≡ false = private_pair (i == n) (private_at t.local i) (private_at t.local n) (joined_at t i n) is in
    ap (λ xs. xs ++ pair_entries t i n) (row_private t i is n) ∙ ap (λ b. if b then entry_at t i n ∷ [] else []) other

-- the pair (a, b) comes before (i, n), row by row
abbrev pub IsEarlier : ℕ → ℕ → ℕ → ℕ → Type 0
IsEarlier i n a b = (a < i) ⊎ ((a ≡ i) × (b < n))

-- the entry of a pair before (i, n)
pub record IsEntry (t : TakenView) (i n : ℕ) (e : SummaryEntry) : Type 0 where
  pub start : ℕ
  pub end : ℕ
  pub start_in : start < length t.local.points
  pub end_in : end < length t.local.points
  pub earlier : IsEarlier i n start end
  pub pair : is_pair_at t start end ≡ true
  pub is : e ≡ entry_at t start end

-- the entries are those of the pairs before (i, n), by rising pairs
pub record HasEntries (t : TakenView) (i n : ℕ) (entries : List SummaryEntry) : Type 0 where
  pub each : All (IsEntry t i n) entries
  pub rising : AllPairs IsLess entries
  pub whole : (a b : ℕ) → a < length t.local.points → b < length t.local.points → IsEarlier i n a b → is_pair_at t a b ≡ true
      → Contains entries (entry_at t a b)

module _ (t : TakenView) (rises : Rises t.local.points) where
  none_yet : HasEntries t 0 0 []
  none_yet = record {
    each = All-nil (IsEntry t 0 0);
    rising = λ i j d lt within. absurd (omega arith);
    whole = λ a b _ _ earlier. absurd (nothing a b earlier);
  } where
    nothing : (a b : ℕ) → IsEarlier 0 0 a b → ⊥
    nothing a b (inl h) = omega arith
    nothing a b (inr h) = let low = h.1 in omega arith

  -- more pairs come before a later one
  later : (i n j m : ℕ) → ((a b : ℕ) → IsEarlier i n a b → IsEarlier j m a b) → (e : SummaryEntry) → IsEntry t i n e → IsEntry t j m e
  later i n j m up e h = record {
    start = h.start;
    end = h.end;
    start_in = h.start_in;
    end_in = h.end_in;
    earlier = up h.start h.end h.earlier;
    pair = h.pair;
    is = h.is;
  }

  next_earlier : (i n a b : ℕ) → IsEarlier i n a b → IsEarlier i (suc n) a b
  next_earlier i n a b (inl h) = inl h
  next_earlier i n a b (inr h) = let low = h.1 in inr (h.0, omega arith)

  -- a pair before the next one is before this one, or this one
  this_or : (i n a b : ℕ) → IsEarlier i (suc n) a b → IsEarlier i n a b ⊎ ((a ≡ i) × (b ≡ n))
  this_or i n a b (inl h) = inl (inl h)
  this_or i n a b (inr h) = elim (cases_lt b n) [
    | inl less ↦ inl (inr (h.0, less))
    | inr more ↦ (let low = h.1 in inr (h.0, omega arith))
  ]

  -- an earlier pair has less points
  less_points : (i n a b : ℕ) → i < length t.local.points → n < length t.local.points → IsEarlier i n a b → IsLess (entry_at t a b) (entry_at t i n)
  less_points i n a b li ln (inl h) = let below = rises a i h li in grind (arith, nat_tests)
  less_points i n a b li ln (inr h) =
      let below = rises b n h.1 ln in
      let same : point_at t.local.points a ≡ point_at t.local.points i = ap (point_at t.local.points) h.0 in
      grind (arith, nat_tests)

  -- one pair further
  pair_more : (i n : ℕ) (entries : List SummaryEntry) → i < length t.local.points → n < length t.local.points → is_pair_at t i n ≡ true
      → HasEntries t i n entries → HasEntries t i (suc n) (entries ++ entry_at t i n ∷ [])
  pair_more i n entries li ln pair h = record {
    each = All-push (IsEntry t i (suc n)) entries (entry_at t i n)
        (All-weaker (IsEntry t i n) (IsEntry t i (suc n)) (later i n i (suc n) (next_earlier i n)) entries h.each)
        (record { start = i; end = n; start_in = li; end_in = ln; earlier = inr (refl, omega arith); pair = pair; is = refl });
    rising = all_pairs_push IsLess entries (entry_at t i n) h.rising
        (λ k d lt. let was = h.each k d lt in subst (λ e. IsLess e (entry_at t i n)) (sym was.is) (less_points i n was.start was.end li ln was.earlier));
    whole = λ a b la lb earlier is. elim (this_or i n a b earlier) [
      | inl before ↦ Contains-append_left entries (entry_at t i n ∷ []) (entry_at t a b) (h.whole a b la lb before is)
      | inr this ↦ subst (Contains (entries ++ entry_at t i n ∷ [])) (sym ((λ k. entry_at t (this.0 k) (this.1 k)))) (Contains-push entries (entry_at t i n))
    ];
  }

  pair_same : (i n : ℕ) (entries : List SummaryEntry) → is_pair_at t i n ≡ false → HasEntries t i n entries → HasEntries t i (suc n) entries
  pair_same i n entries other h = record {
    each = All-weaker (IsEntry t i n) (IsEntry t i (suc n)) (later i n i (suc n) (next_earlier i n)) entries h.each;
    rising = h.rising;
    whole = λ a b la lb earlier is. elim (this_or i n a b earlier) [
      | inl before ↦ h.whole a b la lb before is
      | inr this ↦ absurd (false≢true (sym other ∙ sym ((λ k. is_pair_at t (this.0 k) (this.1 k))) ∙ is))
    ];
  }

  pair_step : (i n : ℕ) (entries : List SummaryEntry) → i < length t.local.points → n < length t.local.points
      → HasEntries t i n entries → HasEntries t i (suc n) (entries ++ pair_entries t i n)
  pair_step i n entries li ln h =
      elim (is_pair_at t i n) as (λ b. is_pair_at t i n ≡ b → HasEntries t i (suc n) (entries ++ (if b then entry_at t i n ∷ [] else []))) [
        | true ↦ λ pair. pair_more i n entries li ln pair h
        | false ↦ λ other. subst (HasEntries t i (suc n)) (sym (append-nil entries)) (pair_same i n entries other h)
      ] refl

  -- a row
  row_step : (i n : ℕ) (entries : List SummaryEntry) → i < length t.local.points → n ≤ length t.local.points
      → HasEntries t i 0 entries → HasEntries t i n (entries ++ row_below t i n)
  row_step i zero entries li ln h = subst (HasEntries t i 0) (sym (append-nil entries)) h
  row_step i (suc n) entries li ln h =
      subst (HasEntries t i (suc n)) (append_assoc entries (row_below t i n) (pair_entries t i n))
      (pair_step i n (entries ++ row_below t i n) li (omega arith) (row_step i n entries li (omega arith) h))

  -- after a row comes the next
  row_end : (i : ℕ) (entries : List SummaryEntry) → HasEntries t i (length t.local.points) entries → HasEntries t (suc i) 0 entries
  row_end i entries h = record {
    each = All-weaker (IsEntry t i (length t.local.points)) (IsEntry t (suc i) 0) (later i (length t.local.points) (suc i) 0 in_row) entries h.each;
    rising = h.rising;
    whole = λ a b la lb earlier is. h.whole a b la lb (elim (cases_lt a i) [ inl less ↦ inl less | inr more ↦ inr (last a b earlier more, lb) ]) is;
  } where
    in_row : (a b : ℕ) → IsEarlier i (length t.local.points) a b → IsEarlier (suc i) 0 a b
    in_row a b (inl g) = inl (omega arith)
    in_row a b (inr g) = let e = g.0 in inl (omega arith)

    last : (a b : ℕ) → IsEarlier (suc i) 0 a b → i ≤ a → a ≡ i
    last a b (inl g) more = omega arith
    last a b (inr g) more = let low = g.1 in absurd (omega arith)

  -- the rows
  rows_step : (n : ℕ) → n ≤ length t.local.points → HasEntries t n 0 (rows_below t n)
  rows_step zero ln = none_yet
  rows_step (suc n) ln =
      row_end n (rows_below t (suc n)) (row_step n (length t.local.points) (rows_below t n) (omega arith) (omega arith) (rows_step n (omega arith)))

  -- all of them
  pub all_entries : HasEntries t (length t.local.points) 0 (rows_below t (length t.local.points))
  all_entries = rows_step (length t.local.points) (omega arith)
