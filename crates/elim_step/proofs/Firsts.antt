-- The place that comes first among places with keys is that of a candidate that may be picked: picks_none, picks_first.
use Rattle.std.proofs.Common.{zero, suc, ◌≡◌, ℕ, ◌+◌, ◌<◌, List, [], ◌∷◌, ◌++◌, false, Option, Some, None, ap, sym, ◌∙◌, refl, length}
use Rattle.std.proofs.Common.{arith, subst, inl, inr, add-one}
use Rattle.std.specs.Prelude.{slice_index_or}
use Rattle.std.proofs.lemmas.Bool.{cases_lt}
use Rattle.std.proofs.lemmas.Bool.Decides.{nat_tests}
use Rattle.std.proofs.lemmas.List.{get_or_append_left, get_or_push, length_push}
use Rattle.elim_step.specs.declared.pick.Candidate.{Candidate}
use Rattle.elim_step.specs.Picks.{comes_before, candidate_at, Picks}
use Rattle.elim_step.specs.Rankings.{IsFirst}

-- The candidates are the places with keys: the q-th one is at the place `places q`, where its key answers its degree and number, and places rise
-- with numbers.
pub record AreRanked (answers : ℕ → ℕ → ℕ → Type 0) (candidates : List Candidate) (places : ℕ → ℕ) (keys : ℕ → Option ℕ) : Type 0 where
  pub key : ℕ → ℕ
  pub here : (q : ℕ) → q < length candidates → keys (places q) ≡ Some (key q)
  pub answer : (q : ℕ) → q < length candidates → answers (candidate_at candidates q).degree (candidate_at candidates q).number (key q)
  pub order : (q r : ℕ) → q < length candidates → r < length candidates → (candidate_at candidates q).number < (candidate_at candidates r).number
      → places q < places r

-- the values of a function below a number, as a list
values : (ℕ → ℕ) → ℕ → List ℕ
values f zero = []
values f (suc n) = values f n ++ f n ∷ []

values_len : (f : ℕ → ℕ) (n : ℕ) → length (values f n) ≡ n
unfolding values
values_len f zero = refl
values_len f (suc n) = length_push (values f n) (f n) ∙ ap (λ k. k + 1) (values_len f n) ∙ add-one n

values_at : (f : ℕ → ℕ) (n q : ℕ) → q < n → slice_index_or (values f n) q 0 ≡ f q
unfolding values
values_at f zero q low = absurd (omega (arith, low))
values_at f (suc n) q low =
    elim (cases_lt q n) [
      | inl less ↦ get_or_append_left (values f n) (f n ∷ []) 0 q (let e = values_len f n in omega (arith, e, less)) ∙ values_at f n q less
      | inr last ↦
          let e : q ≡ n = omega (arith, low, last) in
          get_or_push (values f n) (f n) 0 q (values_len f n ∙ sym e) ∙ ap f (sym e)
    ]

-- where no place has a key there is no candidate
pub picks_none : (answers : ℕ → ℕ → ℕ → Type 0) (candidates : List Candidate) (places : ℕ → ℕ) (keys : ℕ → Option ℕ)
    → AreRanked answers candidates places keys → IsFirst keys None → Picks answers candidates None
picks_none answers candidates places keys ranked none =
    elim (cases_lt 0 (length candidates)) [
      | inl some ↦ absurd (let e : None ≡ Some (ranked.key 0) = sym (none (places 0)) ∙ ranked.here 0 some in cc)
      | inr empty ↦ (
        values ranked.key (length candidates),
        record {
          len = values_len ranked.key (length candidates);
          each = λ q low. rw (values_at ranked.key (length candidates) q low) (ranked.answer q low);
        },
        omega (arith, empty),
      )
    ]

-- the candidate at the place that comes first may be picked
pub picks_first : (answers : ℕ → ℕ → ℕ → Type 0) (candidates : List Candidate) (places : ℕ → ℕ) (keys : ℕ → Option ℕ) (r : ℕ)
    → AreRanked answers candidates places keys → r < length candidates → IsFirst keys (Some (places r)) → Picks answers candidates (Some r)
picks_first answers candidates places keys r ranked low first = (
  values ranked.key (length candidates),
  record {
    len = values_len ranked.key (length candidates);
    each = λ q l. rw (values_at ranked.key (length candidates) q l) (ranked.answer q l);
  },
  record { within = low; least = least },
) where
  key_r : first.0 ≡ ranked.key r
  key_r = (let e : Some first.0 ≡ Some (ranked.key r) = sym first.1 ∙ ranked.here r low in cc)

  not_before : (a b p q m n : ℕ) → comes_before a p b q ≡ false → (m < n → p < q) → comes_before a m b n ≡ false
  not_before a b p q m n h order =
      elim (cases_lt m n) [
        | inl less ↦ (let l = order less in grind (arith, nat_tests))
        | inr more ↦ grind (arith, nat_tests)
      ]

  least : (q : ℕ) → q < length candidates → comes_before (slice_index_or (values ranked.key (length candidates)) q 0) (candidate_at candidates q).number
      (slice_index_or (values ranked.key (length candidates)) r 0) (candidate_at candidates r).number ≡ false
  least q l =
      rw (values_at ranked.key (length candidates) q l, values_at ranked.key (length candidates) r low)
      (not_before (ranked.key q) (ranked.key r) (places q) (places r) (candidate_at candidates q).number (candidate_at candidates r).number
      (subst (λ (a : ℕ). comes_before (ranked.key q) (places q) a (places r) ≡ false) key_r (first.2 (places q) (ranked.key q) (ranked.here q l)))
      (ranked.order q r l low))
