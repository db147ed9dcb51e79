-- Summaries that are tested one by one: FitBelow, fit_more, fit_all; entries that are: each_passes; and what is done without a stop: none_done.
use Rattle.std.proofs.Common.{◌≡◌, ℕ, ◌+◌, ◌<◌, ◌≤◌, Bool, true, false, ◌&&◌, Option, List, [], ◌∷◌, length, get_or, refl, sym, ◌∙◌, arith, subst, inl, inr, ◌⊎◌}
use Rattle.std.specs.Prelude.{is_some}
use Rattle.std.specs.List.{AllByRecursion, list_all}
use Rattle.std.proofs.lemmas.Bool.{cases_lt}
use Rattle.std.proofs.lemmas.List.{get_or_default, get_or_past}
use Rattle.elim_step.specs.declared.summary.SummaryEntry.{SummaryEntry}
use Rattle.shared_graph.specs.declared.events.SharedCycle.{SharedCycle}
use Rattle.shared_graph.specs.Histories.{AreFitting}
use Rattle.shared_graph.specs.Interfaces.{InterfaceView, Summary, IsFitting}
use Rattle.shared_graph.specs.Replays.{summary_of}

-- the first n agents' summaries fit
abbrev pub FitBelow : InterfaceView → List Summary → ℕ → Type 0
FitBelow face summaries n = (a : ℕ) → a < n → IsFitting face a (summary_of summaries a)

-- one more
pub fit_more : (face : InterfaceView) (summaries : List Summary) (n : ℕ) (s : Summary) → n < length summaries → s ≡ get_or summaries n s
    → IsFitting face n s → FitBelow face summaries n → FitBelow face summaries (n + 1)
fit_more face summaries n s within is fits below a low = elim (cases_lt a n) [
  | inl before ↦ below a before
  | inr after ↦
      (let e : a ≡ n = omega arith in
      subst (λ b. IsFitting face b (summary_of summaries b)) (sym e)
      (subst (IsFitting face n) (is ∙ get_or_default summaries n s [] within) fits))
]

-- past the end there is no entry
pub fit_all : (face : InterfaceView) (summaries : List Summary) (n : ℕ) → length summaries ≤ n → FitBelow face summaries n → AreFitting face summaries
fit_all face summaries n all below a = elim (cases_lt a n) [
  | inl low ↦ below a low
  | inr high ↦
      (let none : summary_of summaries a ≡ [] = get_or_past summaries a [] (omega arith) in
      λ (e : SummaryEntry) there. absurd (let low : there.0 < 0 = subst (λ (xs : Summary). there.0 < length xs) none there.1 in omega arith))
]

-- what a test of each element finds
pub each_passes : {X : Type 0} (test : X → Bool) (xs : List X) → list_all test xs ≡ true → AllByRecursion (λ x. test x ≡ true) xs
each_passes test [] all = tt
each_passes test (x ∷ xs) all = (both_first (test x) (list_all test xs) all, each_passes test xs (both_second (test x) (list_all test xs) all)) where
  both_first : (a b : Bool) → (a && b) ≡ true → a ≡ true
  both_first true b h = refl
  both_first false b h = h

  both_second : (a b : Bool) → (a && b) ≡ true → b ≡ true
  both_second true b h = h
  both_second false b h = cc

-- without a stop all is done
pub none_done : {D : Type 0} (stop : Option SharedCycle) → is_some stop ≡ false → (is_some stop ≡ true) ⊎ D → D
none_done stop none (inl stopped) = cc
none_done stop none (inr done) = done
