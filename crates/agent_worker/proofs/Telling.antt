-- The summaries that agents published, listed one by one: AreToldBelow, none_told, told_more, all_fit, all_agree; and those of reduced parts: part_told.
use Rattle.std.proofs.Common.{◌≡◌, ℕ, ◌+◌, ◌<◌, List, [], ◌∷◌, ◌++◌, length, map, drop, get_or, ap, sym, ◌∙◌, refl, arith, subst}
use Rattle.std.proofs.Common.{inl, inr, append_assoc}
use Rattle.std.proofs.lemmas.Bool.{cases_lt}
use Rattle.std.proofs.lemmas.List.{length-append, get_or_append_left, get_or_at, get_or_past, drop_more}
use Rattle.private_elim.specs.ReducedViews.{ReducedView}
use Rattle.elim_step.specs.declared.summary.SummaryEntry.{SummaryEntry}
use Rattle.shared_graph.specs.Histories.{SharedView, IsJournal, AreFitting}
use Rattle.shared_graph.specs.Interfaces.{Summary, IsFitting}
use Rattle.shared_graph.specs.Journals.{AgreeWith}
use Rattle.shared_graph.specs.Publications.{entries_in}
use Rattle.shared_graph.specs.Replays.{summary_of}
use Rattle.shared_graph.proofs.graphs.Histories.{published_below}

-- the first n agents' summaries are listed
pub record AreToldBelow (v : SharedView) (n : ℕ) (summaries : List Summary) : Type 0 where
  pub len : length summaries ≡ n
  pub told : (a : ℕ) → a < n → summary_of summaries a ≡ entries_in v.state.published a
  pub fit : (a : ℕ) → a < n → IsFitting v.face a (summary_of summaries a)

pub none_told : (v : SharedView) → AreToldBelow v 0 []
none_told v = record { len = refl; told = λ a low. absurd (omega arith); fit = λ a low. absurd (omega arith) }

-- one more
pub told_more : (v : SharedView) (n : ℕ) (old new : List Summary) (s : Summary) → AreToldBelow v n old → new ≡ old ++ s ∷ []
    → s ≡ entries_in v.state.published n → IsFitting v.face n s → AreToldBelow v (n + 1) new
told_more v n old new s h grown is fits = record {
  len = (let l = h.len in ap length grown ∙ length-append old (s ∷ []) ∙ omega arith);
  told = λ a low. (elim (cases_lt a n) [
    | inl before ↦ at_old a before ∙ h.told a before
    | inr after ↦ (let e : a ≡ n = omega arith in at_new a e ∙ is ∙ ap (entries_in v.state.published) (sym e))
  ]);
  fit = λ a low. (elim (cases_lt a n) [
    | inl before ↦ subst (IsFitting v.face a) (sym (at_old a before)) (h.fit a before)
    | inr after ↦
        (let e : a ≡ n = omega arith in
        subst (IsFitting v.face a) (sym (at_new a e)) (subst (λ b. IsFitting v.face b s) (sym e) fits))
  ]);
} where
  at_old : (a : ℕ) → a < n → summary_of new a ≡ summary_of old a
  at_old a low = (let l = h.len in ap (λ xs. get_or xs a []) grown ∙ get_or_append_left old (s ∷ []) [] a (omega arith))

  at_new : (a : ℕ) → a ≡ n → summary_of new a ≡ s
  at_new a e = (let l = h.len in let k : a ≡ length old = omega arith in ap (λ xs. get_or xs a []) grown ∙ get_or_at old s [] [] a (sym k))

-- all fit
pub all_fit : (v : SharedView) (n : ℕ) (summaries : List Summary) → AreToldBelow v n summaries → AreFitting v.face summaries
all_fit v n summaries h a = elim (cases_lt a n) [
  | inl low ↦ h.fit a low
  | inr high ↦
      (let l = h.len in
      let none : summary_of summaries a ≡ [] = get_or_past summaries a [] (omega arith) in
      λ (e : SummaryEntry) there. absurd (let low : there.0 < 0 = subst (λ (xs : Summary). there.0 < length xs) none there.1 in omega arith))
]

-- and are what is published
pub all_agree : (v : SharedView) (n : ℕ) (summaries : List Summary) → AreToldBelow v n summaries → IsJournal v.face v.state v.journal
    → n ≡ length v.face.leans → AgreeWith summaries v.state
all_agree v n summaries h j all a there =
    let low = published_below v.face v.state v.journal j a there in
    sym (h.told a (omega arith))

-- the summary of one reduced part more
pub part_told : (reduced : List ReducedView) (n : ℕ) (r : ReducedView) (old new : List Summary) → n < length reduced → r ≡ get_or reduced n r
    → old ++ map (λ r. r.summary) (drop n reduced) ≡ map (λ r. r.summary) reduced → new ≡ old ++ r.summary ∷ []
    → new ++ map (λ r. r.summary) (drop (n + 1) reduced) ≡ map (λ r. r.summary) reduced
part_told reduced n r old new low is h grown =
    let told : List ReducedView → List Summary = λ rs. map (λ q. q.summary) rs in
    let here : drop n reduced ≡ r ∷ drop (n + 1) reduced = drop_more reduced n r low ∙ ap (λ q. q ∷ drop (n + 1) reduced) (sym is) in
    ap (λ xs. xs ++ told (drop (n + 1) reduced)) grown ∙ append_assoc old (r.summary ∷ []) (told (drop (n + 1) reduced))
    ∙ ap (λ rs. old ++ told rs) (sym here) ∙ h
