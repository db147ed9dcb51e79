-- The final bounds of a summary's pairs make a summary: read_there, are_summary, finals_found.
use Rattle.std.proofs.Common.{zero, suc, ◌≡◌, ℕ, ◌<◌, ◌≤◌, List, [], ◌∷◌, Bool, true, false, ◌&&◌, not, Option, Some, None, length, map, take, get_or}
use Rattle.std.proofs.Common.{ap, sym, ◌∙◌, refl, arith, subst, if◌then◌else◌}
use Rattle.std.specs.Prelude.{◌==◌, ℤ, nat_abs, nat_le, is_some}
use Rattle.std.specs.Option.{option_map}
use Rattle.std.proofs.lemmas.Bool.{and_parts}
use Rattle.std.proofs.lemmas.List.{take_all}
use Rattle.std.proofs.lemmas.Bool.Decides.{nat_tests}
use Rattle.stn_model.specs.Limits.{greatest_walk}
use Rattle.elim_step.specs.declared.summary.SummaryEntry.{SummaryEntry}
use Rattle.elim_step.specs.Summaries.{entry_in, is_less, is_summary, is_valid, may_all_follow, may_follow}
use Rattle.shared_graph.specs.Interfaces.{InterfaceView}
use Rattle.shared_graph.specs.States.{State}
use Rattle.shared_graph.specs.Weights.{final}
use Rattle.conflict_cycle.specs.Parts.{AreFound, AreFinalsOf}
use Rattle.agent_worker.specs.Backs.{final_entry, number_or_0}

-- whether an entry is that of a pair
abbrev is_of : SummaryEntry → ℕ → ℕ → Bool
is_of e i j = (e.from.0 == i) && (e.to.0 == j)

here : (e : SummaryEntry) (es : List SummaryEntry) (i j : ℕ) → is_of e i j ≡ true → entry_in (e ∷ es) i j ≡ Some e.weight
here e es i j t = ap (λ b. if b then Some e.weight else entry_in es i j) t

later : (e : SummaryEntry) (es : List SummaryEntry) (i j : ℕ) → is_some (entry_in es i j) ≡ true → is_some (entry_in (e ∷ es) i j) ≡ true
later e es i j there =
    elim (is_of e i j) as (λ b. is_some (if b then Some e.weight else entry_in es i j) ≡ true) [ true ↦ refl | false ↦ there ]

own : (e : SummaryEntry) (es : List SummaryEntry) → is_some (entry_in (e ∷ es) e.from.0 e.to.0) ≡ true
own e es = (let t : is_of e e.from.0 e.to.0 ≡ true = grind (arith, nat_tests) in ap is_some (here e es e.from.0 e.to.0 t))

-- the pair of an entry that is read has an entry
pub read_there : (es : List SummaryEntry) (k : ℕ) (d : SummaryEntry) → k < length es
    → is_some (entry_in es (get_or es k d).from.0 (get_or es k d).to.0) ≡ true
read_there [] k d low = absurd (omega arith)
read_there (e ∷ es) zero d low = own e es
read_there (e ∷ es) (suc k) d low = later e es (get_or es k d).from.0 (get_or es k d).to.0 (read_there es k d (omega arith))

module _ (face : InterfaceView) (s : State) where
  -- the final bound is in range
  bound_valid : (e : SummaryEntry) → (b : ℤ) × (final face s e.from.0 e.to.0 ≡ Some b) × (nat_abs b ≤ greatest_walk) → is_valid e ≡ true
      → is_valid (final_entry face s e) ≡ true
  bound_valid e (b, is, low) valid =
      let apart = (and_parts (not (e.from.0 == e.to.0)) (nat_le (nat_abs e.weight) greatest_walk) valid).0 in
      let fits : nat_le (nat_abs b) greatest_walk ≡ true = grind (arith, nat_tests) in
      let weight : number_or_0 (final face s e.from.0 e.to.0) ≡ b = ap number_or_0 is in
      (λ t. apart t && (ap (λ w. nat_le (nat_abs w) greatest_walk) weight ∙ fits) t)

  follows : (last : Option SummaryEntry) (e : SummaryEntry) → (b : ℤ) × (final face s e.from.0 e.to.0 ≡ Some b) × (nat_abs b ≤ greatest_walk)
      → may_follow last e ≡ true → may_follow (option_map (final_entry face s) last) (final_entry face s e) ≡ true
  follows None e found valid = bound_valid e found valid
  follows (Some last) e found valid =
      let parts = and_parts (is_less last e) (is_valid e) valid in
      (λ t. parts.0 t && bound_valid e found parts.1 t)

  all_follow : (last : Option SummaryEntry) (es : List SummaryEntry) → AreFound face s es → may_all_follow last es ≡ true
      → may_all_follow (option_map (final_entry face s) last) (map (final_entry face s) es) ≡ true
  all_follow last [] found valid = refl
  all_follow last (e ∷ es) found valid =
      let parts = and_parts (may_follow last e) (may_all_follow (Some e) es) valid in
      let first = follows last e (found e.from.0 e.to.0 (own e es)) parts.0 in
      let rest = all_follow (Some e) es (λ i j there. found i j (later e es i j there)) parts.1 in
      (λ t. first t && rest t)

  pub are_summary : (es : List SummaryEntry) → AreFound face s es → is_summary es ≡ true → is_summary (map (final_entry face s) es) ≡ true
  are_summary es found valid = all_follow None es found valid

  -- and hold the final bounds
  pub finals_found : (es : List SummaryEntry) → AreFound face s es → AreFinalsOf face s es (map (final_entry face s) es)
  finals_found [] found i j there = absurd (cc)
  finals_found (e ∷ es) found i j there =
      elim (is_of e i j) as (λ b. is_of e i j ≡ b → is_some (if b then Some e.weight else entry_in es i j) ≡ true
      → (if b then Some (number_or_0 (final face s e.from.0 e.to.0)) else entry_in (map (final_entry face s) es) i j) ≡ final face s i j) [
        | true ↦ λ t some.
            let from : e.from.0 ≡ i = grind (arith, nat_tests) in
            let to : e.to.0 ≡ j = grind (arith, nat_tests) in
            let at = found e.from.0 e.to.0 (own e es) in
            ap (λ (o : Option ℤ). Some (number_or_0 o)) at.1 ∙ sym at.1 ∙ (λ k. final face s (from k) (to k))
        | false ↦ λ t some. finals_found es (λ i j there. found i j (later e es i j there)) i j some
      ] refl there

  -- all of them, as they are read one by one
  module _ (es : List SummaryEntry) (n : ℕ) (items : List SummaryEntry) (past : length es ≤ n) (is : items ≡ map (final_entry face s) (take n es))
      (found : AreFound face s es) where
    read_all : items ≡ map (final_entry face s) es
    read_all = is ∙ ap (λ (xs : List SummaryEntry). map (final_entry face s) xs) (take_all n es past)

    pub whole_summary : is_summary es ≡ true → is_summary items ≡ true
    whole_summary valid = ap is_summary read_all ∙ are_summary es found valid

    pub whole_finals : AreFinalsOf face s es items
    whole_finals = subst (AreFinalsOf face s es) (sym read_all) (finals_found es found)
