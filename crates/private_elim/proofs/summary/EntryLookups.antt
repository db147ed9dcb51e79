-- What a look-up in a summary answers.
use Rattle.std.proofs.Common.{◌≡◌, ℕ, suc, zero, ◌<◌, Bool, true, false, ◌&&◌, List, [], ◌∷◌, map, Some, if◌then◌else◌, refl, sym, ap, subst, ◌∙◌, arith}
use Rattle.std.specs.Prelude.{ℤ, ◌==◌, is_some}
use Rattle.std.specs.List.{AllByRecursion, Contains}
use Rattle.std.proofs.lemmas.Bool.Decides.{nat_tests}
use Rattle.stn_model.specs.Net.{Net}
use Rattle.stn_model.specs.Summaries.{Entry, IsEntryWeight, entry_weight}
use Rattle.stn_walk.proofs.Visits.{least_unique}
use Rattle.elim_step.specs.declared.summary.SummaryEntry.{SummaryEntry}
use Rattle.elim_step.specs.Summaries.{entry_of}
use Rattle.elim_step.specs.Summaries.{entry_in}

-- whether an entry is that of a pair
abbrev is_entry_of : SummaryEntry → ℕ → ℕ → Bool
is_entry_of e i j = (e.from.0 == i) && (e.to.0 == j)

entry_here : (e : SummaryEntry) (es : List SummaryEntry) (i j : ℕ) → is_entry_of e i j ≡ true → entry_in (e ∷ es) i j ≡ Some e.weight
entry_here e es i j t = ap (λ b. if b then Some e.weight else entry_in es i j) t

entry_later : (e : SummaryEntry) (es : List SummaryEntry) (i j : ℕ) → is_entry_of e i j ≡ false → entry_in (e ∷ es) i j ≡ entry_in es i j
entry_later e es i j t = ap (λ b. if b then Some e.weight else entry_in es i j) t

-- an entry that is found is one that holds
pub found_holds : (P : Entry → Type 0) (es : List SummaryEntry) (i j : ℕ) (w : ℤ) → AllByRecursion P (map entry_of es) → entry_in es i j ≡ Some w
    → P (record { from = i; to = j; weight = w })
found_holds P [] i j w all found = cc
found_holds P (e ∷ es) i j w all found =
    elim (is_entry_of e i j) as (λ b. is_entry_of e i j ≡ b → P (record { from = i; to = j; weight = w })) [
      | true ↦ λ t.
          let from : e.from.0 ≡ i = grind (arith, nat_tests) in
          let to : e.to.0 ≡ j = grind (arith, nat_tests) in
          let is : Some e.weight ≡ Some w = sym (entry_here e es i j t) ∙ found in
          let weight : e.weight ≡ w = cc in
          subst P (λ k. record { from = from k; to = to k; weight = weight k }) all.0
      | false ↦ λ t. found_holds P es i j w all.1 (sym (entry_later e es i j t) ∙ found)
    ] refl

-- and an entry that is there is found
pub found_some : (es : List SummaryEntry) (i j : ℕ) (w : ℤ) → Contains (map entry_of es) (record { from = i; to = j; weight = w })
    → is_some (entry_in es i j) ≡ true
found_some [] i j w there = let low : there.0 < 0 = there.1 in absurd (omega arith)
found_some (e ∷ es) i j w (zero, within, is) =
    let from : e.from.0 ≡ i = ap (λ (x : Entry). x.from) is in
    let to : e.to.0 ≡ j = ap (λ (x : Entry). x.to) is in
    let t : is_entry_of e i j ≡ true = grind (arith, nat_tests) in
    ap is_some (entry_here e es i j t)
found_some (e ∷ es) i j w (suc k, within, is) =
    elim (is_entry_of e i j) as (λ b. is_entry_of e i j ≡ b → is_some (entry_in (e ∷ es) i j) ≡ true) [
      | true ↦ λ t. ap is_some (entry_here e es i j t)
      | false ↦ λ t. ap is_some (entry_later e es i j t) ∙ found_some es i j w (k, omega arith, is)
    ] refl

-- the weight of a pair's entry is unique
pub entry_unique : (net : Net) (agent i j : ℕ) (v w : ℤ) → IsEntryWeight net agent i j v → IsEntryWeight net agent i j w → v ≡ w
entry_unique net agent i j v w h g =
    h.2 ∙ ap (entry_weight net.horizon) (least_unique _ _ i j h.0 g.0 h.1.least g.1.least) ∙ sym g.2
