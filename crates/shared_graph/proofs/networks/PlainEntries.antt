-- Summaries by numbers of points: plain_at.
use Rattle.std.proofs.Common.{◌≡◌, ℕ, List, [], length, map, get_or, sym, ap, ◌∙◌, arith, inl, inr}
use Rattle.std.proofs.lemmas.Bool.{cases_lt}
use Rattle.std.proofs.lemmas.List.{length-map, get_or-map, get_or_past}
use Rattle.elim_step.specs.Summaries.{entry_of}
use Rattle.shared_graph.specs.Interfaces.{Summary}
use Rattle.shared_graph.specs.Replays.{plain_entries}

-- the listed summary of an agent, by numbers
pub plain_at : (summaries : List Summary) (a : ℕ) → get_or (map plain_entries summaries) a [] ≡ map entry_of (get_or summaries a [])
plain_at summaries a =
    elim (cases_lt a (length summaries)) [
      | inl low ↦ get_or-map plain_entries summaries a [] [] low
      | inr high ↦
          get_or_past (map plain_entries summaries) a [] (omega (arith, length-map summaries plain_entries))
          ∙ sym (ap (λ (entries : Summary). map entry_of entries) (get_or_past summaries a [] high))
    ]
