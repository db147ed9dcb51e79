-- Which lists of entries are summaries: pairs strictly rise by from and to, ends differ, weights have magnitude at most 2^53. An entry by numbers of
-- points: entry_of; the weight of a pair's entry: entry_in.
use Rattle.std.specs.Prelude.{ℕ, ℤ, List, [], ◌∷◌, Bool, true, ◌&&◌, ◌||◌, not, nat_lt, ◌==◌, nat_le, nat_abs, Option, Some, None, if◌then◌else◌}
use Rattle.stn_model.specs.Limits.{greatest_walk}
use Rattle.stn_model.specs.Summaries.{Entry}
use Rattle.elim_step.specs.declared.summary.SummaryEntry.{SummaryEntry}

-- an entry of a summary, by numbers of points
abbrev pub entry_of : SummaryEntry → Entry
entry_of e = record { from = e.from.0; to = e.to.0; weight = e.weight }

-- whether the ends differ and the weight is in range
abbrev pub is_valid : SummaryEntry → Bool
is_valid e = not (e.from.0 == e.to.0) && nat_le (nat_abs e.weight) greatest_walk

-- whether the pair of one entry is less than that of another: by from, then by to
abbrev pub is_less : SummaryEntry → SummaryEntry → Bool
is_less a b = nat_lt a.from.0 b.from.0 || ((a.from.0 == b.from.0) && nat_lt a.to.0 b.to.0)

-- whether an entry is valid and may stand after the last one, where there is one
abbrev pub may_follow : Option SummaryEntry → SummaryEntry → Bool
may_follow None e = is_valid e
may_follow (Some last) e = is_less last e && is_valid e

-- whether entries may stand in this order after the last one
abbrev pub may_all_follow : Option SummaryEntry → List SummaryEntry → Bool
may_all_follow last [] = true
may_all_follow last (e ∷ es) = may_follow last e && may_all_follow (Some e) es

-- whether a list of entries is a summary
abbrev pub is_summary : List SummaryEntry → Bool
is_summary entries = may_all_follow None entries

-- the weight of a pair's first entry, where it has one
abbrev pub entry_in : List SummaryEntry → ℕ → ℕ → Option ℤ
entry_in [] i j = None
entry_in (e ∷ es) i j = if (e.from.0 == i) && (e.to.0 == j) then Some e.weight else entry_in es i j
