-- With how many places a place is joined: degree_of, gone_of, is_partial.
use Rattle.std.specs.Prelude.{ℕ, ◌-◌, List, Bool, ◌&&◌, not, nat_lt, slice_index_or}
use Rattle.elim_step.specs.declared.joins.Joins.{Joins}
use Rattle.elim_step.specs.Eliminates.{remains, count_below}
use Rattle.elim_step.specs.JoinedPlaces.{is_joined}

-- of the places that remain, how many are joined with p
abbrev pub degree_of : List Bool → Joins → ℕ → ℕ
degree_of remain joins p = count_below (λ q. remains remain q && is_joined joins p q) joins.size

-- of those that do not remain, how many are joined with p
abbrev pub gone_of : List Bool → Joins → ℕ → ℕ
gone_of remain joins p = count_below (λ q. not (remains remain q) && is_joined joins p q) joins.size

-- whether p is joined with fewer places than this, those left out that are gone
abbrev pub is_partial : Joins → List ℕ → ℕ → ℕ → Bool
is_partial joins gone others p = nat_lt (count_below (is_joined joins p) joins.size - slice_index_or gone p 0) others
