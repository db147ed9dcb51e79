-- Which candidate is picked: that of least key, and of least number among those, for keys that a closure may answer.
use Rattle.std.specs.Prelude.{◌≡◌, ℕ, ◌<◌, List, Bool, true, false, ◌&&◌, ◌||◌, ◌==◌, nat_lt, if◌then◌else◌, Option, Some, None, length, slice_index_or}
use Rattle.elim_step.specs.declared.pick.Candidate.{Candidate}
use Rattle.elim_step.specs.declared.pick.Rank.{Rank}

-- whether a key and a number come before others
abbrev pub comes_before : ℕ → ℕ → ℕ → ℕ → Bool
comes_before key number key' number' = nat_lt key key' || ((key == key') && nat_lt number number')

abbrev pub comes_first : Rank → Option (ℕ × Rank) → Bool
comes_first rank None = true
comes_first rank (Some (place, other)) = comes_before rank.key rank.number other.key other.number

abbrev pub first_of : ℕ → Rank → Option (ℕ × Rank) → Option (ℕ × Rank)
first_of place rank found = if comes_first rank found then Some (place, rank) else found

abbrev pub place_found : Option (ℕ × Rank) → Option ℕ
place_found None = None
place_found (Some (place, rank)) = Some place

abbrev pub candidate_at : List Candidate → ℕ → Candidate
candidate_at candidates q = slice_index_or candidates q (record { degree = 0; number = 0 })

-- one key a candidate, each an answer on its degree and number
pub record AreKeys (answers : ℕ → ℕ → ℕ → Type 0) (candidates : List Candidate) (keys : List ℕ) (n : ℕ) : Type 0 where
  pub len : length keys ≡ n
  pub each : (q : ℕ) → q < n → answers (candidate_at candidates q).degree (candidate_at candidates q).number (slice_index_or keys q 0)

-- no key and number come before that of a place
pub record IsLeast (candidates : List Candidate) (keys : List ℕ) (n place : ℕ) : Type 0 where
  pub within : place < n
  pub least : (q : ℕ) → q < n → comes_before (slice_index_or keys q 0) (candidate_at candidates q).number (slice_index_or keys place 0)
      (candidate_at candidates place).number ≡ false

abbrev pub IsPicked : List Candidate → List ℕ → ℕ → Option ℕ → Type 0
IsPicked candidates keys n None = n ≡ 0
IsPicked candidates keys n (Some place) = IsLeast candidates keys n place

-- the place of the candidate of least key, ties by number, for some keys that the closure may answer
abbrev pub Picks : (ℕ → ℕ → ℕ → Type 0) → List Candidate → Option ℕ → Type 0
Picks answers candidates result =
    (keys : List ℕ) × AreKeys answers candidates keys (length candidates) × IsPicked candidates keys (length candidates) result

-- what was found among the first n candidates
abbrev pub IsFound : List Candidate → List ℕ → ℕ → Option (ℕ × Rank) → Type 0
IsFound candidates keys n None = n ≡ 0
IsFound candidates keys n (Some (place, rank)) =
    IsLeast candidates keys n place × (rank.key ≡ slice_index_or keys place 0) × (rank.number ≡ (candidate_at candidates place).number)

abbrev pub Finds : (ℕ → ℕ → ℕ → Type 0) → List Candidate → ℕ → Option (ℕ × Rank) → Type 0
Finds answers candidates n found = (keys : List ℕ) × AreKeys answers candidates keys n × IsFound candidates keys n found
