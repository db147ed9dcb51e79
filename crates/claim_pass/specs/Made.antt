-- How many entries agents have made, and how many an answer tells of: is_by_agent, made_since, entered, Claimed, did.
use Rattle.std.specs.Prelude.{◌≡◌, ℕ, ◌≤◌, Bool, true, false, List, drop, count_by}
use Rattle.shared_graph.specs.declared.events.By.{By}
use Rattle.shared_graph.specs.declared.events.By.TheVariants.{Agent, Joiner}
use Rattle.shared_graph.specs.declared.events.Entry.{Entry}
use Rattle.claim_pass.specs.declared.answers.Claim.{Claim}
use Rattle.claim_pass.specs.declared.answers.Claim.TheVariants.{Eliminated, NoneLeft, NotTaken, Stopped}
use Rattle.claim_pass.specs.declared.answers.Did.{Did}
use Rattle.claim_pass.specs.declared.answers.Did.TheVariants.{Made, Nothing}
use Rattle.claim_pass.specs.declared.answers.Published.{Published}
use Rattle.claim_pass.specs.declared.answers.Published.TheVariants.{Entered, NotTaken as NotPublished, NotFitting}

abbrev pub is_by_agent : By → Bool
is_by_agent (Agent a) = true
is_by_agent Joiner = false

-- the entries by agents after the first n
abbrev pub made_since : ℕ → List Entry → ℕ
made_since n journal = count_by (λ e. is_by_agent e.by) (drop n journal)

-- a publish that was entered made one entry, and no other answer does
abbrev pub entered : Published → ℕ
entered (Entered place) = 1
entered (NotPublished cause) = 0
entered NotFitting = 0

-- a claim that eliminated made one, a stop one or none
abbrev pub Claimed : Claim → ℕ → Type 0
Claimed (Eliminated point place) n = n ≡ 1
Claimed NoneLeft n = n ≡ 0
Claimed (NotTaken cause) n = n ≡ 0
Claimed (Stopped cycle) n = n ≤ 1

-- a step that was made made one
abbrev pub did : Did → ℕ
did (Made place) = 1
did Nothing = 0
