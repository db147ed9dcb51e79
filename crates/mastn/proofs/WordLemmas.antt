-- Lists of words that are no job by their number.
use Rattle.std.proofs.Common.{◌≡◌, ℕ, ◌≤◌, List, [], ◌∷◌, length, Option, None, refl, arith}
use Rattle.mastn.specs.Jobs.{job_of}

pub four_words : (ws : List (List ℕ)) → 4 ≤ length ws → None ≡ job_of ws
four_words [] low = absurd (omega arith)
four_words (a ∷ []) low = absurd (omega arith)
four_words (a ∷ b ∷ []) low = absurd (omega arith)
four_words (a ∷ b ∷ c ∷ []) low = absurd (omega arith)
four_words (a ∷ b ∷ c ∷ d ∷ more) low = refl
