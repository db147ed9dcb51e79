-- Fields taken from a line one by one.
use Rattle.std.specs.Prelude.{◌≡◌, ℕ, ◌<◌, List, ◌∷◌, length}
use Rattle.net_text.specs.Fields.{fields}

-- the line's first field, and a rest that has its other fields
pub record TakesField (line field rest : List ℕ) : Type 0 where
  pub first : fields line ≡ field ∷ fields rest
  pub shorter : length rest < length line
