-- Lines that are cut into fields in one pass: is_plain, is_stop, HasFields, IsScanned, IsCut, IsStep.
use Rattle.std.specs.Prelude.{◌≡◌, ℕ, Bool, true, false, not, List, ◌∷◌, ◌++◌, ◌&&◌, nat_le}
use Rattle.net_text.specs.declared.stage.Stage.{Stage}
use Rattle.net_text.specs.declared.stage.Next.{Next}
use Rattle.net_text.specs.Fields.{fields}
use Rattle.net_text.specs.Lines.{is_text, is_skipped, IsTaken}
use Rattle.net_text.specs.Networks.{line_does}
use Rattle.net_text.specs.Adding.{Takes}

-- a byte from `$` to `~`: printable, no space, and not `#`, which may begin a comment
abbrev pub is_plain : ℕ → Bool
is_plain b = nat_le 36 b && nat_le b 126

-- a byte that ends a run of plain bytes
abbrev pub is_stop : ℕ → Bool
is_stop b = not (is_plain b)

-- a line of text, which is not skipped, and its fields
pub record HasFields (line : List ℕ) (fs : List (List ℕ)) : Type 0 where
  pub unskipped : is_skipped line ≡ false
  pub text : is_text line ≡ true
  pub fields : fields line ≡ fs

-- the bytes are a line with these fields, a line feed, and the rest
pub record IsScanned (bytes rest : List ℕ) (fs : List (List ℕ)) : Type 0 where
  pub line : List ℕ
  pub whole : bytes ≡ line ++ 10 ∷ rest
  pub has : HasFields line fs

-- a line with these fields was taken from what was left of a text
pub record IsCut (rest : List ℕ) (used count : ℕ) (fs : List (List ℕ)) (left : List ℕ) (used_after count_after : ℕ) : Type 0 where
  pub line : List ℕ
  pub taken : IsTaken rest used count line left used_after count_after
  pub has : HasFields line fs

-- a line was taken from what was left of a text, and did this
pub record IsStep (rest : List ℕ) (used count : ℕ) (before : Stage) (next : Next) (after : Stage) (left : List ℕ) (used_after count_after : ℕ) : Type 0 where
  pub line : List ℕ
  pub taken : IsTaken rest used count line left used_after count_after
  pub does : Takes next after (line_does before line)
