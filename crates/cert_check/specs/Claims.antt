-- What a certificate claims, read off its `from` and `to` lines, and when a verdict is right: Claim, claims_of, IsRight.
use Rattle.std.specs.Prelude.{ℕ, ℤ, pos, negsuc, List, [], ◌∷◌, ◌++◌, Option, Some, None, codes, if◌then◌else◌}
use Rattle.std.specs.List.{AllByRecursion}
use Rattle.std.specs.Str.{bytes_eq}
use Rattle.stn_model.specs.Net.{Net, arcs_of, point_count}
use Rattle.stn_model.specs.Schedules.{IsConsistent, IsLeastBound}
use Rattle.net_text.specs.Fields.{fields}
use Rattle.net_text.specs.Lines.{Sized, lines, is_skipped}
use Rattle.net_text.specs.Numbers.{number_of}
use Rattle.cert_check.specs.declared.verdict.Verdict.{Verdict}
use Rattle.cert_check.specs.declared.verdict.Verdict.TheVariants as verdict

-- `bound` is the least bound from one point to another
pub record Claim : Type 0 where
  pub from : ℕ
  pub to : ℕ
  pub bound : ℤ

-- the fields of a line that is no comment
abbrev pub fields_in : List ℕ → List (List ℕ)
fields_in text = if is_skipped text then [] else fields text

-- the number of a point, or none
abbrev pub point_of : Option ℤ → Option ℕ
point_of None = None
point_of (Some (pos n)) = Some n
point_of (Some (negsuc n)) = None

abbrev pub point_written : List ℕ → Option ℕ
point_written field = point_of (number_of field)

-- the point of the section that the line begins or stands in
abbrev pub section_after : Option ℕ → List (List ℕ) → Option ℕ
section_after i (w ∷ f ∷ []) = if bytes_eq w (codes "from") then point_written f else i
section_after i fs = i

abbrev pub claim_of : Option ℕ → Option ℕ → Option ℤ → List Claim
claim_of (Some i) (Some j) (Some b) = record { from = i; to = j; bound = b } ∷ []
claim_of i j b = []

-- what a line of the section of i claims
abbrev pub claims_in : Option ℕ → List (List ℕ) → List Claim
claims_in i (w ∷ to ∷ bound ∷ arc ∷ []) = if bytes_eq w (codes "to") then claim_of i (point_written to) (number_of bound) else []
claims_in i fs = []

abbrev pub claims_from : Option ℕ → List Sized → List Claim
claims_from i [] = []
claims_from i (line ∷ more) = claims_in i (fields_in line.text) ++ claims_from (section_after i (fields_in line.text)) more

-- one for each `to` line
abbrev pub claims_of : List ℕ → List Claim
claims_of bytes = claims_from None (lines bytes)

-- the claimed bound is the least bound
abbrev pub IsTrueOf : Net → Claim → Type 0
IsTrueOf net c = IsLeastBound (point_count net) (arcs_of net) c.from c.to c.bound

-- what is true of the network where a text leads to a verdict: where that is Consistent some schedule satisfies it and each `to` line's
-- bound is the least bound from its section's point, and where it is Inconsistent no schedule does
abbrev pub IsRight : Net → List ℕ → Verdict → Type 0
IsRight net bytes verdict.Consistent = IsConsistent (point_count net) (arcs_of net) × AllByRecursion (IsTrueOf net) (claims_of bytes)
IsRight net bytes verdict.Inconsistent = IsConsistent (point_count net) (arcs_of net) → ⊥
IsRight net bytes (verdict.No line cause) = Unit {0}
