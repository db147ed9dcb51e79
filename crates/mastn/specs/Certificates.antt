-- What the jobs `certify` and `verify` say of a network: is_too_large, Certifies, Verifies.
use Rattle.std.specs.Prelude.{◌≡◌, ℕ, Bool, List, nat_lt, codes, MatchBool}
use Rattle.stn_model.specs.Net.{Net, arcs_of, point_count}
use Rattle.stn_model.specs.Schedules.{IsConsistent}
use Rattle.cert_check.specs.declared.verdict.Verdict.{Verdict}
use Rattle.cert_check.specs.declared.verdict.Verdict.TheVariants as verdict
use Rattle.cert_check.specs.Certificates.{verdict_of}
use Rattle.cert_check.specs.Causes as certificate
use Rattle.cert_check.specs.Claims.{IsRight}
use Rattle.cert_print.specs.Leads.{ShowsBounds, ShowsCycle}
use Rattle.mastn.specs.declared.answer.Outcome.{Outcome}
use Rattle.mastn.specs.declared.answer.Outcome.TheVariants.{Done, Inconsistent, NotProved, TooLarge}
use Rattle.mastn.specs.Limits.{most_certified}
use Rattle.mastn.specs.Reports.{refusal_line, verified_consistent, verified_inconsistent}

-- a certificate has a limit of points
abbrev pub is_too_large : Net → Bool
is_too_large net = nat_lt most_certified (point_count net)

abbrev pub SaysTooLarge : Outcome → List ℕ → Type 0
SaysTooLarge outcome text = (outcome ≡ TooLarge) × (text ≡ refusal_line (codes "TooLargeToCertify"))

-- the outcome of a network's verdict
abbrev pub IsVerdictOn : Net → Outcome → Type 0
IsVerdictOn net Done = IsConsistent (point_count net) (arcs_of net)
IsVerdictOn net Inconsistent = IsConsistent (point_count net) (arcs_of net) → ⊥
IsVerdictOn net outcome = ⊥

-- a certificate of which no line is false: of a consistent network exactly where some schedule satisfies it
abbrev pub SaysCertificate : Net → Outcome → List ℕ → Type 0
SaysCertificate net Done text = ShowsBounds net text
SaysCertificate net Inconsistent text = ShowsCycle net text
SaysCertificate net outcome text = ⊥

-- the outcome and the text of `certify`
abbrev pub Certifies : Net → Outcome → List ℕ → Type 0
Certifies net outcome text = MatchBool (is_too_large net) (SaysTooLarge outcome text) (SaysCertificate net outcome text)

-- the outcome and the text for a verdict
abbrev pub SaysVerdict : Verdict → Outcome → List ℕ → Type 0
SaysVerdict verdict.Consistent outcome text = (outcome ≡ Done) × (text ≡ verified_consistent)
SaysVerdict verdict.Inconsistent outcome text = (outcome ≡ Inconsistent) × (text ≡ verified_inconsistent)
SaysVerdict (verdict.No number cause) outcome text = (outcome ≡ NotProved) × (text ≡ certificate.error_line number cause)

-- the verdict of a certificate, whose first line has that number, and what is true of the network then
pub record SaysChecked (net : Net) (first : ℕ) (certificate : List ℕ) (outcome : Outcome) (text : List ℕ) : Type 0 where
  pub says : SaysVerdict (verdict_of net first certificate) outcome text
  pub right : IsRight net certificate (verdict_of net first certificate)

-- the outcome and the text of `verify`
abbrev pub Verifies : Net → ℕ → List ℕ → Outcome → List ℕ → Type 0
Verifies net first certificate outcome text = MatchBool (is_too_large net) (SaysTooLarge outcome text) (SaysChecked net first certificate outcome text)
