-- What a whole certificate shows, from the last line back to the first.
use Rattle.std.proofs.Common.{ℕ, ◌+◌, true, false, List, [], ◌∷◌, ◌++◌, Option, None, Result, Ok, Err, IfOk}
use Rattle.std.specs.List.{AllByRecursion}
use Rattle.stn_model.specs.Net.{Net, arcs_of, point_count}
use Rattle.stn_model.specs.Valid.{IsNetwork}
use Rattle.stn_model.specs.Schedules.{IsConsistent}
use Rattle.net_text.specs.Lines.{Sized, lines}
use Rattle.cert_check.specs.declared.stage.Stage.{Stage}
use Rattle.cert_check.specs.declared.stage.Stage.TheVariants as stage
use Rattle.cert_check.specs.declared.verdict.CertCause.{CertCause}
use Rattle.cert_check.specs.declared.verdict.Verdict.{Verdict}
use Rattle.cert_check.specs.declared.verdict.Verdict.TheVariants as verdict
use Rattle.cert_check.specs.Certificates.{line_does, at_end, conclude, read_from, verdict_of}
use Rattle.cert_check.specs.Claims.{fields_in, section_after, claims_from, IsTrueOf, IsRight}
use Rattle.cert_check.proofs.Lines.{IsSound, Leads, Stands, After, line_is}

all_append : {X : Type 0} (P : X → Type 0) (xs ys : List X) → AllByRecursion P xs → AllByRecursion P ys → AllByRecursion P (xs ++ ys)
all_append P [] ys h k = k
all_append P (x ∷ xs) ys h k = (h.0, all_append P xs ys h.1 k)

-- what the lines show that follow a stage, whose claims are of the section of o
abbrev pub Shows : Net → Stage → Option ℕ → List Sized → Verdict → Type 0
Shows net s o ls verdict.Consistent = IsConsistent (point_count net) (arcs_of net) × (Leads net s) × AllByRecursion (IsTrueOf net) (claims_from o ls)
Shows net s o ls verdict.Inconsistent = IsConsistent (point_count net) (arcs_of net) → ⊥
Shows net s o ls (verdict.No line cause) = Unit {0}

at_end_is : (net : Net) (s : Stage) (o : Option ℕ) (number : ℕ) → IsSound net s → Shows net s o [] (at_end s number)
at_end_is net (stage.Ended true) o number h = (h, tt, tt)
at_end_is net (stage.Ended false) o number h = h
at_end_is net stage.Start o number h = tt
at_end_is net stage.Headed o number h = tt
at_end_is net (stage.FromDue next) o number h = tt
at_end_is net (stage.Section i row) o number h = tt
at_end_is net stage.CycleDue o number h = tt
at_end_is net (stage.EndDue b) o number h = tt

carried : (net : Net) (s t : Stage) (o : Option ℕ) (l : Sized) (ls : List Sized) (v : Verdict) → After net s (fields_in l.text) t → Stands o s
    → Shows net t (section_after o (fields_in l.text)) ls v → Shows net s o (l ∷ ls) v
carried net s t o l ls verdict.Consistent a at h = (h.0, a.back h.1, all_append (IsTrueOf net) _ (claims_from (section_after o (fields_in l.text)) ls) (a.claims o at h.1) h.2)
carried net s t o l ls verdict.Inconsistent a at h = h
carried net s t o l ls (verdict.No line cause) a at h = tt

concluded : (net : Net) (s : Stage) (o : Option ℕ) (l : Sized) (ls : List Sized) (r : Result Stage CertCause) (number : ℕ) (rest : Stage → Verdict)
    → IfOk r (After net s (fields_in l.text)) → Stands o s
    → ((t : Stage) → IsSound net t → Stands (section_after o (fields_in l.text)) t → Shows net t (section_after o (fields_in l.text)) ls (rest t))
    → Shows net s o (l ∷ ls) (conclude r number rest)
concluded net s o l ls (Ok t) number rest a at k = carried net s t o l ls (rest t) a at (k t a.sound (a.stands o at))
concluded net s o l ls (Err c) number rest a at k = tt

shown : (net : Net) (valid : IsNetwork net) (s : Stage) (o : Option ℕ) (number : ℕ) (ls : List Sized) → IsSound net s → Stands o s → Shows net s o ls (read_from net s number ls)
shown net valid s o number [] h at = at_end_is net s o number h
shown net valid s o number (l ∷ ls) h at =
    concluded net s o l ls (line_does net s l.text) number (λ t. read_from net t (number + 1) ls) (line_is net valid s l.text h) at
    (λ t sound stands. shown net valid t (section_after o (fields_in l.text)) (number + 1) ls sound stands)

-- THE THEOREM. A certificate that is read to its end shows what its verdict says: its section lines are least bounds, or its cycle is negative.
pub verdict_is : (net : Net) → IsNetwork net → (first : ℕ) (bytes : List ℕ) → IsRight net bytes (verdict_of net first bytes)
verdict_is net valid first bytes = by (verdict_of net first bytes) (shown net valid stage.Start None first (lines bytes) tt tt)
  where
    by : (v : Verdict) → Shows net stage.Start None (lines bytes) v → IsRight net bytes v
    by verdict.Consistent h = (h.0, h.2)
    by verdict.Inconsistent h = h
    by (verdict.No line cause) h = tt
