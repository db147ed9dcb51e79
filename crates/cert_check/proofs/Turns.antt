-- A line that is taken is the first of those that are left, and what it does decides what the whole text shows.
use Rattle.std.proofs.Common.{◌≡◌, ℕ, ◌+◌, ◌≤◌, List, length, ap, subst, ◌∙◌, sym, arith, Result, Ok, Err, IfOk}
use Rattle.stn_model.specs.Net.{Net}
use Rattle.stn_model.specs.Valid.{IsNetwork}
use Rattle.net_text.specs.Lines.{lines, IsTaken}
use Rattle.net_text.proofs.Progress.{stays_within}
use Rattle.cert_check.specs.declared.stage.Stage.{Stage}
use Rattle.cert_check.specs.declared.stage.Stage.TheVariants as stage
use Rattle.cert_check.specs.declared.verdict.CertCause.{CertCause}
use Rattle.cert_check.specs.declared.verdict.Verdict.TheVariants as verdict
use Rattle.cert_check.specs.Certificates.{line_does, conclude, read_from, verdict_of, IsStage}
use Rattle.cert_check.specs.Claims.{fields_in}
use Rattle.cert_check.proofs.Lines.{IsSound, After, line_is}

-- the text shows what the lines that are left show from here on
pub record IsLeft (net : Net) (first : ℕ) (bytes : List ℕ) (s : Stage) (rest : List ℕ) (used count : ℕ) : Type 0 where
  pub said : verdict_of net first bytes ≡ read_from net s (first + count) (lines rest)
  pub room : used + length rest ≤ length bytes
  pub sound : IsSound net s

pub stage_is : (net : Net) (s : Stage) → IsSound net s → IsStage net s
stage_is net stage.Start h = tt
stage_is net stage.Headed h = tt
stage_is net (stage.FromDue next) h = h
stage_is net (stage.Section i row) h = (h.within, h.one_each)
stage_is net stage.CycleDue h = tt
stage_is net (stage.EndDue b) h = tt
stage_is net (stage.Ended b) h = tt

module _ (net : Net) (first : ℕ) (bytes : List ℕ) (s : Stage) (rest : List ℕ) (used count : ℕ)
    (line left : List ℕ) (used_after count_after : ℕ) (h : IsLeft net first bytes s rest used count)
    (taken : IsTaken rest used count line left used_after count_after) where
  turn : (r : Result Stage CertCause) → line_does net s line ≡ r → verdict_of net first bytes ≡ conclude r (first + count) (λ t. read_from net t (first + count + 1) (lines left))
  turn r does =
      h.said ∙ ap (read_from net s (first + count)) taken.first.splits
      ∙ ap (λ (x : List ℕ). conclude (line_does net s line) (first + count) (λ t. read_from net t (first + count + 1) (lines x))) (sym taken.drops)
      ∙ ap (λ (x : Result Stage CertCause). conclude x (first + count) (λ t. read_from net t (first + count + 1) (lines left))) does

  pub goes_on : IsNetwork net → (t : Stage) → line_does net s line ≡ Ok t → IsLeft net first bytes t left used_after count_after
  goes_on valid t does =
      let one = taken.one_more in
      let next : first + count + 1 ≡ first + count_after = omega arith in
      let a : After net s (fields_in line) t = subst (λ (r : Result Stage CertCause). IfOk r (After net s (fields_in line))) does (line_is net valid s line h.sound) in
      record {
        said = turn (Ok t) does ∙ ap (λ (n : ℕ). read_from net t n (lines left)) next;
        room = stays_within (length bytes) used count rest line left used_after count_after h.room taken;
        sound = a.sound;
      }

  pub fails : (c : CertCause) (number : ℕ) → line_does net s line ≡ Err c → number ≡ first + count → verdict_of net first bytes ≡ verdict.No number c
  fails c number does at = turn (Err c) does ∙ ap (λ (n : ℕ). verdict.No n c) (sym at)
