-- The law that what is certified is verified.
use Rattle.std.proofs.Common.{◌≡◌, ℕ, ◌+◌, ◌≤◌, ◌++◌, Bool, true, false, List, length, take, drop, sym, subst, ◌∙◌, MatchBool}
use Rattle.std.proofs.Math.Seq.{drop-append_seam}
use Rattle.std.proofs.lemmas.List.{length-take-le}
use Rattle.stn_model.specs.Net.{Net}
use Rattle.net_text.proofs.ReadPrefix.{prefix_is_read}
use Rattle.mastn.specs.declared.answer.Outcome.{Outcome}
use Rattle.mastn.specs.declared.answer.Outcome.TheVariants.{Done, Inconsistent, NetBad, ScriptBad, NotProved, TooLarge}
use Rattle.mastn.specs.declared.question.Question.TheVariants.{Certify, Verify}
use Rattle.mastn.specs.Certificates.{is_too_large, Certifies, Verifies, SaysTooLarge, SaysCertificate, SaysVerdict, SaysChecked}
use Rattle.mastn.specs.Laws.{CertifiedIsVerified}
use Rattle.mastn.specs.Questions.{OfNetwork, SaysRead}

module _ (net : Net) (first : ℕ) (certificate text : List ℕ) (verified : Outcome) where
  accepted : (certified : Outcome) → SaysCertificate net certified certificate → SaysChecked net first certificate verified text → verified ≡ certified
  accepted Done c v = (subst (λ w. SaysVerdict w verified text) (c.accepted first) v.says).0
  accepted Inconsistent c v = (subst (λ w. SaysVerdict w verified text) (c.accepted first) v.says).0
  accepted NetBad c v = absurd c
  accepted ScriptBad c v = absurd c
  accepted NotProved c v = absurd c
  accepted TooLarge c v = absurd c

  agrees : (large : Bool) (certified : Outcome) → MatchBool large (SaysTooLarge certified certificate) (SaysCertificate net certified certificate)
      → MatchBool large (SaysTooLarge verified text) (SaysChecked net first certificate verified text) → verified ≡ certified
  agrees true certified c v = v.0 ∙ sym c.0
  agrees false certified c v = accepted certified c v

-- what stands behind the prefix of that length
behind : (n : ℕ) (bytes more : List ℕ) → n ≤ length bytes → drop n (take n bytes ++ more) ≡ more
behind n bytes more h = subst (λ k. drop k (take n bytes ++ more) ≡ more) (length-take-le n bytes h) (drop-append_seam (take n bytes) more)

pub certified_is_verified : CertifiedIsVerified
certified_is_verified bytes certificate text read certified verified is ends c v =
    let prefix = prefix_is_read bytes read is in
    let certifies : Certifies read.net certified certificate = subst (λ r. SaysRead (OfNetwork Certify bytes) r certified certificate) is c in
    let verifies : Verifies read.net (read.lines + 1) (drop read.used (take read.used bytes ++ certificate)) verified text =
    subst (λ r. SaysRead (OfNetwork Verify (take read.used bytes ++ certificate)) r verified text) (prefix.whatever ends certificate) v in
    agrees read.net (read.lines + 1) certificate text verified (is_too_large read.net) certified certifies
    (rw (behind read.used bytes certificate prefix.fits) at verifies)
