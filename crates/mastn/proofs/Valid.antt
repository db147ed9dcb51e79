-- The laws of valid inputs.
use Rattle.std.proofs.Common.{◌≡◌, ℕ, ◌+◌, ◌≤◌, ◌⊎◌, inl, inr, ⊎_elim, Bool, true, false, List, drop, Result, Ok, Err, refl, ap, subst, ◌∙◌}
use Rattle.std.proofs.Common.{arith, nat_lt, MatchBool}
use Rattle.std.proofs.lemmas.Bool.Decides.{nat_tests}
use Rattle.json_net.specs.Texts.{value_of, said}
use Rattle.stn_io.specs.declared.whole.ReadRefusal.{ReadRefusal}
use Rattle.stn_io.specs.declared.whole.ReadRefusal.TheVariants as refusal
use Rattle.stn_model.specs.Net.{Net}
use Rattle.net_text.specs.declared.read.NetRead.{NetRead}
use Rattle.cert_check.specs.declared.verdict.Verdict.{Verdict}
use Rattle.cert_check.specs.declared.verdict.Verdict.TheVariants as verdict
use Rattle.cert_check.specs.Certificates.{verdict_of}
use Rattle.mastn.specs.declared.answer.Outcome.{Outcome}
use Rattle.mastn.specs.declared.answer.Outcome.TheVariants.{Done, Inconsistent, NetBad, ScriptBad, NotProved, TooLarge}
use Rattle.mastn.specs.declared.question.Question.{Question}
use Rattle.mastn.specs.declared.question.Question.TheVariants.{Check, Certify, Verify, Upgrade, Repair}
use Rattle.mastn.specs.declared.json.JsonQuestion.{JsonQuestion}
use Rattle.mastn.specs.declared.json.JsonQuestion.TheVariants as json
use Rattle.mastn.specs.declared.status.Status.{Status}
use Rattle.mastn.specs.declared.status.Status.TheVariants as status
use Rattle.mastn.specs.Certificates.{is_too_large, SaysTooLarge, SaysCertificate, SaysVerdict, SaysChecked}
use Rattle.mastn.specs.Checks.{Checks}
use Rattle.mastn.specs.Gens.{Generates}
use Rattle.mastn.specs.Json.{Prints, OfJson, SaysValue, says_of_json}
use Rattle.mastn.specs.Laws.{IsShown, Suits, IsReported, ValidInputsAreReported, JsonNetworksAreReported, GeneratedIsReported}
use Rattle.mastn.specs.Repairs.{Repairs}
use Rattle.mastn.specs.Questions.{OfNetwork, SaysRead, says_of}
use Rattle.mastn.specs.Runs.{MeansAlone}
use Rattle.mastn.specs.Statuses.{status_of, meant_status}
use Rattle.mastn.specs.Upgrades.{Upgrades}
use Rattle.mastn.proofs.Reported.{run_reports}

-- each job gives its report of a network that suits it
checked : (net : Net) (o : Outcome) (text : List ℕ) → Checks net o text → IsReported (status_of o)
checked net Done text h = inl refl
checked net Inconsistent text h = inr (inl refl)
checked net NetBad text h = absurd h
checked net ScriptBad text h = absurd h
checked net NotProved text h = absurd h
checked net TooLarge text h = absurd h

upgraded : (net : Net) (o : Outcome) (text : List ℕ) → Upgrades net o text → IsReported (status_of o)
upgraded net Done text h = inl refl
upgraded net Inconsistent text h = absurd h
upgraded net NetBad text h = absurd h
upgraded net ScriptBad text h = absurd h
upgraded net NotProved text h = absurd h
upgraded net TooLarge text h = absurd h

repaired : (net : Net) (o : Outcome) (text : List ℕ) → Repairs net o text → IsReported (status_of o)
repaired net Done text h = inl refl
repaired net Inconsistent text h = inr (inl refl)
repaired net NetBad text h = absurd h
repaired net ScriptBad text h = absurd h
repaired net NotProved text h = absurd h
repaired net TooLarge text h = absurd h

has_certificate : (net : Net) (o : Outcome) (text : List ℕ) → SaysCertificate net o text → IsReported (status_of o)
has_certificate net Done text h = inl refl
has_certificate net Inconsistent text h = inr (inl refl)
has_certificate net NetBad text h = absurd h
has_certificate net ScriptBad text h = absurd h
has_certificate net NotProved text h = absurd h
has_certificate net TooLarge text h = absurd h

not_large : (n : ℕ) → n ≤ 256 → nat_lt 256 n ≡ false
not_large n h = grind (arith, nat_tests)

certified : (b : Bool) (net : Net) (o : Outcome) (text : List ℕ) → b ≡ false → MatchBool b (SaysTooLarge o text) (SaysCertificate net o text)
    → IsReported (status_of o)
certified true net o text e h = cc
certified false net o text e h = has_certificate net o text h

shown : (v : Verdict) (o : Outcome) (text : List ℕ) → IsShown v → SaysVerdict v o text → IsReported (status_of o)
shown verdict.Consistent o text s h = rw h.0 (inl refl)
shown verdict.Inconsistent o text s h = rw h.0 (inr (inl refl))
shown (verdict.No number cause) o text s h = absurd s

verified : (b : Bool) (net : Net) (first : ℕ) (bytes : List ℕ) (o : Outcome) (text : List ℕ) → b ≡ false → IsShown (verdict_of net first bytes)
    → MatchBool b (SaysTooLarge o text) (SaysChecked net first bytes o text) → IsReported (status_of o)
verified true net first bytes o text e s h = cc
verified false net first bytes o text e s h = shown (verdict_of net first bytes) o text s h.says

reported : (q : Question) (bytes : List ℕ) (read : NetRead) (o : Outcome) (text : List ℕ) → Suits q bytes read → OfNetwork q bytes read o text
    → IsReported (status_of o)
reported Check bytes read o text s h = checked read.net o text h
reported Certify bytes read o text s h = certified (is_too_large read.net) read.net o text (not_large _ s) h
reported Verify bytes read o text s h =
    verified (is_too_large read.net) read.net (read.lines + 1) (drop read.used bytes) o text (not_large _ s.0) s.1 h
reported Upgrade bytes read o text s h = upgraded read.net o text h
reported Repair bytes read o text s h = repaired read.net o text h

pub valid_inputs : ValidInputsAreReported
valid_inputs q source left sink taken answer runs v =
    run_reports (says_of q) source left v.bytes v.told v.few v.reads
    (λ o text h. reported q v.bytes v.read o text v.suits (subst (λ r. SaysRead (OfNetwork q v.bytes) r o text) v.begins h))
    sink taken answer runs v.writes

printed : (net : Net) (o : Outcome) (text : List ℕ) → Prints net o text → IsReported (status_of o)
printed net Done text h = inl refl
printed net Inconsistent text h = absurd h
printed net NetBad text h = absurd h
printed net ScriptBad text h = absurd h
printed net NotProved text h = absurd h
printed net TooLarge text h = absurd h

json_reported : (q : JsonQuestion) (net : Net) (o : Outcome) (text : List ℕ) → OfJson q net o text → IsReported (status_of o)
json_reported json.Check net o text h = checked net o text h
json_reported json.Print net o text h = printed net o text h

pub json_networks : JsonNetworksAreReported
json_networks q source left sink taken answer runs v =
    let is : said (value_of v.bytes) ≡ Ok v.net = ap said v.says.1 ∙ v.says.2 in
    run_reports (says_of_json q) source left v.bytes v.told v.few v.reads
    (λ o text h. json_reported q v.net o text (subst (λ r. SaysValue (OfJson q) r o text) is h)) sink taken answer runs v.writes

generates : (number size : ℕ) (o : Outcome) (text : List ℕ) → Generates number size o text → status_of o ≡ status.Done
generates number size Done text h = refl
generates number size Inconsistent text h = absurd h
generates number size NetBad text h = absurd h
generates number size ScriptBad text h = absurd h
generates number size NotProved text h = absurd h
generates number size TooLarge text h = absurd h

alone : (number size : ℕ) (m : Result Outcome ReadRefusal) (text : List ℕ) → MeansAlone (Generates number size) m text
    → (meant_status m ≡ status.Done) ⊎ (meant_status m ≡ status.OutOfMemory)
alone number size (Ok o) text m = inl (generates number size o text m)
alone number size (Err refusal.ReadFault) text m = absurd m
alone number size (Err refusal.TooLong) text m = absurd m
alone number size (Err refusal.OutOfMemory) text m = inr refl

same_end : (answer meant : Status) → answer ≡ meant → (meant ≡ status.Done) ⊎ (meant ≡ status.OutOfMemory)
    → (answer ≡ status.Done) ⊎ (answer ≡ status.OutOfMemory)
same_end answer meant e h = rw e h

pub generated : GeneratedIsReported
generated number size sink taken answer runs quiet =
    ⊎_elim (λ written. same_end answer (meant_status runs.meant) written.0 (alone number size runs.meant runs.text runs.means))
    (λ failed. absurd (quiet failed.1.rose)) runs.writes
