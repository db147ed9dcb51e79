-- What the jobs that read JSON say of their input: IsPlainForm, Prints, OfJson, IsRefused, SaysValue, says_of_json.
use Rattle.std.specs.Prelude.{◌≡◌, ℕ, List, [], ◌∷◌, codes, Result, Ok, Err}
use Rattle.stn_model.specs.Net.{Net}
use Rattle.net_text.specs.Laws.{IsReadBack}
use Rattle.net_text.specs.Plain.{plain_form}
use Rattle.json_net.specs.declared.error.JsonError.{JsonError}
use Rattle.json_net.specs.declared.error.JsonError.TheVariants as refused
use Rattle.json_net.specs.Causes.{cause_word}
use Rattle.json_net.specs.Paths.{path_text}
use Rattle.json_net.specs.Texts.{value_of, said}
use Rattle.schedule_report.specs.Lines.{error_line}
use Rattle.mastn.specs.declared.answer.Outcome.{Outcome}
use Rattle.mastn.specs.declared.answer.Outcome.TheVariants.{Done, NetBad}
use Rattle.mastn.specs.declared.json.JsonQuestion.{JsonQuestion}
use Rattle.mastn.specs.declared.json.JsonQuestion.TheVariants.{Check, Print}
use Rattle.mastn.specs.Checks.{Checks}

-- the network's plain form, which is read as that network, whether or not some schedule satisfies it
pub record IsPlainForm (net : Net) (text : List ℕ) : Type 0 where
  pub form : text ≡ plain_form net
  pub read_back : IsReadBack net

abbrev pub Prints : Net → Outcome → List ℕ → Type 0
Prints net Done text = IsPlainForm net text
Prints net outcome text = ⊥

-- the outcome and the text for the network that an input says
abbrev pub OfJson : JsonQuestion → Net → Outcome → List ℕ → Type 0
OfJson Check net outcome text = Checks net outcome text
OfJson Print net outcome text = Prints net outcome text

-- the one error line of an input that says no network: the first test that fails, and the path of the value that fails it; or that it is no
-- JSON
abbrev pub IsRefused : JsonError → Outcome → List ℕ → Type 0
IsRefused refused.JsonBad outcome text = (outcome ≡ NetBad) × (text ≡ error_line 0 (codes "JsonBad") [])
IsRefused (refused.At path cause) outcome text = (outcome ≡ NetBad) × (text ≡ error_line 0 (cause_word cause) (path_text path ∷ []))
IsRefused refused.OutOfMemory outcome text = ⊥

abbrev pub SaysValue : (Net → Outcome → List ℕ → Type 0) → Result Net JsonError → Outcome → List ℕ → Type 0
SaysValue says (Ok net) outcome text = says net outcome text
SaysValue says (Err error) outcome text = IsRefused error outcome text

-- the outcome and the text for an input
abbrev pub says_of_json : JsonQuestion → List ℕ → Outcome → List ℕ → Type 0
says_of_json question bytes outcome text = SaysValue (OfJson question) (said (value_of bytes)) outcome text
