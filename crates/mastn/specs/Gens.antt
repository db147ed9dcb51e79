-- What the job `gen` says: the generated network in its plain form, and a script that asks for its windows.
use Rattle.std.specs.Prelude.{◌≡◌, ℕ, List, [], ◌++◌, codes}
use Rattle.net_gen.specs.Generated.{generated}
use Rattle.net_text.specs.Plain.{line, plain_form}
use Rattle.mastn.specs.declared.answer.Outcome.{Outcome}
use Rattle.mastn.specs.declared.answer.Outcome.TheVariants.{Done}

abbrev pub gen_text : ℕ → ℕ → List ℕ
gen_text number size = plain_form (generated number size) ++ line (codes "windows") [] ++ line (codes "done") []

-- the outcome and the text of `gen`
abbrev pub Generates : ℕ → ℕ → Outcome → List ℕ → Type 0
Generates number size Done text = text ≡ gen_text number size
Generates number size outcome text = ⊥
