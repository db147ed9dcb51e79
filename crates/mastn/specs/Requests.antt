-- What each job that reads says of its input: asks_of.
use Rattle.std.specs.Prelude.{ℕ, List}
use Rattle.mastn.specs.declared.answer.Outcome.{Outcome}
use Rattle.mastn.specs.declared.request.Request.{Request}
use Rattle.mastn.specs.declared.request.Request.TheVariants.{Text, Json}
use Rattle.mastn.specs.Json.{says_of_json}
use Rattle.mastn.specs.Questions.{says_of}

-- the outcome and the text for an input, by its form
abbrev pub asks_of : Request → List ℕ → Outcome → List ℕ → Type 0
asks_of (Text question) bytes outcome text = says_of question bytes outcome text
asks_of (Json question) bytes outcome text = says_of_json question bytes outcome text
