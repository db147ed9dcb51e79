-- What each job that reads a network says of its input: OfNetwork, SaysRead, says_of.
use Rattle.std.specs.Prelude.{◌≡◌, ℕ, ◌+◌, List, [], drop, Result, Ok, Err}
use Rattle.net_text.specs.declared.cause.TextError.{TextError}
use Rattle.net_text.specs.declared.cause.TextError.TheVariants as refused
use Rattle.net_text.specs.declared.read.NetRead.{NetRead}
use Rattle.net_text.specs.Causes.{cause_word}
use Rattle.net_text.specs.Networks.{text_of}
use Rattle.schedule_report.specs.Lines.{error_line}
use Rattle.mastn.specs.declared.answer.Outcome.{Outcome}
use Rattle.mastn.specs.declared.answer.Outcome.TheVariants.{NetBad}
use Rattle.mastn.specs.declared.question.Question.{Question}
use Rattle.mastn.specs.declared.question.Question.TheVariants.{Check, Certify, Verify, Upgrade, Repair}
use Rattle.mastn.specs.Certificates.{Certifies, Verifies}
use Rattle.mastn.specs.Checks.{Checks}
use Rattle.mastn.specs.Repairs.{Repairs}
use Rattle.mastn.specs.Upgrades.{Upgrades}

-- the outcome and the text for the network that an input begins with, and for what follows its text
abbrev pub OfNetwork : Question → List ℕ → NetRead → Outcome → List ℕ → Type 0
OfNetwork Check bytes read outcome text = Checks read.net outcome text
OfNetwork Certify bytes read outcome text = Certifies read.net outcome text
OfNetwork Verify bytes read outcome text = Verifies read.net (read.lines + 1) (drop read.used bytes) outcome text
OfNetwork Upgrade bytes read outcome text = Upgrades read.net outcome text
OfNetwork Repair bytes read outcome text = Repairs read.net outcome text

-- an input that begins with no network has its first failing line and the first test that this line fails
abbrev pub SaysRead : (NetRead → Outcome → List ℕ → Type 0) → Result NetRead TextError → Outcome → List ℕ → Type 0
SaysRead says (Ok read) outcome text = says read outcome text
SaysRead says (Err (refused.At number cause)) outcome text = (outcome ≡ NetBad) × (text ≡ error_line number (cause_word cause) [])
SaysRead says (Err refused.OutOfMemory) outcome text = ⊥

-- the outcome and the text for an input
abbrev pub says_of : Question → List ℕ → Outcome → List ℕ → Type 0
says_of question bytes outcome text = SaysRead (OfNetwork question bytes) (text_of bytes) outcome text
