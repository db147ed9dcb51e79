-- The law of valid inputs of `solve`.
use Rattle.std.proofs.Common.{◌≡◌, ℕ, ◌+◌, inl, inr, List, drop, Result, Ok, Err, refl, sym, subst, ◌∙◌}
use Rattle.stn_model.specs.Net.{Net}
use Rattle.net_text.specs.declared.cause.TextError.{TextError}
use Rattle.net_text.specs.declared.cause.TextError.TheVariants as refused
use Rattle.net_text.specs.declared.read.NetRead.{NetRead}
use Rattle.script_text.specs.declared.read.ScriptRead.{ScriptRead}
use Rattle.mastn.specs.declared.answer.Outcome.{Outcome}
use Rattle.mastn.specs.declared.answer.Outcome.TheVariants.{Done, Inconsistent, NetBad, ScriptBad, NotProved, TooLarge}
use Rattle.script_text.specs.declared.command.Command.{Command}
use Rattle.mastn.specs.declared.script.Asked.{Asked}
use Rattle.mastn.specs.declared.script.Asked.TheVariants.{Told}
use Rattle.mastn.specs.declared.words.Pick.{Pick}
use Rattle.mastn.specs.Certificates.{IsVerdictOn}
use Rattle.mastn.specs.Laws.{IsReported, SolvesAreReported}
use Rattle.mastn.specs.Questions.{SaysRead}
use Rattle.mastn.specs.Solves.{Asks, OfScript, SaysAsked, solves}
use Rattle.mastn.specs.Statuses.{status_of}
use Rattle.mastn.proofs.Reported.{run_reports}

-- a text asks for one thing
one_asked : (first : ℕ) (rest : List ℕ) (r : Result ScriptRead TextError) (a b : Asked) → Asks first rest r a → Asks first rest r b → b ≡ a
one_asked first rest (Ok read) a b h g = g ∙ sym h
one_asked first rest (Err (refused.At number cause)) a b h g = g ∙ sym h
one_asked first rest (Err refused.OutOfMemory) a b h g = absurd h

solved : (net : Net) (o : Outcome) → IsVerdictOn net o → IsReported (status_of o)
solved net Done h = inl refl
solved net Inconsistent h = inr (inl refl)
solved net NetBad h = absurd h
solved net ScriptBad h = absurd h
solved net NotProved h = absurd h
solved net TooLarge h = absurd h

reported : (commands : List Command) (pick : Pick) (bytes : List ℕ) (read : NetRead) (r : Result ScriptRead TextError) (o : Outcome) (text : List ℕ)
    → Asks (read.lines + 1) (drop read.used bytes) r (Told commands)
    → (is : Asked) × Asks (read.lines + 1) (drop read.used bytes) r is × SaysAsked pick read.net is o text → IsReported (status_of o)
reported commands pick bytes read r o text asks h =
    let is = one_asked (read.lines + 1) (drop read.used bytes) r (Told commands) h.0 asks h.1 in
    let says = subst (λ a. SaysAsked pick read.net a o text) is h.2 in
    solved read.net o says.verdict

pub valid_solves : SolvesAreReported
valid_solves pick source left sink taken answer runs v =
    run_reports (solves pick) source left v.bytes v.told v.few v.reads
    (λ o text h. reported v.commands pick v.bytes v.read _ o text v.asks (subst (λ r. SaysRead (OfScript pick v.bytes) r o text) v.begins h))
    sink taken answer runs v.writes
