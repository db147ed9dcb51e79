-- The horizon in its range.
use Rattle.std.proofs.Common.{sym, ◌∙◌, arith}
use Rattle.std.proofs.lemmas.Int.{ints}
use Rattle.std.proofs.lemmas.Bool.{false≢true}
use Rattle.net_text.proofs.Meanings.{horizon_given}
use Rattle.net_text.proofs.grammar.horizon_line.Goals as goal

pub returns : goal.returns
returns c =
    horizon_given c.args.fields.now c.in-Some.horizon _ c.in-Ok.net c.in-len1.len_at_least c.in-len1.len_below (sym c.number_of.ensures ∙ c.in-Some.is)
    (omega (arith, ints)) (λ within. false≢true (c.in-Ok.ensures.refused.1 within)) c.in-Ok.ensures.ok
