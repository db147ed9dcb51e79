-- Each line is taken, and at the end the text shows what the stage shows.
use Rattle.std.proofs.Common.{◌≡◌, ℕ, [], ◌+◌, subst, sym, ap, ◌∙◌}
use Rattle.net_text.specs.declared.lines.Lines.{Lines}
use Rattle.net_text.specs.Lines.{lines}
use Rattle.cert_check.specs.Certificates.{read_from, at_end}
use Rattle.cert_check.specs.Claims.{IsRight}
use Rattle.cert_check.proofs.Shown.{verdict_is}
use Rattle.cert_check.proofs.Turns.{goes_on}
use Rattle.cert_check.proofs.check.check_certificate.Goals as goal

pub loop-text-preserved : goal.loop-text-preserved
loop-text-preserved c =
    goes_on c.args.net.now c.args.first_line c.args.bytes.now c.loop-text.stage c.loop-text.lines.rest.now c.loop-text.lines.used c.loop-text.lines.count
    c.in-Some.text.now c.next_line.new.self.rest.now c.next_line.new.self.used c.next_line.new.self.count c.loop-text.invariant c.in-Some.ensures.taken
    c.points-limits.ensures.valid c.in-Ok.next (sym c.in_ok-next.ensures ∙ c.in-Ok.is)

pub returns-clause-right : goal.returns-clause-right
returns-clause-right c =
    let none : lines c.loop-text.lines.rest.now ≡ [] = c.in_default.ensures.taken in
    let count : c.next_line.new.self.count ≡ c.loop-text.lines.count = ap (λ (l : Lines). l.count) c.in_default.ensures.left in
    subst (IsRight c.args.net.now c.args.bytes.now)
    (c.loop-text.invariant.said ∙ ap (read_from c.args.net.now c.loop-text.stage (c.args.first_line + c.loop-text.lines.count)) none
    ∙ ap (λ (n : ℕ). at_end c.loop-text.stage (c.args.first_line + n)) (sym count) ∙ sym c.at_end.ensures)
    (verdict_is c.args.net.now c.points-limits.ensures.valid c.args.first_line c.args.bytes.now)
