-- The first point that is found, or the end.
use Rattle.std.proofs.Common.{◌≡◌, ◌<◌, true, None, length, sym, ap, not, is_some, ◌∙◌, arith}
use Rattle.cert_check.specs.Rows.{distance_to, is_missing}
use Rattle.cert_check.proofs.Firsts.{first_at, none_at}
use Rattle.cert_check.proofs.row.Row.first_missing.Goals as goal

pub returns-then-is_none : goal.returns-then-is_none
returns-then-is_none c =
    let lt : c.loop-p.p < length c.args.self.now = omega (arith, c.requires, c.points-p-end.ensures.count) in
    let passes : is_missing (distance_to c.args.self.now c.loop-p.p) ≡ true =
    ap (λ d. not (is_some d)) (sym c.distance.ensures) ∙ ap not c.is_none.ensures ∙ ap (λ b. not (not b)) c.if-is_none.true in
    sym (first_at is_missing c.args.self.now None c.loop-p.p lt c.loop-p.invariant passes)

pub returns : goal.returns
returns c =
    let end : c.loop-p.p ≡ length c.args.self.now = omega (arith, c.requires, c.points-p-end.ensures.count) in
    sym (none_at is_missing c.args.self.now None c.loop-p.p end c.loop-p.invariant)
