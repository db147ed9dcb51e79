use Rattle.std.proofs.Common.{◌≡◌, ◌+◌, ap, ◌∙◌, length, arith, length-append, pos, neg_ℤ, ◌+ℤ◌, ◌-ℤ◌, to_z, of_z, w64}
use Rattle.std.proofs.lemmas.Int.{ints}
use Rattle.stn_model.specs.Net.{Net}
use Rattle.net_gen.proofs.Places.{bound_laid}
use Rattle.net_gen.proofs.Results.{on_ok}
use Rattle.net_gen.proofs.bounds.lay_bound.Goals as goal

pub lay_arc-requires-2-clause-few : goal.lay_arc-requires-2-clause-few
lay_arc-requires-2-clause-few c =
    let many : length c.lay_arc.new.net.given ≡ length c.args.net.now.given + 1 =
    ap (λ (m : Net). length m.given) c.in_ok-lay_arc.ensures ∙ length-append c.args.net.now.given _ in
    omega arith

pub returns : goal.returns
returns c =
    let up : c.most-up.result ≡ c.args.apart +ℤ pos c.args.high = omega (arith, ints) in
    let down : c.least_turned-down.result ≡ neg_ℤ (c.args.apart -ℤ pos c.args.low) = omega (arith, ints) in
    on_ok c.lay_arc-2.result
    (bound_laid c.args.net.now c.lay_arc.new.net c.lay_arc-2.new.net c.args.from c.args.to c.args.low c.args.high c.args.apart
    (to_z w64 (of_z w64 c.most-up.result)) (to_z w64 (of_z w64 c.least_turned-down.result)) (omega (arith, ints)) (omega (arith, ints)) c.in_ok-lay_arc.ensures)
    c.lay_arc-2.ensures

pub lay_arc-requires-2-clause-no_acts : goal.lay_arc-requires-2-clause-no_acts
lay_arc-requires-2-clause-no_acts c = ap (λ (m : Net). m.acts) c.in_ok-lay_arc.ensures ∙ c.requires.no_acts
