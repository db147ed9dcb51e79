use Rattle.std.proofs.Common.{◌≡◌, ◌+◌, ◌*◌, ℕ, ap, ◌∙◌, refl, length, arith}
use Rattle.stn_model.specs.Net.{Net}
use Rattle.net_gen.specs.Draws.{DrawState}
use Rattle.net_gen.specs.Generated.{point_total, chain_at}
use Rattle.net_gen.proofs.Places.{length-given, given_more, gap_total_small}
use Rattle.net_gen.proofs.bounds.add_chains.Goals as goal

pub add_chain-requires-clause-arcs : goal.add_chain-requires-clause-arcs
add_chain-requires-clause-arcs c =
    let many = length-given c.args.net.now c.loop-gap.net (chain_at c.args.draws.now.number c.args.size) c.loop-gap.gap (λ k. refl) c.loop-gap.invariant.net in
    let small = gap_total_small c.args.size c.requires.high in
    let none = ap length c.requires.none in
    omega arith

pub loop-gap-preserved : goal.loop-gap-preserved
loop-gap-preserved c =
    let sum : c.loop-gap.draws.count + 2 ≡ point_total c.args.size + 2 * (c.loop-gap.gap + 1) =
    ap (λ (s : DrawState). s.count + 2) c.loop-gap.invariant.draws ∙ omega arith in
    record {
      net = given_more c.args.net.now c.loop-gap.net c.add_chain.new.net (λ (k n : ℕ). chain_at k c.args.size n)
          c.loop-gap.draws.number c.args.draws.now.number c.loop-gap.gap (ap (λ (s : DrawState). s.number) c.loop-gap.invariant.draws)
          c.loop-gap.invariant.net c.in_ok-add_chain.ensures.given;
      draws = c.in_ok-add_chain.ensures.counted
          ∙ ap (λ (k : ℕ). record c.loop-gap.draws { count = k }) sum
          ∙ ap (λ (s : DrawState). record s { count = point_total c.args.size + 2 * (c.loop-gap.gap + 1) }) c.loop-gap.invariant.draws;
    }

pub returns-clause-many : goal.returns-clause-many
returns-clause-many c =
    let many = length-given c.args.net.now c.loop-gap.net (chain_at c.args.draws.now.number c.args.size) c.loop-gap.gap (λ k. refl) c.loop-gap.invariant.net in
    let none = ap length c.requires.none in
    omega arith

pub add_chain-requires-clause-no_acts : goal.add_chain-requires-clause-no_acts
add_chain-requires-clause-no_acts c = ap (λ (m : Net). m.acts) c.loop-gap.invariant.net ∙ c.requires.no_acts
