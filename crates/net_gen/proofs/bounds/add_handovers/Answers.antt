use Rattle.std.proofs.Common.{◌≡◌, ◌+◌, ℕ, ap, ◌∙◌, refl, arith}
use Rattle.stn_model.specs.Net.{Net}
use Rattle.net_gen.specs.Draws.{DrawState}
use Rattle.net_gen.specs.Generated.{draws_before, handover_at}
use Rattle.net_gen.proofs.Places.{length-given, given_more, gap_total_small}
use Rattle.net_gen.proofs.bounds.add_handovers.Goals as goal

pub add_handover-requires-clause-arcs : goal.add_handover-requires-clause-arcs
add_handover-requires-clause-arcs c =
    let many = length-given c.args.net.now c.loop-handover.net (handover_at c.args.draws.now.number c.args.size) c.loop-handover.handover (λ k. refl) c.loop-handover.invariant.net in
    let small = gap_total_small c.args.size c.requires.high in
    let none = c.requires.arcs in
    omega arith

pub loop-handover-preserved : goal.loop-handover-preserved
loop-handover-preserved c =
    let sum : c.loop-handover.draws.count + 4 ≡ draws_before c.args.size (c.loop-handover.handover + 1) =
    ap (λ (s : DrawState). s.count + 4) c.loop-handover.invariant.draws ∙ omega arith in
    record {
      net = given_more c.args.net.now c.loop-handover.net c.add_handover.new.net (λ (k n : ℕ). handover_at k c.args.size n)
          c.loop-handover.draws.number c.args.draws.now.number c.loop-handover.handover
          (ap (λ (s : DrawState). s.number) c.loop-handover.invariant.draws)
          c.loop-handover.invariant.net c.in_ok-add_handover.ensures.given;
      draws = c.in_ok-add_handover.ensures.counted
          ∙ ap (λ (k : ℕ). record c.loop-handover.draws { count = k }) sum
          ∙ ap (λ (s : DrawState). record s { count = draws_before c.args.size (c.loop-handover.handover + 1) }) c.loop-handover.invariant.draws;
    }

pub add_handover-requires-clause-no_acts : goal.add_handover-requires-clause-no_acts
add_handover-requires-clause-no_acts c = ap (λ (m : Net). m.acts) c.loop-handover.invariant.net ∙ c.requires.no_acts
