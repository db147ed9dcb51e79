use Rattle.std.proofs.Common.{◌∙◌, [], map, length, ap, sym, append-nil, arith}
use Rattle.stn_model.specs.Net.{arcs_of}
use Rattle.stn_model.specs.Kinds.{is_shared}
use Rattle.private_elim.specs.Locals.{numbered_own}
use Rattle.private_elim.proofs.locals.OwnArcs.{own_few}
use Rattle.stn_model.proofs.NetLemmas.{length-arcs_of}
use Rattle.private_elim.proofs.local.Local.of.Goals as goal

pub invariant_of-result : goal.invariant_of-result
invariant_of-result c =
    let net = c.args.net.now in
    let own = numbered_own net c.args.agent.0 in
    let valid = c.in_ok-arcs.ensures.valid in
    record {
      local = record {
        net = net;
        valid = valid;
        known = c.requires;
        added = [];
        each = λ k d lt. absurd (omega arith);
        points = c.in_ok-points.ensures.points;
        shared = c.in_ok-shared.ensures ∙ ap (map (is_shared net)) (c.deref.ensures.value ∙ c.in_ok-points.ensures.points);
        arcs = c.in_ok-arcs.ensures.arcs ∙ sym (append-nil own);
      };
      few = omega (
        arith,
        ap length c.in_ok-arcs.ensures.arcs,
        own_few net c.args.agent.0 (length (arcs_of net)),
        length-arcs_of net,
        valid.few_points,
        valid.few_arcs,
      );
    }
