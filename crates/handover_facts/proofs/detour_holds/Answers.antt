use Rattle.std.proofs.Common.{refl, arith}
use Rattle.std.proofs.lemmas.Bool.{false≢true}
use Rattle.stn_model.specs.Net.{arcs_of}
use Rattle.stn_walk.proofs.Joins.{test-from_edge, joined-from_order, order-from_joined}
use Rattle.handover_facts.specs.Detour.{detour, detour_order, late_order}
use Rattle.handover_facts.proofs.DetourSummary.{summary_of_detour, summary_of_far, weight_in_far}
use Rattle.handover_facts.proofs.detour_holds.Goals as goal

pub returns : goal.returns
returns c = record {
  p_shared = refl;
  r_private = refl;
  q_shared = refl;
  summary = summary_of_detour;
  no_arc_between = λ h. false≢true (test-from_edge (arcs_of detour) 1 3 h);
  joined_by_fill = order-from_joined (arcs_of detour) detour_order 1 3 (omega arith) refl;
  not_before_r = λ h. false≢true (joined-from_order (arcs_of detour) late_order 1 3 h).1;
  far_weight = weight_in_far;
  far_summary = summary_of_far;
}
