use Rattle.std.proofs.Common.{refl, arith, [], ◌∷◌}
use Rattle.std.proofs.lemmas.Bool.{false≢true}
use Rattle.stn_model.specs.Net.{arcs_of, point_count}
use Rattle.stn_model.proofs.WalkLemmas.{no_schedule}
use Rattle.stn_walk.proofs.Joins.{joined-from_order, order-from_joined}
use Rattle.sample_nets.specs.Samples.{handover}
use Rattle.handover_facts.specs.Handover.{refused, order}
use Rattle.handover_facts.proofs.Schedules.{late, early, late_keeps, early_keeps}
use Rattle.handover_facts.proofs.Summary.{summary_of_ann}
use Rattle.handover_facts.proofs.Facts.{is_network, negative}
use Rattle.handover_facts.proofs.handover_holds.Goals as goal

pub returns : goal.returns
returns c = record {
  network = is_network;
  first_arcs = refl;
  given_arcs = refl;
  own_of_ann = refl;
  own_of_bob = refl;
  external = refl;
  z_reference = refl;
  a1_private = refl;
  a2_shared = refl;
  b1_shared = refl;
  b2_private = refl;
  z_unowned = refl;
  a2_owner = refl;
  b1_owner = refl;
  latest_b1 = record {
    walk = 8 ∷ 9 ∷ 11 ∷ [];
    is_walk = (omega arith, refl, (omega arith, refl, (omega arith, refl, refl)));
    weighs = refl;
    times = late;
    satisfies = record { one_each = refl; first = refl; keeps = late_keeps };
    attains = refl;
  };
  earliest_b1 = record {
    walk = 12 ∷ 10 ∷ 1 ∷ [];
    is_walk = (omega arith, refl, (omega arith, refl, (omega arith, refl, refl)));
    weighs = refl;
    times = early;
    satisfies = record { one_each = refl; first = refl; keeps = early_keeps };
    attains = refl;
  };
  cycle = negative;
  cycle_normal = (omega arith, (omega arith, (omega arith, tt)));
  inconsistent = no_schedule (arcs_of refused) (point_count refused) (1 ∷ 15 ∷ 12 ∷ 10 ∷ []) negative;
  summary = summary_of_ann;
  joined = order-from_joined (arcs_of handover) order 2 3 (omega arith) refl;
  later = record { joined = order-from_joined (arcs_of handover) order 1 2 (omega arith) refl; later = omega arith };
  not_joined = λ h. false≢true (joined-from_order (arcs_of handover) order 1 4 h).1;
}
