-- Two schedules of the handover: in one b1 is as late as can be, in the other as early.
use Rattle.std.proofs.Common.{ℤ, pos, List, [], ◌∷◌, refl}
use Rattle.stn_model.specs.Net.{arcs_of}
use Rattle.stn_model.specs.Schedules.{KeepsArcs}
use Rattle.sample_nets.specs.Samples.{handover}
use Rattle.handover_facts.proofs.Checked.{keeps-from_test}

abbrev pub late : List ℤ
late = pos 0 ∷ pos 20 ∷ pos 60 ∷ pos 65 ∷ pos 75 ∷ []

abbrev pub early : List ℤ
early = pos 0 ∷ pos 0 ∷ pos 30 ∷ pos 30 ∷ pos 40 ∷ []

pub late_keeps : KeepsArcs (arcs_of handover) late
late_keeps = keeps-from_test (arcs_of handover) late refl

pub early_keeps : KeepsArcs (arcs_of handover) early
early_keeps = keeps-from_test (arcs_of handover) early refl
