use Rattle.std.proofs.Common.{◌≡◌, ℕ, ◌<◌, false, length, refl, ap, subst, arith}
use Rattle.std.proofs.lemmas.Bool.{false≢true}
use Rattle.std.proofs.lemmas.List.{length-replicate}
use Rattle.stn_model.specs.Limits.{most_points}
use Rattle.stn_model.specs.Net.{arcs_of}
use Rattle.stn_walk.proofs.Meets.{AreMet, AreMet-none, AreMet-repeat, AreMet-all}
use Rattle.stn_walk.proofs.cycle.passes_no_point_twice.Goals as goal

pub loop-n-init : goal.loop-n-init
loop-n-init c = record { met = AreMet-none (arcs_of c.args.net.now) c.args.arcs.now most_points; size = length-replicate most_points false }

pub returns-then-met-head : goal.returns-then-met-head
returns-then-met-head c = (
  λ t. absurd (false≢true t),
  λ h.
      let lt : c.loop-n.n-index < length c.args.arcs.now = omega arith in
      absurd (AreMet-repeat (arcs_of c.args.net.now) c.args.arcs.now c.loop-n.n-index c.loop-n.met c.loop-n.invariant.met lt c.arc-head.result.to.0
      (ap (λ a. a.to.0) c.arc-head.ensures.arc) c.if-met-head.true h),
)

pub returns : goal.returns
returns c =
    let end : c.loop-n.n-index ≡ length c.args.arcs.now = omega arith in (
      λ t. AreMet-all (arcs_of c.args.net.now) c.args.arcs.now c.loop-n.met
          (subst (λ (i : ℕ). AreMet (arcs_of c.args.net.now) c.args.arcs.now i c.loop-n.met) end c.loop-n.invariant.met),
      λ h. refl,
    )
