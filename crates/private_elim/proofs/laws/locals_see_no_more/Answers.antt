use Rattle.std.proofs.Common.{◌∙◌, ap, map}
use Rattle.stn_model.specs.Kinds.{is_shared}
use Rattle.private_elim.specs.Locals.{LocalView, points_of, numbered_own}
use Rattle.private_elim.proofs.locals.SharedPoints.{shared_agree}
use Rattle.private_elim.proofs.laws.locals_see_no_more.Goals as goal

pub returns : goal.returns
returns c = λ net other agent points kinds arcs.
    let shared = shared_agree net other (points_of net agent) kinds in
    let first = ap {B = LocalView} (λ bs. record { agent = agent; points = points_of net agent; shared = bs; arcs = numbered_own net agent }) shared in
    let second = ap {B = LocalView} (λ ps. record { agent = agent; points = ps; shared = map (is_shared other) ps; arcs = numbered_own net agent }) points in
    let third =
    ap {B = LocalView} (λ as'. record {
      agent = agent;
      points = points_of other agent;
      shared = map (is_shared other) (points_of other agent);
      arcs = as';
    }) arcs in
    first ∙ second ∙ third
