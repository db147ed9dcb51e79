use Rattle.std.proofs.Common.{◌≡◌, ◌<◌, sym, ap, subst, ◌∙◌, length, map, to_z, of_z, w64, arith, Vec, Global}
use Rattle.std.specs.List.{All}
use Rattle.std.proofs.lemmas.Int.{ints}
use Rattle.std.proofs.lemmas.List.{length-map}
use Rattle.stn_model.specs.declared.ids.PointId.{PointId}
use Rattle.shared_graph.specs.Interfaces.{IsInterface, SharedPoint, shared_points}
use Rattle.shared_graph.specs.Views.{listed_from, AreOwn}
use Rattle.shared_graph.proofs.interfaces.SharedPoints.{interface_is}
use Rattle.shared_graph.proofs.interface.Interface.of.Goals as goal

pub invariant_of-result : goal.invariant_of-result
invariant_of-result c =
    let net = c.args.net.now in
    let valid = c.horizon.ensures.valid in
    let same = c.horizon.ensures.horizon in
    let low = valid.horizon_low in
    let high = valid.horizon_high in
    let horizon : to_z w64 (of_z w64 c.horizon.result) ≡ net.horizon = omega (arith, ints) in
    let agents : c.agents.result ≡ length c.in_ok-leans.leans.items =
    c.agents.ensures.count ∙ sym (ap length c.in_ok-leans.ensures ∙ length-map net.agents (λ a. a.lean)) in
    record {
      interface = subst IsInterface
          (sym (λ t. record {
            leans = c.in_ok-leans.ensures t;
            points = c.in_ok-points.ensures.owners t;
            externals = c.in_ok-externals.ensures t;
            horizon =
                horizon t;
          }))
          (interface_is net valid);
      points = c.in_ok-points.ensures.points ∙ sym (ap (map (λ (q : SharedPoint). q.point)) c.in_ok-points.ensures.owners);
      own =
          (let among : AreOwn c.agents.result (listed_from 0 c.in_ok-points.owners.items) (map (λ (l : Vec PointId Global). l.items) c.in_ok-own.own.items) =
          subst (λ os. AreOwn c.agents.result (listed_from 0 os) (map (λ (l : Vec PointId Global). l.items) c.in_ok-own.own.items)) c.as_slice.ensures.value
          c.in_ok-own.ensures in
          subst (λ n. AreOwn n (listed_from 0 c.in_ok-points.owners.items) (map (λ (l : Vec PointId Global). l.items) c.in_ok-own.own.items)) agents among);
    }

pub own_of-requires-clause-agents : goal.own_of-requires-clause-agents
own_of-requires-clause-agents c =
    let net = c.args.net.now in
    let agents : length (map (λ a. a.lean) net.agents) ≡ c.agents.result = length-map net.agents (λ a. a.lean) ∙ sym c.agents.ensures.count in
    let points : shared_points net (length net.places) ≡ listed_from 0 c.as_slice.result.now =
    sym (ap (listed_from 0) c.as_slice.ensures.value ∙ c.in_ok-points.ensures.owners) in
    subst (λ qs. All (λ (q : SharedPoint). q.owner < c.agents.result) qs) points
    (subst (λ n. All (λ (q : SharedPoint). q.owner < n) (shared_points net (length net.places))) agents (interface_is net c.agents.ensures.valid).owners)
