use Rattle.std.proofs.Common.{◌≡◌, ◌∙◌, ◌++◌, ℕ, List, get_or, ap, subst}
use Rattle.private_elim.specs.ReducedViews.{ReducedView}
use Rattle.conflict_cycle.proofs.HopWalks.{own_walk}
use Rattle.conflict_cycle.proofs.edges.add_hop.Goals as goal

pub returns : goal.returns
returns g c =
    let r = c.index-reduced-agent.result in
    let a = c.in-Some.agent in
    let old = c.args.walk.now.items in
    own_walk g.whole c.args.parts.now c.requires.0 c.args.from.0 c.args.to.0 c.args.agent a r c.in_ok-own.own old c.extend_from_slice.new.self.items
    c.in-Some.is (subst (λ (rs : List ReducedView). r ≡ get_or rs a.0 r) c.reduced-reduced.ensures.reduced c.index-reduced-agent.is)
    c.in_ok-own.ensures.walk c.in_ok-own.ensures.weight
    (c.in_ok-extend_from_slice.ensures.items ∙ ap (λ (xs : List ℕ). old ++ xs) c.arcs.ensures)
