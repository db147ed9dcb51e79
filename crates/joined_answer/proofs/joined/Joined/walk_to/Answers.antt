use Rattle.std.proofs.Common.{List, ℕ, ◌≤◌, ◌<◌, length, map, ap, subst, sym, ◌∙◌, arith}
use Rattle.stn_model.specs.Net.{arcs_of}
use Rattle.stn_model.specs.Walks.{IsWalk, weight}
use Rattle.tri_solve.specs.Edges.{ids}
use Rattle.tri_solve.specs.Trees.{dist_of}
use Rattle.joined_answer.proofs.LeastWalks.{IsAlong, along_starts, read_joined, read_more, read_ends}
use Rattle.joined_answer.proofs.joined.Joined.walk_to.Goals as goal

pub loop-k-init : goal.loop-k-init
loop-k-init c =
    let net = c.args.self.now.network in
    let order = map (λ p. p.0) c.args.self.now.order in
    let t = c.args.distances.now in
    let d = dist_of t c.args.j.0 in
    let path = ids c.in_ok-path.path.items in
    subst (λ (walk : List ℕ). IsAlong net order t.source d path 1 walk) (sym c.new-arcs.ensures.items)
    (along_starts net order t d path c.requires.over c.in_ok-path.ensures.starts c.in_ok-path.ensures.goes)

pub add_walk-requires : goal.add_walk-requires
add_walk-requires c =
    let t = c.args.distances.now in
    let ps = c.in_ok-path.path.items in
    let lt : c.loop-k.k < length ps = omega (arith, c.loop-k-test.true, c.len-k-end.ensures, c.in_ok-path.path.ok.0) in
    record {
      joined =
          read_joined c.args.self.now.network (map (λ p. p.0) c.args.self.now.order) t.source (dist_of t c.args.j.0) ps c.loop-k.k c.index.result.now
          c.index-in-loop-k.result.now c.loop-k.arcs.items lt c.index.ensures c.index-in-loop-k.ensures c.loop-k.invariant;
    }

pub loop-k-preserved : goal.loop-k-preserved
loop-k-preserved c =
    let t = c.args.distances.now in
    let ps = c.in_ok-path.path.items in
    let lt : c.loop-k.k < length ps = omega (arith, c.loop-k-test.true, c.len-k-end.ensures, c.in_ok-path.path.ok.0) in
    let added = c.in_ok-add_walk.ensures in
    read_more c.args.self.now.network (map (λ p. p.0) c.args.self.now.order) t.source (dist_of t c.args.j.0) ps c.loop-k.k c.index.result.now
    c.index-in-loop-k.result.now c.loop-k.arcs.items lt c.index.ensures c.index-in-loop-k.ensures c.loop-k.invariant added.0
    c.add_walk.new.arcs.items added.1 added.2 added.3

pub returns-clause-walk : goal.returns-clause-walk
returns-clause-walk c =
    let net = c.args.self.now.network in
    let t = c.args.distances.now in
    let ps = c.in_ok-path.path.items in
    let all : length ps ≤ c.loop-k.k = omega (arith, c.loop-k-test.false, c.len-k-end.ensures, c.in_ok-path.path.ok.0) in
    subst (IsWalk (arcs_of net) t.source c.args.j.0) (sym c.new.ensures)
    (read_ends net (map (λ p. p.0) c.args.self.now.order) t.source (dist_of t c.args.j.0) ps c.args.j.0 c.loop-k.k c.loop-k.arcs.items all
    c.in_ok-path.ensures.ends c.loop-k.invariant).0

pub returns-clause-weighs : goal.returns-clause-weighs
returns-clause-weighs c =
    let net = c.args.self.now.network in
    let t = c.args.distances.now in
    let ps = c.in_ok-path.path.items in
    let all : length ps ≤ c.loop-k.k = omega (arith, c.loop-k-test.false, c.len-k-end.ensures, c.in_ok-path.path.ok.0) in
    ap (weight (arcs_of net)) c.new.ensures
    ∙ (read_ends net (map (λ p. p.0) c.args.self.now.order) t.source (dist_of t c.args.j.0) ps c.args.j.0 c.loop-k.k c.loop-k.arcs.items all
    c.in_ok-path.ensures.ends c.loop-k.invariant).1
