use Rattle.std.proofs.Common.{◌∙◌, ◌/◌, ◌≤◌, ◌<◌, length-set, refl, arith}
use Rattle.elim_step.proofs.Rankings.{leaf_set, leaf_nodes, match_set, match_leaves, all_matches}
use Rattle.elim_step.proofs.ranking.play.Goals as goal

pub up-init : goal.up-init
up-init c =
    let nodes = c.args.nodes.now in
    record {
      len = length-set nodes c.args.leaf c.args.rank ∙ c.requires.len;
      from = (let a = c.requires.leaf.0 in let b = c.requires.leaf.1 in omega (arith, a, b));
      within = c.requires.leaf.1;
      leaves = λ n from. refl;
      matches = leaf_set c.args.size nodes c.args.leaf c.args.rank c.requires.len c.requires.leaf.0 c.requires.leaf.1 c.requires.matches;
    }

pub up-preserved : goal.up-preserved
up-preserved c =
    let was = c.up.invariant in
    let size = c.args.size in
    let nodes = c.up.nodes in
    let at = c.up.node / 2 in
    let x = c.first_of_two.result in
    let more = c.up-test.true in
    let within = was.within in
    let low : at < size = omega (arith, within) in
    let one : 1 ≤ at = omega (arith, more) in
    record {
      len = length-set nodes at x ∙ was.len;
      from = one;
      within = omega (arith, low);
      leaves = λ n from. match_leaves size nodes at x low n from ∙ was.leaves n from;
      matches = match_set size nodes at x was.len one low was.matches c.first_of_two.ensures;
    }

pub returns-clause-leaves : goal.returns-clause-leaves
returns-clause-leaves c = λ n from.
    c.up.invariant.leaves n from
    ∙ leaf_nodes c.args.size c.args.nodes.now c.args.leaf c.args.rank c.requires.len c.requires.leaf.1 n from

pub returns-clause-matches : goal.returns-clause-matches
returns-clause-matches c =
    let was = c.up.invariant in
    all_matches c.args.size c.up.nodes (c.up.node / 2) (let f = was.from in let t = c.up-test.false in omega arith) was.matches
