use Rattle.std.proofs.Common.{ap, ◌∙◌, ◌+◌, rules, arith, get_or, length-set}
use Rattle.std.specs.Prelude.{if◌then◌else◌}
use Rattle.std.proofs.lemmas.List.{take_all}
use Rattle.stn_walk.specs.Eliminations.{is_in}
use Rattle.stn_walk.proofs.Members.{is_in-at}
use Rattle.elim_step.proofs.Parts.{ahead_fresh}
use Rattle.shared_graph.proofs.graphs.Counts.{counted_one}
use Rattle.shared_graph.proofs.take.count_gone.Goals as goal

pub bounds-gone-p : goal.bounds-gone-p
bounds-gone-p c =
    let low = c.requires.within _ (is_in-at c.args.places.now c.loop-p.p-index (search rules)) in
    let len = c.loop-p.invariant.len in
    omega arith

pub overflow_add-gone : goal.overflow_add-gone
overflow_add-gone c =
    let places = c.args.places.now in
    let n = c.loop-p.p-index in
    let q = get_or places n 0 in
    let few = c.requires.few q (is_in-at places n (search rules)) in
    let was = c.loop-p.invariant.each q ∙ ap (λ b. get_or c.args.gone.now q 0 + (if b then 1 else 0)) (ahead_fresh places n c.requires.rising (search rules)) in
    omega (arith, few, was)

pub bounds-gone-p-in-loop-p : goal.bounds-gone-p-in-loop-p
bounds-gone-p-in-loop-p c =
    let low = c.requires.within _ (is_in-at c.args.places.now c.loop-p.p-index (search rules)) in
    let len = c.loop-p.invariant.len in
    omega arith

pub loop-p-preserved : goal.loop-p-preserved
loop-p-preserved c =
    let places = c.args.places.now in
    let n = c.loop-p.p-index in
    let low = c.requires.within _ (is_in-at places n (search rules)) in
    let len = c.loop-p.invariant.len in
    record {
      len = length-set c.loop-p.gone (get_or places n 0) _ ∙ len;
      each = λ p. counted_one c.loop-p.gone places n (λ p. get_or c.args.gone.now p 0) c.requires.rising (search rules) (omega arith)
          c.loop-p.invariant.each p;
    }

pub returns-clause-each : goal.returns-clause-each
returns-clause-each c p =
    c.loop-p.invariant.each p ∙ ap (λ xs. get_or c.args.gone.now p 0 + (if is_in xs p then 1 else 0))
    (take_all c.loop-p.p-index c.args.places.now (search rules))
