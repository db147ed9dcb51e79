use Rattle.std.proofs.Common.{ℕ, ◌<◌, List, length, Option, sym, ◌∙◌, subst, arith}
use Rattle.tri_solve.specs.declared.label.Label.{Label}
use Rattle.tri_solve.specs.Labels.{IsLabel}
use Rattle.tri_solve.proofs.Attained.{times_satisfy}
use Rattle.tri_solve.proofs.BackPaths.{path_there}
use Rattle.tri_solve.proofs.Rooted.{each_labelled}
use Rattle.tri_solve.proofs.TreeOf.{tree, is_tree, are_edges, least_from}
use Rattle.tri_solve.proofs.distances.from_point.Goals as goal

pub whole-requires : goal.whole-requires
whole-requires c =
    let passed = c.in_ok-labels.ensures.passed in
    let within : c.args.i.0 < length c.args.bounds.now.order = omega (arith, c.requires.within, c.requires.bounds.points) in
    subst (λ (xs : List (Option Label)). (p : ℕ) → p < length xs → IsLabel xs p) (sym c.as_slice.ensures.value)
    (each_labelled c.args.bounds.now c.in_ok-labels.ensures.valid c.args.i within passed.first passed.up c.in_ok-labels.labels.items passed.down c.args.net.now
    c.points-points.ensures.valid c.requires.bounds)

pub invariant_of-result : goal.invariant_of-result
invariant_of-result c =
    let within : c.args.i.0 < length c.args.bounds.now.order = omega (arith, c.requires.within, c.requires.bounds.points) in
    is_tree c.args.bounds.now c.in_ok-labels.ensures.valid c.args.i within c.in_ok-labels.labels.items c.in_ok-labels.ensures.passed c.args.net.now
    c.points-points.ensures.valid c.requires.bounds c.in_ok-labels-2.labels.items (sym c.as_slice.ensures.value ∙ c.in_ok-labels-2.ensures)

pub returns-clause-least : goal.returns-clause-least
returns-clause-least c =
    let within : c.args.i.0 < length c.args.bounds.now.order = omega (arith, c.requires.within, c.requires.bounds.points) in
    least_from c.args.bounds.now c.in_ok-labels.ensures.valid c.args.i within c.in_ok-labels.labels.items c.in_ok-labels.ensures.passed c.args.net.now
    c.points-points.ensures.valid c.requires.bounds c.in_ok-labels-2.labels.items (sym c.as_slice.ensures.value ∙ c.in_ok-labels-2.ensures)

pub returns-clause-zero : goal.returns-clause-zero
returns-clause-zero c =
    let within : c.args.i.0 < length c.args.bounds.now.order = omega (arith, c.requires.within, c.requires.bounds.points) in
    (is_tree c.args.bounds.now c.in_ok-labels.ensures.valid c.args.i within c.in_ok-labels.labels.items c.in_ok-labels.ensures.passed c.args.net.now
    c.points-points.ensures.valid c.requires.bounds c.in_ok-labels-2.labels.items (sym c.as_slice.ensures.value ∙ c.in_ok-labels-2.ensures)).zero

pub returns-clause-satisfies : goal.returns-clause-satisfies
returns-clause-satisfies c =
    let within : c.args.i.0 < length c.args.bounds.now.order = omega (arith, c.requires.within, c.requires.bounds.points) in
    times_satisfy (tree c.in_ok-labels.labels.items c.in_ok-labels-2.labels.items (sym c.as_slice.ensures.value ∙ c.in_ok-labels-2.ensures) c.args.i.0)
    c.args.net.now c.points-points.ensures.valid
    (least_from c.args.bounds.now c.in_ok-labels.ensures.valid c.args.i within c.in_ok-labels.labels.items c.in_ok-labels.ensures.passed c.args.net.now
    c.points-points.ensures.valid c.requires.bounds c.in_ok-labels-2.labels.items (sym c.as_slice.ensures.value ∙ c.in_ok-labels-2.ensures))

pub returns-clause-edges : goal.returns-clause-edges
returns-clause-edges c =
    let within : c.args.i.0 < length c.args.bounds.now.order = omega (arith, c.requires.within, c.requires.bounds.points) in
    are_edges c.args.bounds.now c.in_ok-labels.ensures.valid c.args.i within c.in_ok-labels.labels.items c.in_ok-labels.ensures.passed c.args.net.now
    c.points-points.ensures.valid c.requires.bounds c.in_ok-labels-2.labels.items (sym c.as_slice.ensures.value ∙ c.in_ok-labels-2.ensures)

pub returns-clause-paths : goal.returns-clause-paths
returns-clause-paths c =
    let within : c.args.i.0 < length c.args.bounds.now.order = omega (arith, c.requires.within, c.requires.bounds.points) in
    let h = least_from c.args.bounds.now c.in_ok-labels.ensures.valid c.args.i within c.in_ok-labels.labels.items c.in_ok-labels.ensures.passed c.args.net.now
    c.points-points.ensures.valid c.requires.bounds c.in_ok-labels-2.labels.items (sym c.as_slice.ensures.value ∙ c.in_ok-labels-2.ensures) in
    λ p below. path_there (tree c.in_ok-labels.labels.items c.in_ok-labels-2.labels.items (sym c.as_slice.ensures.value ∙ c.in_ok-labels-2.ensures) c.args.i.0) p
    c.args.bounds.now.edges (are_edges c.args.bounds.now c.in_ok-labels.ensures.valid c.args.i within c.in_ok-labels.labels.items c.in_ok-labels.ensures.passed c.args.net.now
    c.points-points.ensures.valid c.requires.bounds c.in_ok-labels-2.labels.items (sym c.as_slice.ensures.value ∙ c.in_ok-labels-2.ensures))
    (is_tree c.args.bounds.now c.in_ok-labels.ensures.valid c.args.i within c.in_ok-labels.labels.items c.in_ok-labels.ensures.passed c.args.net.now
    c.points-points.ensures.valid c.requires.bounds c.in_ok-labels-2.labels.items (sym c.as_slice.ensures.value ∙ c.in_ok-labels-2.ensures)) (omega (arith, h.one_each))
