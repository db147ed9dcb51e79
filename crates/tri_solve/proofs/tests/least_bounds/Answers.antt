use Rattle.std.proofs.Common.{◌≡◌, ℕ, List, [], ◌∷◌, sym, ap, ◌∙◌, subst, arith}
use Rattle.std.specs.Prelude.{ℤ}
use Rattle.std.proofs.lemmas.Int.{ints}
use Rattle.tri_solve.specs.declared.edge.Edge.{Edge}
use Rattle.tri_solve.specs.Edges.{ids, AreBounds, AreBoundsOf}
use Rattle.tri_solve.proofs.OnePoint.{up_edge, down_edge, are_bounds, are_bounds_of}
use Rattle.tri_solve.proofs.tests.least_bounds.Goals as goal

edges_are : (es : List Edge) (x h : ℤ) → es ≡ up_edge ∷ down_edge x ∷ [] → x ≡ h → es ≡ up_edge ∷ down_edge h ∷ []
edges_are es x h is same = is ∙ ap (λ (y : ℤ). up_edge ∷ down_edge y ∷ []) same

pub new-requires : goal.new-requires
new-requires c =
    let valid = c.horizon-horizon.ensures.valid in
    let low = valid.horizon_low in
    let high = valid.horizon_high in
    let horizon = c.horizon-horizon.ensures.horizon in
    let edges = edges_are c.in_ok-edges.edges.items _ c.args.net.now.horizon c.in_ok-edges.ensures (omega (arith, ints)) in
    subst (λ (os : List ℕ). AreBounds (record { order = os; edges = c.in_ok-edges.edges.items })) (sym (ap ids c.in_ok-order.ensures))
    (subst (λ (es : List Edge). AreBounds (record { order = 1 ∷ 0 ∷ []; edges = es })) (sym edges)
    (are_bounds c.args.net.now valid c.requires.points c.requires.arcs))

pub returns : goal.returns
returns c =
    let valid = c.horizon-horizon.ensures.valid in
    let low = valid.horizon_low in
    let high = valid.horizon_high in
    let horizon = c.horizon-horizon.ensures.horizon in
    let edges = edges_are c.in_ok-edges.edges.items _ c.args.net.now.horizon c.in_ok-edges.ensures (omega (arith, ints)) in
    subst (AreBoundsOf c.args.net.now) (sym c.in_ok-bounds.ensures.seen)
    (subst (λ (os : List ℕ). AreBoundsOf c.args.net.now (record { order = os; edges = c.in_ok-edges.edges.items })) (sym (ap ids c.in_ok-order.ensures))
    (subst (λ (es : List Edge). AreBoundsOf c.args.net.now (record { order = 1 ∷ 0 ∷ []; edges = es })) (sym edges)
    (are_bounds_of c.args.net.now valid c.requires.points c.requires.arcs)))
