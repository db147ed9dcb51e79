use Rattle.std.proofs.Common.{◌≡◌, List, ℕ, ◌-◌, ◌<◌, Some, None, ◌∙◌, ap, sym, subst, arith}
use Rattle.std.specs.List.{AllPairs}
use Rattle.std.proofs.lemmas.Bool.Decides.{nat_tests}
use Rattle.shared_graph.specs.Graphs.{GraphView, places_in}
use Rattle.shared_graph.proofs.graphs.Nexts.{above_found, above_all, above_some, told_above}
use Rattle.shared_graph.proofs.graphs.Standing.{places_rise}
use Rattle.shared_graph.proofs.graph.Graph.place_before.Goals as goal

pub returns-in-Ok : goal.returns-in-Ok
returns-in-Ok g c =
    let i = c.self.inside in
    let xs = c.deref.result.now in
    let p = c.in-Some.after.0 in
    let same = c.deref.ensures.value ∙ c.self.invariant.points in
    let rises = subst (λ (xs : List ℕ). AllPairs (λ p q. p < q) xs) (sym same) (places_rise i.interface c.self.invariant.interface) in
    rw c.in-Some.is
    (told_above c.args.self.now.face xs p (Some c.in-Ok.place) (same ∙ ap (λ (v : GraphView). places_in v.face) c.self.view_is)
    (above_found xs rises p c.in-Ok.place c.in-Ok.ensures.position))

pub returns-in-Err-eq0 : goal.returns-in-Err-eq0
returns-in-Err-eq0 g c =
    let i = c.self.inside in
    let xs = c.deref.result.now in
    let p = c.in-Some.after.0 in
    let same = c.deref.ensures.value ∙ c.self.invariant.points in
    let rises = subst (λ (xs : List ℕ). AllPairs (λ p q. p < q) xs) (sym same) (places_rise i.interface c.self.invariant.interface) in
    let test = c.in-Err-eq0.field-0-test in
    let none : c.in-Err-eq0.field-0 ≡ 0 = grind (arith, nat_tests) in
    rw c.in-Some.is
    (told_above c.args.self.now.face xs p None (same ∙ ap (λ (v : GraphView). places_in v.face) c.self.view_is)
    (above_all xs rises p c.in-Err-eq0.field-0 none c.in-Err-eq0.ensures.position))

pub returns-in-Err : goal.returns-in-Err
returns-in-Err g c =
    let i = c.self.inside in
    let xs = c.deref.result.now in
    let p = c.in-Some.after.0 in
    let same = c.deref.ensures.value ∙ c.self.invariant.points in
    let rises = subst (λ (xs : List ℕ). AllPairs (λ p q. p < q) xs) (sym same) (places_rise i.interface c.self.invariant.interface) in
    let test = c.in-Err.place-test in
    let some : 0 < c.in-Err.place = grind (arith, nat_tests) in
    rw c.in-Some.is
    (told_above c.args.self.now.face xs p (Some (c.in-Err.place - 1)) (same ∙ ap (λ (v : GraphView). places_in v.face) c.self.view_is)
    (above_some xs rises p c.in-Err.place some c.in-Err.ensures.position))
