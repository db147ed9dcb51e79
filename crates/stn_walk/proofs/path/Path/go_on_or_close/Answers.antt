use Rattle.std.proofs.Common.{◌≡◌, ℕ, ◌<◌, ◌∙◌, List, [], ◌∷◌, ◌++◌, length, drop, sym, ap, subst, arith, pos, ◌+ℤ◌, ◌≤ℤ◌, inr}
use Rattle.std.specs.List.{All}
use Rattle.std.proofs.lemmas.Int.{ints}
use Rattle.std.proofs.lemmas.List.{take_rest}
use Rattle.std.proofs.lemmas.List.Elements.{All-take, All-drop}
use Rattle.stn_model.specs.Arcs.{bound_at}
use Rattle.stn_model.specs.Walks.{weight}
use Rattle.stn_walk.specs.Trails.{Trail, IsCut}
use Rattle.stn_walk.proofs.path.Path.go_on_or_close.Goals as goal

pub slice_bounds-open-count : goal.slice_bounds-open-count
slice_bounds-open-count g c =
    let e = ap (λ (xs : List ℕ). length xs) (c.deref.ensures.value ∙ ap (λ (t : Trail). t.arcs) c.self.view_is) in
    let low = c.in-Some.ensures.0 in
    let points = ap (λ (t : Trail). length t.points) c.self.view_is in
    let many = c.requires.many in
    omega arith

pub sum_of-requires : goal.sum_of-requires
sum_of-requires g c =
    let P : ℕ → Type 0 = λ n. n < length (g.A.ArcList.list c.args.arcs.now) in
    let e = c.deref.ensures.value ∙ ap (λ (t : Trail). t.arcs) c.self.view_is in
    All-take P _ _ (All-drop P _ _ (subst (All P) (sym e) c.requires.range))

pub returns-then-sum-lt0-clause-goes : goal.returns-then-sum-lt0-clause-goes
returns-then-sum-lt0-clause-goes g c =
    let list = g.A.ArcList.list c.args.arcs.now in
    let place = c.in-Some.place in
    let e = c.deref.ensures.value ∙ ap (λ (t : Trail). t.arcs) c.self.view_is in
    let a = rw take_rest at c.in_ok-extend_from_slice.ensures.items in
    let b = ap (λ (xs : List ℕ). xs ++ drop place c.deref.result.now) c.in_ok-closed.ensures.items in
    let sum : c.sum_of.result ≡ weight list (drop place c.args.self.now.arcs) = (rw take_rest at c.sum_of.ensures.sum) ∙ ap (λ (xs : List ℕ). weight list (drop place xs)) e in
    let bound = ap (λ a. a.bound) c.arc_at-arc.ensures.arc in
    let low = c.arc_at-arc.ensures.within.low in
    let high = c.arc_at-arc.ensures.within.high in
    let test = c.if-sum-lt0.true in
    record {
      place = place;
      within = c.in-Some.ensures.0;
      same = c.in-Some.ensures.1 ∙ ap (λ a. a.to.0) c.arc_at-arc.ensures.arc;
      arcs = c.in_ok-push-2.ensures.items ∙ ap (λ (xs : List ℕ). xs ++ c.args.n ∷ []) (a ∙ b ∙ ap (λ (xs : List ℕ). drop place xs) e);
      negative = omega (arith, ints);
    }

pub returns-clause-goes : goal.returns-clause-goes
returns-clause-goes g c =
    let list = g.A.ArcList.list c.args.arcs.now in
    let place = c.in-Some.place in
    let e = c.deref.ensures.value ∙ ap (λ (t : Trail). t.arcs) c.self.view_is in
    let sum : c.sum_of.result ≡ weight list (drop place c.args.self.now.arcs) = (rw take_rest at c.sum_of.ensures.sum) ∙ ap (λ (xs : List ℕ). weight list (drop place xs)) e in
    let bound = ap (λ a. a.bound) c.arc_at-arc.ensures.arc in
    let low = c.arc_at-arc.ensures.within.low in
    let high = c.arc_at-arc.ensures.within.high in
    let test = c.if-sum-lt0.false in
    let light : pos 0 ≤ℤ (weight list (drop place c.args.self.now.arcs) +ℤ bound_at list c.args.n) = omega (arith, ints) in
    let cut : IsCut list c.args.n place c.args.self.now c.cut.new.self = record {
      within = c.in-Some.ensures.0;
      same = c.in-Some.ensures.1 ∙ ap (λ a. a.to.0) c.arc_at-arc.ensures.arc;
      points = c.cut.ensures.points;
      arcs = c.cut.ensures.arcs;
    } in
    inr (place, cut, light)
