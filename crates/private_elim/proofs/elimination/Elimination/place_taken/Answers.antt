use Rattle.std.proofs.Common.{◌≡◌, ◌<◌, ℕ, slice_index_or, List, true, length, map, sym, ap, ◌∙◌, arith}
use Rattle.std.specs.List.{AllByRecursion}
use Rattle.std.proofs.lemmas.Bool.{false≢true}
use Rattle.std.proofs.lemmas.List.{length-map, get_or-map}
use Rattle.std.proofs.lemmas.List.Elements.{All-from_recursion}
use Rattle.stn_model.specs.declared.ids.PointId.{PointId}
use Rattle.elim_step.specs.Eliminated.{point_at}
use Rattle.private_elim.specs.Locals.{LocalView, private_at, passes_at, is_private_in}
use Rattle.private_elim.proofs.locals.Places.{place_found}
use Rattle.private_elim.proofs.elimination.Elimination.place_taken.Goals as goal

-- the number that is read is that of the order
number_at : (order : List PointId) (n : ℕ) (p : PointId) → n < length order → p ≡ slice_index_or order n p → point_at (map (λ q. q.0) order) n ≡ p.0
number_at order n p lt is = get_or-map (λ q. q.0) order n p 0 lt ∙ ap (λ q. q.0) (sym is)

-- it is private
private_number : (v : LocalView) (order : List ℕ) (n : ℕ) → AllByRecursion (λ p. is_private_in v p ≡ true) order → n < length order
    → is_private_in v (point_at order n) ≡ true
private_number v order n private lt = All-from_recursion (λ p. is_private_in v p ≡ true) order private n 0 lt

pub unreachable-requires : goal.unreachable-requires
unreachable-requires g c =
    let e = c.self.inside in
    let within : c.args.n < length (map (λ p. p.0) e.order.items) = (rw (← c.self.view_is) at c.requires) in
    let at = number_at e.order.items c.args.n c.index.result.now (omega (arith, within, length-map e.order.items (λ p. p.0))) c.index.ensures in
    let private = private_number e.local (map (λ p. p.0) e.order.items) c.args.n c.self.invariant.taken.private within in
    false≢true (ap (passes_at (private_at e.local)) c.in-None.ensures ∙ ap (is_private_in e.local) (sym at) ∙ private)

pub returns-clause-within : goal.returns-clause-within
returns-clause-within g c =
    rw (← c.self.view_is) (place_found c.self.inside.local.points c.index.result.now.0 c.in-Some.place (sym c.in-Some.ensures)).0

pub returns-clause-point : goal.returns-clause-point
returns-clause-point g c =
    let e = c.self.inside in
    let within : c.args.n < length (map (λ p. p.0) e.order.items) = (rw (← c.self.view_is) at c.requires) in
    let at = number_at e.order.items c.args.n c.index.result.now (omega (arith, within, length-map e.order.items (λ p. p.0))) c.index.ensures in
    rw (← c.self.view_is) ((place_found e.local.points c.index.result.now.0 c.in-Some.place (sym c.in-Some.ensures)).1 ∙ sym at)
