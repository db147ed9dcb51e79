use Rattle.std.proofs.Common.{◌≡◌, ◌-◌, ◌&&◌, not, ap, sym, ◌∙◌, subst, map, arith, length}
use Rattle.std.proofs.lemmas.List.{get_or_default}
use Rattle.std.specs.Prelude.{reverse}
use Rattle.stn_model.specs.declared.ids.PointId.{PointId}
use Rattle.elim_step.specs.Eliminates.{remains, count_below}
use Rattle.elim_step.specs.Eliminated.{point_at}
use Rattle.elim_step.specs.JoinedPlaces.{is_joined}
use Rattle.private_elim.specs.Degrees.{gone_of}
use Rattle.private_elim.specs.Picked.{IsDegree}
use Rattle.private_elim.proofs.taking.Counts.{count-split}
use Rattle.private_elim.proofs.taking.DegreeFacts.{degree_is}
use Rattle.private_elim.proofs.elimination.Elimination.degree.Goals as goal

pub overflow_sub-result : goal.overflow_sub-result
overflow_sub-result g c =
    let e = c.self.inside in
    let h = c.self.invariant in
    let k = c.args.place in
    let within = (rw (← c.self.view_is) at c.requires.within) in
    let left = (rw (← c.self.view_is) at c.requires.left) in
    let len = h.gone_len in
    let gone : c.index.result.now ≡ gone_of e.remain.items e.joins k =
    c.index.ensures ∙ get_or_default e.gone.items k c.index.result.now 0 (omega arith) ∙ h.gone k (h.taken.cells.remaining k within ∙ ap not left) in
    let split = count-split (remains e.remain.items) (is_joined e.joins k) e.joins.size in
    omega (arith, gone, split, c.count_joined.ensures)

pub returns : goal.returns
returns g c =
    let e = c.self.inside in
    let v = e.local in
    let h = c.self.invariant in
    let order = map (λ (p : PointId). p.0) e.order.items in
    let k = c.args.place in
    let within = (rw (← c.self.view_is) at c.requires.within) in
    let left = (rw (← c.self.view_is) at c.requires.left) in
    let len = h.gone_len in
    let gone : c.index.result.now ≡ gone_of e.remain.items e.joins k =
    c.index.ensures ∙ get_or_default e.gone.items k c.index.result.now 0 (omega arith) ∙ h.gone k (h.taken.cells.remaining k within ∙ ap not left) in
    let split = count-split (remains e.remain.items) (is_joined e.joins k) e.joins.size in
    let size = ap (count_below (λ q. remains e.remain.items q && is_joined e.joins k q)) h.joins_size in
    let counted : c.count_joined.result - c.index.result.now ≡ count_below (λ q. remains e.remain.items q && is_joined e.joins k q) (length v.points) =
    omega (arith, gone, split, size, c.count_joined.ensures) in
    rw (← c.self.view_is)
    (subst (IsDegree v (reverse order) (point_at v.points k)) (sym counted)
    (degree_is v order (g.R.Rows.at e.rows) (is_joined e.joins) e.remain.items h.taken k within left))
