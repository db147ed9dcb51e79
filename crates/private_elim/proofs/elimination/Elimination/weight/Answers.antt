use Rattle.std.proofs.Common.{map, inl, inr, refl}
use Rattle.std.proofs.lemmas.Bool.{cases_eq}
use Rattle.elim_step.specs.JoinedPlaces.{is_joined}
use Rattle.elim_step.proofs.Whole.{none-from}
use Rattle.stn_model.specs.declared.ids.PointId.{PointId}
use Rattle.private_elim.proofs.taking.Takes.{weights_small}
use Rattle.private_elim.proofs.elimination.Elimination.weight.Goals as goal

pub returns-clause-light : goal.returns-clause-light
returns-clause-light g c =
    let e = c.self.inside in
    let h = c.self.invariant in
    let p = c.args.from in
    let q = c.args.to in
    let at = g.R.Rows.at e.rows in
    let within = (rw (← c.self.view_is) at c.requires.within) in
    let lp = within.0 in
    let lq = within.1 in
    rw (c.weight_of.ensures, c.get.ensures)
    (elim (cases_eq p q) [
      | inl same ↦ rw (none-from (at p q) (λ here. (g.met.R.Rows.room_is_within e.rows p q (g.met.R.Rows.cells_have_room e.rows p q here)).2 same)) tt
      | inr apart ↦ weights_small e.local (map (λ (p : PointId). p.0) e.order.items) at (is_joined e.joins) e.remain.items h.taken p q lp lq apart
    ])

pub returns-clause-same : goal.returns-clause-same
returns-clause-same g c same =
    let e = c.self.inside in
    let p = c.args.from in
    let q = c.args.to in
    let at = g.R.Rows.at e.rows in
    rw (c.weight_of.ensures, c.get.ensures)
    (rw (none-from (at p q) (λ here. (g.met.R.Rows.room_is_within e.rows p q (g.met.R.Rows.cells_have_room e.rows p q here)).2 same)) refl)
