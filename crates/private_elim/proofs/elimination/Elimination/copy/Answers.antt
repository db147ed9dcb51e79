use Rattle.std.proofs.Common.{◌≡◌, ◌&&◌, not, ap, sym, ◌∙◌, get_or, length}
use Rattle.elim_step.specs.Eliminates.{count_below, remains}
use Rattle.elim_step.specs.JoinedPlaces.{is_joined}
use Rattle.private_elim.specs.Locals.{LocalView}
use Rattle.private_elim.proofs.elimination.Elimination.copy.Goals as goal

pub invariant_of-result : goal.invariant_of-result
invariant_of-result g c =
    let e = c.self.inside in
    let h = c.self.invariant in
    let cells : g.R.Rows.at c.in_ok-rows.rows ≡ g.R.Rows.at e.rows =
    (λ t p q. c.in_ok-rows.ensures.cells p q t) in
    let joins : is_joined c.in_ok-joins.joins ≡ is_joined e.joins = (λ t p q. c.in_ok-joins.ensures.pairs p q t) in
    let size : c.in_ok-joins.joins.size ≡ e.joins.size = c.in_ok-joins.ensures.size in
    let local : c.in_ok-local.local ≡ e.local = c.in_ok-local.ensures in
    let remain : c.in_ok-remain.remain.items ≡ e.remain.items = c.in_ok-remain.ensures.items ∙ c.as_slice.ensures.value in
    let gone : c.in_ok-gone.gone.items ≡ e.gone.items = c.in_ok-gone.ensures.items ∙ c.as_slice-2.ensures.value in
    let order : c.in_ok-order.order.items ≡ e.order.items = c.in_ok-order.ensures.items ∙ c.as_slice-3.ensures.value in
    let many : length e.local.points ≡ length c.in_ok-local.local.points = ap (λ (l : LocalView). length l.points) (sym local) in
    record {
      square = c.in_ok-rows.ensures.places ∙ h.square ∙ many;
      joins_size = size ∙ h.joins_size ∙ many;
      gone_len = ap length gone ∙ h.gone_len ∙ many;
      gone = λ p here. ap (λ xs. get_or xs p 0) gone ∙ h.gone p (rw remain at here)
          ∙ (λ t. count_below (λ q. not (remains (sym remain t) q) && sym joins t p q) (sym size t));
      roomy = λ p q here. c.in_ok-rows.ensures.room p q ∙ h.roomy p q (sym (c.in_ok-joins.ensures.pairs p q) ∙ here);
      taken = rw (local, order, cells, joins, remain) h.taken;
    }
