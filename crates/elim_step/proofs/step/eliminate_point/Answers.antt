use Rattle.std.proofs.Common.{◌≡◌, ◌∙◌, None, refl, ◌&&◌}
use Rattle.elim_step.specs.Eliminates.{is_neighbour}
use Rattle.elim_step.specs.Regions.{region_after}
use Rattle.elim_step.proofs.Whole.{whole, none-from}
use Rattle.elim_step.proofs.step.eliminate_point.Goals as goal

pub returns-clause-step : goal.returns-clause-step
returns-clause-step g c =
    let f = g.R.Rows.at c.args.rows.now in
    let m = g.R.Rows.at c.make_rooms.new.rows in
    let remain = c.args.remain.now in
    let k = c.args.k in
    let no_self : f k k ≡ None =
    none-from (f k k) (λ here. (g.met.R.Rows.room_is_within c.args.rows.now k k (g.met.R.Rows.cells_have_room c.args.rows.now k k here)).2 refl) in (
      c.in_default.ensures.none,
      λ p q. c.lower_all.ensures.cells p q
          ∙ (λ t. region_after k (λ a b. is_neighbour remain (λ x y. c.make_rooms.ensures.cells x y t) k a
          && is_neighbour remain (λ x y. c.make_rooms.ensures.cells x y t) k b) (λ x y. c.make_rooms.ensures.cells x y t) p q)
          ∙ whole remain k f no_self p q,
    )
