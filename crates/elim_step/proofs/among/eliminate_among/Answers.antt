use Rattle.std.proofs.Common.{◌∙◌, ◌&&◌}
use Rattle.stn_walk.specs.Eliminations.{is_in}
use Rattle.elim_step.specs.Regions.{region_after}
use Rattle.elim_step.proofs.Roomings.{among_made, row_kept}
use Rattle.elim_step.proofs.among.eliminate_among.Goals as goal

pub lower_among-requires-clause-room : goal.lower_among-requires-clause-room
lower_among-requires-clause-room g c = λ i j at_i at_j apart.
    among_made _ i j c.args.neighbours.now _ (c.in_ok-make_room_among.ensures.room i j) apart at_i at_j

pub returns-clause-step : goal.returns-clause-step
returns-clause-step g c =
    let list = c.args.neighbours.now in
    let k = c.args.k in
    let same = c.in_ok-make_room_among.ensures.cells in (
      c.in_default.ensures.none,
      λ p q. c.lower_among.ensures.cells p q
          ∙ (λ t. region_after k (λ a b. is_in list a && is_in list b) (λ x y. same x y t) p q),
    )

pub returns-clause-room : goal.returns-clause-room
returns-clause-room g c = λ p q had.
    c.lower_among.ensures.room p q ∙ row_kept _ _ _ (c.in_ok-make_room_among.ensures.room p q) had
