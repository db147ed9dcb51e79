use Rattle.std.proofs.Common.{◌≡◌, arith, rules, true, Some}
use Rattle.std.proofs.lemmas.Bool.Decides.{nat_tests}
use Rattle.dist_rows.specs.Cells.{is_lower}
use Rattle.dist_rows.specs.Slots.{cell_in, holds_light, cell_in-slot_for}
use Rattle.dist_rows.specs.Matrix.{cell_at}
use Rattle.dist_rows.proofs.Matrices.{list_all-set, written}
use Rattle.dist_rows.proofs.matrix.MatrixRowsRows.lower.Goals as goal

pub invariant_of-self-clause-light : goal.invariant_of-self-clause-light
invariant_of-self-clause-light c =
    let light : holds_light c.of.result ≡ true = rw c.of.ensures (let h = c.requires.light in grind (arith, nat_tests)) in
    list_all-set c.args.self.now.slots.items c.place-place.result c.of.result c.args.self.now.light light

pub returns-then-lower-clause-cells : goal.returns-then-lower-clause-cells
returns-then-lower-clause-cells c =
    let s = c.args.self.now in
    let lower : is_lower (cell_at s.size s.slots.items c.args.i c.args.j) c.args.cell ≡ true = search rules in
    let stored : cell_in c.of.result ≡ Some c.args.cell = rw c.of.ensures (cell_in-slot_for c.args.cell) in
    rw c.place-place.ensures.value (written s.size s.slots.items c.args.i c.args.j c.args.cell c.of.result stored (search rules) c.requires.room lower)
