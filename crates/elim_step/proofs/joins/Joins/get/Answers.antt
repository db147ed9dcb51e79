use Rattle.std.proofs.Common.{sym, subst}
use Rattle.dist_rows.specs.Places.{AreRisingPlaces}
use Rattle.elim_step.specs.PlaceLists.{PlaceListView}
use Rattle.elim_step.proofs.JoinWrites.{list_read}
use Rattle.elim_step.proofs.joins.Joins.get.Goals as goal

pub contains-requires : goal.contains-requires
contains-requires c =
    let s = c.args.self.now in
    let read = list_read s.size s.lists.items s.kept c.args.i c.requires.0 _ c.index.ensures in
    subst (λ (l : PlaceListView). AreRisingPlaces l.places) (sym read) (s.kept.rising c.args.i)
