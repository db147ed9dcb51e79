use Rattle.std.proofs.Common.{sym, subst, ◌≡◌, ℕ, ◌<◌, true}
use Rattle.dist_rows.specs.Places.{AreRisingPlaces}
use Rattle.stn_walk.specs.Eliminations.{is_in}
use Rattle.elim_step.specs.PlaceLists.{PlaceListView}
use Rattle.elim_step.proofs.JoinWrites.{list_read}
use Rattle.elim_step.proofs.joins.Joins.joined.Goals as goal

pub returns-clause-rising : goal.returns-clause-rising
returns-clause-rising c =
    let s = c.args.self.now in
    let read = list_read s.size s.lists.items s.kept c.args.k c.requires _ c.index.ensures in
    rw (c.as_slice.ensures) (subst (λ (l : PlaceListView). AreRisingPlaces l.places) (sym read) (s.kept.rising c.args.k))

pub returns-clause-within : goal.returns-clause-within
returns-clause-within c =
    let s = c.args.self.now in
    let read = list_read s.size s.lists.items s.kept c.args.k c.requires _ c.index.ensures in
    rw (c.as_slice.ensures) (subst (λ (l : PlaceListView). (q : ℕ) → is_in l.places q ≡ true → q < s.size) (sym read) (λ q h. (s.kept.within c.args.k q h).0))
