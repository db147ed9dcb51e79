use Rattle.std.proofs.Common.{◌≡◌, ◌∙◌, rules, true}
use Rattle.stn_walk.proofs.Members.{is_in-at, is_in-cases}
use Rattle.elim_step.proofs.Roomings.{row_made, row_kept}
use Rattle.elim_step.proofs.room.make_room_pairs.Goals as goal

pub make_room_row-requires : goal.make_room_row-requires
make_room_row-requires g c =
    let was = c.loop-i.invariant in
    record {
      within = rw was.places (c.requires.within _ (is_in-at c.args.places.now c.loop-i.i-index (search rules)));
      others = λ m l. rw was.places (c.requires.all_within _ (is_in-at c.args.others.now m l));
      rising = c.requires.rising;
    }

pub loop-i-preserved : goal.loop-i-preserved
loop-i-preserved g c =
    let ns = c.args.places.now in
    let n = c.loop-i.i-index in
    let was = c.loop-i.invariant in
    let now = c.in_ok-make_room_row.ensures in
    record {
      cells = λ p q. now.cells p q ∙ was.cells p q;
      places = now.places ∙ was.places;
      roomy = now.roomy ∙ was.roomy;
      room = λ i j here at_j apart. is_in-cases {P = g.R.Rows.has_room c.make_room_row.new.self i j ≡ true} i ns n (search rules) here
          (λ h. row_kept _ _ _ (now.room i j) (was.room i j h at_j apart))
          (λ e. row_made _ i j c.args.others.now _ _ (now.room i j) e apart at_j);
      other_room = λ p q h. row_kept _ _ _ (now.room p q) (was.other_room p q h);
    }
