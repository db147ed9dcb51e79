use Rattle.std.proofs.Common.{map}
use Rattle.private_elim.specs.Underway.{Fields}
use Rattle.private_elim.proofs.sweep.SweepTurns.{Turn, turn_of, asks_within, asks_all, asks_some, asks_others, asks_out, asks_back}
use Rattle.private_elim.proofs.sweep.SweepTurns.{asks_fresh, asks_forward, asks_finals, gives}
use Rattle.private_elim.proofs.elimination.Elimination.revisit.Goals as goal

pub revisit_rows-requires : goal.revisit_rows-requires
revisit_rows-requires g c =
    let i = c.self.inside in
    let e : Fields = record {
      local = i.local;
      order = map (λ p. p.0) i.order.items;
      places = g.R.Rows.places i.rows;
      at = g.R.Rows.at i.rows;
      joins = i.joins;
      remain = i.remain.items;
      gone = i.gone.items;
      room = g.R.Rows.has_room i.rows;
    } in
    let k = c.place_taken-place.result in
    let finals = c.args.finals.now in
    let size = g.R.Rows.places finals in
    let at = g.R.Rows.at finals in
    let room = g.R.Rows.has_room finals in
    let later = c.as_slice-2.result.now in
    let turn : Turn e c.args.n k g.entries size at room c.args.done.now.items later =
    turn_of e c.args.n k g.entries size at room c.args.done.now.items c.as_slice.result.now c.neighbours.new.list.items later c.self.invariant
    (λ p q here. g.met.R.Rows.room_is_within i.rows p q (g.met.R.Rows.cells_have_room i.rows p q here)) (rw (← c.self.view_is) at c.requires.1.1.1.1.0)
    (rw (← c.self.view_is) at c.requires.1.1.0) (rw (← c.self.view_is) at c.place_taken-place.ensures.within)
    (rw (← c.self.view_is) at c.place_taken-place.ensures.point)
    (rw (← c.self.view_is) at c.requires.1.1.1.0) (rw (← c.self.view_is) at c.requires.1.1.1.1.1) c.as_slice.ensures.value c.as_slice-2.ensures.value
    c.in_ok-neighbours.ensures.each c.in_ok-neighbours.ensures.rising c.in_ok-neighbours.ensures.within in
    record {
      within = asks_within e c.args.n k g.entries size at room c.args.done.now.items later turn;
      all_within = asks_all e c.args.n k g.entries size at room c.args.done.now.items later turn;
      some = asks_some e c.args.n k g.entries size at room c.args.done.now.items later turn;
      others = asks_others e c.args.n k g.entries size at room c.args.done.now.items later turn;
      rising = rw c.as_slice-2.ensures.value c.in_ok-neighbours.ensures.places;
      room_out = asks_out e c.args.n k g.entries size at room c.args.done.now.items later turn;
      room_back = asks_back e c.args.n k g.entries size at room c.args.done.now.items later turn;
      fresh = λ j h. asks_fresh e c.args.n k g.entries size at room c.args.done.now.items later turn j;
      forward = asks_forward e c.args.n k g.entries size at room c.args.done.now.items later turn;
      finals = asks_finals e c.args.n k g.entries size at room c.args.done.now.items later turn;
    }

pub returns-clause-swept : goal.returns-clause-swept
returns-clause-swept g c =
    let i = c.self.inside in
    let e : Fields = record {
      local = i.local;
      order = map (λ p. p.0) i.order.items;
      places = g.R.Rows.places i.rows;
      at = g.R.Rows.at i.rows;
      joins = i.joins;
      remain = i.remain.items;
      gone = i.gone.items;
      room = g.R.Rows.has_room i.rows;
    } in
    let k = c.place_taken-place.result in
    let finals = c.args.finals.now in
    let size = g.R.Rows.places finals in
    let at = g.R.Rows.at finals in
    let room = g.R.Rows.has_room finals in
    let later = c.as_slice-2.result.now in
    let turn : Turn e c.args.n k g.entries size at room c.args.done.now.items later =
    turn_of e c.args.n k g.entries size at room c.args.done.now.items c.as_slice.result.now c.neighbours.new.list.items later c.self.invariant
    (λ p q here. g.met.R.Rows.room_is_within i.rows p q (g.met.R.Rows.cells_have_room i.rows p q here)) (rw (← c.self.view_is) at c.requires.1.1.1.1.0)
    (rw (← c.self.view_is) at c.requires.1.1.0) (rw (← c.self.view_is) at c.place_taken-place.ensures.within)
    (rw (← c.self.view_is) at c.place_taken-place.ensures.point)
    (rw (← c.self.view_is) at c.requires.1.1.1.0) (rw (← c.self.view_is) at c.requires.1.1.1.1.1) c.as_slice.ensures.value c.as_slice-2.ensures.value
    c.in_ok-neighbours.ensures.each c.in_ok-neighbours.ensures.rising c.in_ok-neighbours.ensures.within in
    rw (← c.self.view_is) (gives e c.args.n k g.entries size at room c.args.done.now.items later turn _ c.revisit_rows.ensures.cells)
