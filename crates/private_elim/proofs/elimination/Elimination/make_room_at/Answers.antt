use Rattle.std.proofs.Common.{◌≡◌, true, ◌&&◌, ◌∙◌, arith}
use Rattle.stn_walk.specs.Eliminations.{is_in}
use Rattle.dist_rows.specs.Places.{lists}
use Rattle.elim_step.specs.Eliminates.{remains}
use Rattle.elim_step.specs.JoinedPlaces.{is_joined}
use Rattle.private_elim.proofs.sweep.Rooms.{listed_in, are_within, are_rising, row_room}
use Rattle.private_elim.proofs.elimination.Elimination.make_room_at.Goals as goal

pub make_room_row-requires-clause-others : goal.make_room_row-requires-clause-others
make_room_row-requires-clause-others g c =
    let i = c.self.inside in
    let size = (rw (← c.self.view_is) at c.requires.size) in
    rw c.as_slice.ensures.value
    (are_within (g.R.Rows.places c.args.finals.now) c.neighbours.new.list.items
    (λ p h. omega (arith, c.in_ok-neighbours.ensures.within p h, c.self.invariant.joins_size, size)))

pub make_room_row-requires-clause-rising : goal.make_room_row-requires-clause-rising
make_room_row-requires-clause-rising g c = rw c.as_slice.ensures.value (are_rising c.neighbours.new.list.items c.in_ok-neighbours.ensures.rising)

pub returns-clause-room : goal.returns-clause-room
returns-clause-room g c q low apart joined =
    let i = c.self.inside in
    let k = c.args.place in
    let within = (rw (← c.self.view_is) at c.requires.within) in
    let lq = (rw (← c.self.view_is) at low) in
    let len = (rw (← c.self.view_is) at c.requires.len) in
    let is : is_joined i.joins k q ≡ true = c.self.invariant.taken.joins k q within lq apart ∙ (rw (← c.self.view_is) at joined) in
    let all : remains c.args.all.now q ≡ true = c.requires.all q (omega arith) in
    let member : is_in c.neighbours.new.list.items q ≡ true = c.in_ok-neighbours.ensures.each q ∙ (λ t. all t && is t) in
    let listed : lists c.as_slice.result.now q ≡ true = rw c.as_slice.ensures.value (listed_in c.neighbours.new.list.items q ∙ member) in
    c.in_ok-make_room_row.ensures.room k q ∙ row_room k q (lists c.as_slice.result.now q) (g.R.Rows.has_room c.args.finals.now k q) apart listed
