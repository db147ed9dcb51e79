use Rattle.std.proofs.Common.{rules, ◌∙◌}
use Rattle.stn_walk.proofs.Members.{is_in-at}
use Rattle.elim_step.proofs.JoinWrites.{rooms_more}
use Rattle.elim_step.proofs.joins.Joins.reserve_all.Goals as goal

pub reserve-requires : goal.reserve-requires
reserve-requires c = rw c.loop-n.invariant.size (c.requires.within _ (is_in-at c.args.places.now c.loop-n.n (search rules)))

pub loop-n-preserved : goal.loop-n-preserved
loop-n-preserved c =
    let was = c.loop-n.invariant in
    let now = c.in_ok-reserve.ensures in
    record {
      size = now.size ∙ was.size;
      places = λ p. now.places p ∙ was.places p;
      room = rooms_more c.loop-n.self.lists.items c.reserve.new.self.lists.items c.args.places.now c.loop-n.n now.places now.rooms now.room was.room;
    }
