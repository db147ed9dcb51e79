use Rattle.std.proofs.Common.{◌∙◌, rules}
use Rattle.elim_step.specs.JoinedPlaces.{is_joined}
use Rattle.private_elim.proofs.taking.Laying.{laid_more}
use Rattle.private_elim.proofs.start.lay_arcs.Goals as goal

pub loop-k-preserved : goal.loop-k-preserved
loop-k-preserved g c =
    let was = c.loop-k.invariant in
    record {
      size = c.lay_arc.ensures.size ∙ was.size;
      joins_size = c.lay_arc.ensures.joins_size ∙ was.joins_size;
      room = c.in_ok-lay_arc.ensures.room;
      laid = laid_more c.args.local.now c.size-places.ensures.valid c.loop-k.k (search rules) (g.R.Rows.at c.loop-k.rows)
          (g.R.Rows.at c.lay_arc.new.rows)
          (is_joined c.loop-k.joins) (is_joined c.lay_arc.new.joins) was.laid c.in_ok-lay_arc.ensures.arc;
    }
