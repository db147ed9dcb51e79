use Rattle.std.proofs.Common.{take, drop, sym, subst, arith, ◌∙◌}
use Rattle.std.proofs.lemmas.List.{take_rest, length-drop}
use Rattle.std.proofs.Math.Seq.{take-add}
use Rattle.std.proofs.KnownBytes.{Appends-trans}
use Rattle.std.specs.Io.KnownBytes.{Appends}
use Rattle.stn_io.proofs.whole.write_all.Goals as goal

pub loop-at-preserved : goal.loop-at-preserved
loop-at-preserved g c =
    let at = c.loop-at.at in
    let n = c.in-Ok.count in
    let bytes = c.args.bytes.now in
    let bound = rw take_rest at c.in-Ok.ensures.bound in
    record {
      within = omega (arith, length-drop at bytes);
      taken = subst (Appends (g.K.Sink.state c.args.sink.now).taken (g.K.Sink.state c.write.new.self).taken) (sym (take-add at n bytes))
          (Appends-trans (g.K.Sink.state c.args.sink.now).taken (g.K.Sink.state c.loop-at.sink).taken
          (g.K.Sink.state c.write.new.self).taken (take at bytes) (take n (drop at bytes)) c.loop-at.invariant.taken
          (rw take_rest at c.in-Ok.ensures.bytes));
      kept = c.in-Ok.ensures.cause.kept ∙ c.loop-at.invariant.kept;
    }
