use Rattle.std.proofs.Common.{◌≡◌, ◌+◌, ◌<◌, ◌≤◌, ◌++◌, ◌∙◌, ap, length, take, subst, arith}
use Rattle.std.specs.Io.KnownBytes.{Consumes, IsAtEnd}
use Rattle.std.proofs.KnownBytes.{Consumes-kept, Consumes-trans}
use Rattle.std.proofs.lemmas.List.{length-append, length-take, take-append-le}
use Rattle.stn_io.specs.Bytes.{Loses}
use Rattle.stn_io.proofs.Losses.{loses_at_most, Loses-from_consumes, nothing_more, all_at_end, none_at_end, short_at_end}
use Rattle.stn_io.proofs.whole.read_all.Goals as goal

pub returns-in_default-read-clause-fewer : goal.returns-in_default-read-clause-fewer
returns-in_default-read-clause-fewer g c =
    let all = c.pieces.all.items in
    λ _. loses_at_most _ _ all c.args.limit
    (Consumes-kept (g.S.Source.state c.args.source.now).left (g.S.Source.state c.pieces.source).left
    (g.S.Source.state c.read.new.self).left
    all c.pieces.invariant.bytes c.in_default-read.ensures.bytes)
    c.pieces.invariant.short

at_end : (g : _) (c : goal.After-drop-buffer-then-count-eq0 g)
    → Consumes (g.S.Source.state c.args.source.now).left (g.S.Source.state c.read.new.self).left c.pieces.all.items
    × IsAtEnd (g.S.Source.state c.read.new.self).left
at_end g c =
    let same = c.read.auto.out in
    let piece = c.pieces.auto.piece in
    let some : 0 < length c.read.new.out = omega (arith, length-take c.min-most.result c.pieces.piece) in (
      nothing_more (g.S.Source.state c.args.source.now).left (g.S.Source.state c.pieces.source).left
          (g.S.Source.state c.read.new.self).left c.pieces.all.items c.read.new.out c.in-Ok-read.count
          c.pieces.invariant.bytes c.in-Ok-read.ensures.bytes.0 c.if-count-eq0.true,
      c.in-Ok-read.ensures.bytes.1 c.if-count-eq0.true some,
    )

pub returns-then-count-eq0-clause-bytes : goal.returns-then-count-eq0-clause-bytes
returns-then-count-eq0-clause-bytes g c =
    let end = at_end g c in
    all_at_end (g.S.Source.state c.args.source.now).left (g.S.Source.state c.read.new.self).left c.pieces.all.items end.0 end.1

pub returns-then-count-eq0-clause-ended : goal.returns-then-count-eq0-clause-ended
returns-then-count-eq0-clause-ended g c =
    let end = at_end g c in
    none_at_end (g.S.Source.state c.args.source.now).left (g.S.Source.state c.read.new.self).left c.pieces.all.items end.0 end.1

pub returns-then-count-eq0-clause-longer : goal.returns-then-count-eq0-clause-longer
returns-then-count-eq0-clause-longer g c =
    let end = at_end g c in
    short_at_end (g.S.Source.state c.args.source.now).left (g.S.Source.state c.read.new.self).left c.pieces.all.items c.args.limit end.0 end.1 c.pieces.invariant.short

pub returns-then-count-limit-clause-long : goal.returns-then-count-limit-clause-long
returns-then-count-limit-clause-long g c =
    let all = c.pieces.all.items in
    let more = take c.in-Ok-read.count c.read.new.out in
    let bound = c.in-Ok-read.ensures.bound in
    let same = c.read.auto.out in
    let piece = c.pieces.auto.piece in
    let old = (g.S.Source.state c.args.source.now).left in
    let new = (g.S.Source.state c.read.new.self).left in
    let many : length (all ++ more) ≡ c.args.limit + 1 =
    omega (arith, length-append all more, length-take c.min-most.result c.pieces.piece) in
    λ _. subst (Loses old new) many
    (Loses-from_consumes old new (all ++ more)
    (Consumes-trans old (g.S.Source.state c.pieces.source).left new all more c.pieces.invariant.bytes c.in-Ok-read.ensures.bytes.0))

pub pieces-preserved : goal.pieces-preserved
pieces-preserved g c =
    let all = c.pieces.all.items in
    let more = take c.in-Ok-read.count c.read.new.out in
    let bound = c.in-Ok-read.ensures.bound in
    let fits : c.in-Ok-read.count ≤ length c.read.new.out = bound.0 in
    let items : c.extend_from_slice.new.self.items ≡ all ++ more =
    c.in-Ok-extend_from_slice.ensures.items ∙ ap (λ ys. all ++ ys) (take-append-le _ _ _ fits) in
    let few : length (all ++ more) ≤ c.args.limit = omega (arith, length-append all more) in
    let old = (g.S.Source.state c.args.source.now).left in
    let new = (g.S.Source.state c.read.new.self).left in
    record {
      short = rw items few;
      bytes = rw items (Consumes-trans old (g.S.Source.state c.pieces.source).left new all more c.pieces.invariant.bytes c.in-Ok-read.ensures.bytes.0);
      kept = c.in-Ok-read.ensures.cause.kept ∙ c.pieces.invariant.kept;
    }

pub returns-in_default-extend_from_slice-clause-fewer : goal.returns-in_default-extend_from_slice-clause-fewer
returns-in_default-extend_from_slice-clause-fewer g c =
    let all = c.pieces.all.items in
    let more = take c.in-Ok-read.count c.read.new.out in
    let bound = c.in-Ok-read.ensures.bound in
    let few : length (all ++ more) ≤ c.args.limit = omega (arith, length-append all more) in
    λ _. loses_at_most _ _ (all ++ more) c.args.limit
    (Consumes-trans (g.S.Source.state c.args.source.now).left
    (g.S.Source.state c.pieces.source).left (g.S.Source.state c.read.new.self).left
    all more c.pieces.invariant.bytes c.in-Ok-read.ensures.bytes.0)
    few
