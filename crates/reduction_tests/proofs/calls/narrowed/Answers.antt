use Rattle.std.proofs.Common.{◌≡◌, sym, ◌∙◌, arith}
use Rattle.std.proofs.lemmas.Int.{ints}
use Rattle.reduction_tests.proofs.Listed.{placed_contained, window_at}
use Rattle.reduction_tests.proofs.calls.narrowed.Goals as goal

pub narrowed-requires : goal.narrowed-requires
narrowed-requires c =
    let points = c.args.local.now.points in
    let low = c.if-lo-lt0.false in
    let below = c.if-lo-gt1000.false in
    let high = c.if-hi-lt0.false in
    let above = c.if-hi-gt1000.false in
    window_at points c.as_slice.result.now _ c.as_slice.ensures
    (record {
      known = placed_contained points c.args.point c.in-Some.field-0 (sym c.place_of.ensures ∙ c.in-Some.is);
      not_z = c.if-point-eq0.false;
      range = record { lo_low = omega (arith, ints); lo_high = omega (arith, ints); hi_low = omega (arith, ints); hi_high = omega (arith, ints) };
    })
