use Rattle.std.proofs.Common.{sym}
use Rattle.std.specs.Option.{option_map}
use Rattle.private_elim.proofs.sweep.Bounds.{rises-from_pairs}
use Rattle.private_elim.proofs.sweep.NextBounds.{next_none, next_some, next_least}
use Rattle.private_elim.proofs.back.Bounds.next.Goals as goal

pub returns-in_default-next_place-clause-none : goal.returns-in_default-next_place-clause-none
returns-in_default-next_place-clause-none g c =
    next_none c.args.self.now c.args.i.0 c.in-Some.row c.first_above-from.result (option_map (λ p. p.0) c.args.after) (sym c.in-Some.ensures.value)
    c.first_above-from.ensures.below c.in_default-next_place.ensures.none

pub returns-clause-some : goal.returns-clause-some
returns-clause-some g c =
    let b = c.args.self.now in
    let place = c.in-Some-next_place.place in
    let some = c.in-Some-next_place.ensures.some in
    rw c.point.ensures.value (
      c.first_above-from.ensures.above place some.0 some.1,
      next_some b c.args.i.0 c.in-Some.row c.first_above-from.result (option_map (λ p. p.0) c.args.after) (sym c.in-Some.ensures.value)
          c.first_above-from.ensures.below place (rises-from_pairs b.points c.point.ensures.rising) some.1 some.2,
    )

pub returns-clause-least : goal.returns-clause-least
returns-clause-least g c =
    let b = c.args.self.now in
    let place = c.in-Some-next_place.place in
    let some = c.in-Some-next_place.ensures.some in
    rw c.point.ensures.value
    (next_least b c.args.i.0 c.in-Some.row c.first_above-from.result (option_map (λ p. p.0) c.args.after) (sym c.in-Some.ensures.value)
    c.first_above-from.ensures.below place (rises-from_pairs b.points c.point.ensures.rising) some.1 c.in-Some-next_place.ensures.least)
