use Rattle.std.proofs.Common.{◌≡◌, ℤ, to_z, of_z, w64, replicate, ap, ◌∙◌, arith}
use Rattle.std.proofs.lemmas.Int.{ints}
use Rattle.plain_solve.proofs.least.repeated.Goals as goal

pub returns : goal.returns
returns c =
    let same : to_z w64 (of_z w64 c.args.label) ≡ c.args.label = omega (arith, ints) in
    c.in_ok-times.ensures.items_if_clones_equal (λ y e. e) ∙ ap (λ (z : ℤ). replicate c.args.points z) same
