use Rattle.std.proofs.Common.{[], ◌∷◌, refl, arith}
use Rattle.std.specs.List.{All, Contains}
use Rattle.std.proofs.lemmas.List.Elements.{All-contains}
use Rattle.std.proofs.lemmas.Result.{IfOk-weaker}
use Rattle.least_repair.proofs.loosening.lead_round.Goals as goal

pub returns-clause-unnamed : goal.returns-clause-unnamed
returns-clause-unnamed c =
    let n = c.args.arc in
    let round = c.in_ok-round.round in
    IfOk-weaker c.prune_cycle.result (All (Contains round)) (λ walk. Contains walk n → ⊥)
    (λ walk part here. All-contains (λ m. Contains (n ∷ []) m → ⊥) round n c.in_ok-round.ensures.avoids
    (All-contains (Contains round) walk n part here) (0, omega arith, refl))
    c.prune_cycle.ensures.part
