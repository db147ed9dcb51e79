use Rattle.std.proofs.Common.{◌≡◌, true, false, List, length, Option, sym, ap, ◌∙◌, subst}
use Rattle.tri_solve.specs.declared.label.Label.{Label}
use Rattle.tri_solve.specs.Labels.{number_at}
use Rattle.tri_solve.specs.Turns.{starts, IsPassed, ArePassed}
use Rattle.tri_solve.proofs.PassTurns.{take_lent}
use Rattle.tri_solve.proofs.Rooted.{starts_light, first_light}
use Rattle.tri_solve.proofs.passes.pass_both.Goals as goal

pub pass-requires-clause-range : goal.pass-requires-clause-range
pass-requires-clause-range c =
    let begin : c.as_mut_slice.result.now ≡ starts (length c.args.bounds.now.order) c.args.source =
    c.as_mut_slice.ensures.value ∙ c.in_ok-labels.ensures ∙ ap (λ n. starts n c.args.source) c.points.ensures.count in
    λ p d e. starts_light c.args.bounds.now c.points.ensures.valid c.args.source c.requires.within p d (sym (ap (λ (l : List (Option Label)). number_at l p) begin) ∙ e)

pub pass-requires-2-clause-range : goal.pass-requires-2-clause-range
pass-requires-2-clause-range c =
    let begin : c.as_mut_slice.result.now ≡ starts (length c.args.bounds.now.order) c.args.source =
    c.as_mut_slice.ensures.value ∙ c.in_ok-labels.ensures ∙ ap (λ n. starts n c.args.source) c.points.ensures.count in
    let up = subst (λ (o : List (Option Label)). IsPassed c.args.bounds.now true o c.pass.new.labels) begin c.pass.ensures in
    let lent : length c.pass.new.labels ≡ c.in_ok-labels.labels.len = c.pass.ensures.len ∙ c.as_mut_slice.ensures.len in
    let middle : c.as_mut_slice-2.result.now ≡ c.pass.new.labels = c.as_mut_slice-2.ensures.value ∙ take_lent c.in_ok-labels.labels.len c.pass.new.labels _ lent in
    λ p d e. first_light c.args.bounds.now c.points.ensures.valid c.args.source c.requires.within c.pass.new.labels up p d
    (sym (ap (λ (l : List (Option Label)). number_at l p) middle) ∙ e)

pub returns-clause-passed : goal.returns-clause-passed
returns-clause-passed c =
    let begin : c.as_mut_slice.result.now ≡ starts (length c.args.bounds.now.order) c.args.source =
    c.as_mut_slice.ensures.value ∙ c.in_ok-labels.ensures ∙ ap (λ n. starts n c.args.source) c.points.ensures.count in
    let up = subst (λ (o : List (Option Label)). IsPassed c.args.bounds.now true o c.pass.new.labels) begin c.pass.ensures in
    let lent : length c.pass.new.labels ≡ c.in_ok-labels.labels.len = c.pass.ensures.len ∙ c.as_mut_slice.ensures.len in
    let middle : c.as_mut_slice-2.result.now ≡ c.pass.new.labels = c.as_mut_slice-2.ensures.value ∙ take_lent c.in_ok-labels.labels.len c.pass.new.labels _ lent in
    let down = subst (λ (o : List (Option Label)). IsPassed c.args.bounds.now false o c.pass-2.new.labels) middle c.pass-2.ensures in
    let lent_again : length c.pass-2.new.labels ≡ c.in_ok-labels.labels.len = c.pass-2.ensures.len ∙ ap length middle ∙ lent in
    subst (ArePassed c.args.bounds.now c.args.source) (sym (take_lent c.in_ok-labels.labels.len c.pass-2.new.labels _ lent_again))
    (record { first = c.pass.new.labels; up = up; down = down })
