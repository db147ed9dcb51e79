use Rattle.std.proofs.Common.{◌≡◌, ℕ, ◌+◌, ◌<◌, List, [], ◌∷◌, ◌++◌, length, map, take, get_or, Option, Some, None, sym, ap, ◌∙◌}
use Rattle.std.proofs.lemmas.List.{take_more, take_all, map_push}
use Rattle.tri_solve.specs.declared.label.Label.{Label}
use Rattle.tri_solve.specs.Labels.{AreLabels}
use Rattle.tri_solve.proofs.distances.whole.Goals as goal

labels_more : (labels : List (Option Label)) (n : ℕ) (l : Label) (old new : List Label) → n < length labels → get_or labels n None ≡ Some l → new ≡ old ++ l ∷ []
    → AreLabels (take n labels) old → AreLabels (take (n + 1) labels) new
labels_more labels n l old new lt is pushed h =
    take_more labels n None lt ∙ ap (λ (o : Option Label). take n labels ++ o ∷ []) is ∙ ap (λ (xs : List (Option Label)). xs ++ Some l ∷ []) h
    ∙ sym (map_push (λ (k : Label). Some k) old l) ∙ ap (map (λ (k : Label). Some k)) (sym pushed)

pub unreachable-requires : goal.unreachable-requires
unreachable-requires c =
    let there = c.requires c.loop-label.label-index c.loop-label-test.true in
    c.in_default.not-Some there.0 there.1

pub loop-label-preserved : goal.loop-label-preserved
loop-label-preserved c = record {
  taken = labels_more c.args.labels.now c.loop-label.label-index c.in-Some.label c.loop-label.whole.items c.push.new.self.items c.loop-label-test.true c.in-Some.is
      c.in_ok-push.ensures.items c.loop-label.invariant.taken;
}

pub returns : goal.returns
returns c = sym (take_all c.loop-label.label-index c.args.labels.now c.loop-label-test.false) ∙ c.loop-label.invariant.taken
