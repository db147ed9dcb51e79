use Rattle.std.proofs.Common.{◌++◌, ap, sym, ◌∙◌, length, take, drop}
use Rattle.std.proofs.Math.Seq.{take-append_seam}
use Rattle.std.proofs.lemmas.List.{take-append-drop}
use Rattle.shared_graph.proofs.finish.is_prefix.Goals as goal

pub returns-then-front-all : goal.returns-then-front-all
returns-then-front-all c =
    let front = c.args.front.now in
    let all = c.args.all.now in (
      λ h. (drop (length front) all, sym (take-append-drop (length front) all) ∙ ap (λ xs. xs ++ drop (length front) all) (sym (c.same_entries.ensures.0 h))),
      λ p. c.same_entries.ensures.1 (sym (ap (take (length front)) p.1 ∙ take-append_seam front p.0)),
    )
