use Rattle.std.proofs.Common.{ℕ, ◌+◌, Bool, List, length, get_or, take, sym, ap, subst, ◌∙◌, arith}
use Rattle.std.proofs.lemmas.List.{take_all}
use Rattle.stn_model.specs.Net.{is_given}
use Rattle.mastn.specs.Repairs.{AnswersArc, AnswersWalk, Adds}
use Rattle.mastn.proofs.Answering.{AnswersWalk-more, Adds-nothing}
use Rattle.mastn.proofs.repair.add_answers.Goals as goal
use Rattle.mastn.proofs.repair.add_answers.Goals.{then-is_given+in_ok-add_answer, else-is_given}

pub loop-n-preserved : goal.loop-n-preserved
loop-n-preserved c =
    let net = c.args.net.now in
    let items = c.arcs-n-items.result.now in
    let i = c.loop-n.n-index in
    let n = get_or items i 0 in
    let before = c.loop-n.text.items in
    let step = λ (new : List ℕ) (here : Adds (AnswersArc (is_given net n) net n) before new).
    AnswersWalk-more net c.args.walk.now items i c.args.text.now.items before new c.arcs-n-items.ensures c.loop-n-test.true c.loop-n.invariant.text here in
    elim c.if-is_given.branch [
      | then-is_given+in_ok-add_answer w ↦ (
          let given = sym c.is_given.ensures ∙ w.if-is_given.true in
          let here = subst (λ (b : Bool). Adds (AnswersArc b net n) before w.add_answer.new.text.items) (sym given) w.in_ok-add_answer.ensures.text in
          record {
            text = subst (λ xs. Adds (AnswersWalk net (take (i + 1) c.args.walk.now)) c.args.text.now.items xs) (sym (ap (λ t. t.items) w.text-is)) (step w.add_answer.new.text.items here);
            other = w.other-is ∙ w.in_ok-add_answer.ensures.other;
          })
      | else-is_given w ↦ (
          let given = sym c.is_given.ensures ∙ w.if-is_given.false in
          record {
            text = subst (λ xs. Adds (AnswersWalk net (take (i + 1) c.args.walk.now)) c.args.text.now.items xs) (sym (ap (λ t. t.items) w.text-is))
                (step before (Adds-nothing net n (is_given net n) before given));
            other = w.other-is ∙ c.loop-n.invariant.other;
          })
    ]

pub returns : goal.returns
returns c =
    let all = take_all c.loop-n.n-index c.args.walk.now (let same = ap length c.arcs-n-items.ensures in omega (arith, c.loop-n-test.false)) in
    subst (λ (ns : List ℕ). Adds (AnswersWalk c.args.net.now ns) c.args.text.now.items c.loop-n.text.items) all c.loop-n.invariant.text
