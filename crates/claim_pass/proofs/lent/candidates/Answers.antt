use Rattle.std.proofs.Common.{Vec, Global, List, ◌≡◌, ◌+◌, ◌++◌, sym, ap, ◌∙◌, drop, subst}
use Rattle.elim_step.specs.declared.pick.Candidate.{Candidate}
use Rattle.shared_graph.specs.Interfaces.{IsInterface, own_points_of}
use Rattle.claim_pass.specs.Lent.{candidates_in}
use Rattle.claim_pass.proofs.Offers.{taken_from, taken_own, pushed, passed}
use Rattle.claim_pass.proofs.lent.candidates.Goals.{in-Some+in_ok-push, in_default}
use Rattle.claim_pass.proofs.lent.candidates.Goals as goal

pub loop-point-init : goal.loop-point-init
loop-point-init c =
    let v = c.args.shared.now in
    let items = c.own_points-own.result.now in
    let face = c.interface.ensures.face in
    ap (λ xs. xs ++ taken_from v.face v.state items) c.in_ok-candidates.ensures.items
    ∙ taken_own v.face v.state c.args.agent.0 items (subst IsInterface face c.own_points-own.ensures.valid)
    (c.own_points-own.ensures.points ∙ ap (λ f. own_points_of f c.args.agent.0) face)

pub loop-point-preserved : goal.loop-point-preserved
loop-point-preserved c =
    let v = c.args.shared.now in
    let items = c.own_points-own.result.now in
    let i = c.loop-point.point-index in
    let all = candidates_in v.face v.state c.args.agent.0 in
    let lt = c.loop-point-test.true in
    elim c.match-degree.branch [
      | in-Some+in_ok-push w ↦
          subst (λ (xs : Vec Candidate Global). xs.items ++ taken_from v.face v.state (drop (i + 1) items) ≡ all) (sym w.candidates-is)
          (subst (λ (xs : List Candidate). xs ++ taken_from v.face v.state (drop (i + 1) items) ≡ all) (sym w.in_ok-push.ensures.items)
          (pushed v.face v.state items i w.in-Some.degree c.loop-point.candidates.items all lt
          (sym w.in-Some.is ∙ c.degree.ensures) c.loop-point.invariant))
      | in_default w ↦
          subst (λ (xs : Vec Candidate Global). xs.items ++ taken_from v.face v.state (drop (i + 1) items) ≡ all) (sym w.candidates-is)
          (passed v.face v.state items i c.loop-point.candidates.items all lt (sym w.in_default.is ∙ c.degree.ensures)
          c.loop-point.invariant)
    ]
