use Rattle.std.proofs.Common.{◌≡◌, true, false, None, sym, ◌∙◌, arith, length, get_or, below_more, refl}
use Rattle.shared_graph.proofs.interfaces.SameLists.{max_most, same_tables, owners_same, rows_differ, rows_agree}
use Rattle.shared_graph.proofs.interface.same_owners.Goals as goal

pub loop-p-init : goal.loop-p-init
loop-p-init c k low = absurd (omega arith)

pub returns-then-ne : goal.returns-then-ne
returns-then-ne c = (
  λ h. absurd (let f : false ≡ true = h in cc),
  λ e. absurd (rows_differ c.owner_at.result c.owner_at-in-loop-p.result (sym c.ne.ensures ∙ c.if-ne.true)
      (c.owner_at.ensures ∙ (owners_same c.args.one.now c.args.other.now e c.loop-p.p ∙ sym c.owner_at-in-loop-p.ensures))),
)

pub loop-p-preserved : goal.loop-p-preserved
loop-p-preserved c =
    below_more (λ k. get_or c.args.one.now k None ≡ get_or c.args.other.now k None) c.loop-p.p c.loop-p.invariant
    (sym c.owner_at.ensures ∙ (rows_agree c.owner_at.result c.owner_at-in-loop-p.result (sym c.ne.ensures ∙ c.if-ne.false) ∙ c.owner_at-in-loop-p.ensures))

pub returns : goal.returns
returns c =
    let most = max_most (length c.args.one.now) (length c.args.other.now) c.max-p-end.result c.max-p-end.ensures in
    let end = c.loop-p-test.false in (
      λ h. same_tables c.args.one.now c.args.other.now c.max-p-end.result most.0 most.1 (λ k low. c.loop-p.invariant k (omega arith)),
      λ e. refl,
    )
