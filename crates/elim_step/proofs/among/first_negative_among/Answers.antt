use Rattle.std.proofs.Common.{◌≡◌, ◌∙◌, sym, false, true, take, rules, arith}
use Rattle.std.proofs.lemmas.List.{take_all}
use Rattle.stn_walk.specs.Eliminations.{is_in}
use Rattle.stn_walk.proofs.Members.{is_in-at, is_in-cases}
use Rattle.elim_step.specs.Eliminates.{is_negative}
use Rattle.elim_step.proofs.Parts.{in_before}
use Rattle.elim_step.proofs.among.first_negative_among.Goals as goal

pub returns-then-sums_below-clause-listed : goal.returns-then-sums_below-clause-listed
returns-then-sums_below-clause-listed g c = is_in-at c.args.list.now c.loop-n.n (search rules)

pub returns-then-sums_below-clause-least : goal.returns-then-sums_below-clause-least
returns-then-sums_below-clause-least g c = λ m low here.
    c.loop-n.invariant.none m (in_before c.args.list.now c.loop-n.n m c.requires.rising (search rules) here low)

pub loop-n-preserved : goal.loop-n-preserved
loop-n-preserved g c =
    let xs = c.args.list.now in
    let n = c.loop-n.n in
    let f = g.R.Rows.at c.args.rows.now in
    let k = c.args.k in
    let was = c.loop-n.invariant in
    record {
      none = λ m here. is_in-cases {P = is_negative (f k m) (f m k) ≡ false} m xs n (search rules) here (was.none m)
          (λ e. rw e ((λ t. is_negative (sym c.get.ensures t) (sym c.get-in-loop-n.ensures t)) ∙ sym c.sums_below.ensures ∙ c.if-sums_below.false));
      steps = (let ticked = c.tick.ensures in let had = was.steps in omega arith);
    }

pub returns-clause-none : goal.returns-clause-none
returns-clause-none g c = λ m here.
    let all : take c.loop-n.n c.args.list.now ≡ c.args.list.now = take_all c.loop-n.n c.args.list.now (search rules) in
    c.loop-n.invariant.none m (let inside : is_in (take c.loop-n.n c.args.list.now) m ≡ true = rw all here in inside)
