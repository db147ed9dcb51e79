use Rattle.std.proofs.Common.{◌≡◌, ◌∙◌, ◌++◌, get_or, subst, ap, Option, arith, rules}
use Rattle.std.specs.Prelude.{option_to_list, IfSome}
use Rattle.dist_rows.specs.declared.cell.Cell.{Cell}
use Rattle.dist_rows.specs.Cells.{IsLight}
use Rattle.elim_step.specs.Offered.{offers_of, offer_for}
use Rattle.elim_step.proofs.Offerings.{offers_more}
use Rattle.elim_step.proofs.offers.Offers.to.Goals as goal

pub loop-n-preserved : goal.loop-n-preserved
loop-n-preserved c =
    let xs = c.args.others.now in
    let n = c.loop-n.n in
    let was = c.loop-n.invariant in
    let now = c.put.ensures in
    record {
      are = λ f cells.
          (let cell = cells n (search rules) in
          let light : IfSome (f (get_or xs n 0)) (λ c. IsLight 99 c.weight) =
          subst (λ (o : Option Cell). IfSome o (λ c. IsLight 99 c.weight)) cell (c.requires.light n (search rules)) in
          let items : offers_of c.put.new.self ≡ offers_of c.loop-n.offers ++ option_to_list (offer_for (get_or xs n 0) (f (get_or xs n 0))) =
          now.items ∙ ap (λ (o : Option Cell). offers_of c.loop-n.offers ++ option_to_list (offer_for (get_or xs n 0) o)) cell in
          rw items (offers_more f xs n (offers_of c.loop-n.offers) c.requires.rising (search rules) light (was.are f cells)));
      few = (let one = now.count in let had = was.few in omega (arith, one, had));
    }
