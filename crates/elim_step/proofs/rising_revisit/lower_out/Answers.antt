use Rattle.std.proofs.Common.{◌≡◌, ◌∙◌, ap, sym, take, get_or, rules}
use Rattle.std.proofs.lemmas.List.{take_more, take_all}
use Rattle.stn_walk.proofs.Members.{is_in-at, is_in-apart}
use Rattle.elim_step.specs.Revisits.{sum_lowered}
use Rattle.elim_step.specs.RevisitRows.{outs_after}
use Rattle.elim_step.proofs.Parts.{ahead_fresh}
use Rattle.elim_step.proofs.RevisitRows.{outs-more}
use Rattle.elim_step.proofs.rising_revisit.lower_out.Goals as goal

pub lower_to-requires : goal.lower_to-requires
lower_to-requires g c =
    let xs = c.args.block.now in
    let n = c.loop-n.n in
    let here = is_in-at xs n (search rules) in
    record {
      apart = λ same. is_in-apart xs (get_or xs n 0) c.args.k here c.requires.away (sym same);
      room = c.loop-n.invariant.room c.args.k (get_or xs n 0) ∙ c.requires.room (get_or xs n 0) here;
      light = c.cell.ensures.light;
    }

pub loop-n-preserved : goal.loop-n-preserved
loop-n-preserved g c =
    let xs = c.args.block.now in
    let n = c.loop-n.n in
    let x = get_or xs n 0 in
    let k = c.args.k in
    let f0 = g.R.Rows.at c.args.finals.now in
    let was = c.loop-n.invariant in
    let now = c.lower_to.ensures in
    record {
      cells = λ f cells p q.
          now.cells p q ∙ (λ t. sum_lowered k x (c.cell.ensures.value t) (λ a b. was.cells f cells a b t) p q)
          ∙ (λ t. sum_lowered k x (cells n (search rules) t) (outs_after k f (take n xs) f0) p q)
          ∙ outs-more k x f (take n xs) f0 (ahead_fresh xs n c.requires.rising (search rules)) p q
          ∙ ap (λ ys. outs_after k f ys f0 p q) (sym (take_more xs n 0 (search rules)));
      room = λ p q. now.room p q ∙ was.room p q;
      places = now.places ∙ was.places;
      roomy = now.roomy ∙ was.roomy;
    }

pub returns-clause-cells : goal.returns-clause-cells
returns-clause-cells g c =
    let xs = c.args.block.now in
    let all : take c.loop-n.n xs ≡ xs = take_all c.loop-n.n xs (search rules) in
    λ f cells p q. c.loop-n.invariant.cells f cells p q ∙ (λ t. outs_after c.args.k f (all t) (g.R.Rows.at c.args.finals.now) p q)
