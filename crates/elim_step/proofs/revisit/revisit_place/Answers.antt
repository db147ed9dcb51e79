use Rattle.std.proofs.Common.{ap, sym, ◌∙◌, arith, rules, take, get_or}
use Rattle.std.proofs.lemmas.List.{take_more}
use Rattle.elim_step.specs.Revisits.{through_after, place_after}
use Rattle.stn_walk.proofs.Members.{is_in-at, is_in-apart}
use Rattle.elim_step.proofs.Revisits.{place-more, place-stays}
use Rattle.elim_step.proofs.revisit.revisit_place.Goals as goal

pub revisit_through-requires-clause-forward_within : goal.revisit_through-requires-clause-forward_within
revisit_through-requires-clause-forward_within g c =
    let here = is_in-at c.args.later.now c.loop-m.m-index (search rules) in
    (c.requires.within.0, (c.requires.all_within _ here).0)

pub revisit_through-requires-clause-finals_within : goal.revisit_through-requires-clause-finals_within
revisit_through-requires-clause-finals_within g c =
    let here = is_in-at c.args.later.now c.loop-m.m-index (search rules) in
    rw c.loop-m.invariant.places (c.requires.within.1, (c.requires.all_within _ here).1)

pub revisit_through-requires-clause-onward : goal.revisit_through-requires-clause-onward
revisit_through-requires-clause-onward g c =
    let ns = c.args.later.now in
    let n = c.loop-m.m-index in
    let m = get_or ns n 0 in
    let k = c.args.k in
    let j = c.args.j in
    let away = is_in-apart ns m k (is_in-at ns n (search rules)) c.requires.others in
    rw (c.loop-m.invariant.cells m j, place-stays (g.R.Rows.at c.args.forward.now) k j (take n ns) (g.R.Rows.at c.args.finals.now) m j away c.requires.apart)
    (c.requires.finals m j away c.requires.apart)

pub revisit_through-requires-clause-hither : goal.revisit_through-requires-clause-hither
revisit_through-requires-clause-hither g c =
    let ns = c.args.later.now in
    let n = c.loop-m.m-index in
    let m = get_or ns n 0 in
    let k = c.args.k in
    let j = c.args.j in
    let away = is_in-apart ns m k (is_in-at ns n (search rules)) c.requires.others in
    rw (c.loop-m.invariant.cells j m, place-stays (g.R.Rows.at c.args.forward.now) k j (take n ns) (g.R.Rows.at c.args.finals.now) j m c.requires.apart away)
    (c.requires.finals j m c.requires.apart away)

pub loop-m-preserved : goal.loop-m-preserved
loop-m-preserved g c =
    let ns = c.args.later.now in
    let n = c.loop-m.m-index in
    let m = get_or ns n 0 in
    let k = c.args.k in
    let j = c.args.j in
    let fw = g.R.Rows.at c.args.forward.now in
    let f = g.R.Rows.at c.args.finals.now in
    let was = c.loop-m.invariant in
    let now = c.revisit_through.ensures in
    let away = is_in-apart ns m k (is_in-at ns n (search rules)) c.requires.others in
    record {
      cells = λ p q.
          now.cells p q ∙ (λ t. through_after fw k j m (λ a b. was.cells a b t) p q)
          ∙ place-more fw k j m (take n ns) f c.requires.apart away p q
          ∙ ap (λ xs. place_after fw k j xs f p q) (sym (take_more ns n 0 (search rules)));
      room = λ p q. now.room p q ∙ was.room p q;
      places = now.places ∙ was.places;
      roomy = now.roomy ∙ was.roomy;
      steps = omega arith;
    }
