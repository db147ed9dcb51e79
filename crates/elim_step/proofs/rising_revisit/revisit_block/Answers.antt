use Rattle.std.proofs.Common.{◌≡◌, ap, sym, ◌∙◌, arith, rules, take, get_or, ℕ, Option}
use Rattle.std.proofs.lemmas.List.{take_more, take_all}
use Rattle.std.specs.Prelude.{None}
use Rattle.dist_rows.specs.declared.cell.Cell.{Cell}
use Rattle.stn_walk.proofs.Members.{is_in-at, is_in-apart}
use Rattle.elim_step.specs.Eliminates.{lesser_of}
use Rattle.elim_step.specs.Revisits.{in_sum, out_sum, least_over, sum_lowered}
use Rattle.elim_step.specs.RevisitRows.{outs_after, backs_after}
use Rattle.elim_step.proofs.Parts.{ahead_fresh}
use Rattle.elim_step.proofs.RevisitRows.{backs-more, backs-away, out-more, block-whole}
use Rattle.elim_step.proofs.rising_revisit.revisit_block.Goals as goal

pub revisit_row-requires : goal.revisit_row-requires
revisit_row-requires g c =
    let ns = c.args.later.now in
    let n = c.loop-j.j-index in
    let j = get_or ns n 0 in
    let k = c.args.k in
    let here = is_in-at ns n (search rules) in
    let was = c.loop-j.invariant in
    record {
      forward_within = (c.requires.forward_within, c.requires.forward_later n (search rules));
      within = (rw was.places c.requires.within, rw was.places (c.requires.later_within n (search rules)));
      apart = is_in-apart ns j k here c.requires.later_away;
      others = λ m l. rw was.places (c.requires.others m l);
      rising = c.requires.rising;
      away = c.requires.away;
      back_len = c.read_back.ensures.len;
      row_len = was.row_len;
      sums_len = was.sums_len;
      back = c.read_back.ensures.weights;
      plain = c.read_back.ensures.plain;
      sums = was.sums;
      room_back = was.room j k ∙ c.requires.room_back j here;
      forward = c.requires.forward;
      finals =
          λ p q first second. rw (
            was.cells p q,
            backs-away (g.R.Rows.at c.args.forward.now) k c.args.block.now (take n ns) (g.R.Rows.at c.args.finals.now) p q second,
          )
          (c.requires.finals p q first second);
    }

pub loop-j-preserved : goal.loop-j-preserved
loop-j-preserved g c =
    let ns = c.args.later.now in
    let n = c.loop-j.j-index in
    let j = get_or ns n 0 in
    let k = c.args.k in
    let block = c.args.block.now in
    let fw = g.R.Rows.at c.args.forward.now in
    let f = g.R.Rows.at c.args.finals.now in
    let was = c.loop-j.invariant in
    let now = c.revisit_row.ensures in
    record {
      cells = λ p q.
          now.cells p q
          ∙ (λ t. sum_lowered j k (least_over (in_sum fw (λ a b. was.cells a b t) k j) None block) (λ a b. was.cells a b t) p q)
          ∙ backs-more fw k j block (take n ns) f (ahead_fresh ns n c.requires.later_rising (search rules)) c.requires.away p q
          ∙ ap (λ xs. backs_after fw k block xs f p q) (sym (take_more ns n 0 (search rules)));
      value = λ m l.
          (let q = get_or block m 0 in
          now.value m l
          ∙ (λ t. lesser_of (was.value m l t) (out_sum fw (λ a b. was.cells a b t) k q j))
          ∙ out-more fw k j q block (take n ns) f (is_in-apart block q k (is_in-at block m l) c.requires.away)
          ∙ ap (λ xs. least_over (out_sum fw f k q) None xs) (sym (take_more ns n 0 (search rules))));
      sums = now.sums;
      sums_len = now.sums_len;
      row_len = now.row_len;
      room = λ p q. now.room p q ∙ was.room p q;
      places = now.places ∙ was.places;
      roomy = now.roomy ∙ was.roomy;
      steps = grind arith;
    }

pub lower_out-requires-clause-room : goal.lower_out-requires-clause-room
lower_out-requires-clause-room g c = λ q here. c.loop-j.invariant.room c.args.k q ∙ c.requires.room_out q here

pub returns-clause-cells : goal.returns-clause-cells
returns-clause-cells g c =
    let ns = c.args.later.now in
    let k = c.args.k in
    let block = c.args.block.now in
    let fw = g.R.Rows.at c.args.forward.now in
    let f = g.R.Rows.at c.args.finals.now in
    let was = c.loop-j.invariant in
    let all : take c.loop-j.j-index ns ≡ ns = take_all c.loop-j.j-index ns (search rules) in
    let sum : ℕ → Option Cell = λ y. least_over (out_sum fw f k y) None ns in
    λ p q.
    c.lower_out.ensures.cells sum (λ m l. was.value m l ∙ (λ t. least_over (out_sum fw f k (get_or block m 0)) None (all t))) p q
    ∙ (λ t. outs_after k sum block (λ a b. was.cells a b t) p q)
    ∙ (λ t. outs_after k sum block (backs_after fw k block (all t) f) p q)
    ∙ block-whole fw k block ns f c.requires.away p q
