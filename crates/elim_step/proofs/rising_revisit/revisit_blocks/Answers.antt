use Rattle.std.proofs.Common.{◌≡◌, ◌≤◌, ◌∙◌, ap, take, length, ◌+◌, ◌*◌, ℕ, arith, rules}
use Rattle.std.proofs.lemmas.List.{take_all}
use Rattle.elim_step.specs.RevisitRows.{block_after, rows_after}
use Rattle.elim_step.proofs.Parts.{part_in, part_rising, part_away, part_within, part_fresh, part_behind}
use Rattle.elim_step.proofs.RevisitRows.{rows-away, rows-more}
use Rattle.elim_step.proofs.rising_revisit.revisit_blocks.Goals as goal

pub revisit_block-requires : goal.revisit_block-requires
revisit_block-requires g c =
    let xs = c.args.later.now in
    let part = c.part_from-block.ensures in
    let ys = c.part_from-block.result.now in
    let from = c.walk.from in
    let k = c.args.k in
    let was = c.walk.invariant in
    record {
      forward_within = c.requires.forward_within;
      within = rw was.places c.requires.within;
      forward_later = c.requires.forward_later;
      later_within = λ m l. rw was.places (c.requires.later_within m l);
      later_rising = c.requires.rising;
      later_away = c.requires.away;
      forward_others = part_within xs ys from part.within part.part _ c.requires.forward_later;
      others = λ m l. rw was.places (part_within xs ys from part.within part.part _ c.requires.later_within m l);
      rising = part_rising xs ys from part.within part.part c.requires.rising;
      few = part.few;
      away = part_away xs ys from part.within part.part k c.requires.away;
      room_out = λ q here. was.room k q ∙ c.requires.room_out q (part_in xs ys from part.within part.part q here);
      room_back = λ j here. was.room j k ∙ c.requires.room_back j here;
      forward = c.requires.forward;
      finals = λ p q first second. rw (
        was.cells p q,
        rows-away (g.R.Rows.at c.args.forward.now) k xs (take from xs) (g.R.Rows.at c.args.finals.now) p q first second,
      )
          (c.requires.finals p q first second);
    }

pub walk-preserved : goal.walk-preserved
walk-preserved g c =
    let xs = c.args.later.now in
    let part = c.part_from-block.ensures in
    let ys = c.part_from-block.result.now in
    let from = c.walk.from in
    let k = c.args.k in
    let fw = g.R.Rows.at c.args.forward.now in
    let f = g.R.Rows.at c.args.finals.now in
    let was = c.walk.invariant in
    let now = c.revisit_block.ensures in
    record {
      within = part.within;
      cells = λ p q.
          now.cells p q ∙ (λ t. block_after fw k ys xs (λ a b. was.cells a b t) p q)
          ∙ rows-more fw k xs (take from xs) ys f c.requires.away (part_away xs ys from part.within part.part k c.requires.away)
          (part_fresh xs ys from part.within part.part c.requires.rising) p q
          ∙ ap (λ zs. rows_after fw k xs zs f p q) (part_behind xs ys from part.within part.part);
      room = λ p q. now.room p q ∙ was.room p q;
      places = now.places ∙ was.places;
      roomy = now.roomy ∙ was.roomy;
      steps = (let s = now.steps in let t = was.steps in grind arith);
    }

pub returns-clause-cells : goal.returns-clause-cells
returns-clause-cells g c =
    let xs = c.args.later.now in
    let all : take c.walk.from xs ≡ xs = take_all c.walk.from xs (search rules) in
    λ p q. c.walk.invariant.cells p q ∙ (λ t. rows_after (g.R.Rows.at c.args.forward.now) c.args.k xs (all t) (g.R.Rows.at c.args.finals.now) p q)

pub returns-clause-steps : goal.returns-clause-steps
returns-clause-steps g c =
    let all : c.walk.from ≡ length c.args.later.now = (let le = c.walk.invariant.within in let ge : length c.args.later.now ≤ c.walk.from = search rules in omega arith) in
    c.walk.invariant.steps ∙ ap (λ (n : ℕ). c.args.steps.now + 2 * length c.args.later.now * n) all
