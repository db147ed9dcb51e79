use Rattle.std.proofs.Common.{ℕ, Bool, ◌&&◌, ap, ◌∙◌, arith, rules, take, get_or, ◌+◌}
use Rattle.std.specs.Prelude.{◌==◌}
use Rattle.stn_walk.specs.Eliminations.{is_in}
use Rattle.stn_walk.proofs.Members.{is_in-next, is_in-at, is_in-take}
use Rattle.std.proofs.Math.Bool.{and-false}
use Rattle.elim_step.proofs.Offerings.{offers_same}
use Rattle.elim_step.proofs.Regions.{region-join, and-or-left, kept-second}
use Rattle.elim_step.proofs.lower.lower_pairs.Goals as goal

pub of-offers-requires-clause-others : goal.of-offers-requires-clause-others
of-offers-requires-clause-others g c = λ m l. c.requires.others_within _ (is_in-at c.args.others.now m l)

pub lower_row-requires-clause-within : goal.lower_row-requires-clause-within
lower_row-requires-clause-within g c =
    rw c.loop-i.invariant.places (c.requires.within, c.requires.all_within _ (is_in-at c.args.places.now c.loop-i.i-index (search rules)))

pub lower_row-requires-clause-offers : goal.lower_row-requires-clause-offers
lower_row-requires-clause-offers g c =
    let ns = c.args.places.now in
    let js = c.args.others.now in
    let n = c.loop-i.i-index in
    let k = c.args.k in
    offers_same _ _ js _
    (kept-second k (λ a b. is_in (take n ns) a && is_in js b) (g.R.Rows.at c.args.rows.now) (g.R.Rows.at c.loop-i.rows) c.loop-i.invariant.cells
    (λ q. ap (λ z. z && is_in js q) (is_in-take ns n k c.requires.away)))
    c.of-offers.ensures

pub lower_row-requires-clause-room : goal.lower_row-requires-clause-room
lower_row-requires-clause-room g c =
    let ns = c.args.places.now in
    let i = get_or ns c.loop-i.i-index 0 in
    λ j at_j apart. c.loop-i.invariant.room i j ∙ c.requires.room i j (is_in-at ns c.loop-i.i-index (search rules)) at_j apart

pub loop-i-preserved : goal.loop-i-preserved
loop-i-preserved g c =
    let ns = c.args.places.now in
    let js = c.args.others.now in
    let n = c.loop-i.i-index in
    let i = get_or ns n 0 in
    let k = c.args.k in
    let was = c.loop-i.invariant in
    let now = c.lower_row.ensures in
    let D : ℕ → ℕ → Bool = λ a b. is_in (take n ns) a && is_in js b in
    let E : ℕ → ℕ → Bool = λ a b. (a == i) && is_in js b in
    let F : ℕ → ℕ → Bool = λ a b. is_in (take (n + 1) ns) a && is_in js b in
    record {
      cells = region-join k D E F (g.R.Rows.at c.args.rows.now) (g.R.Rows.at c.loop-i.rows) (g.R.Rows.at c.lower_row.new.rows) was.cells now.cells
          (λ p. ap (λ z. is_in (take n ns) p && z) c.requires.others_away ∙ and-false (is_in (take n ns) p))
          (λ q. ap (λ z. z && is_in js q) (is_in-take ns n k c.requires.away))
          (λ p q. and-or-left (is_in (take n ns) p) (is_in js q) (p == i) ∙ ap (λ z. z && is_in js q) (is_in-next ns n p (search rules)));
      room = λ p q. now.room p q ∙ was.room p q;
      places = now.places ∙ was.places;
      roomy = now.roomy ∙ was.roomy;
      steps = grind arith;
    }
