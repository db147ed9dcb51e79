use Rattle.std.proofs.Common.{◌≡◌, ◌≤◌, ◌∙◌, ℕ, Bool, ◌&&◌, ap, take, length, ◌+◌, ◌*◌, arith, rules}
use Rattle.std.proofs.Math.Bool.{and-false}
use Rattle.std.proofs.lemmas.List.{take_all}
use Rattle.stn_walk.specs.Eliminations.{is_in}
use Rattle.stn_walk.proofs.Members.{is_in-take}
use Rattle.elim_step.specs.Regions.{region_after}
use Rattle.elim_step.proofs.Parts.{within_in, part_in, part_rising, part_away, part_joined}
use Rattle.elim_step.proofs.Regions.{region-join, and-or-right, kept-first, kept-second}
use Rattle.elim_step.proofs.among.lower_among.Goals as goal

pub lower_pairs-requires : goal.lower_pairs-requires
lower_pairs-requires g c =
    let xs = c.args.list.now in
    let part = c.part_from-others.ensures in
    let ys = c.part_from-others.result.now in
    let from = c.walk.from in
    let k = c.args.k in
    let f = g.R.Rows.at c.args.rows.now in
    let was = c.walk.invariant in
    let D : ℕ → ℕ → Bool = λ a b. is_in xs a && is_in (take from xs) b in
    record {
      within = rw was.places c.requires.within;
      all_within = λ i here. rw was.places (within_in xs _ i c.requires.others here);
      others_within = λ j here. rw was.places (within_in xs _ j c.requires.others (part_in xs ys from part.within part.part j here));
      others_rising = part_rising xs ys from part.within part.part c.requires.rising;
      few = part.few;
      away = c.requires.away;
      others_away = part_away xs ys from part.within part.part k c.requires.away;
      room = λ i j at_i at_j apart. was.room i j ∙ c.requires.room i j at_i (part_in xs ys from part.within part.part j at_j) apart;
      first = λ i. rw (kept-first k D f (g.R.Rows.at c.walk.rows) was.cells
          (λ p. ap (λ z. is_in xs p && z) (is_in-take xs from k c.requires.away) ∙ and-false (is_in xs p)) i) (c.requires.light i k);
      second = λ j. rw (kept-second k D f (g.R.Rows.at c.walk.rows) was.cells
          (λ q. ap (λ z. z && is_in (take from xs) q) c.requires.away) j) (c.requires.light k j);
    }

pub walk-preserved : goal.walk-preserved
walk-preserved g c =
    let xs = c.args.list.now in
    let part = c.part_from-others.ensures in
    let ys = c.part_from-others.result.now in
    let from = c.walk.from in
    let k = c.args.k in
    let f = g.R.Rows.at c.args.rows.now in
    let was = c.walk.invariant in
    let now = c.lower_pairs.ensures in
    let D : ℕ → ℕ → Bool = λ a b. is_in xs a && is_in (take from xs) b in
    let E : ℕ → ℕ → Bool = λ a b. is_in xs a && is_in ys b in
    let F : ℕ → ℕ → Bool = λ a b. is_in xs a && is_in (take (from + length ys) xs) b in
    record {
      within = part.within;
      cells = region-join k D E F f (g.R.Rows.at c.walk.rows) (g.R.Rows.at c.lower_pairs.new.rows) was.cells now.cells
          (λ p. ap (λ z. is_in xs p && z) (is_in-take xs from k c.requires.away) ∙ and-false (is_in xs p))
          (λ q. ap (λ z. z && is_in (take from xs) q) c.requires.away)
          (λ p q. and-or-right (is_in xs p) (is_in (take from xs) q) (is_in ys q)
          ∙ ap (λ z. is_in xs p && z) (part_joined xs ys from part.within part.part q));
      room = λ p q. now.room p q ∙ was.room p q;
      places = now.places ∙ was.places;
      roomy = now.roomy ∙ was.roomy;
      steps = (let s = now.steps in let t = was.steps in grind arith);
    }

pub returns-clause-cells : goal.returns-clause-cells
returns-clause-cells g c =
    let xs = c.args.list.now in
    let all : take c.walk.from xs ≡ xs = take_all c.walk.from xs (search rules) in
    λ p q. c.walk.invariant.cells p q ∙ (λ t. region_after c.args.k (λ a b. is_in xs a && is_in (all t) b) (g.R.Rows.at c.args.rows.now) p q)

pub returns-clause-steps : goal.returns-clause-steps
returns-clause-steps g c =
    let all : c.walk.from ≡ length c.args.list.now = (let le = c.walk.invariant.within in let ge : length c.args.list.now ≤ c.walk.from = search rules in omega arith) in
    c.walk.invariant.steps ∙ ap (λ (n : ℕ). c.args.steps.now + length c.args.list.now * n) all
