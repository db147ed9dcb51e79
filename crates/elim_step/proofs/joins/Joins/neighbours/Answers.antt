use Rattle.std.proofs.Common.{ℕ, Bool, ◌&&◌, sym, ◌++◌, [], ◌∷◌, ◌≡◌, ◌∙◌, ap, rules, get_or}
use Rattle.std.specs.Prelude.{if◌then◌else◌}
use Rattle.stn_walk.proofs.Members.{is_in-at}
use Rattle.elim_step.specs.Eliminates.{remains}
use Rattle.elim_step.specs.JoinedPlaces.{is_joined}
use Rattle.std.proofs.Math.Bool.{and-false}
use Rattle.elim_step.proofs.JoinFacts.{joined-apart}
use Rattle.elim_step.proofs.Blocks.{block-member, rising_pairs}
use Rattle.elim_step.proofs.JoinWrites.{filtered-none, filtered-more, filtered-all, list_off, list_on, block_whole, block_count, both_right}
use Rattle.elim_step.proofs.joins.Joins.neighbours.Goals as goal

pub loop-p-init : goal.loop-p-init
loop-p-init c =
    let remain = c.args.remain.now in
    let off = list_off remain _ _ (sym c.joined-joined.ensures.value) in
    rw c.clear.ensures.items (record { filtered = filtered-none _ _ off })

pub bounds-remain-p : goal.bounds-remain-p
bounds-remain-p c =
    let low = c.joined-joined.ensures.within _ (is_in-at c.joined-joined.result.now c.loop-p.p-index (search rules)) in
    rw c.requires.len low

pub loop-p-preserved : goal.loop-p-preserved
loop-p-preserved c =
    let remain = c.args.remain.now in
    let xs = c.joined-joined.result.now in
    let n = c.loop-p.p-index in
    let p = get_or xs n 0 in
    let test : ℕ → Bool = λ p. remains remain p && is_joined c.args.self.now c.args.k p in
    let old = c.loop-p.list.items in
    let was = c.loop-p.invariant in
    let off = list_off remain _ _ (sym c.joined-joined.ensures.value) in
    let on : test p ≡ remains remain p = list_on remain _ _ (sym c.joined-joined.ensures.value) n (search rules) in
    let longer : c.push_where.new.places.items ≡ old ++ (if remains remain p then p ∷ [] else []) = c.in_ok-push_where.ensures in
    record {
      filtered = rw longer (filtered-more test xs n old (remains remain p) off c.joined-joined.ensures.rising (search rules) was.filtered on);
    }

pub returns-clause-each : goal.returns-clause-each
returns-clause-each c =
    let s = c.args.self.now in
    let remain = c.args.remain.now in
    let test : ℕ → Bool = λ p. remains remain p && is_joined s c.args.k p in
    block_whole test s.size c.loop-p.list.items
    (filtered-all test c.joined-joined.result.now c.loop-p.p-index c.loop-p.list.items s.size c.loop-p.invariant.filtered c.loop-p-test.false
    c.joined-joined.ensures.within c.loop-p.auto.p-index-end)
    (λ p here. (s.kept.within c.args.k p (both_right (remains remain p) (is_joined s c.args.k p) here)).0)

pub returns-clause-places : goal.returns-clause-places
returns-clause-places c =
    let s = c.args.self.now in
    let test : ℕ → Bool = λ p. remains c.args.remain.now p && is_joined s c.args.k p in
    (filtered-all test c.joined-joined.result.now c.loop-p.p-index c.loop-p.list.items s.size c.loop-p.invariant.filtered c.loop-p-test.false
    c.joined-joined.ensures.within c.loop-p.auto.p-index-end).rising

pub returns-clause-rising : goal.returns-clause-rising
returns-clause-rising c =
    let s = c.args.self.now in
    let test : ℕ → Bool = λ p. remains c.args.remain.now p && is_joined s c.args.k p in
    rising_pairs c.loop-p.list.items
    (filtered-all test c.joined-joined.result.now c.loop-p.p-index c.loop-p.list.items s.size c.loop-p.invariant.filtered c.loop-p-test.false
    c.joined-joined.ensures.within c.loop-p.auto.p-index-end).rising

pub returns-clause-within : goal.returns-clause-within
returns-clause-within c =
    let s = c.args.self.now in
    let test : ℕ → Bool = λ p. remains c.args.remain.now p && is_joined s c.args.k p in
    λ p here. (block-member test 0 s.size c.loop-p.list.items
    (filtered-all test c.joined-joined.result.now c.loop-p.p-index c.loop-p.list.items s.size c.loop-p.invariant.filtered c.loop-p-test.false
    c.joined-joined.ensures.within c.loop-p.auto.p-index-end) p here).0

pub returns-clause-count : goal.returns-clause-count
returns-clause-count c =
    let s = c.args.self.now in
    let test : ℕ → Bool = λ p. remains c.args.remain.now p && is_joined s c.args.k p in
    let block = filtered-all test c.joined-joined.result.now c.loop-p.p-index c.loop-p.list.items s.size c.loop-p.invariant.filtered c.loop-p-test.false
    c.joined-joined.ensures.within c.loop-p.auto.p-index-end in
    block_count test s.size c.loop-p.list.items block

pub returns-clause-all_within : goal.returns-clause-all_within
returns-clause-all_within c = λ m l. returns-clause-within c _ (is_in-at c.loop-p.list.items m l)

pub returns-clause-away : goal.returns-clause-away
returns-clause-away c =
    let s = c.args.self.now in
    let k = c.args.k in
    returns-clause-each c k ∙ ap (λ b. remains c.args.remain.now k && b) (joined-apart s k) ∙ and-false (remains c.args.remain.now k)
