use Rattle.std.proofs.Common.{ℕ, Bool, ◌&&◌, sym, ◌≡◌, ◌<◌, ◌≤◌, arith, rules, get_or}
use Rattle.stn_walk.proofs.Members.{is_in-at}
use Rattle.elim_step.specs.Eliminates.{remains}
use Rattle.elim_step.specs.JoinedPlaces.{is_joined}
use Rattle.elim_step.proofs.JoinWrites.{counted-none, counted-up, counted-more, counted-all, count_below-few, list_off, list_on, one_few}
use Rattle.elim_step.proofs.joins.Joins.count.Goals as goal

pub loop-p-init : goal.loop-p-init
loop-p-init c = counted-none _ _ (list_off c.args.remain.now _ _ (sym c.joined-joined.ensures.value))

pub bounds-remain-p : goal.bounds-remain-p
bounds-remain-p c =
    let low = c.joined-joined.ensures.within _ (is_in-at c.joined-joined.result.now c.loop-p.p-index (search rules)) in
    rw c.requires.len low

pub overflow_add-count : goal.overflow_add-count
overflow_add-count c =
    let s = c.args.self.now in
    let xs = c.joined-joined.result.now in
    let n = c.loop-p.p-index in
    let test : ℕ → Bool = λ p. remains c.args.remain.now p && is_joined s c.args.k p in
    let here = counted-up test xs n c.loop-p.count c.joined-joined.ensures.rising (search rules) c.loop-p.invariant in
    let few = count_below-few test (get_or xs n 0) in
    let low = c.joined-joined.ensures.within (get_or xs n 0) (is_in-at xs n (search rules)) in
    let one : c.one_where-count.result ≤ 1 = one_few _ _ c.one_where-count.ensures in
    let size : s.size < 4294967296 = (let k = c.joined-joined.ensures.within in search rules) in
    omega (arith, here, few, low, one, size)

pub loop-p-preserved : goal.loop-p-preserved
loop-p-preserved c =
    let remain = c.args.remain.now in
    let xs = c.joined-joined.result.now in
    let n = c.loop-p.p-index in
    let test : ℕ → Bool = λ p. remains remain p && is_joined c.args.self.now c.args.k p in
    let off = list_off remain _ _ (sym c.joined-joined.ensures.value) in
    let on : test (get_or xs n 0) ≡ remains remain (get_or xs n 0) = list_on remain _ _ (sym c.joined-joined.ensures.value) n (search rules) in
    rw c.one_where-count.ensures
    (counted-more test xs n c.loop-p.count (remains remain (get_or xs n 0)) off c.joined-joined.ensures.rising (search rules) c.loop-p.invariant on)

pub returns : goal.returns
returns c =
    let s = c.args.self.now in
    let test : ℕ → Bool = λ p. remains c.args.remain.now p && is_joined s c.args.k p in
    counted-all test c.joined-joined.result.now c.loop-p.p-index c.loop-p.count s.size c.loop-p.invariant c.loop-p-test.false
    c.joined-joined.ensures.within c.loop-p.auto.p-index-end
