use Rattle.std.proofs.Common.{◌≡◌, ℕ, ◌-◌, Bool, nat_lt, ◌&&◌, ◌∷◌, ◌++◌, [], ap, ◌∙◌, rules, get_or, false}
use Rattle.std.proofs.lemmas.Bool.{and_parts}
use Rattle.std.specs.Prelude.{if◌then◌else◌}
use Rattle.stn_walk.specs.Eliminations.{is_in}
use Rattle.stn_walk.proofs.Members.{is_in-at}
use Rattle.elim_step.proofs.JoinWrites.{filtered-none, filtered-more, filtered-all, block_whole}
use Rattle.private_elim.specs.Degrees.{is_partial}
use Rattle.private_elim.proofs.met.list_partial.Goals as goal

-- only places of the list are partial
listed_only : (joins : _) (gone : _) (others : ℕ) (met : _) (p : ℕ) → is_in met p ≡ false → (is_in met p && is_partial joins gone others p) ≡ false
listed_only joins gone others met p away = ap (λ b. b && is_partial joins gone others p) away

pub loop-p-init : goal.loop-p-init
loop-p-init c =
    rw c.clear.ensures.items
    (record { filtered = filtered-none _ c.args.met.now (listed_only c.args.joins.now c.args.gone.now c.args.others c.args.met.now) })

pub count_joined-requires : goal.count_joined-requires
count_joined-requires c = c.requires.within _ (is_in-at c.args.met.now c.loop-p.p-index (search rules))

pub bounds-gone-p : goal.bounds-gone-p
bounds-gone-p c = rw c.requires.len (c.requires.within _ (is_in-at c.args.met.now c.loop-p.p-index (search rules)))

pub overflow_sub-joined : goal.overflow_sub-joined
overflow_sub-joined c = rw c.count_joined.ensures (c.requires.few _ (is_in-at c.args.met.now c.loop-p.p-index (search rules)))

pub loop-p-preserved : goal.loop-p-preserved
loop-p-preserved c =
    let joins = c.args.joins.now in
    let gone = c.args.gone.now in
    let met = c.args.met.now in
    let others = c.args.others in
    let n = c.loop-p.p-index in
    let p = get_or met n 0 in
    let old = c.loop-p.partial.items in
    let test : ℕ → Bool = λ p. is_in met p && is_partial joins gone others p in
    let on : test p ≡ is_partial joins gone others p = ap (λ b. b && is_partial joins gone others p) (is_in-at met n (search rules)) in
    let longer : c.push_where.new.items.items ≡ old ++ (if is_partial joins gone others p then p ∷ [] else []) =
    c.in_ok-push_where.ensures ∙ ap (λ k. old ++ (if nat_lt (k - get_or gone p 0) others then p ∷ [] else [])) c.count_joined.ensures in
    record {
      filtered = rw longer (filtered-more test met n old (is_partial joins gone others p) (listed_only joins gone others met)
          c.requires.rising (search rules) c.loop-p.invariant.filtered on);
    }

pub returns-clause-each : goal.returns-clause-each
returns-clause-each c =
    let met = c.args.met.now in
    let joins = c.args.joins.now in
    let test : ℕ → Bool = λ p. is_in met p && is_partial joins c.args.gone.now c.args.others p in
    block_whole test joins.size c.loop-p.partial.items
    (filtered-all test met c.loop-p.p-index c.loop-p.partial.items joins.size c.loop-p.invariant.filtered c.loop-p-test.false c.requires.within
    c.loop-p.auto.p-index-end) (λ p here. c.requires.within p (and_parts (is_in met p) (is_partial joins c.args.gone.now c.args.others p) here).0)

pub returns-clause-rising : goal.returns-clause-rising
returns-clause-rising c =
    let met = c.args.met.now in
    let joins = c.args.joins.now in
    let test : ℕ → Bool = λ p. is_in met p && is_partial joins c.args.gone.now c.args.others p in
    (filtered-all test met c.loop-p.p-index c.loop-p.partial.items joins.size c.loop-p.invariant.filtered c.loop-p-test.false c.requires.within
    c.loop-p.auto.p-index-end).rising
