use Rattle.std.proofs.Common.{◌≡◌, ◌++◌, ◌∷◌, [], ap, sym, ◌∙◌, arith, length, length-append, subst}
use Rattle.std.specs.Prelude.{reverse, IfOk}
use Rattle.std.proofs.lemmas.Result.{IfOk-weaker}
use Rattle.elim_step.specs.Eliminated.{point_at}
use Rattle.elim_step.specs.Ranked.{key_at}
use Rattle.private_elim.specs.Locals.{LocalView}
use Rattle.private_elim.specs.Outcomes.{IsReducedFrom, IsConflictFrom}
use Rattle.private_elim.proofs.taking.Choices.{few_taken, picked_reduced, picked_stop, picked_more}
use Rattle.private_elim.proofs.taking.Keys.{left_parts, first_left, first_picked, none_left, keys_after}
use Rattle.private_elim.proofs.taking.Takes.{order_push}
use Rattle.private_elim.proofs.eliminate.take_picked.Goals as goal

pub reduced-requires : goal.reduced-requires
reduced-requires g c =
    let t = c.taking.elimination in
    none_left _ t.local c.taking.invariant.facts.known (reverse t.order) (key_at c.taking.ranking) c.taking.invariant.keyed
    (rw c.in_default.is at c.first.ensures)

pub returns-in_default : goal.returns-in_default
returns-in_default g c =
    IfOk-weaker c.reduced.result (IsReducedFrom c.taking.elimination) _
    (λ o h. picked_reduced _ c.args.elimination.local c.taking.elimination o c.taking.invariant.local c.taking.invariant.picked h) c.reduced.ensures

pub take-requires-clause-private : goal.take-requires-clause-private
take-requires-clause-private g c =
    let t = c.taking.elimination in
    let left =
    first_left _ t.local c.taking.invariant.facts.known (reverse t.order) (key_at c.taking.ranking) c.taking.invariant.keyed c.in-Some.place
    (rw c.in-Some.is at c.first.ensures) in
    (left_parts t.local c.taking.invariant.facts.known (reverse t.order) c.in-Some.place left).1

pub conflict-requires-clause-private : goal.conflict-requires-clause-private
conflict-requires-clause-private g c =
    let t = c.taking.elimination in
    let left =
    first_left _ t.local c.taking.invariant.facts.known (reverse t.order) (key_at c.taking.ranking) c.taking.invariant.keyed c.in-Some.place
    (rw c.in-Some.is at c.first.ensures) in
    rw c.in_ok-other.ensures.local (left_parts t.local c.taking.invariant.facts.known (reverse t.order) c.in-Some.place left).1

pub returns-in-Some-2 : goal.returns-in-Some-2
returns-in-Some-2 g c =
    let t = c.taking.elimination in
    let place = c.in-Some.place in
    let stops = (rw c.in-Some-2.is at c.in_ok-other.ensures.taken) in
    let next =
    first_picked _ t.local c.taking.invariant.facts.known (reverse t.order) (key_at c.taking.ranking) c.taking.invariant.keyed place
    (rw c.in-Some.is at c.first.ensures) in
    IfOk-weaker c.conflict.result (IsConflictFrom c.take.new.self (point_at t.local.points c.in-Some-2.other)) _
    (λ o h. picked_stop _ c.args.elimination.local t c.take.new.self (point_at t.local.points place)
    (point_at t.local.points c.in-Some-2.other) o c.in_ok-other.ensures.local stops.1 c.taking.invariant.local c.taking.invariant.picked next stops.2 h)
    (subst (λ (w : LocalView). IfOk c.conflict.result (IsConflictFrom c.take.new.self (point_at w.points c.in-Some-2.other))) c.in_ok-other.ensures.local
    c.conflict.ensures)

pub taking-smaller : goal.taking-smaller
taking-smaller g c =
    let few = few_taken c.take.new.self c.size-taken.ensures.facts in
    let more : c.take.new.self.order ≡ c.taking.elimination.order ++ point_at c.taking.elimination.local.points c.in-Some.place ∷ [] =
    (rw c.in_default-2.is at c.in_ok-other.ensures.taken) in
    let longer = ap length more ∙ length-append c.taking.elimination.order (point_at c.taking.elimination.local.points c.in-Some.place ∷ []) in
    omega arith

pub taking-preserved : goal.taking-preserved
taking-preserved g c =
    let t = c.taking.elimination in
    let u = c.take.new.self in
    let place = c.in-Some.place in
    let x = point_at t.local.points place in
    let keys = key_at c.taking.ranking in
    let was = c.taking.invariant in
    let known = was.facts.known in
    let first = (rw c.in-Some.is at c.first.ensures) in
    let within = (left_parts t.local known (reverse t.order) place (first_left _ t.local known (reverse t.order) keys was.keyed place first)).0 in
    let more : u.order ≡ t.order ++ x ∷ [] = (rw c.in_default-2.is at c.in_ok-other.ensures.taken) in
    let turned : reverse u.order ≡ x ∷ reverse t.order = ap reverse more ∙ order_push t.order x in
    let local : u.local ≡ t.local = c.in_ok-other.ensures.local in
    record {
      facts = c.size-taken.ensures.facts;
      local = local ∙ was.local;
      picked = picked_more _ t u x local more was.picked (first_picked _ t.local known (reverse t.order) keys was.keyed place first);
      size = c.rank.ensures.size ∙ c.set.ensures.size ∙ was.size ∙ ap (λ (v : LocalView). length v.points) (sym local);
      keyed = rw (local, turned)
          (keys_after _ t.local known (reverse t.order) keys was.keyed place c.take.new.met.items within c.in_ok-other.ensures.met (key_at c.rank.new.ranking)
          (rw (c.as_slice.ensures.value, local, turned) at c.rank.ensures.listed)
          (λ p away. (rw c.as_slice.ensures.value at c.rank.ensures.others) p away ∙ c.set.ensures.keys p));
    }
