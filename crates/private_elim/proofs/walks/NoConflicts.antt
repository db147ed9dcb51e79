-- Where no closed walk of an agent's own arcs is negative whose points are all private, but perhaps the one where it begins and ends, the agent
-- has no own conflict: no_own_conflict, and the same where all private points of its local problem are taken: no_conflict_left.
use Rattle.std.proofs.Common.{◌≡◌, ℕ, ◌<◌, ◌≤◌, Bool, true, false, not, List, [], ◌∷◌, ◌++◌, length, map, refl, sym, ap, subst, ◌∙◌, arith}
use Rattle.stn_walk.proofs.Members.{AllByRecursion-append}
use Rattle.std.specs.Prelude.{pos, ◌<ℤ◌}
use Rattle.std.specs.List.{AllByRecursion, Contains, count_by}
use Rattle.std.proofs.lemmas.Int.{ints}
use Rattle.std.proofs.lemmas.List.{map-append}
use Rattle.stn_model.specs.declared.ids.Constraint.{Constraint}
use Rattle.stn_model.specs.Arcs.{arc_at, to_at}
use Rattle.stn_model.specs.Net.{Net, arcs_of}
use Rattle.stn_model.specs.Kinds.{is_own, is_private_of}
use Rattle.stn_model.specs.Walks.{IsWalk, weight, end_of, heads}
use Rattle.stn_model.specs.ArcWalks.{GoesOn, IsInner, NoNegative}
use Rattle.stn_model.specs.Conflicts.{own_arcs, IsOwnConflict}
use Rattle.stn_model.proofs.WalkLemmas.{IsWalk-append, IsWalk-front, IsWalk-back, weight-append}
use Rattle.stn_model.proofs.Bridges.{arc_contained, arcs_weight-map}
use Rattle.stn_walk.specs.Eliminations.{is_in}
use Rattle.stn_walk.proofs.Visits.{inner_in}
use Rattle.private_elim.specs.Locals.{LocalView, local_of, arcs_in, is_private_in}
use Rattle.stn_walk.proofs.PrivateArcs.{own_listed}
use Rattle.stn_walk.proofs.ButOne.{fails_once, fails_more, all_pass}
use Rattle.private_elim.proofs.locals.LocalFacts.{arcs_of_net, private_of_net}

-- the parts of a list
three_parts : (P : ℕ → Type 0) (prefix back : List ℕ) (n : ℕ) → AllByRecursion P (prefix ++ n ∷ back) → AllByRecursion P prefix × P n × AllByRecursion P back
three_parts P [] back n h = (tt, h.0, h.1)
three_parts P (m ∷ prefix) back n h = let rest = three_parts P prefix back n h.1 in ((h.0, rest.0), rest.1, rest.2)

-- a list of arcs of which all but one end at points that pass the test
record IsAllButOne (passes : ℕ → Bool) (arcs : List Constraint) (ns : List ℕ) : Type 0 where
  prefix : List ℕ
  arc : ℕ
  back : List ℕ
  whole : ns ≡ prefix ++ arc ∷ back
  before : AllByRecursion (λ p. passes p ≡ true) (heads arcs prefix)
  after : AllByRecursion (λ p. passes p ≡ true) (heads arcs back)

module _ (passes : ℕ → Bool) (arcs : List Constraint) where
  all_but_one : (ns : List ℕ) → 0 < length ns → count_by (λ p. not (passes p)) (heads arcs ns) ≤ 1 → IsAllButOne passes arcs ns
  all_but_one [] there few = absurd (omega arith)
  all_but_one (n ∷ []) there few = record { prefix = []; arc = n; back = []; whole = refl; before = tt; after = tt }
  all_but_one (n ∷ m ∷ ms) there few =
      let more = fails_more passes (to_at arcs n) (heads arcs (m ∷ ms)) in
      elim (passes (to_at arcs n)) as (λ b. passes (to_at arcs n) ≡ b → IsAllButOne passes arcs (n ∷ m ∷ ms)) [
        | true ↦ λ here.
            let rest = all_but_one (m ∷ ms) (omega arith) (omega arith) in
            record {
              prefix = n ∷ rest.prefix;
              arc = rest.arc;
              back = rest.back;
              whole = ap (λ xs. n ∷ xs) rest.whole;
              before = (here, rest.before);
              after = rest.after;
            }
        | false ↦ λ here.
            let one : fails_once (passes (to_at arcs n)) ≡ fails_once false = ap fails_once here in
            record { prefix = []; arc = n; back = m ∷ ms; whole = refl; before = tt; after = all_pass passes (heads arcs (m ∷ ms)) (omega arith) }
      ] refl

  -- a walk of arcs of another list, all of which but the last end at points that pass the test
  module _ (own : List Constraint) where
    goes_passing : (i j : ℕ) (ns : List ℕ) (n : ℕ) → IsWalk arcs i j (ns ++ n ∷ []) → AllByRecursion (λ m. Contains own (arc_at arcs m)) (ns ++ n ∷ [])
        → passes i ≡ true → AllByRecursion (λ p. passes p ≡ true) (heads arcs ns) → GoesOn passes own i j (map (arc_at arcs) (ns ++ n ∷ []))
    goes_passing i j [] n w c here h = (here, c.0, w.1, w.2)
    goes_passing i j (m ∷ ms) n w c here h = (here, c.0, w.1, goes_passing (to_at arcs m) j ms n w.2 c.1 h.0 h.1)

    inner_passing : (i j : ℕ) (ns : List ℕ) (n : ℕ) → IsWalk arcs i j (ns ++ n ∷ []) → AllByRecursion (λ m. Contains own (arc_at arcs m)) (ns ++ n ∷ [])
        → AllByRecursion (λ p. passes p ≡ true) (heads arcs ns) → IsInner passes own i j (map (arc_at arcs) (ns ++ n ∷ []))
    inner_passing i j [] n w c h = (c.0, w.1, w.2)
    inner_passing i j (m ∷ ms) n w c h = (c.0, w.1, goes_passing (to_at arcs m) j ms n w.2 c.1 h.0 h.1)

-- a list of numbers that weighs less than nothing is not empty
some_arc : (arcs : List Constraint) (ns : List ℕ) → weight arcs ns <ℤ pos 0 → 0 < length ns
some_arc arcs [] low = absurd (omega (arith, ints))
some_arc arcs (n ∷ ns) low = omega arith

module _ (net : Net) (agent : ℕ) where
  -- the arcs of a walk that are own are among the own arcs
  each_listed : (i j : ℕ) (ns : List ℕ) → IsWalk (arcs_of net) i j ns → AllByRecursion (λ n. is_own net agent (arc_at (arcs_of net) n) ≡ true) ns
      → AllByRecursion (λ n. Contains (own_arcs net agent) (arc_at (arcs_of net) n)) ns
  each_listed i j [] w own = tt
  each_listed i j (n ∷ ns) w own = (
    own_listed net agent (arc_at (arcs_of net) n) (arc_contained (arcs_of net) n w.0) own.0,
    each_listed (to_at (arcs_of net) n) j ns w.2 own.1,
  )

  -- the cycle, begun at the end of the arc that may end at a point that is not private, would be such a closed walk
  pub no_own_conflict : NoNegative (is_private_of net agent) (own_arcs net agent) → (cycle : List ℕ) → IsOwnConflict net agent cycle → ⊥
  no_own_conflict none_below cycle c =
      let arcs = arcs_of net in
      let own = own_arcs net agent in
      let passes = is_private_of net agent in
      let start = c.negative.start in
      let s = all_but_one passes arcs cycle (some_arc arcs cycle c.negative.negative) c.private_but_one in
      let meets = end_of arcs start s.prefix in
      let turn = to_at arcs s.arc in
      let listed = three_parts (λ n. Contains own (arc_at arcs n)) s.prefix s.back s.arc
      (subst (AllByRecursion (λ n. Contains own (arc_at arcs n))) s.whole (each_listed start start cycle c.negative.walk c.own)) in
      let whole = subst (IsWalk arcs start start) s.whole c.negative.walk in
      let prefix = IsWalk-front arcs start start s.prefix (s.arc ∷ s.back) whole in
      let rest = IsWalk-back arcs start start s.prefix (s.arc ∷ s.back) whole in
      let turned = IsWalk-append arcs turn meets turn (s.back ++ s.prefix) (s.arc ∷ [])
      (IsWalk-append arcs turn start meets s.back s.prefix rest.2 prefix) (rest.0, rest.1, refl) in
      let all_listed = AllByRecursion-append (λ n. Contains own (arc_at arcs n)) (s.back ++ s.prefix) (s.arc ∷ [])
      (AllByRecursion-append (λ n. Contains own (arc_at arcs n)) s.back s.prefix listed.2 listed.0) (listed.1, tt) in
      let passing = subst (AllByRecursion (λ p. passes p ≡ true)) (sym (map-append (to_at arcs) s.back s.prefix))
      (AllByRecursion-append (λ p. passes p ≡ true) (heads arcs s.back) (heads arcs s.prefix) s.after s.before) in
      let light =
      none_below turn (map (arc_at arcs) (s.back ++ s.prefix ++ s.arc ∷ []))
      (inner_passing passes arcs own turn turn (s.back ++ s.prefix) s.arc turned all_listed passing) in
      let sum = arcs_weight-map arcs (s.back ++ s.prefix ++ s.arc ∷ []) in
      let last = weight-append arcs (s.back ++ s.prefix) (s.arc ∷ []) in
      let both = weight-append arcs s.back s.prefix in
      let was = ap (weight arcs) s.whole ∙ weight-append arcs s.prefix (s.arc ∷ s.back) in
      let low = c.negative.negative in
      omega (arith, ints)

-- where all private points are taken, and no closed walk through taken points is negative, there is no own conflict
pub no_conflict_left : (v : LocalView) (taken : List ℕ) (net : Net) → v ≡ local_of net v.agent → NoNegative (is_in taken) (arcs_in v)
    → ((p : ℕ) → is_private_in v p ≡ true → is_in taken p ≡ true) → (cycle : List ℕ) → IsOwnConflict net v.agent cycle → ⊥
no_conflict_left v taken net e none_below whole cycle c =
    let passes = is_private_of net v.agent in
    let own = own_arcs net v.agent in
    let covers : (q : ℕ) → passes q ≡ true → is_in taken q ≡ true = λ q h. whole q (private_of_net v net e q ∙ h) in
    no_own_conflict net v.agent
    (λ p w h. none_below p w (subst (λ arcs. IsInner (is_in taken) arcs p p w) (sym (arcs_of_net v net e))
    (inner_in passes (is_in taken) own p p w covers h))) cycle c
