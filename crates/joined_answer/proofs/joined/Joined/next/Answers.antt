use Rattle.std.proofs.Common.{List, ℕ, ◌<◌, IfSome, IfNone, option_map, subst, sym}
use Rattle.dist_rows.specs.Cells.{IsAbove}
use Rattle.stn_model.specs.Joined.{IsJoined}
use Rattle.stn_model.specs.Net.{arcs_of}
use Rattle.joined_answer.proofs.joined.Joined.next.Goals as goal

pub returns-clause-least : goal.returns-clause-least
returns-clause-least c =
    let s = c.self.inside in
    let known = c.self.invariant.1 in
    rw (← c.self.view_is)
    (subst (λ (order : List ℕ). IfSome c.next.result (λ p. (q : ℕ) → q < p.0 → IsAbove q (option_map (λ p. p.0) c.args.after)
    → IsJoined (arcs_of s.network) order c.args.i.0 q → ⊥)) (sym known.laid) (c.next.ensures.least s.network known.belongs))

pub returns-clause-none : goal.returns-clause-none
returns-clause-none c =
    let s = c.self.inside in
    let known = c.self.invariant.1 in
    rw (← c.self.view_is)
    (subst (λ (order : List ℕ). IfNone c.next.result ((q : ℕ) → IsAbove q (option_map (λ p. p.0) c.args.after)
    → IsJoined (arcs_of s.network) order c.args.i.0 q → ⊥)) (sym known.laid) (c.next.ensures.none s.network known.belongs))
