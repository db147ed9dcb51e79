-- A negative cycle has no more arcs than there are points, so that many numbers show that a line tells none.
use Rattle.std.proofs.Common.{◌≡◌, ℕ, ◌+◌, ◌<◌, ◌≤◌, Bool, true, false, List, [], ◌∷◌, ◌++◌, length, map, Option, Some, None, refl, sym, ap, subst, ◌∙◌, arith, length-append}
use Rattle.std.specs.List.{AllByRecursion}
use Rattle.std.specs.Option.{option_map}
use Rattle.std.proofs.lemmas.Bool.{false≢true}
use Rattle.std.proofs.lemmas.List.{length-map}
use Rattle.stn_model.specs.declared.ids.Constraint.{Constraint}
use Rattle.stn_model.specs.Arcs.{to_at}
use Rattle.stn_model.specs.Net.{Net, arcs_of, point_count}
use Rattle.stn_model.specs.Valid.{IsNetwork}
use Rattle.stn_model.specs.Walks.{IsWalk, heads, AllDifferent}
use Rattle.stn_model.proofs.ArcLemmas.{arcs_within}
use Rattle.stn_walk.proofs.Different.{few_different}
use Rattle.cert_check.specs.Cycles.{is_cycle}
use Rattle.cert_check.specs.Certificates.{arc_number, arc_numbers, with_number, writes_cycle}
use Rattle.cert_check.proofs.Cycles.{cycle_from}

heads_below : (arcs : List Constraint) (points : ℕ) → ((n : ℕ) → n < length arcs → to_at arcs n < points) → (i j : ℕ) (ns : List ℕ) → IsWalk arcs i j ns
    → AllByRecursion (λ p. p < points) (heads arcs ns)
heads_below arcs points ends i j [] walk = tt
heads_below arcs points ends i j (n ∷ ns) walk = (ends n walk.0, heads_below arcs points ends (to_at arcs n) j ns walk.2)

pub cycle_is_short : (net : Net) → IsNetwork net → (ns : List ℕ) → is_cycle (arcs_of net) ns ≡ true → length ns ≤ point_count net
cycle_is_short net valid ns e =
    let cycle = (cycle_from (arcs_of net) ns e).0 in
    subst (λ (n : ℕ). n ≤ point_count net) (length-map ns (to_at (arcs_of net)))
    (few_different (point_count net) (heads (arcs_of net) ns) cycle.simple
    (heads_below (arcs_of net) (point_count net) (λ n lt. (arcs_within net valid n lt).ends) cycle.start cycle.start ns cycle.walk))

no_cycle : (net : Net) → IsNetwork net → (ns : List ℕ) → point_count net < length ns → is_cycle (arcs_of net) ns ≡ false
no_cycle net valid ns long = by (is_cycle (arcs_of net) ns) refl
  where
    by : (b : Bool) → is_cycle (arcs_of net) ns ≡ b → is_cycle (arcs_of net) ns ≡ false
    by true e = let short = cycle_is_short net valid ns e in absurd (omega arith)
    by false e = e

writes_none : (net : Net) (fs : List (List ℕ)) → arc_numbers net fs ≡ None → writes_cycle net fs ≡ false
writes_none net fs e = ap (λ o. elim o [ None ↦ false | Some ns ↦ is_cycle (arcs_of net) ns ]) e

writes_some : (net : Net) (fs : List (List ℕ)) (ns : List ℕ) → arc_numbers net fs ≡ Some ns → writes_cycle net fs ≡ is_cycle (arcs_of net) ns
writes_some net fs ns e = ap (λ o. elim o [ None ↦ false | Some ms ↦ is_cycle (arcs_of net) ms ]) e

-- as many numbers as points, and one more field
pub too_many : (net : Net) → IsNetwork net → (fs : List (List ℕ)) (f : List ℕ) (more : List (List ℕ)) (numbers : List ℕ)
    → arc_numbers net fs ≡ option_map (λ ms. numbers ++ ms) (arc_numbers net (f ∷ more)) → point_count net ≤ length numbers → writes_cycle net fs ≡ false
too_many net valid fs f more numbers so_far long = by (arc_number net f) (arc_numbers net more) so_far
  where
    by : (o : Option ℕ) (r : Option (List ℕ)) → arc_numbers net fs ≡ option_map (λ ms. numbers ++ ms) (with_number o r) → writes_cycle net fs ≡ false
    by None r e = writes_none net fs e
    by (Some n) None e = writes_none net fs e
    by (Some n) (Some ms) e =
        let all = length-append numbers (n ∷ ms) in
        writes_some net fs (numbers ++ n ∷ ms) e ∙ no_cycle net valid (numbers ++ n ∷ ms) (omega arith)
