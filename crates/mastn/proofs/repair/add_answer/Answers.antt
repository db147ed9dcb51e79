use Rattle.std.proofs.Common.{◌≡◌, ℕ, ℤ, pos, ◌-ℤ◌, List, ◌++◌, Some, None, refl, sym, ap, ap₂, subst, ◌∙◌, append_assoc, to_z, of_z, inl, inr, arith}
use mir.Syntax.{w128}
use Rattle.std.proofs.lemmas.Int.{ints}
use Rattle.std.proofs.lemmas.Result.{on_ok_weaker}
use Rattle.stn_model.specs.Arcs.{bound_at}
use Rattle.stn_model.specs.Net.{Net, arcs_of}
use Rattle.stn_model.specs.Walks.{IsNegativeCycle}
use Rattle.least_repair.specs.Loosened.{loosened}
use Rattle.schedule_report.specs.Lines.{repair_line}
use Rattle.schedule_report.specs.Parts.{times_part}
use Rattle.mastn.specs.Reports.{summed_cycle}
use Rattle.mastn.proofs.repair.add_answer.Goals as goal

pub add_loosened-requires-clause-raises : goal.add_loosened-requires-clause-raises
add_loosened-requires-clause-raises c = let raises = rw c.in-Loosen.is at c.in_ok-walk.ensures.raises in omega (arith, ints)

pub add_loosened-requires-clause-high : goal.add_loosened-requires-clause-high
add_loosened-requires-clause-high c =
    let raises = rw c.in-Loosen.is at c.in_ok-walk.ensures.raises in
    let within = rw c.in-Loosen.is at c.in_ok-walk.ensures.within in
    let same = ap (λ (o : Net). bound_at (arcs_of o) c.args.arc) c.requires.other in
    let top = ap (λ (o : Net). o.horizon) c.requires.other in
    omega (arith, ints)

pub add_loosened-requires-clause-cycle : goal.add_loosened-requires-clause-cycle
add_loosened-requires-clause-cycle c =
    let raises = rw c.in-Loosen.is at c.in_ok-walk.ensures.raises in
    let cycle = rw c.in-Loosen.is at c.in_ok-walk.ensures.cycle in
    let by = c.in-Loosen.by in
    let less : by -ℤ pos 1 ≡ to_z w128 (of_z w128 (to_z w128 (of_z w128 by) -ℤ pos 1)) = omega (arith, ints) in
    subst (λ (o : Net). IsNegativeCycle (arcs_of (loosened o c.args.arc (to_z w128 (of_z w128 (to_z w128 (of_z w128 by) -ℤ pos 1))))) c.in-Loosen.cycle) (sym c.requires.other)
    (subst (λ (b : ℤ). IsNegativeCycle (arcs_of (loosened c.args.net.now c.args.arc b)) c.in-Loosen.cycle) less cycle)

pub returns-in-Remains-clause-text : goal.returns-in-Remains-clause-text
returns-in-Remains-clause-text c =
    let net = c.args.net.now in
    let n = c.args.arc in
    let exactly = rw c.in-Remains.is at c.in_ok-walk.ensures.exactly in
    let cycle = rw c.in-Remains.is at c.in_ok-walk.ensures.remains in
    let normal = rw c.in-Remains.is at c.in_ok-walk.ensures.normal in
    let unnamed = rw c.in-Remains.is at c.in_ok-walk.ensures.unnamed in
    let walk = c.in-Remains.walk in
    on_ok_weaker c.add_left.result
    (λ is. (
      repair_line n None ++ summed_cycle net walk,
      inr (record { remains = exactly.0 refl; walk = walk; cycle = cycle; normal = normal; unnamed = unnamed; report = refl }),
      is ∙ append_assoc c.args.text.now.items (repair_line n None) (summed_cycle net walk),
    ))
    c.add_left.ensures

pub returns-in_ok-add_raise-in-Loosen-clause-text : goal.returns-in_ok-add_raise-in-Loosen-clause-text
returns-in_ok-add_raise-in-Loosen-clause-text c =
    let net = c.args.net.now in
    let n = c.args.arc in
    let by = c.in-Loosen.by in
    let times = c.in-Loosen.schedule in
    let walk = c.in-Loosen.cycle in
    let raises = rw c.in-Loosen.is at c.in_ok-walk.ensures.raises in
    let within = rw c.in-Loosen.is at c.in_ok-walk.ensures.within in
    let earliest = rw c.in-Loosen.is at c.in_ok-walk.ensures.schedule in
    let cycle = rw c.in-Loosen.is at c.in_ok-walk.ensures.cycle in
    let normal = rw c.in-Loosen.is at c.in_ok-walk.ensures.cycle_normal in
    let fits : to_z w128 (of_z w128 by) ≡ by = omega (arith, ints) in
    let less : to_z w128 (of_z w128 (to_z w128 (of_z w128 by) -ℤ pos 1)) ≡ by -ℤ pos 1 = omega (arith, ints) in
    let old = c.args.text.now.items in
    let line = repair_line n (Some by) in
    let rest = times_part net times in
    let last = summed_cycle (loosened net n (by -ℤ pos 1)) walk in
    let first : c.add_raise.new.text.items ≡ old ++ line ++ rest =
    subst (λ (x : ℤ). c.add_raise.new.text.items ≡ old ++ repair_line n (Some x) ++ rest) fits c.in_ok-add_raise-in-Loosen.ensures in
    on_ok_weaker c.add_loosened.result
    (λ is. (
      line ++ rest ++ last,
      inl (record {
        by = by;
        raises = raises;
        within = within;
        times = times;
        earliest = earliest;
        walk = walk;
        cycle = cycle;
        normal = normal;
        report = refl;
      }),
      is ∙ ap₂ (λ (xs ys : List ℕ). xs ++ ys) first
          (ap₂ (λ (o : Net) (x : ℤ). summed_cycle (loosened o n x) walk) c.requires.other less)
          ∙ ap (λ (xs : List ℕ). xs ++ last) (append_assoc old line rest) ∙ append_assoc old (line ++ rest) last,
    ))
    c.add_loosened.ensures.text
