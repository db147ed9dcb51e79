-- A test of negative cycles, where the numbers are in normal form.
use Rattle.std.proofs.Common.{◌≡◌, ◌↔◌, ℕ, true, List, subst}
use Rattle.stn_model.specs.Net.{arcs_of}
use Rattle.stn_model.specs.Walks.{IsNegativeCycle}
use Rattle.cert_check.specs.Cycles.{is_normal}
use Rattle.cert_check.proofs.Cycles.{cycle_tested}
use Rattle.cert_check.proofs.cycle.is_cycle.Goals as goal

pub returns-then-is_normal : goal.returns-then-is_normal
returns-then-is_normal c =
    let normal : is_normal c.args.numbers.items ≡ true = cc in
    cycle_tested (arcs_of c.args.net.now) c.args.numbers.items c.is_negative_cycle-then-is_normal.result
    (subst (λ (ns : List ℕ). (c.is_negative_cycle-then-is_normal.result ≡ true) ↔ IsNegativeCycle (arcs_of c.args.net.now) ns) c.new.ensures c.is_negative_cycle-then-is_normal.ensures) normal
