use Rattle.std.proofs.Common.{◌≡◌, ℕ, List, sym, subst, refl, ◌∙◌, IsTrue, to_z, of_z, w64, arith}
use Rattle.std.specs.List.{Contains}
use Rattle.std.specs.Prelude.{◌↔◌}
use Rattle.std.proofs.lemmas.Bool.{false≢true}
use Rattle.std.proofs.lemmas.Int.{ints}
use Rattle.std.proofs.lemmas.Result.{IfOk-weaker}
use Rattle.stn_model.specs.Net.{Net, arcs_of, point_count}
use Rattle.stn_model.specs.Schedules.{IsConsistent}
use Rattle.stn_model.specs.Walks.{IsNegativeCycle, IsNormal}
use Rattle.stn_walk.specs.Detours.{IsWithdrawn}
use Rattle.least_repair.specs.Loosened.{without, IsLeastEnough}
use Rattle.least_repair.specs.Repairs.{remains, IsLoosen, IfRemains}
use Rattle.least_repair.specs.declared.loosening.Repair.{Repair}
use Rattle.least_repair.specs.declared.loosening.Repair.TheVariants.{Remains, Loosen}
use Rattle.least_repair.proofs.OtherBound.{without_copy, IsWithdrawn-without, IsLeastEnough-without, cycle_without}
use Rattle.least_repair.proofs.loosening.least_repair.Goals as goal

-- where there is a raise nothing remains
IfRemains-none : (fact : List ℕ → Type 0) (answer : Repair) → IsLoosen answer → IfRemains answer fact
IfRemains-none fact (Remains walk) h = absurd (false≢true (sym h))
IfRemains-none fact (Loosen by times cycle) h = tt

pub lead_round-requires-clause-withdrawn : goal.lead_round-requires-clause-withdrawn
lead_round-requires-clause-withdrawn c =
    let is = without_copy c.args.net.now c.args.arc c.requires.given c.in_ok-other.other c.withdraw.new.self c.in_ok-other.ensures c.withdraw.ensures in
    subst (λ (o : Net). IsWithdrawn o c.args.arc) (sym is) (IsWithdrawn-without c.args.net.now c.args.arc c.requires.given)

pub returns-in_ok-walk-in-Inconsistent-clause-exactly : goal.returns-in_ok-walk-in-Inconsistent-clause-exactly
returns-in_ok-walk-in-Inconsistent-clause-exactly c =
    let is = without_copy c.args.net.now c.args.arc c.requires.given c.in_ok-other.other c.withdraw.new.self c.in_ok-other.ensures c.withdraw.ensures in
    let exactly = rw c.in-Inconsistent.is at c.in_ok-cycle.ensures.exactly in
    (λ t s. false≢true (exactly.1 (subst (λ (o : Net). IsConsistent (point_count o) (arcs_of o)) (sym is) s)), λ none. refl)

pub returns-in_ok-walk-in-Inconsistent-clause-remains : goal.returns-in_ok-walk-in-Inconsistent-clause-remains
returns-in_ok-walk-in-Inconsistent-clause-remains c =
    let is = without_copy c.args.net.now c.args.arc c.requires.given c.in_ok-other.other c.withdraw.new.self c.in_ok-other.ensures c.withdraw.ensures in
    let walk = c.in_ok-walk-in-Inconsistent.walk in
    let e = c.in_ok-walk-in-Inconsistent.ensures in
    cycle_without c.args.net.now c.args.arc c.requires.given walk e.unnamed (subst (λ (o : Net). IsNegativeCycle (arcs_of o) walk) is e.cycle)

pub least_enough-requires-clause-withdrawn : goal.least_enough-requires-clause-withdrawn
least_enough-requires-clause-withdrawn c =
    let is = without_copy c.args.net.now c.args.arc c.requires.given c.in_ok-other.other c.withdraw.new.self c.in_ok-other.ensures c.withdraw.ensures in
    subst (λ (o : Net). IsWithdrawn o c.args.arc) (sym is) (IsWithdrawn-without c.args.net.now c.args.arc c.requires.given)

pub loosen-requires-clause-enough : goal.loosen-requires-clause-enough
loosen-requires-clause-enough c =
    let net = c.args.net.now in
    let n = c.args.arc in
    let is = without_copy net n c.requires.given c.in_ok-other.other c.withdraw.new.self c.in_ok-other.ensures c.withdraw.ensures in
    let enough = c.in_ok-enough-in-Consistent.enough in
    let fits : to_z w64 (of_z w64 enough) ≡ enough = omega (arith, ints) in
    subst (IsLeastEnough net n) (sym fits)
    (IsLeastEnough-without net n c.requires.given enough (subst (λ (o : Net). IsLeastEnough o n enough) is c.in_ok-enough-in-Consistent.ensures.enough))

pub returns-in_ok-enough-in-Consistent-clause-exactly : goal.returns-in_ok-enough-in-Consistent-clause-exactly
returns-in_ok-enough-in-Consistent-clause-exactly c =
    let is = without_copy c.args.net.now c.args.arc c.requires.given c.in_ok-other.other c.withdraw.new.self c.in_ok-other.ensures c.withdraw.ensures in
    let exactly = rw c.in-Consistent.is at c.in_ok-cycle.ensures.exactly in
    let consistent = subst (λ (o : Net). IsConsistent (point_count o) (arcs_of o)) is (exactly.0 refl) in
    IfOk-weaker c.loosen.result IsLoosen
    (λ answer. IsTrue (remains answer) ↔ (IsConsistent (point_count c.args.net.now) (arcs_of (without c.args.net.now c.args.arc)) → ⊥))
    (λ answer loosens. (λ t. absurd (false≢true (sym loosens ∙ t)), λ none. absurd (none consistent)))
    c.loosen.ensures.loosens

pub returns-in_ok-enough-in-Consistent-clause-remains : goal.returns-in_ok-enough-in-Consistent-clause-remains
returns-in_ok-enough-in-Consistent-clause-remains c =
    let fact = IsNegativeCycle (arcs_of c.args.net.now) in
    IfOk-weaker c.loosen.result IsLoosen (λ answer. IfRemains answer fact) (IfRemains-none fact) c.loosen.ensures.loosens

pub returns-in_ok-enough-in-Consistent-clause-normal : goal.returns-in_ok-enough-in-Consistent-clause-normal
returns-in_ok-enough-in-Consistent-clause-normal c =
    IfOk-weaker c.loosen.result IsLoosen (λ answer. IfRemains answer IsNormal) (IfRemains-none IsNormal) c.loosen.ensures.loosens

pub returns-in_ok-enough-in-Consistent-clause-unnamed : goal.returns-in_ok-enough-in-Consistent-clause-unnamed
returns-in_ok-enough-in-Consistent-clause-unnamed c =
    let fact : List ℕ → Type 0 = λ walk. Contains walk c.args.arc → ⊥ in
    IfOk-weaker c.loosen.result IsLoosen (λ answer. IfRemains answer fact) (IfRemains-none fact) c.loosen.ensures.loosens
