use Rattle.std.proofs.Common.{ℕ, List, sym, subst, get_or, ◌≡◌, ◌≤◌, ◌++◌, drop, take}
use Rattle.std.specs.List.{All, Contains}
use Rattle.std.proofs.lemmas.List.Elements.{All-append, All-drop, All-take}
use Rattle.stn_model.specs.Walks.{IsNegativeCycle, IsNormal}
use Rattle.stn_walk.proofs.Rotation.{turn_negative_cycle, IsNormal-turn}
use Rattle.stn_walk.proofs.pruning.negative_cycle.Goals as goal

pub returns-clause-cycle : goal.returns-clause-cycle
returns-clause-cycle g c =
    let list = g.A.ArcList.list c.args.arcs.now in
    let k = c.place_of_least-least.result in
    let ns = c.in_ok-cycle.cycle.items in
    let within = rw c.as_slice.ensures.value at c.place_of_least-least.ensures.within in
    let turned : c.in_ok-turned.turned.items ≡ drop k ns ++ take k ns =
    subst (λ (xs : List ℕ). c.in_ok-turned.turned.items ≡ drop k xs ++ take k xs) c.as_slice-2.ensures.value c.in_ok-turned.ensures in
    subst (IsNegativeCycle list) (sym turned) (turn_negative_cycle list ns k within c.in_ok-cycle.ensures.cycle)

pub returns-clause-normal : goal.returns-clause-normal
returns-clause-normal g c =
    let k = c.place_of_least-least.result in
    let ns = c.in_ok-cycle.cycle.items in
    let within = rw c.as_slice.ensures.value at c.place_of_least-least.ensures.within in
    let turned : c.in_ok-turned.turned.items ≡ drop k ns ++ take k ns =
    subst (λ (xs : List ℕ). c.in_ok-turned.turned.items ≡ drop k xs ++ take k xs) c.as_slice-2.ensures.value c.in_ok-turned.ensures in
    let least = subst (λ (xs : List ℕ). All (λ n. get_or xs k 0 ≤ n) xs) c.as_slice.ensures.value c.place_of_least-least.ensures.least in
    subst IsNormal (sym turned) (IsNormal-turn ns k within least)

pub returns-clause-part : goal.returns-clause-part
returns-clause-part g c =
    let k = c.place_of_least-least.result in
    let ns = c.in_ok-cycle.cycle.items in
    let P : ℕ → Type 0 = Contains c.args.closed.now in
    let all = c.in_ok-cycle.ensures.part in
    let turned : c.in_ok-turned.turned.items ≡ drop k ns ++ take k ns =
    subst (λ (xs : List ℕ). c.in_ok-turned.turned.items ≡ drop k xs ++ take k xs) c.as_slice-2.ensures.value c.in_ok-turned.ensures in
    subst (All P) (sym turned) (All-append P (drop k ns) (take k ns) (All-drop P k ns all) (All-take P k ns all))
