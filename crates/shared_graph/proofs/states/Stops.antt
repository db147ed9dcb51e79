-- An elimination that is refused for a negative sum gives way to a stop.
use Rattle.std.proofs.Common.{◌≡◌, ℕ, Bool, true, false, not, Option, Some, None, ap, refl, arith}
use Rattle.std.specs.Prelude.{◌↔◌, ◌==◌, if◌then◌else◌, is_some}
use Rattle.std.specs.Option.{option_map}
use Rattle.std.proofs.lemmas.Bool.Decides.{nat_tests}
use Rattle.stn_model.specs.declared.ids.PointId.{PointId}
use Rattle.stn_walk.specs.Eliminations.{is_in}
use Rattle.shared_graph.specs.declared.events.By.{By}
use Rattle.shared_graph.specs.declared.events.Illegal.{Illegal}
use Rattle.shared_graph.specs.declared.events.Event.TheVariants.{Eliminate, Stop}
use Rattle.shared_graph.specs.declared.events.Illegal.TheVariants.{NotOwner, AlreadyDone, Stopped}
use Rattle.shared_graph.specs.Interfaces.{InterfaceView, owner_in}
use Rattle.shared_graph.specs.States.{point_id, State, is_published}
use Rattle.shared_graph.specs.Weights.{least_negative}
use Rattle.shared_graph.specs.Refusals.{not_published, negative, not_negative, acts_for, or_else, owner_tests, refusal, is_that}

tests_early : (a b c : Bool) (n m : ℕ) → (if a then Some NotOwner else (if b then Some (not_published n) else (if c then Some AlreadyDone else None)))
    ≡ Some (negative m) → ⊥
tests_early true b c n m h = absurd (cc)
tests_early false true c n m h = absurd (cc)
tests_early false false true n m h = absurd (cc)
tests_early false false false n m h = absurd (cc)

never_negative : (s : State) (by : By) (k : ℕ) (o : Option ℕ) (m : ℕ) → owner_tests s by k o ≡ Some (negative m) → ⊥
never_negative s by k None m h = absurd (cc)
never_negative s by k (Some a) m h = tests_early (not (acts_for by a)) (not (is_published s a)) (is_in s.order k) a m h

gives_way : (st : Bool) (x : Option Illegal) (l : Option ℕ) (i : ℕ) → ((m : ℕ) → x ≡ Some (negative m) → ⊥)
    → ((if st then Some Stopped else or_else x (option_map negative l)) ≡ Some (negative i)) ↔
    ((if st then Some Stopped else or_else x (if is_that l i then None else Some (not_negative i))) ≡ None)
gives_way true x l i never = (λ h. absurd (cc), λ h. absurd (cc))
gives_way false (Some c) l i never = (λ h. absurd (never i h), λ h. absurd (cc))
gives_way false None None i never = (λ h. absurd (cc), λ h. absurd (cc))
gives_way false None (Some m) i never = (
  λ h. (let p : point_id m ≡ point_id i = cc in let e = ap (λ (x : PointId). x.0) p in let t : (m == i) ≡ true = grind (arith, nat_tests) in
      ap (λ b. if b then None else Some (not_negative i)) t),
  λ h. elim (m == i) as (λ b. (m == i) ≡ b → (if b then None else Some (not_negative i)) ≡ None → Some (negative m) ≡ Some (negative i)) [
    | true ↦ λ t g. (let e : m ≡ i = grind (arith, nat_tests) in ap (λ x. Some (negative x)) e)
    | false ↦ λ t g. absurd (cc)
  ] refl h,
)

pub negative_stops : (face : InterfaceView) (s : State) (by : By) (k i : ℕ)
    → (refusal face s (record { by = by; event = Eliminate (point_id k) }) ≡ Some (negative i)) ↔
    (refusal face s (record { by = by; event = Stop (point_id k) (point_id i) }) ≡ None)
negative_stops face s by k i = gives_way (is_some s.stop) (owner_tests s by k (owner_in face k)) (least_negative face s k) i
    (never_negative s by k (owner_in face k))
