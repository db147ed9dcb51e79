-- What it says that no test of an entry fails.
use Rattle.std.proofs.Common.{zero, suc, ◌≡◌, ℕ, ◌<◌, List, [], ◌∷◌, Bool, true, false, ◌&&◌, ◌||◌, not, Option, Some, None, ap, sym, ◌∙◌, refl, arith}
use Rattle.std.proofs.Common.{length, inl, inr}
use Rattle.std.specs.Prelude.{◌==◌, if◌then◌else◌, is_some, nat_lt, map}
use Rattle.std.specs.Option.{option_map}
use Rattle.std.proofs.lemmas.Bool.{cases_lt}
use Rattle.std.proofs.lemmas.Bool.{and_parts, or_cases}
use Rattle.std.proofs.Math.Bool.{or-true}
use Rattle.std.proofs.lemmas.Bool.Decides.{nat_tests}
use Rattle.stn_walk.specs.Eliminations.{is_in}
use Rattle.shared_graph.specs.declared.events.SharedCycle.{SharedCycle}
use Rattle.shared_graph.specs.declared.events.By.{By}
use Rattle.shared_graph.specs.declared.events.Entry.{Entry}
use Rattle.shared_graph.specs.declared.events.Illegal.{Illegal}
use Rattle.shared_graph.specs.declared.events.Event.TheVariants.{Publish, Eliminate, Stop, Revisit}
use Rattle.shared_graph.specs.declared.events.Illegal.TheVariants.{NotShared, NotOwner, AlreadyPublished, AlreadyDone, Stopped}
use Rattle.shared_graph.specs.Interfaces.{InterfaceView, points_of, owner_in, owner_among, SharedPoint, is_listed}
use Rattle.shared_graph.specs.States.{agent_id, point_id, State, is_published, is_revisited}
use Rattle.shared_graph.specs.Weights.{first_passing, least_negative, is_later}
use Rattle.shared_graph.specs.Refusals.{not_published, order_open, neighbour_first, negative, not_negative, acts_for, or_else, or_number, first_below}
use Rattle.shared_graph.specs.Refusals.{owner_tests, cause_of, refusal, is_that}
use Rattle.shared_graph.specs.Together.{IsOwned, IsAllPublished, IsWhole}

pub if_none : (b : Bool) (c : Illegal) (o : Option Illegal) → (if b then Some c else o) ≡ None → (b ≡ false) × (o ≡ None)
if_none true c o h = absurd (cc)
if_none false c o h = (refl, h)

pub or_none : (x y : Option Illegal) → or_else x y ≡ None → (x ≡ None) × (y ≡ None)
or_none None y h = (refl, h)
or_none (Some c) y h = absurd (cc)

pub map_none : (f : ℕ → Illegal) (o : Option ℕ) → option_map f o ≡ None → o ≡ None
map_none f None h = refl
map_none f (Some n) h = absurd (cc)

pub not_false : (b : Bool) → not b ≡ false → b ≡ true
not_false true h = refl
not_false false h = absurd (cc)

-- the first of a list that passes
pub passing_none : (test : ℕ → Bool) (ps : List ℕ) → first_passing test ps ≡ None → (p : ℕ) → is_in ps p ≡ true → test p ≡ false
passing_none test [] h p in_list = absurd (cc)
passing_none test (q ∷ ps) h p in_list =
    elim (test q) as (λ b. test q ≡ b → (if b then Some q else first_passing test ps) ≡ None → test p ≡ false) [
      | true ↦ λ t g. absurd (cc)
      | false ↦ λ t g. elim (or_cases (is_in ps p) (p == q) in_list) [
        | inl later ↦ passing_none test ps g p later
        | inr here ↦ (let e : p ≡ q = grind (arith, nat_tests) in ap test e ∙ t)
      ]
    ] refl h

pub passing_some : (test : ℕ → Bool) (ps : List ℕ) (i : ℕ) → first_passing test ps ≡ Some i → test i ≡ true
passing_some test [] i h = absurd (cc)
passing_some test (q ∷ ps) i h =
    elim (test q) as (λ b. test q ≡ b → (if b then Some q else first_passing test ps) ≡ Some i → test i ≡ true) [
      | true ↦ λ t g. (let e : q ≡ i = cc in ap test (sym e) ∙ t)
      | false ↦ λ t g. passing_some test ps i g
    ] refl h

-- it is one of the list
pub passing_in : (test : ℕ → Bool) (ps : List ℕ) (i : ℕ) → first_passing test ps ≡ Some i → is_in ps i ≡ true
passing_in test [] i h = absurd (cc)
passing_in test (q ∷ ps) i h =
    elim (test q) as (λ b. test q ≡ b → (if b then Some q else first_passing test ps) ≡ Some i → is_in (q ∷ ps) i ≡ true) [
      | true ↦ λ t g. (let e : q ≡ i = cc in let same : (i == q) ≡ true = grind (arith, nat_tests) in ap (λ b. is_in ps i || b) same ∙ or-true (is_in ps i))
      | false ↦ λ t g. ap (λ b. b || (i == q)) (passing_in test ps i g)
    ] refl h

pub below_none : (test : ℕ → Bool) (n : ℕ) → first_below test n ≡ None → (a : ℕ) → a < n → test a ≡ false
below_none test zero h a lt = absurd (omega arith)
below_none test (suc n) h a lt =
    elim (first_below test n) as (λ o. first_below test n ≡ o → or_number o (if test n then Some n else None) ≡ None → test a ≡ false) [
      | None ↦ λ t g. elim (cases_lt a n) [
        | inl low ↦ below_none test n t a low
        | inr high ↦ (let e : a ≡ n = omega arith in elim (test n) as (λ b. test n ≡ b → (if b then Some n else None) ≡ None → test a ≡ false) [
          | true ↦ λ u f. absurd (cc)
          | false ↦ λ u f. ap test e ∙ u
        ] refl g)
      ]
      | Some m ↦ λ t g. absurd (cc)
    ] refl h

-- a listed point is one of the points
pub listed_in : (qs : List SharedPoint) (p : ℕ) → is_some (owner_among qs p) ≡ true → is_in (map (λ q. q.point) qs) p ≡ true
listed_in [] p h = absurd (cc)
listed_in (q ∷ qs) p h =
    elim (p == q.point) as (λ b. (p == q.point) ≡ b → is_some (if b then Some q.owner else owner_among qs p) ≡ true
    → (is_in (map (λ q. q.point) qs) p || b) ≡ true) [
      | true ↦ λ t g. or-true (is_in (map (λ q. q.point) qs) p)
      | false ↦ λ t g. ap (λ b. b || false) (listed_in qs p g)
    ] refl h

-- and the other way round
pub in_listed : (qs : List SharedPoint) (p : ℕ) → is_in (map (λ q. q.point) qs) p ≡ true → is_some (owner_among qs p) ≡ true
in_listed [] p h = absurd (cc)
in_listed (q ∷ qs) p h =
    elim (p == q.point) as (λ b. (is_in (map (λ q. q.point) qs) p || b) ≡ true → is_some (if b then Some q.owner else owner_among qs p) ≡ true) [
      | true ↦ λ g. refl
      | false ↦ λ g. elim (or_cases (is_in (map (λ q. q.point) qs) p) false g) [ inl later ↦ in_listed qs p later | inr never ↦ absurd (cc) ]
    ] h

-- no test fails
pub no_stop : (face : InterfaceView) (s : State) (e : Entry) → refusal face s e ≡ None → (s.stop ≡ None) × (cause_of face s e.by e.event ≡ None)
no_stop face s e h = go s.stop refl h where
  go : (o : Option SharedCycle) → s.stop ≡ o → (if is_some o then Some Stopped else cause_of face s e.by e.event) ≡ None
      → (s.stop ≡ None) × (cause_of face s e.by e.event ≡ None)
  go None is g = (is, g)
  go (Some t) is g = absurd (cc)

pub owner_passes : (face : InterfaceView) (s : State) (by : By) (k : ℕ) → owner_tests s by k (owner_in face k) ≡ None
    → IsOwned face s k × (is_in s.order k ≡ false)
owner_passes face s by k h = go (owner_in face k) refl h where
  go : (o : Option ℕ) → owner_in face k ≡ o → owner_tests s by k o ≡ None → IsOwned face s k × (is_in s.order k ≡ false)
  go None is g = absurd (cc)
  go (Some a) is g =
      let one = if_none (not (acts_for by a)) NotOwner _ g in
      let two = if_none (not (is_published s a)) (not_published a) _ one.1 in
      let three = if_none (is_in s.order k) AlreadyDone None two.1 in
      ((a, is, not_false (is_published s a) two.0), three.0)

pub publish_passes : (face : InterfaceView) (s : State) (by : By) (a : ℕ) → cause_of face s by (Publish (agent_id a)) ≡ None
    → (a < length face.leans) × (is_published s a ≡ false)
publish_passes face s by a h =
    let one = if_none (not (acts_for by a && nat_lt a (length face.leans))) NotOwner _ h in
    let two = if_none (is_published s a) AlreadyPublished None one.1 in
    let both = and_parts (acts_for by a) (nat_lt a (length face.leans)) (not_false _ one.0) in
    let low = both.1 in
    (grind (arith, nat_tests), two.0)

pub eliminate_passes : (face : InterfaceView) (s : State) (by : By) (k : ℕ) → cause_of face s by (Eliminate (point_id k)) ≡ None
    → IsOwned face s k × (is_in s.order k ≡ false) × (least_negative face s k ≡ None)
eliminate_passes face s by k h =
    let one = or_none (owner_tests s by k (owner_in face k)) _ h in
    let two = owner_passes face s by k one.0 in
    (two.0, two.1, map_none negative (least_negative face s k) one.1)

pub stop_passes : (face : InterfaceView) (s : State) (by : By) (k i : ℕ) → cause_of face s by (Stop (point_id k) (point_id i)) ≡ None
    → IsOwned face s k × (is_in s.order k ≡ false) × (least_negative face s k ≡ Some i)
stop_passes face s by k i h =
    let one = or_none (owner_tests s by k (owner_in face k)) _ h in
    let two = owner_passes face s by k one.0 in
    (two.0, two.1, go (least_negative face s k) one.1) where
      go : (o : Option ℕ) → (if is_that o i then None else Some (not_negative i)) ≡ None → o ≡ Some i
      go None g = absurd (cc)
      go (Some m) g =
          elim (m == i) as (λ b. (m == i) ≡ b → (if b then None else Some (not_negative i)) ≡ None → Some m ≡ Some i) [
            | true ↦ λ t f. (let e : m ≡ i = grind (arith, nat_tests) in ap Some e)
            | false ↦ λ t f. absurd (cc)
          ] refl g

-- the tests of a revisit, of which the last looks at listed points alone
pub revisit_passes : (face : InterfaceView) (s : State) (by : By) (k : ℕ) → cause_of face s by (Revisit (point_id k)) ≡ None
    → (is_listed face k ≡ true) × IsAllPublished face s × IsWhole face s
    × ((p : ℕ) → is_in (0 ∷ points_of face) p ≡ true → is_later face s k p ≡ true → is_revisited s p ≡ true)
revisit_passes face s by k h =
    let one = if_none (not (is_listed face k)) NotShared _ h in
    let two = or_none (option_map not_published (first_below (λ a. not (is_published s a)) (length face.leans))) _ one.1 in
    let three = or_none (option_map order_open (first_passing (λ p. not (is_in s.order p)) (points_of face))) _ two.1 in
    let four = if_none (is_in s.revisited k) AlreadyDone _ three.1 in
    let published = below_none (λ a. not (is_published s a)) (length face.leans) (map_none not_published _ two.0) in
    let whole = passing_none (λ p. not (is_in s.order p)) (points_of face) (map_none order_open _ three.0) in
    let later = passing_none (λ p. is_later face s k p && not (is_revisited s p)) (0 ∷ points_of face) (map_none neighbour_first _ four.1) in (
      not_false (is_listed face k) one.0,
      λ a lt. not_false (is_published s a) (published a lt),
      λ p listed. not_false (is_in s.order p) (whole p (listed_in face.points p listed)),
      λ p listed h. unless (is_later face s k p) (is_revisited s p) h (later p listed),
    ) where
      unless : (a b : Bool) → a ≡ true → (a && not b) ≡ false → b ≡ true
      unless true b h g = not_false b g
      unless false b h g = absurd (cc)
