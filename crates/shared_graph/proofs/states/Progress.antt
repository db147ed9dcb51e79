-- Some step is legal until all is revisited or stopped.
use Rattle.std.proofs.Common.{zero, suc, ◌≡◌, ◌≢◌, ℕ, ◌+◌, ◌<◌, ◌≤◌, List, [], ◌∷◌, Bool, true, false, ◌||◌, ◌&&◌, not, Option, Some, None, ap, sym, ◌∙◌}
use Rattle.std.proofs.Common.{refl, arith, inl, inr, ◌⊎◌, length, subst}
use Rattle.std.specs.Prelude.{◌==◌, if◌then◌else◌, is_some, nat_lt}
use Rattle.std.specs.Option.{option_map}
use Rattle.std.proofs.lemmas.Bool.{and_parts, not-true}
use Rattle.std.proofs.Math.Bool.{or-true}
use Rattle.std.proofs.lemmas.Bool.Decides.{nat_tests}
use Rattle.stn_walk.specs.Eliminations.{is_in, before_both}
use Rattle.stn_walk.proofs.Eliminations.{before-whole}
use Rattle.shared_graph.specs.declared.events.By.TheVariants.{Joiner}
use Rattle.shared_graph.specs.declared.events.Event.TheVariants.{Publish, Eliminate, Stop, Revisit}
use Rattle.shared_graph.specs.declared.events.Illegal.TheVariants.{NotShared, NotOwner, AlreadyPublished, AlreadyDone, Stopped}
use Rattle.shared_graph.specs.Interfaces.{InterfaceView, IsInterface, points_of, owner_in, is_listed}
use Rattle.shared_graph.specs.States.{agent_id, point_id, State, is_published, is_revisited}
use Rattle.shared_graph.specs.Weights.{first_passing, least_negative, is_later}
use Rattle.shared_graph.specs.Refusals.{not_published, order_open, neighbour_first, negative, or_else, or_number, first_below, owner_tests, refusal}
use Rattle.shared_graph.specs.Together.{IsAllPublished, IsWhole, IsOwned}
use Rattle.shared_graph.proofs.states.Passing.{in_listed, passing_some}
use Rattle.shared_graph.proofs.states.Meetings.{IsPlace}
use Rattle.shared_graph.proofs.states.Keeps.{IsSound, later_place}
use Rattle.shared_graph.proofs.cells.Neighbours.{later_parts}
use Rattle.shared_graph.proofs.states.Stops.{negative_stops}

pub all_below : (test : ℕ → Bool) (n : ℕ) → ((a : ℕ) → a < n → test a ≡ false) → first_below test n ≡ None
all_below test zero h = refl
all_below test (suc n) h =
    let rest = all_below test n (λ a lt. h a (omega arith)) in
    let here = h n (omega arith) in
    (λ t. or_number (rest t) (if here t then Some n else None))

pub all_listed : (test : ℕ → Bool) (ps : List ℕ) → ((p : ℕ) → is_in ps p ≡ true → test p ≡ false) → first_passing test ps ≡ None
all_listed test [] h = refl
all_listed test (p ∷ ps) h =
    let here : test p ≡ false = h p (let same : (p == p) ≡ true = grind (arith, nat_tests) in ap (λ b. is_in ps p || b) same ∙ or-true (is_in ps p)) in
    let rest = all_listed test ps (λ q l. h q (ap (λ b. b || (q == p)) l)) in
    (λ t. if here t then Some p else rest t)

-- the points before a point are fewer than those of the order, and fewer than those before a point that comes later
before_few : (es : List ℕ) (k m : ℕ) → length (before_both es k m) ≤ length es
before_few [] k m = omega arith
before_few (x ∷ es) k m =
    (let rest = before_few es k m in
    elim (is_in (x ∷ es) k || is_in (x ∷ es) m) as
    (λ b. length (if b then before_both es k m else x ∷ es) ≤ length (x ∷ es)) [ true ↦ omega arith | false ↦ omega arith ])

before_less : (es : List ℕ) (k p : ℕ) → is_in es k ≡ true → is_in (before_both es k k) p ≡ false → p ≢ k
    → length (before_both es k k) < length (before_both es p p)
before_less [] k p there out apart = absurd (cc)
before_less (x ∷ es) k p there out apart =
    elim (is_in es k) as (λ b. is_in es k ≡ b → length (before_both (x ∷ es) k k) < length (before_both (x ∷ es) p p)) [
      | true ↦ λ t.
          (let rest = before_less es k p t (subst (λ xs. is_in xs p ≡ false) same out) apart in
          let few = before_few es p p in
          let len = ap length same in
          let more : length (before_both es p p) ≤ length (before_both (x ∷ es) p p) =
          (elim (is_in (x ∷ es) p || is_in (x ∷ es) p) as
          (λ b. length (before_both es p p) ≤ length (if b then before_both es p p else x ∷ es)) [ true ↦ omega arith | false ↦ omega arith ]) in
          omega arith)
      | false ↦ λ t.
          (let e : k ≡ x = last (is_in es k) t there in
          let whole : before_both (x ∷ es) k k ≡ es = same ∙ before-whole es k k t t in
          let no_p : is_in es p ≡ false = subst (λ xs. is_in xs p ≡ false) whole out in
          let differ : (p == x) ≡ false = (let ne : p ≢ x = λ f. apart (f ∙ sym e) in grind (arith, nat_tests)) in
          let no : is_in (x ∷ es) p ≡ false = (λ u. no_p u || differ u) in
          let is : before_both (x ∷ es) p p ≡ x ∷ es = before-whole (x ∷ es) p p no no in
          let one = ap length whole in
          let two : length (before_both (x ∷ es) p p) ≡ length (x ∷ es) = ap length is in
          omega arith)
    ] refl where
      same : before_both (x ∷ es) k k ≡ before_both es k k
      same = ap (λ b. if b || b then before_both es k k else x ∷ es) there

      last : (b : Bool) → b ≡ false → (b || (k == x)) ≡ true → k ≡ x
      last true f g = absurd (cc)
      last false f g = grind (arith, nat_tests)

-- a later neighbour that is still to be revisited
abbrev open_at : InterfaceView → State → ℕ → ℕ → Bool
open_at face s k p = is_later face s k p && not (is_revisited s p)

module _ (face : InterfaceView) (known : IsInterface face) (s : State) (sound : IsSound face s) (going : s.stop ≡ None) where
  pub may_publish : (a : ℕ) → a < length face.leans → is_published s a ≡ false → refusal face s (record { by = Joiner; event = Publish (agent_id a) }) ≡ None
  may_publish a low fresh =
      let test : nat_lt a (length face.leans) ≡ true = grind (arith, nat_tests) in
      (λ t. if is_some (going t) then Some Stopped else (if not (test t) then Some NotOwner else (if fresh t then Some AlreadyPublished else None)))

  pub may_eliminate : (k : ℕ) → IsOwned face s k → is_in s.order k ≡ false
      → (refusal face s (record { by = Joiner; event = Eliminate (point_id k) }) ≡ None) ⊎ ((i : ℕ)
      × (refusal face s (record { by = Joiner; event = Stop (point_id k) (point_id i) }) ≡ None))
  may_eliminate k own fresh = go (least_negative face s k) refl where
    tests : owner_tests s Joiner k (owner_in face k) ≡ None
    tests = (let owner = own.1 in let done = own.2 in
        ap (owner_tests s Joiner k) owner ∙ (λ t. if not (done t) then Some (not_published own.0) else (if fresh t then Some AlreadyDone else None)))

    whole : refusal face s (record { by = Joiner; event = Eliminate (point_id k) }) ≡ option_map negative (least_negative face s k)
    whole = (λ t. if is_some (going t) then Some Stopped else or_else (tests t) (option_map negative (least_negative face s k)))

    go : (o : Option ℕ) → least_negative face s k ≡ o
        → (refusal face s (record { by = Joiner; event = Eliminate (point_id k) }) ≡ None) ⊎ ((i : ℕ)
        × (refusal face s (record { by = Joiner; event = Stop (point_id k) (point_id i) }) ≡ None))
    go None e = inl (whole ∙ ap (option_map negative) e)
    go (Some i) e = inr (i, (negative_stops face s Joiner k i).0 (whole ∙ ap (option_map negative) e))

  module _ (all : IsAllPublished face s) (whole : IsWhole face s) where
    legal_revisit : (k : ℕ) → is_listed face k ≡ true → is_in s.revisited k ≡ false → first_passing (open_at face s k) (0 ∷ points_of face) ≡ None
        → refusal face s (record { by = Joiner; event = Revisit (point_id k) }) ≡ None
    legal_revisit k listed fresh none =
        let published = all_below (λ a. not (is_published s a)) (length face.leans) (λ a lt. ap not (all a lt)) in
        let eliminated = all_listed (λ p. not (is_in s.order p)) (points_of face) (λ p there. ap not (whole p (in_listed face.points p there))) in
        (λ t. if is_some (going t) then Some Stopped else (if not (listed t) then Some NotShared else or_else (option_map not_published (published t))
        (or_else (option_map order_open (eliminated t)) (if fresh t then Some AlreadyDone else option_map neighbour_first (none t)))))

    -- a later neighbour that is not revisited
    open_parts : (k p : ℕ) → open_at face s k p ≡ true → (is_listed face p ≡ true) × (is_in s.revisited p ≡ false)
        × (is_in (before_both s.order k k) p ≡ false) × (p ≢ k)
    open_parts k p h =
        let parts = and_parts (is_later face s k p) (not (is_revisited s p)) h in
        let later = later_parts face s k p parts.0 in
        let fresh = not-true (is_revisited s p) parts.1 in
        (place (later_place face known s sound k p parts.0) fresh, left (is_in s.revisited p) (p == 0) fresh, later.2, λ e. later.0 (sym e)) where
          left : (a b : Bool) → (a || b) ≡ false → a ≡ false
          left true b g = absurd (cc)
          left false b g = refl

          place : IsPlace face p → (is_in s.revisited p || (p == 0)) ≡ false → is_listed face p ≡ true
          place (inl z) g = (let same : (p == 0) ≡ true = grind (arith, nat_tests) in let f = ap (λ b. is_in s.revisited p || b) same
              ∙ or-true (is_in s.revisited p) in absurd (cc))
          place (inr listed) g = listed

    -- from a point that is not revisited, later neighbours lead to one that may be
    find_revisit : (n k : ℕ) → is_listed face k ≡ true → is_in s.revisited k ≡ false → length s.order ≤ length (before_both s.order k k) + n
        → (m : ℕ) × (is_listed face m ≡ true) × (refusal face s (record { by = Joiner; event = Revisit (point_id m) }) ≡ None)
    find_revisit zero k listed fresh few =
        elim (first_passing (open_at face s k) (0 ∷ points_of face)) as (λ o. first_passing (open_at face s k) (0 ∷ points_of face) ≡ o
        → (m : ℕ) × (is_listed face m ≡ true) × (refusal face s (record { by = Joiner; event = Revisit (point_id m) }) ≡ None)) [
          | None ↦ λ none. (k, listed, legal_revisit k listed fresh none)
          | Some p ↦ λ some.
              (let parts = open_parts k p (passing_some (open_at face s k) (0 ∷ points_of face) p some) in
              let less = before_less s.order k p (whole k listed) parts.2 parts.3 in
              let most = before_few s.order p p in
              absurd (omega arith))
        ] refl
    find_revisit (suc n) k listed fresh few =
        elim (first_passing (open_at face s k) (0 ∷ points_of face)) as (λ o. first_passing (open_at face s k) (0 ∷ points_of face) ≡ o
        → (m : ℕ) × (is_listed face m ≡ true) × (refusal face s (record { by = Joiner; event = Revisit (point_id m) }) ≡ None)) [
          | None ↦ λ none. (k, listed, legal_revisit k listed fresh none)
          | Some p ↦ λ some.
              (let parts = open_parts k p (passing_some (open_at face s k) (0 ∷ points_of face) p some) in
              let less = before_less s.order k p (whole k listed) parts.2 parts.3 in
              find_revisit n p parts.0 parts.1 (omega arith))
        ] refl

    pub may_revisit : (k : ℕ) → is_listed face k ≡ true → is_in s.revisited k ≡ false
        → (m : ℕ) × (is_listed face m ≡ true) × (refusal face s (record { by = Joiner; event = Revisit (point_id m) }) ≡ None)
    may_revisit k listed fresh = find_revisit (length s.order) k listed fresh (omega arith)
