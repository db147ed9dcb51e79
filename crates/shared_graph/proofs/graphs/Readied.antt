-- Keys of the points that may be revisited: key_is, set_beyond; joined_points, renew_begins, renew_more, renew_ends; after a revisit: keys_after; which
-- place comes first: keyed, first_ready.
use Rattle.std.proofs.Common.{◌≡◌, ◌≢◌, ℕ, ◌+◌, ◌<◌, ◌≤◌, List, [], ◌∷◌, Bool, true, false, ◌&&◌, ◌||◌, not, Option, Some, None, ap, sym, ◌∙◌, refl}
use Rattle.std.proofs.Common.{arith, inl, inr, length, subst, get_or, drop}
use Rattle.std.specs.Prelude.{◌==◌, if◌then◌else◌, is_some, nat_lt}
use Rattle.std.specs.Option.{option_map}
use Rattle.std.proofs.Math.Bool.{or-true, or-false}
use Rattle.std.proofs.lemmas.Bool.{cases_lt, cases_eq, false≢true, eq-eqb, ne_eqb}
use Rattle.std.proofs.lemmas.Bool.Decides.{nat_tests}
use Rattle.std.proofs.lemmas.List.{drop_more, drop_all}
use Rattle.stn_model.specs.declared.ids.PointId.{PointId}
use Rattle.stn_walk.specs.Eliminations.{is_in, before_both}
use Rattle.elim_step.specs.Eliminated.{point_at}
use Rattle.elim_step.specs.JoinedPlaces.{is_joined as are_joined}
use Rattle.elim_step.specs.Picks.{comes_before}
use Rattle.elim_step.specs.Rankings.{IsFirst}
use Rattle.shared_graph.specs.declared.events.By.TheVariants.{Joiner}
use Rattle.shared_graph.specs.declared.events.Event.{Event}
use Rattle.shared_graph.specs.declared.events.Event.TheVariants.{Publish, Eliminate, Stop, Revisit, Assign, Widen}
use Rattle.shared_graph.specs.declared.events.Illegal.{Illegal}
use Rattle.shared_graph.specs.declared.events.Illegal.TheVariants.{NotShared, AlreadyDone, Stopped}
use Rattle.shared_graph.specs.declared.events.Phase.TheVariants.{Reverse}
use Rattle.shared_graph.specs.Graphs.{GraphView, places_in, Fields, IsGraph}
use Rattle.shared_graph.specs.Interfaces.{InterfaceView, IsInterface, points_of, is_listed}
use Rattle.shared_graph.specs.Journals.{is_step_of, rank_of, IsLeastStep}
use Rattle.shared_graph.specs.Readiness.{revisit_key, AreKeys, AreKeysBut}
use Rattle.shared_graph.specs.Refusals.{not_published, order_open, neighbour_first, or_else, first_below, refusal}
use Rattle.shared_graph.specs.States.{State, point_id, is_published, is_revisited}
use Rattle.shared_graph.specs.Weights.{first_passing, is_joined, is_later}
use Rattle.shared_graph.proofs.graphs.Standing.{places_rise, place_of_listed}
use Rattle.shared_graph.proofs.graphs.Telling.{joined_turned}
use Rattle.shared_graph.proofs.states.Passing.{no_stop, revisit_passes}

-- the key of a point, from the answer of its tests
pub key_is : (face : InterfaceView) (s : State) (p : ℕ) (k : PointId) (o : Option Illegal) → k.0 ≡ p
    → o ≡ refusal face s (record { by = Joiner; event = Revisit k }) → (if is_some o then None else Some 0) ≡ revisit_key face s p
key_is face s p k o point is =
    ap (λ r. if is_some r then None else Some 0) (is ∙ ap (λ n. refusal face s (record { by = Joiner; event = Revisit (point_id n) })) point)

-- a key that is set, and the others
set_here : (keys after : ℕ → Option ℕ) (m : ℕ) (key : Option ℕ) → ((p : ℕ) → after p ≡ (if p == m then key else keys p)) → after m ≡ key
set_here keys after m key set = set m ∙ ap (λ b. if b then key else keys m) (eq-eqb m m refl)

set_other : (keys after : ℕ → Option ℕ) (m : ℕ) (key : Option ℕ) → ((p : ℕ) → after p ≡ (if p == m then key else keys p)) → (k : ℕ) → k ≢ m → after k ≡ keys k
set_other keys after m key set k apart = set k ∙ ap (λ b. if b then key else keys k) (ne_eqb k m apart)

module _ (face : InterfaceView) (s : State) (keys after : ℕ → Option ℕ) (m : ℕ) (key : Option ℕ) (low : m < length (places_in face))
    (is : key ≡ revisit_key face s (point_at (places_in face) m)) (set : (p : ℕ) → after p ≡ (if p == m then key else keys p)) where
  set_right : (k : ℕ) → (k ≢ m → keys k ≡ revisit_key face s (point_at (places_in face) k)) → after k ≡ revisit_key face s (point_at (places_in face) k)
  set_right k before = elim (cases_eq k m) [
    | inl e ↦ ap after e ∙ set_here keys after m key set ∙ is ∙ sym (ap (λ n. revisit_key face s (point_at (places_in face) n)) e)
    | inr apart ↦ set_other keys after m key set k apart ∙ before apart
  ]

  pub set_beyond : ((k : ℕ) → length (places_in face) ≤ k → keys k ≡ None) → (k : ℕ) → length (places_in face) ≤ k → after k ≡ None
  set_beyond none k high = set_other keys after m key set k (λ e. absurd (omega arith)) ∙ none k high

  -- one neighbour more
  pub renew_more : (list : List ℕ) (n : ℕ) → n < length list → get_or list n 0 ≡ m
      → ((k : ℕ) → k < length (places_in face) → is_in (drop n list) k ≡ false → keys k ≡ revisit_key face s (point_at (places_in face) k))
      → (k : ℕ) → k < length (places_in face) → is_in (drop (n + 1) list) k ≡ false → after k ≡ revisit_key face s (point_at (places_in face) k)
  renew_more list n lt here before k inside out =
      set_right k (λ apart. before k inside
      (ap (λ xs. is_in xs k) (drop_more list n 0 lt)
      ∙ (λ i. out i || ne_eqb k (get_or list n 0) (λ e. apart (e ∙ here)) i)))

  -- the place itself first
  pub renew_begins : (list : List ℕ) (joined : ℕ → Bool) → AreKeysBut face s m keys
      → ((k : ℕ) → k < length (places_in face) → joined k ≡ is_joined face s (point_at (places_in face) m) (point_at (places_in face) k))
      → ((k : ℕ) → k < length (places_in face) → is_in list k ≡ joined k)
      → (k : ℕ) → k < length (places_in face) → is_in list k ≡ false → after k ≡ revisit_key face s (point_at (places_in face) k)
  renew_begins list joined but points each k inside out =
      set_right k (λ apart. but.others k inside apart (joined_turned face s (point_at (places_in face) k) (point_at (places_in face) m)
      ∙ sym (points k inside) ∙ sym (each k inside) ∙ out))

-- joined places are those of joined points
pub joined_points : (g : Fields) → IsGraph g → (v : GraphView) → record { face = g.face; state = g.state } ≡ v → (m : ℕ) → m < length (places_in v.face)
    → (k : ℕ) → k < length (places_in v.face)
    → are_joined g.joins m k ≡ is_joined v.face v.state (point_at (places_in v.face) m) (point_at (places_in v.face) k)
joined_points g h v is m lm k lk =
    subst (λ (v : GraphView). m < length (places_in v.face) → k < length (places_in v.face)
    → are_joined g.joins m k ≡ is_joined v.face v.state (point_at (places_in v.face) m) (point_at (places_in v.face) k)) is
    (λ lm lk. subst (λ ps. m < length ps → k < length ps → are_joined g.joins m k ≡ is_joined g.face g.state (point_at ps m) (point_at ps k)) h.points
    (h.joined m k) lm lk) lm lk

-- no neighbour is left
pub renew_ends : (face : InterfaceView) (s : State) (keys : ℕ → Option ℕ) (list : List ℕ) (n : ℕ) → length list ≤ n
    → ((k : ℕ) → k < length (places_in face) → is_in (drop n list) k ≡ false → keys k ≡ revisit_key face s (point_at (places_in face) k))
    → ((k : ℕ) → length (places_in face) ≤ k → keys k ≡ None) → AreKeys face s keys
renew_ends face s keys list n past right none = record {
  within = λ k lt. right k lt (ap (λ xs. is_in xs k) (drop_all n list past));
  beyond = none;
}

-- tests that agree on a list have the same first
passing_alike : (test other : ℕ → Bool) (xs : List ℕ) → ((p : ℕ) → test p ≡ other p) → first_passing test xs ≡ first_passing other xs
passing_alike test other [] same = refl
passing_alike test other (x ∷ xs) same = (λ i. if same x i then Some x else passing_alike test other xs same i)

-- a revisit changes nothing for points that do not have the revisited one as a later neighbour
module _ (face : InterfaceView) (s : State) (k m : ℕ) (apart : k ≢ m) (free : is_later face s k m ≡ false) where
  left : (p : ℕ) → (is_later face s k p && not (is_revisited (record s { revisited = m ∷ s.revisited }) p)) ≡ (is_later face s k p && not (is_revisited s p))
  left p = elim (cases_eq p m) [
    | inl e ↦
        (let gone : is_later face s k p ≡ false = ap (is_later face s k) e ∙ free in
        (λ i. gone i && not (is_revisited (record s { revisited = m ∷ s.revisited }) p)) ∙ sym (λ i. gone i && not (is_revisited s p)))
    | inr other ↦
        ap (λ b. is_later face s k p && not (b || (p == 0)))
        (ap (λ b. is_in s.revisited p || b) (ne_eqb p m other) ∙ or-false (is_in s.revisited p))
  ]

  here : is_in (m ∷ s.revisited) k ≡ is_in s.revisited k
  here = ap (λ b. is_in s.revisited k || b) (ne_eqb k m apart) ∙ or-false (is_in s.revisited k)

  pub refused_alike : refusal face (record s { revisited = m ∷ s.revisited }) (record { by = Joiner; event = Revisit (point_id k) })
      ≡ refusal face s (record { by = Joiner; event = Revisit (point_id k) })
  refused_alike =
      let rest = passing_alike (λ p. is_later face s k p && not (is_revisited (record s { revisited = m ∷ s.revisited }) p))
      (λ p. is_later face s k p && not (is_revisited s p)) (0 ∷ points_of face) left in
      (λ i. if is_some s.stop then Some Stopped else (if not (is_listed face k) then Some NotShared
      else or_else (option_map not_published (first_below (λ a. not (is_published s a)) (length face.leans)))
      (or_else (option_map order_open (first_passing (λ p. not (is_in s.order p)) (points_of face)))
      (if here i then Some AlreadyDone else option_map neighbour_first (rest i)))))

pub keys_after : (face new : InterfaceView) (s t : State) (keys : ℕ → Option ℕ) (m : ℕ) → AreKeys face s keys → new ≡ face
    → t ≡ record s { revisited = point_at (places_in face) m ∷ s.revisited } → ((i j : ℕ) → i < length (places_in face) → j < length (places_in face)
    → point_at (places_in face) i ≡ point_at (places_in face) j → i ≡ j) → m < length (places_in face) → AreKeysBut new t m keys
keys_after face new s t keys m right is_face is_state apart lm =
    subst (λ f. AreKeysBut f t m keys) (sym is_face) (subst (λ u. AreKeysBut face u m keys) (sym is_state) (record {
      others = λ k lt other free.
          let differ : point_at (places_in face) k ≢ point_at (places_in face) m = λ e. other (apart k m lt lm e) in
          let none : is_later face s (point_at (places_in face) k) (point_at (places_in face) m) ≡ false =
          ap (λ b. b && not (is_in (before_both s.order (point_at (places_in face) k) (point_at (places_in face) k)) (point_at (places_in face) m))) free in
          right.within k lt
          ∙ ap (λ o. if is_some o then None else Some 0)
          (sym (refused_alike face s (point_at (places_in face) k) (point_at (places_in face) m) differ none));
      beyond = right.beyond;
    }))

-- what a key says
abbrev key_from : Option Illegal → Option ℕ
key_from o = if is_some o then None else Some 0

key_there : (o : Option Illegal) (a : ℕ) → key_from o ≡ Some a → (o ≡ None) × (a ≡ 0)
key_there None a h = (refl, sym (some_is 0 a h)) where
  some_is : (m n : ℕ) → Some m ≡ Some n → m ≡ n
  some_is m n h = cc
key_there (Some c) a h = absurd (cc)

key_of_legal : (o : Option Illegal) → o ≡ None → key_from o ≡ Some 0
key_of_legal None h = refl
key_of_legal (Some c) h = absurd (cc)

module _ (face : InterfaceView) (known : IsInterface face) (s : State) (keys : ℕ → Option ℕ) (right : AreKeys face s keys) where
  -- a legal point has a key at its place
  pub keyed : (p : ℕ) → refusal face s (record { by = Joiner; event = Revisit (point_id p) }) ≡ None
      → (k : ℕ) × (k < length (places_in face)) × (point_at (places_in face) k ≡ p) × (keys k ≡ Some 0)
  keyed p legal =
      let listed = (revisit_passes face s Joiner p (no_stop face s (record { by = Joiner; event = Revisit (point_id p) }) legal).1).0 in
      let r = place_of_listed face known p listed in (
        r.0,
        r.2,
        r.3,
        right.within r.0 r.2 ∙ ap (revisit_key face s) r.3 ∙ key_of_legal (refusal face s (record { by = Joiner; event = Revisit (point_id p) })) legal,
      )

  first_within : (place a : ℕ) → keys place ≡ Some a → place < length (places_in face)
  first_within place a key = elim (cases_lt place (length (places_in face))) [
    | inl low ↦ low
    | inr high ↦ absurd (let f = sym (right.beyond place high) ∙ key in cc)
  ]

  -- the first place is that of the least point that may be revisited
  pub first_ready : (place : ℕ) → IsFirst keys (Some place)
      → IsLeastStep face s Reverse (record { by = Joiner; event = Revisit (point_id (point_at (places_in face) place)) })
  first_ready place first =
      let low = first_within place first.0 first.1 in
      let parts = key_there (refusal face s (record { by = Joiner; event = Revisit (point_id (point_at (places_in face) place)) })) first.0
      (sym (right.within place low) ∙ first.1) in
      record { joiner = refl; step = refl; legal = parts.0; least = least low parts.1 } where
        up : (k : ℕ) → place ≤ k → k < length (places_in face) → point_at (places_in face) place ≤ point_at (places_in face) k
        up k le lt = elim (cases_eq place k) [
          | inl e ↦ (let same = ap (point_at (places_in face)) e in omega arith)
          | inr other ↦ (let less = places_rise face known place k 0 (omega arith) lt in omega arith)
        ]

        not_before : (k : ℕ) → first.0 ≡ 0 → keys k ≡ Some 0 → place ≤ k
        not_before k zero_is key =
            let behind : comes_before 0 k first.0 place ≡ false = first.2 k 0 key in
            let same : (0 == first.0) ≡ true = eq-eqb 0 first.0 (sym zero_is) in
            elim (cases_lt k place) [
              | inl less ↦
                  (let lt : nat_lt k place ≡ true = grind (arith, nat_tests) in
                  let before : comes_before 0 k first.0 place ≡ true =
                  (λ i. nat_lt 0 first.0 || (same i && lt i)) ∙ or-true (nat_lt 0 first.0) in
                  absurd (false≢true (sym behind ∙ before)))
              | inr more ↦ more
            ]

        least : place < length (places_in face) → first.0 ≡ 0 → (f : Event) → is_step_of Reverse f ≡ true
            → refusal face s (record { by = Joiner; event = f }) ≡ None → point_at (places_in face) place ≤ rank_of f
        least low z (Publish b) is ok = absurd (false≢true is)
        least low z (Eliminate p) is ok = absurd (false≢true is)
        least low z (Stop p i) is ok = absurd (false≢true is)
        least low z (Revisit p) is ok =
            (let r = keyed p.0 ok in
            let le = up r.0 (not_before r.0 z r.3) r.1 in
            let e = r.2 in
            omega arith)
        least low z (Assign p v) is ok = absurd (false≢true is)
        least low z (Widen p end) is ok = absurd (false≢true is)
