-- The joined points of an elimination order are chordal: later neighbours of a point are joined with each other, since their paths from it, put together,
-- pass it and points before it.
use Rattle.std.proofs.Common.{◌≡◌, ◌≢◌, ℕ, ◌+◌, ◌<◌, Bool, true, false, not, cond, nat_eq, List, [], ◌∷◌, sym, ap, subst, refl, arith, inl, inr}
use Rattle.std.specs.Prelude.{◌↔◌, ℤ, pos, Contains}
use Rattle.std.specs.Option.{unwrap_or}
use Rattle.std.specs.List.{AllByRecursion, position_or_len}
use Rattle.std.proofs.lemmas.Bool.Decides.{nat_tests}
use Rattle.stn_model.specs.declared.ids.Constraint.{Constraint}
use Rattle.stn_model.specs.Walks.{AllDifferent}
use Rattle.stn_model.specs.Joined.{HasEdge, IsPath, ComesBefore, IsJoined, IsLaterNeighbour}
use Rattle.stn_model.specs.Schedules.{IsLeastBound}
use Rattle.stn_walk.proofs.Distances.{bound_inner_least}
use Rattle.stn_walk.specs.Distances.{HasEndsBelow}
use Rattle.tri_solve.specs.Passes.{distance}
use Rattle.tri_solve.specs.Chordal.{Follows, IsChordal, AreLeast}
use Rattle.tri_solve.proofs.Schedules.{bounds}
use Rattle.tri_solve.proofs.Lists.{all_at}
use Rattle.tri_solve.proofs.Orders.{follower, followed}

edge_turned : (arcs : List Constraint) (i j : ℕ) → HasEdge arcs i j → HasEdge arcs j i
edge_turned arcs i j (a, c, inl e) = (a, c, inr e)
edge_turned arcs i j (a, c, inr e) = (a, c, inl e)

-- a path with inner points of a kind
Path : (ℕ → Type 0) → List Constraint → ℕ → ℕ → Type 0
Path P arcs i j = (ps : List ℕ) × IsPath arcs i j ps × AllByRecursion P ps

module _ (P : ℕ → Type 0) (arcs : List Constraint) where
  -- two paths that meet in a point of the kind
  through_path : (i k j : ℕ) (ps qs : List ℕ) → IsPath arcs i k ps → AllByRecursion P ps → P k → IsPath arcs k j qs → AllByRecursion P qs → Path P arcs i j
  unfolding Path
  through_path i k j [] qs h all here g rest = (k ∷ qs, (h, g), (here, rest))
  through_path i k j (p ∷ ps) qs h all here g rest =
      let on = through_path p k j ps qs h.1 all.1 here g rest in
      (p ∷ on.0, (h.0, on.1), (all.0, on.2))

  -- a path begun at its other end
  turned_path : (i j : ℕ) (ps : List ℕ) → IsPath arcs i j ps → AllByRecursion P ps → Path P arcs j i
  unfolding Path
  turned_path i j [] h all = ([], edge_turned arcs i j h, tt)
  turned_path i j (p ∷ ps) h all =
      let back = turned_path p j ps h.1 all.1 in
      through_path j p i back.0 [] back.1 back.2 all.0 (edge_turned arcs i p h.0) tt

weaker : (P Q : ℕ → Type 0) → ((p : ℕ) → P p → Q p) → (ps : List ℕ) → AllByRecursion P ps → AllByRecursion Q ps
weaker P Q up [] all = tt
weaker P Q up (p ∷ ps) all = (up p all.0, weaker P Q up ps all.1)

module _ (arcs : List Constraint) (order : List ℕ) where
  pub joined_turned : (i j : ℕ) → IsJoined arcs order i j → IsJoined arcs order j i
  unfolding Path
  joined_turned i j h =
      let back = turned_path (λ p. ComesBefore order p i × ComesBefore order p j) arcs i j h.inner h.path h.before in
      record {
        different = λ e. h.different (sym e);
        inner = back.0;
        path = back.1;
        before = weaker (λ p. ComesBefore order p i × ComesBefore order p j) (λ p. ComesBefore order p j × ComesBefore order p i) (λ p b. (b.1, b.0)) back.0 back.2;
      }

  -- what comes before k comes before all that k comes before
  pub neighbours_meet : (k i j : ℕ) → IsLaterNeighbour arcs order k i → IsLaterNeighbour arcs order k j → i ≢ j → IsJoined arcs order i j
  unfolding Path
  neighbours_meet k i j h g apart =
      let before = λ (p : ℕ). ComesBefore order p i × ComesBefore order p j in
      let first = h.later in
      let second = g.later in
      let front = weaker (λ p. ComesBefore order p k × ComesBefore order p i) before
      (λ p b. let x = b.0 in let y = b.1 in (y, omega arith)) h.joined.inner h.joined.before in
      let rest = weaker (λ p. ComesBefore order p k × ComesBefore order p j) before
      (λ p b. let x = b.0 in let y = b.1 in (omega arith, y)) g.joined.inner g.joined.before in
      let back = turned_path before arcs k i h.joined.inner h.joined.path front in
      let whole = through_path before arcs i k j back.0 g.joined.inner back.1 back.2 (first, second) g.joined.path rest in
      record { different = apart; inner = whole.0; path = whole.1; before = whole.2 }

-- where a point stands
place_here : (p x : ℕ) (xs : List ℕ) → nat_eq p x ≡ true → position_or_len (nat_eq p) (x ∷ xs) ≡ 0
place_here p x xs t = ap (λ (b : Bool). cond (not b) (1 + position_or_len (nat_eq p) xs) 0) t

place_next : (p x : ℕ) (xs : List ℕ) → nat_eq p x ≡ false → position_or_len (nat_eq p) (x ∷ xs) ≡ 1 + position_or_len (nat_eq p) xs
place_next p x xs t = ap (λ (b : Bool). cond (not b) (1 + position_or_len (nat_eq p) xs) 0) t

-- a point behind another one comes after it
pub comes : (xs : List ℕ) → AllDifferent xs → (p q : ℕ) → Follows xs p q → ComesBefore xs p q
comes [] d p q f = absurd f
comes (x ∷ xs) d p q (inl f) =
    let e : x ≡ p = f.0 in
    let ne : x ≢ q = all_at (λ y. x ≢ y) xs q d.0 f.1 in
    let here = place_here p x xs (grind (arith, nat_tests)) in
    let next = place_next q x xs (grind (arith, nat_tests)) in
    omega arith
comes (x ∷ xs) d p q (inr f) =
    let np : x ≢ p = all_at (λ y. x ≢ y) xs p d.0 (followed xs p q f) in
    let nq : x ≢ q = all_at (λ y. x ≢ y) xs q d.0 (follower xs p q f) in
    let one = place_next p x xs (grind (arith, nat_tests)) in
    let other = place_next q x xs (grind (arith, nat_tests)) in
    let rest = comes xs d.1 p q f in
    omega arith

module _ (arcs : List Constraint) (order : List ℕ) (joined : ℕ → ℕ → Bool) (tests : (i j : ℕ) → (joined i j ≡ true) ↔ IsJoined arcs order i j) where
  pub chordal : AllDifferent order → ((a : Constraint) → Contains arcs a → Contains order a.from.0 × Contains order a.to.0) → IsChordal joined order
  chordal once ends = record {
    once = once;
    listed = λ p q j. let h = (tests p q).0 j in begun p q h.inner h.path;
    meet = λ p q r f g jq jr ne. (tests q r).1 (neighbours_meet arcs order p q r
        (record { joined = (tests p q).0 jq; later = comes order once p q f })
        (record { joined = (tests p r).0 jr; later = comes order once p r g }) ne);
  } where
    of_edge : (i j : ℕ) → HasEdge arcs i j → Contains order i
    of_edge i j (a, c, inl e) = subst (λ (k : ℕ). Contains order k) e.0 (ends a c).0
    of_edge i j (a, c, inr e) = subst (λ (k : ℕ). Contains order k) e.1 (ends a c).1

    begun : (i j : ℕ) (ps : List ℕ) → IsPath arcs i j ps → Contains order i
    begun i j [] h = of_edge i j h
    begun i j (p ∷ ps) h = of_edge i p h.0

  -- least bounds of joined points are least weights of walks
  pub bounds_least : (points : ℕ) (bound : ℕ → ℕ → ℤ) → ((a : Constraint) → Contains arcs a → a.from.0 ≢ a.to.0)
      → ((i j : ℕ) → joined i j ≡ true → IsLeastBound points arcs i j (bound i j)) → AreLeast arcs joined bound
  bounds_least points bound apart bounds = record {
    turned = λ i j t. (tests j i).1 (joined_turned arcs order i j ((tests i j).0 t));
    ends = λ a c. (tests a.from.0 a.to.0).1 (record { different = apart a c; inner = []; path = (a, c, inl (refl, refl)); before = tt });
    least = λ i j t. bound_inner_least points arcs i j (bound i j) ((tests i j).0 t).different (bounds i j t);
  }

-- the laws together
pub two_passes : (points : ℕ) (arcs : List Constraint) (order : List ℕ) (joined : ℕ → ℕ → Bool) (bound : ℕ → ℕ → ℤ)
    → HasEndsBelow points arcs → ((a : Constraint) → Contains arcs a → a.from.0 ≢ a.to.0)
    → AllDifferent order → ((p : ℕ) → (p < points) ↔ Contains order p)
    → ((i j : ℕ) → (joined i j ≡ true) ↔ IsJoined arcs order i j) → ((p : ℕ) → p < points → p ≢ 0 → HasEdge arcs p 0)
    → ((i j : ℕ) → joined i j ≡ true → IsLeastBound points arcs i j (bound i j))
    → (i p : ℕ) → i < points → p < points → IsLeastBound points arcs i p (unwrap_or (distance joined bound order i p) (pos 0))
two_passes points arcs order joined bound below apart once all tests edge least i p lt within =
    bounds arcs joined bound (bounds_least arcs order joined tests points bound apart least) order
    (chordal arcs order joined tests once (λ a c. ((all a.from.0).0 (below a c).0, (all a.to.0).0 (below a c).1)))
    (λ p c ne. (tests p 0).1 (record { different = ne; inner = []; path = edge p ((all p).1 c) ne; before = tt }))
    i ((all i).0 lt) points below (λ p lt. (all p).0 lt) p lt within
