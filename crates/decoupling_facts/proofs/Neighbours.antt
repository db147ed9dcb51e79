-- Later neighbours of a point are joined with each other: their paths from it, put together, pass it and points before it. Where times go to
-- points each after its later neighbours, no point joined with the next one that has a time comes before it: joined_turned, neighbours_meet,
-- neighbours_timed, near_meet.
use Rattle.std.proofs.Common.{◌≡◌, ◌≢◌, ℕ, suc, ◌+◌, ◌<◌, Bool, true, false, not, cond, nat_eq, List, [], ◌∷◌, length, get_or, sym, ap, subst, ◌∙◌, arith, inl, inr, ⊎_elim}
use Rattle.std.specs.Prelude.{◌==◌, ◌↔◌}
use Rattle.std.specs.List.{AllByRecursion, position_or_len}
use Rattle.std.proofs.lemmas.Bool.{cases_eq, cases_order, false≢true, or_cases}
use Rattle.std.proofs.lemmas.Bool.Decides.{nat_tests}
use Rattle.std.proofs.lemmas.List.Sums.{passes_at_first}
use Rattle.stn_model.specs.declared.ids.Constraint.{Constraint}
use Rattle.stn_model.specs.Joined.{HasEdge, IsPath, ComesBefore, IsJoined, IsLaterNeighbour}
use Rattle.stn_walk.specs.Eliminations.{is_in}
use Rattle.decoupling_facts.specs.Windows.{IsNear, NearPointsMeet}

edge_turned : (arcs : List Constraint) (i j : ℕ) → HasEdge arcs i j → HasEdge arcs j i
edge_turned arcs i j (a, c, inl e) = (a, c, inr e)
edge_turned arcs i j (a, c, inr e) = (a, c, inl e)

-- a path with inner points of a kind
Path : (ℕ → Type 0) → List Constraint → ℕ → ℕ → Type 0
Path P arcs i j = (ps : List ℕ) × IsPath arcs i j ps × AllByRecursion P ps

module _ (P : ℕ → Type 0) (arcs : List Constraint) where
  -- two paths that meet in a point of the kind
  through_path : (i k j : ℕ) (ps qs : List ℕ) → IsPath arcs i k ps → AllByRecursion P ps → P k → IsPath arcs k j qs → AllByRecursion P qs → Path P arcs i j
  unfolding Path
  through_path i k j [] qs h all here g rest = (k ∷ qs, (h, g), (here, rest))
  through_path i k j (p ∷ ps) qs h all here g rest =
      let on = through_path p k j ps qs h.1 all.1 here g rest in
      (p ∷ on.0, (h.0, on.1), (all.0, on.2))

  -- a path begun at its other end
  turned_path : (i j : ℕ) (ps : List ℕ) → IsPath arcs i j ps → AllByRecursion P ps → Path P arcs j i
  unfolding Path
  turned_path i j [] h all = ([], edge_turned arcs i j h, tt)
  turned_path i j (p ∷ ps) h all =
      let back = turned_path p j ps h.1 all.1 in
      through_path j p i back.0 [] back.1 back.2 all.0 (edge_turned arcs i p h.0) tt

weaker : (P Q : ℕ → Type 0) → ((p : ℕ) → P p → Q p) → (ps : List ℕ) → AllByRecursion P ps → AllByRecursion Q ps
weaker P Q up [] all = tt
weaker P Q up (p ∷ ps) all = (up p all.0, weaker P Q up ps all.1)

module _ (arcs : List Constraint) (order : List ℕ) where
  pub joined_turned : (i j : ℕ) → IsJoined arcs order i j → IsJoined arcs order j i
  unfolding Path
  joined_turned i j h =
      let back = turned_path (λ p. ComesBefore order p i × ComesBefore order p j) arcs i j h.inner h.path h.before in
      record {
        different = λ e. h.different (sym e);
        inner = back.0;
        path = back.1;
        before = weaker (λ p. ComesBefore order p i × ComesBefore order p j) (λ p. ComesBefore order p j × ComesBefore order p i) (λ p b. (b.1, b.0)) back.0 back.2;
      }

  -- what comes before k comes before all that k comes before
  pub neighbours_meet : (k i j : ℕ) → IsLaterNeighbour arcs order k i → IsLaterNeighbour arcs order k j → i ≢ j → IsJoined arcs order i j
  unfolding Path
  neighbours_meet k i j h g apart =
      let before = λ (p : ℕ). ComesBefore order p i × ComesBefore order p j in
      let first = h.later in
      let second = g.later in
      let front = weaker (λ p. ComesBefore order p k × ComesBefore order p i) before
      (λ p b. let x = b.0 in let y = b.1 in (y, omega arith)) h.joined.inner h.joined.before in
      let rest = weaker (λ p. ComesBefore order p k × ComesBefore order p j) before
      (λ p b. let x = b.0 in let y = b.1 in (omega arith, y)) g.joined.inner g.joined.before in
      let back = turned_path before arcs k i h.joined.inner h.joined.path front in
      let whole = through_path before arcs i k j back.0 g.joined.inner back.1 back.2 (first, second) g.joined.path rest in
      record { different = apart; inner = whole.0; path = whole.1; before = whole.2 }

-- a point of an order has a place in it, and no other point has this place
place_within : (order : List ℕ) (p : ℕ) → is_in order p ≡ true → position_or_len (nat_eq p) order < length order
place_within [] p h = absurd (false≢true h)
place_within (x ∷ xs) p h =
    elim (or_cases (is_in xs p) (p == x) h) [
      | inl t ↦ (let rest = place_within xs p t in deeper (not (nat_eq p x)) rest)
      | inr t ↦
          (let here : nat_eq p x ≡ true = grind (arith, nat_tests) in
          subst (λ (b : Bool). cond (not b) (1 + position_or_len (nat_eq p) xs) 0 < suc (length xs)) (sym here) (omega arith))
    ] where
      deeper : (b : Bool) → position_or_len (nat_eq p) xs < length xs → cond b (1 + position_or_len (nat_eq p) xs) 0 < suc (length xs)
      deeper true lt = omega arith
      deeper false lt = omega arith

pub place_apart : (order : List ℕ) (p q : ℕ) → is_in order p ≡ true → p ≢ q → position_or_len (nat_eq q) order ≢ position_or_len (nat_eq p) order
place_apart order p q h apart same =
    let within = place_within order p h in
    let at = get_or order (position_or_len (nat_eq p) order) 0 in
    let first = passes_at_first (nat_eq p) order 0 within in
    let second : nat_eq q at ≡ true =
    ap (λ n. nat_eq q (get_or order n 0)) (sym same) ∙ passes_at_first (nat_eq q) order 0 (omega arith) in
    let x : p ≡ at = grind (arith, nat_tests) in
    let y : q ≡ at = grind (arith, nat_tests) in
    apart (x ∙ sym y)

module _ (arcs : List Constraint) (order : List ℕ) (joined : ℕ → ℕ → Bool) (tests : (i j : ℕ) → (joined i j ≡ true) ↔ IsJoined arcs order i j)
    (is_set : ℕ → Bool) (upward : (i j : ℕ) → is_set i ≡ true → i ≢ 0 → IsLaterNeighbour arcs order i j → is_set j ≡ true)
    (k : ℕ) (listed : is_in order k ≡ true) (unset : is_set k ≡ false) (zero_later : IsLaterNeighbour arcs order k 0)
    (ready : (j : ℕ) → IsLaterNeighbour arcs order k j → is_set j ≡ true) where
  -- a joined point that has a time comes later: k, which has none, would be a later neighbour of an earlier one
  is_later : (j : ℕ) → is_set j ≡ true → joined k j ≡ true → IsLaterNeighbour arcs order k j
  is_later j set met =
      let join = (tests k j).0 met in
      ⊎_elim
      (λ (here : j ≡ 0). subst (IsLaterNeighbour arcs order k) (sym here) zero_later)
      (λ (other : j ≢ 0).
      elim (cases_order (position_or_len (nat_eq j) order) (position_or_len (nat_eq k) order)) [
        | inl same ↦ absurd (place_apart order k j listed join.different same)
        | inr (inl early) ↦ absurd (false≢true (sym unset ∙ upward j k set other (record { joined = joined_turned arcs order k j join; later = early })))
        | inr (inr late) ↦ record { joined = join; later = late }
      ])
      (cases_eq j 0)

  pub neighbours_timed : (j : ℕ) → IsNear joined is_set k j ↔ IsLaterNeighbour arcs order k j
  neighbours_timed j = (λ n. is_later j n.0 n.1, λ n. (ready j n, (tests k j).1 n.joined))

  -- so they are joined with each other
  pub near_meet : NearPointsMeet joined is_set k
  near_meet i j n m apart = (tests i j).1 (neighbours_meet arcs order k i j (is_later i n.0 n.1) (is_later j m.0 m.1) apart)
