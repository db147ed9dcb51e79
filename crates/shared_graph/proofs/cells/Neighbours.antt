-- Later neighbours of a point are joined, so a revisit finds all final cells that it needs.
use Rattle.std.proofs.Common.{◌≡◌, ◌≢◌, ℕ, List, [], ◌∷◌, Bool, true, false, ◌||◌, ◌&&◌, not, Option, Some, None, ap, sym, ◌∙◌, refl, arith, subst}
use Rattle.std.specs.Prelude.{ℤ, pos, ◌==◌, if◌then◌else◌}
use Rattle.std.proofs.lemmas.Bool.{and_parts, not-true}
use Rattle.std.proofs.Math.Bool.{or-true}
use Rattle.std.proofs.lemmas.Bool.Decides.{nat_tests}
use Rattle.stn_walk.specs.Eliminations.{is_in, before_both, lesser, sum_of}
use Rattle.stn_walk.specs.Joins.{joined_of}
use Rattle.stn_walk.proofs.Eliminations.{before-whole, before-in}
use Rattle.stn_walk.proofs.Joins.{joined-symmetric, joined-wider}
use Rattle.shared_graph.specs.declared.events.Event.TheVariants.{Revisit}
use Rattle.shared_graph.specs.Interfaces.{InterfaceView, Summary, IsInterface, points_of}
use Rattle.shared_graph.specs.States.{point_id, State, is_revisited, meeting_of}
use Rattle.shared_graph.specs.Weights.{forward, is_joined, is_later, final, final_weight, later_neighbours, least_over, sum_from, sum_to}
use Rattle.shared_graph.specs.Replays.{after}
use Rattle.shared_graph.specs.Together.{IsRevisit}
use Rattle.shared_graph.proofs.states.Keeps.{IsSound}
use Rattle.shared_graph.proofs.cells.Revisits.{in_filter, before_alone, before_alone_back, sums_from, sums_to}

not_in : (es : List ℕ) (x m : ℕ) → is_in es m ≡ false → m ≢ x → is_in (x ∷ es) m ≡ false
not_in es x m out apart = (let t : (m == x) ≡ false = grind (arith, nat_tests) in (λ u. out u || t u))

-- k and what comes before it come before two points that do not
before_two : (es : List ℕ) (k m j : ℕ) → is_in es k ≡ true → is_in (before_both es k k) m ≡ false → is_in (before_both es k k) j ≡ false → m ≢ k → j ≢ k
    → (p : ℕ) → is_in (k ∷ before_both es k k) p ≡ true → is_in (before_both es m j) p ≡ true
before_two [] k m j there out_m out_j m_k j_k p h = absurd (cc)
before_two (x ∷ es) k m j there out_m out_j m_k j_k p h =
    elim (is_in es k) as (λ b. is_in es k ≡ b → is_in (before_both (x ∷ es) m j) p ≡ true) [
      | true ↦ λ t.
          (let old = before_two es k m j t (subst (λ xs. is_in xs m ≡ false) same out_m) (subst (λ xs. is_in xs j ≡ false) same out_j) m_k j_k p
          (subst (λ xs. is_in (k ∷ xs) p ≡ true) same h) in
          elim (is_in (x ∷ es) m || is_in (x ∷ es) j) as (λ b. is_in (if b then before_both es m j else x ∷ es) p ≡ true) [
            | true ↦ old
            | false ↦ ap (λ b. b || (p == x)) (before-in es m j p old)
          ])
      | false ↦ λ t.
          (let e : k ≡ x = last (is_in es k) t there in
          let whole : before_both (x ∷ es) k k ≡ es = same ∙ before-whole es k k t t in
          let no_m : is_in (x ∷ es) m ≡ false = not_in es x m (subst (λ xs. is_in xs m ≡ false) whole out_m) (λ f. m_k (f ∙ sym e)) in
          let no_j : is_in (x ∷ es) j ≡ false = not_in es x j (subst (λ xs. is_in xs j ≡ false) whole out_j) (λ f. j_k (f ∙ sym e)) in
          let is : before_both (x ∷ es) m j ≡ x ∷ es = before-whole (x ∷ es) m j no_m no_j in
          let first : is_in (k ∷ es) p ≡ true = subst (λ xs. is_in (k ∷ xs) p ≡ true) whole h in
          subst (λ xs. is_in xs p ≡ true) (sym is) (subst (λ q. is_in (q ∷ es) p ≡ true) e first))
    ] refl where
      same : before_both (x ∷ es) k k ≡ before_both es k k
      same = ap (λ b. if b || b then before_both es k k else x ∷ es) there

      last : (b : Bool) → b ≡ false → (b || (k == x)) ≡ true → k ≡ x
      last true f g = absurd (cc)
      last false f g = grind (arith, nat_tests)

module _ (face : InterfaceView) (s : State) (k : ℕ) where
  pub later_parts : (m : ℕ) → is_later face s k m ≡ true → (k ≢ m) × (joined_of (meeting_of face s) (before_both s.order k k) k m ≡ true)
      × (is_in (before_both s.order k k) m ≡ false)
  later_parts m later =
      let parts = and_parts (is_joined face s k m) (not (is_in (before_both s.order k k) m)) later in
      let joined = and_parts (not (k == m)) (joined_of (meeting_of face s) (before_both s.order k m) k m) parts.0 in
      let out = not-true (is_in (before_both s.order k k) m) parts.1 in
      let differ = joined.0 in
      let apart : k ≢ m = grind (arith, nat_tests) in
      (apart, subst (λ es. joined_of (meeting_of face s) es k m ≡ true) (before_alone s.order k m (λ e. apart (sym e)) out) joined.1, out)

  pub neighbours_join : (m j : ℕ) → is_in s.order k ≡ true → is_later face s k m ≡ true → is_later face s k j ≡ true → m ≢ j → is_joined face s m j ≡ true
  neighbours_join m j there later_m later_j apart =
      let one = later_parts m later_m in
      let two = later_parts j later_j in
      let arcs = meeting_of face s in
      let es = before_both s.order k k in
      let back : joined_of arcs es m k ≡ true = joined-symmetric arcs es m k ∙ one.1 in
      let through : joined_of arcs (k ∷ es) m j ≡ true = (λ t. joined_of arcs es m j || (back t && two.1 t)) ∙ or-true (joined_of arcs es m j) in
      let whole = joined-wider arcs (k ∷ es) (before_both s.order m j) m j
      (before_two s.order k m j there one.2 two.2 (λ e. one.0 (sym e)) (λ e. two.0 (sym e))) through in
      let differ : (m == j) ≡ false = grind (arith, nat_tests) in
      (λ t. not (differ t) && whole t)

  -- a later neighbour is joined both ways
  pub joined_back : (j : ℕ) → is_later face s k j ≡ true → is_joined face s j k ≡ true
  joined_back j later =
      let parts = later_parts j later in
      let apart = parts.0 in
      let differ : (j == k) ≡ false = (let turned : j ≢ k = λ e. apart (sym e) in grind (arith, nat_tests)) in
      let joined : joined_of (meeting_of face s) (before_both s.order j k) j k ≡ true =
      ap (λ es. joined_of (meeting_of face s) es j k) (before_alone_back s.order k j (λ e. apart (sym e)) parts.2)
      ∙ joined-symmetric (meeting_of face s) (before_both s.order k k) j k ∙ parts.1 in
      (λ t. not (differ t) && joined t)

least_same : (f g : ℕ → Option ℤ) (xs : List ℕ) → ((m : ℕ) → is_in xs m ≡ true → f m ≡ g m) → least_over f xs ≡ least_over g xs
least_same f g [] h = refl
least_same f g (x ∷ xs) h =
    let here : f x ≡ g x = h x (let same : (x == x) ≡ true = grind (arith, nat_tests) in ap (λ b. is_in xs x || b) same ∙ or-true (is_in xs x)) in
    let rest = least_same f g xs (λ m l. h m (ap (λ b. b || (m == x)) l)) in
    (λ t. lesser (here t) (rest t))

module _ (face : InterfaceView) (known : IsInterface face) (summaries : List Summary) (s : State) (sound : IsSound face s) (k j : ℕ)
    (ready : IsRevisit face s k) (later : is_later face s k j ≡ true) where
  done : is_in s.order k ≡ true
  done = ready.whole k ready.listed

  -- the final cells between later neighbours are there
  cell_is : (m n : ℕ) → is_later face s k m ≡ true → is_later face s k n ≡ true → m ≢ n → final_weight face s m n ≡ final face s m n
  cell_is m n one two apart =
      let joined = neighbours_join face s k m n done one two apart in
      let first = ready.later m one in
      let second = ready.later n two in
      sym (λ t. if joined t && first t && second t then final_weight face s m n else None)

  of_list : (m : ℕ) → is_in (later_neighbours face s k) m ≡ true → is_later face s k m ≡ true
  of_list m h = in_filter (is_later face s k) (0 ∷ points_of face) m h

  from_is : (m : ℕ) → is_in (later_neighbours face s k) m ≡ true → sum_from face s (final_weight face s) k j m ≡ sum_from face s (final face s) k j m
  from_is m h = ap (sum_of (forward face s k m)) (rest (m == j) refl) where
    rest : (b : Bool) → (m == j) ≡ b → (if b then Some (pos 0) else final_weight face s m j) ≡ (if b then Some (pos 0) else final face s m j)
    rest true t = refl
    rest false t = (let apart : m ≢ j = grind (arith, nat_tests) in cell_is m j (of_list m h) later apart)

  to_is : (m : ℕ) → is_in (later_neighbours face s k) m ≡ true → sum_to face s (final_weight face s) k j m ≡ sum_to face s (final face s) k j m
  to_is m h = ap (λ o. sum_of o (forward face s m k)) (rest (m == j) refl) where
    rest : (b : Bool) → (m == j) ≡ b → (if b then Some (pos 0) else final_weight face s j m) ≡ (if b then Some (pos 0) else final face s j m)
    rest true t = refl
    rest false t = (let apart : j ≢ m = (let ne : m ≢ j = grind (arith, nat_tests) in λ e. ne (sym e)) in cell_is j m later (of_list m h) apart)

  now_k : is_revisited (after face summaries s (Revisit (point_id k))) k ≡ true
  now_k = ap (λ b. (is_in s.revisited k || b) || (k == 0)) (let same : (k == k) ≡ true = grind (arith, nat_tests) in same)
      ∙ ap (λ b. b || (k == 0)) (or-true (is_in s.revisited k))

  now_j : is_revisited (after face summaries s (Revisit (point_id k))) j ≡ true
  now_j = wider (is_in s.revisited j) (j == 0) (j == k) (ready.later j later) where
    wider : (a b c : Bool) → (a || b) ≡ true → ((a || c) || b) ≡ true
    wider true b c h = refl
    wider false b c h = ap (λ x. c || x) h ∙ or-true c

  apart : k ≢ j
  apart = (later_parts face s k j later).0

  out : is_in (before_both s.order k k) j ≡ false
  out = (later_parts face s k j later).2

  pub made_from : final face (after face summaries s (Revisit (point_id k))) k j ≡ least_over (sum_from face s (final face s) k j) (later_neighbours face s k)
  made_from =
      let joined : is_joined face s k j ≡ true = (and_parts (is_joined face s k j) (not (is_in (before_both s.order k k) j)) later).0 in
      let cell : final face (after face summaries s (Revisit (point_id k))) k j ≡ final_weight face s k j =
      (λ t. if joined t && now_k t && now_j t then final_weight face s k j else None) in
      cell ∙ sums_from face known s sound k ready.whole j out apart
      ∙ least_same (sum_from face s (final_weight face s) k j) (sum_from face s (final face s) k j) (later_neighbours face s k) from_is

  pub made_to : final face (after face summaries s (Revisit (point_id k))) j k ≡ least_over (sum_to face s (final face s) k j) (later_neighbours face s k)
  made_to =
      let joined : is_joined face s j k ≡ true = joined_back face s k j later in
      let cell : final face (after face summaries s (Revisit (point_id k))) j k ≡ final_weight face s j k =
      (λ t. if joined t && now_j t && now_k t then final_weight face s j k else None) in
      cell ∙ sums_to face known s sound k ready.whole j out apart
      ∙ least_same (sum_to face s (final_weight face s) k j) (sum_to face s (final face s) k j) (later_neighbours face s k) to_is
