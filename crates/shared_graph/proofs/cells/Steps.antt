-- What steps do to forward cells and joined pairs.
use Rattle.std.proofs.Common.{suc, ◌≡◌, ◌≢◌, ℕ, List, [], ◌∷◌, ◌++◌, Bool, true, false, ◌||◌, ◌&&◌, not, Option, Some, None, ap, sym, ◌∙◌, refl, arith, subst}
use Rattle.std.specs.Prelude.{ℤ, Contains, ◌==◌, int_lt, if◌then◌else◌}
use Rattle.std.proofs.Math.Bool.{or-true}
use Rattle.std.proofs.lemmas.Bool.Decides.{nat_tests}
use Rattle.std.proofs.lemmas.Int.{ints}
use Rattle.stn_model.specs.declared.ids.Constraint.{Constraint}
use Rattle.stn_walk.specs.Eliminations.{is_in, cell_of, before_both, lesser, sum_of, bound_of}
use Rattle.stn_walk.specs.Joins.{has_edge, joined_of}
use Rattle.stn_walk.proofs.Eliminations.{before-whole, before-in}
use Rattle.shared_graph.specs.declared.events.Event.TheVariants.{Eliminate, Revisit}
use Rattle.shared_graph.specs.Interfaces.{InterfaceView, Summary, IsInterface, IsFitting}
use Rattle.shared_graph.specs.States.{point_id, State, Published, is_published, agent_arcs, meeting_of}
use Rattle.shared_graph.specs.Weights.{forward, is_joined, final, final_weight}
use Rattle.shared_graph.specs.Replays.{after}
use Rattle.shared_graph.proofs.states.Keeps.{IsSound, new_outside}

-- the lesser of three, in any order
swap_some : (a b c : ℤ) → lesser (lesser (Some a) (Some b)) (Some c) ≡ lesser (lesser (Some a) (Some c)) (Some b)
swap_some a b c =
    elim (int_lt b a) as (λ x. int_lt b a ≡ x → lesser (if x then Some b else Some a) (Some c) ≡ lesser (lesser (Some a) (Some c)) (Some b)) [
      | true ↦ λ x. elim (int_lt c a) as (λ y. int_lt c a ≡ y → (if int_lt c b then Some c else Some b) ≡ lesser (if y then Some c else Some a) (Some b)) [
        | true ↦ λ y. elim (int_lt c b) as (λ z. int_lt c b ≡ z → (if z then Some c else Some b) ≡ (if int_lt b c then Some b else Some c)) [
          | true ↦ λ z. (let f : int_lt b c ≡ false = grind (arith, ints) in sym (ap (λ u. if u then Some b else Some c) f))
          | false ↦ λ z. elim (int_lt b c) as (λ u. int_lt b c ≡ u → Some b ≡ (if u then Some b else Some c)) [
            | true ↦ λ u. refl
            | false ↦ λ u. (let e : b ≡ c = grind (arith, ints) in ap (λ v. Some v) e)
          ] refl
        ] refl
        | false ↦ λ y. (let f : int_lt c b ≡ false = grind (arith, ints) in ap (λ u. if u then Some c else Some b) f
            ∙ sym (ap (λ u. if u then Some b else Some a) x))
      ] refl
      | false ↦ λ x. elim (int_lt c a) as (λ y. int_lt c a ≡ y → (if y then Some c else Some a) ≡ lesser (if y then Some c else Some a) (Some b)) [
        | true ↦ λ y. (let f : int_lt b c ≡ false = grind (arith, ints) in sym (ap (λ u. if u then Some b else Some c) f))
        | false ↦ λ y. sym (ap (λ u. if u then Some b else Some a) x)
      ] refl
    ] refl

-- a missing number changes nothing
pub none_right : (x : Option ℤ) → lesser x None ≡ x
none_right None = refl
none_right (Some a) = refl

pub lesser_turned : (a b : ℤ) → lesser (Some a) (Some b) ≡ lesser (Some b) (Some a)
lesser_turned a b =
    elim (int_lt b a) as (λ x. int_lt b a ≡ x → (if x then Some b else Some a) ≡ (if int_lt a b then Some a else Some b)) [
      | true ↦ λ x. (let f : int_lt a b ≡ false = grind (arith, ints) in sym (ap (λ u. if u then Some a else Some b) f))
      | false ↦ λ x. elim (int_lt a b) as (λ y. int_lt a b ≡ y → Some a ≡ (if y then Some a else Some b)) [
        | true ↦ λ y. refl
        | false ↦ λ y. (let e : a ≡ b = grind (arith, ints) in ap (λ v. Some v) e)
      ] refl
    ] refl

pub lesser_swap : (x y z : Option ℤ) → lesser (lesser x y) z ≡ lesser (lesser x z) y
lesser_swap None None None = refl
lesser_swap None None (Some c) = refl
lesser_swap None (Some b) None = refl
lesser_swap None (Some b) (Some c) = lesser_turned b c
lesser_swap (Some a) None z = sym (none_right (lesser (Some a) z))
lesser_swap (Some a) (Some b) None = none_right (lesser (Some a) (Some b))
lesser_swap (Some a) (Some b) (Some c) = swap_some a b c

-- the least bound over two lists
pub bound_both : (arcs new : List Constraint) (i j : ℕ) → bound_of (arcs ++ new) i j ≡ lesser (bound_of arcs i j) (bound_of new i j)
bound_both [] new i j = refl
bound_both (a ∷ arcs) new i j =
    elim ((a.from.0 == i) && (a.to.0 == j)) as (λ b. (if b then lesser (bound_of (arcs ++ new) i j) (Some a.bound) else bound_of (arcs ++ new) i j)
    ≡ lesser (if b then lesser (bound_of arcs i j) (Some a.bound) else bound_of arcs i j) (bound_of new i j)) [
      | true ↦ ap (λ o. lesser o (Some a.bound)) (bound_both arcs new i j) ∙ lesser_swap (bound_of arcs i j) (bound_of new i j) (Some a.bound)
      | false ↦ bound_both arcs new i j
    ]

pub edge_both : (arcs new : List Constraint) (i j : ℕ) → has_edge (arcs ++ new) i j ≡ (has_edge arcs i j || has_edge new i j)
edge_both [] new i j = refl
edge_both (a ∷ arcs) new i j =
    ap (λ b. (((a.from.0 == i) && (a.to.0 == j)) || ((a.from.0 == j) && (a.to.0 == i))) || b) (edge_both arcs new i j)
    ∙ assoc (((a.from.0 == i) && (a.to.0 == j)) || ((a.from.0 == j) && (a.to.0 == i))) (has_edge arcs i j) (has_edge new i j) where
      assoc : (x y z : Bool) → (x || (y || z)) ≡ ((x || y) || z)
      assoc true y z = refl
      assoc false y z = refl

-- no new arc is at a point of the set
abbrev pub Misses : List Constraint → ℕ → Type 0
Misses new k = (a : Constraint) → Contains new a → (a.from.0 ≢ k) × (a.to.0 ≢ k)

rest_misses : (a : Constraint) (new : List Constraint) (k : ℕ) → Misses (a ∷ new) k → Misses new k
rest_misses a new k miss x h = miss x (suc h.0, omega (arith, h.1), h.2)

bound_to : (new : List Constraint) (i k : ℕ) → Misses new k → bound_of new i k ≡ None
bound_to [] i k miss = refl
bound_to (a ∷ new) i k miss =
    let off : (a.to.0 == k) ≡ false = (let apart = (miss a (0, omega arith, refl)).1 in grind (arith, nat_tests)) in
    ap (λ b. if b then lesser (bound_of new i k) (Some a.bound) else bound_of new i k) (ap (λ b. (a.from.0 == i) && b) off ∙ and_false (a.from.0 == i))
    ∙ bound_to new i k (rest_misses a new k miss) where
      and_false : (x : Bool) → (x && false) ≡ false
      and_false true = refl
      and_false false = refl

bound_from : (new : List Constraint) (k j : ℕ) → Misses new k → bound_of new k j ≡ None
bound_from [] k j miss = refl
bound_from (a ∷ new) k j miss =
    let off : (a.from.0 == k) ≡ false = (let apart = (miss a (0, omega arith, refl)).0 in grind (arith, nat_tests)) in
    ap (λ b. if b && (a.to.0 == j) then lesser (bound_of new k j) (Some a.bound) else bound_of new k j) off ∙ bound_from new k j (rest_misses a new k miss)

pub edge_at : (new : List Constraint) (i k : ℕ) → Misses new k → (has_edge new i k ≡ false) × (has_edge new k i ≡ false)
edge_at [] i k miss = (refl, refl)
edge_at (a ∷ new) i k miss =
    let apart = miss a (0, omega arith, refl) in
    let from : (a.from.0 == k) ≡ false = (let ne = apart.0 in grind (arith, nat_tests)) in
    let to : (a.to.0 == k) ≡ false = (let ne = apart.1 in grind (arith, nat_tests)) in
    let rest = edge_at new i k (rest_misses a new k miss) in (
      edge (a.from.0 == i) (a.to.0 == k) (a.from.0 == k) (a.to.0 == i) (has_edge new i k) to from rest.0,
      turned (a.from.0 == k) (a.to.0 == i) (a.from.0 == i)
          (a.to.0 == k) (has_edge new k i) from to rest.1,
    ) where
      edge : (p q r s t : Bool) → q ≡ false → r ≡ false → t ≡ false → (((p && q) || (r && s)) || t) ≡ false
      edge true true r s t h g f = absurd (cc)
      edge true false true s t h g f = absurd (cc)
      edge true false false s t h g f = f
      edge false q true s t h g f = absurd (cc)
      edge false q false s t h g f = f

      turned : (p q r s t : Bool) → p ≡ false → s ≡ false → t ≡ false → (((p && q) || (r && s)) || t) ≡ false
      turned true q r s t h g f = absurd (cc)
      turned false q true true t h g f = absurd (cc)
      turned false q true false t h g f = f
      turned false q false s t h g f = f

-- cells over two lists of arcs, of which the second has no end among the eliminated points
pub cell_both : (arcs new : List Constraint) (es : List ℕ) → ((k : ℕ) → is_in es k ≡ true → Misses new k) → (i j : ℕ)
    → cell_of (arcs ++ new) es i j ≡ lesser (cell_of arcs es i j) (bound_of new i j)
cell_both arcs new [] miss i j = bound_both arcs new i j
cell_both arcs new (k ∷ es) miss i j =
    let rest : (x : ℕ) → is_in es x ≡ true → Misses new x = λ x h. miss x (ap (λ b. b || (x == k)) h) in
    let here : Misses new k = miss k (let same : (k == k) ≡ true = grind (arith, nat_tests) in ap (λ b. is_in es k || b) same ∙ or-true (is_in es k)) in
    let to : cell_of (arcs ++ new) es i k ≡ cell_of arcs es i k = cell_both arcs new es rest i k ∙ ap (lesser (cell_of arcs es i k)) (bound_to new i k here)
    ∙ none_right (cell_of arcs es i k) in
    let from : cell_of (arcs ++ new) es k j ≡ cell_of arcs es k j = cell_both arcs new es rest k j
    ∙ ap (lesser (cell_of arcs es k j)) (bound_from new k j here) ∙ none_right (cell_of arcs es k j) in
    (λ t. lesser (cell_both arcs new es rest i j t) (sum_of (to t) (from t)))
    ∙ lesser_swap (cell_of arcs es i j) (bound_of new i j) (sum_of (cell_of arcs es i k) (cell_of arcs es k j))

pub joined_both : (arcs new : List Constraint) (es : List ℕ) → ((k : ℕ) → is_in es k ≡ true → Misses new k) → (i j : ℕ)
    → joined_of (arcs ++ new) es i j ≡ (joined_of arcs es i j || has_edge new i j)
joined_both arcs new [] miss i j = edge_both arcs new i j
joined_both arcs new (k ∷ es) miss i j =
    let rest : (x : ℕ) → is_in es x ≡ true → Misses new x = λ x h. miss x (ap (λ b. b || (x == k)) h) in
    let here : Misses new k = miss k (let same : (k == k) ≡ true = grind (arith, nat_tests) in ap (λ b. is_in es k || b) same ∙ or-true (is_in es k)) in
    let to : joined_of (arcs ++ new) es i k ≡ joined_of arcs es i k = joined_both arcs new es rest i k
    ∙ ap (λ b. joined_of arcs es i k || b) (edge_at new i k here).0 ∙ or_none (joined_of arcs es i k) in
    let from : joined_of (arcs ++ new) es k j ≡ joined_of arcs es k j = joined_both arcs new es rest k j
    ∙ ap (λ b. joined_of arcs es k j || b) (edge_at new j k here).1 ∙ or_none (joined_of arcs es k j) in
    (λ t. joined_both arcs new es rest i j t || (to t && from t))
    ∙ swapped (joined_of arcs es i j) (has_edge new i j) (joined_of arcs es i k && joined_of arcs es k j) where
      or_none : (b : Bool) → (b || false) ≡ b
      or_none true = refl
      or_none false = refl

      swapped : (a b c : Bool) → ((a || b) || c) ≡ ((a || c) || b)
      swapped true b c = refl
      swapped false true true = refl
      swapped false true false = refl
      swapped false false true = refl
      swapped false false false = refl

-- a publish
pub publish_lowers : (face : InterfaceView) → IsInterface face → (s : State) → IsSound face s → (told : Published)
    → IsFitting face told.agent told.entries → is_published s told.agent ≡ false
    → (i j : ℕ)
    → (forward face (record s { published = told ∷ s.published }) i j ≡ lesser (forward face s i j) (bound_of (agent_arcs face told) i j))
    × (is_joined face (record s { published = told ∷ s.published }) i j
    ≡ (is_joined face s i j || (not (i == j) && has_edge (agent_arcs face told) i j)))
publish_lowers face known s sound told fits fresh i j = (
  cell_both (meeting_of face s) (agent_arcs face told) (before_both s.order i j) misses i j,
  ap (λ b. not (i == j) && b) (joined_both (meeting_of face s) (agent_arcs face told) (before_both s.order i j) misses i j)
      ∙ spread (not (i == j)) (joined_of (meeting_of face s) (before_both s.order i j) i j) (has_edge (agent_arcs face told) i j),
) where
  spread : (x y z : Bool) → (x && (y || z)) ≡ ((x && y) || (x && z))
  spread true y z = refl
  spread false y z = refl

  misses : (k : ℕ) → is_in (before_both s.order i j) k ≡ true → Misses (agent_arcs face told) k
  misses k h x there =
      let inside = before-in s.order i j k h in
      let out = new_outside face known s sound told fits fresh x there in (
        λ e. absurd (let f : is_in s.order k ≡ false = subst (λ q. is_in s.order q ≡ false) e out.0 in cc),
        λ e. absurd (let f : is_in s.order k ≡ false =
            subst (λ q. is_in s.order q ≡ false) e out.1 in cc),
      )

-- an elimination
pub eliminate_lowers : (face : InterfaceView) (summaries : List Summary) (s : State) (k : ℕ) → is_in s.order k ≡ false → (i j : ℕ)
    → (forward face (after face summaries s (Eliminate (point_id k))) i j
    ≡ (if is_in (k ∷ s.order) i || is_in (k ∷ s.order) j then forward face s i j
    else lesser (forward face s i j) (sum_of (forward face s i k) (forward face s k j))))
eliminate_lowers face summaries s k fresh i j =
    elim (is_in (k ∷ s.order) i || is_in (k ∷ s.order) j) as (λ b. (is_in (k ∷ s.order) i || is_in (k ∷ s.order) j) ≡ b
    → cell_of (meeting_of face s) (if b then before_both s.order i j else k ∷ s.order) i j
    ≡ (if b then forward face s i j else lesser (forward face s i j) (sum_of (forward face s i k) (forward face s k j)))) [
      | true ↦ λ t. refl
      | false ↦ λ t.
          (let out = neither (is_in s.order i) (i == k) (is_in s.order j) (j == k) t in
          let ij = before-whole s.order i j out.0 out.1 in
          let ik = before-whole s.order i k out.0 fresh in
          let kj = before-whole s.order k j fresh out.1 in
          sym (λ u. lesser (cell_of (meeting_of face s) (ij u) i j) (sum_of (cell_of (meeting_of face s) (ik u) i k) (cell_of (meeting_of face s) (kj u) k j))))
    ] refl where
      neither : (a b c d : Bool) → ((a || b) || (c || d)) ≡ false → (a ≡ false) × (c ≡ false)
      neither true b c d h = absurd (cc)
      neither false true c d h = absurd (cc)
      neither false false true d h = absurd (cc)
      neither false false false d h = (refl, refl)

pub eliminate_joins : (face : InterfaceView) (summaries : List Summary) (s : State) (k : ℕ) → is_in s.order k ≡ false → (i j : ℕ)
    → is_joined face (after face summaries s (Eliminate (point_id k))) i j
    ≡ (if is_in (k ∷ s.order) i || is_in (k ∷ s.order) j then is_joined face s i j
    else is_joined face s i j || (not (i == j) && (is_joined face s i k && is_joined face s k j)))
eliminate_joins face summaries s k fresh i j =
    elim (is_in (k ∷ s.order) i || is_in (k ∷ s.order) j) as (λ b. (is_in (k ∷ s.order) i || is_in (k ∷ s.order) j) ≡ b
    → (not (i == j) && joined_of (meeting_of face s) (if b then before_both s.order i j else k ∷ s.order) i j)
    ≡ (if b then is_joined face s i j else is_joined face s i j || (not (i == j) && (is_joined face s i k && is_joined face s k j)))) [
      | true ↦ λ t. refl
      | false ↦ λ t.
          (let out = neither (is_in s.order i) (i == k) (is_in s.order j) (j == k) t in
          let ij = before-whole s.order i j out.0 out.2 in
          let ik = before-whole s.order i k out.0 fresh in
          let kj = before-whole s.order k j fresh out.2 in
          let one = out.1 in
          let turned : (k == j) ≡ false = (let two = out.3 in grind (arith, nat_tests)) in
          let arcs = meeting_of face s in
          spread (not (i == j)) (joined_of arcs s.order i j) (joined_of arcs s.order i k && joined_of arcs s.order k j)
          ∙ sym (λ u. (not (i == j) && joined_of arcs (ij u) i j) ||
          (not (i == j) && ((not (one u) && joined_of arcs (ik u) i k) && (not (turned u) && joined_of arcs (kj u) k j)))))
    ] refl where
      neither : (a b c d : Bool) → ((a || b) || (c || d)) ≡ false → (a ≡ false) × (b ≡ false) × (c ≡ false) × (d ≡ false)
      neither true b c d h = absurd (cc)
      neither false true c d h = absurd (cc)
      neither false false true d h = absurd (cc)
      neither false false false d h = (refl, refl, refl, h)

      spread : (x y z : Bool) → (x && (y || z)) ≡ ((x && y) || (x && z))
      spread true y z = refl
      spread false y z = refl

-- a revisit
pub revisit_keeps : (face : InterfaceView) (summaries : List Summary) (s : State) (k i j : ℕ) → i ≢ k → j ≢ k
    → final face (after face summaries s (Revisit (point_id k))) i j ≡ final face s i j
revisit_keeps face summaries s k i j i_k j_k =
    let one : (i == k) ≡ false = grind (arith, nat_tests) in
    let two : (j == k) ≡ false = grind (arith, nat_tests) in
    let first : (is_in s.revisited i || (i == k)) ≡ is_in s.revisited i = ap (λ b. is_in s.revisited i || b) one ∙ or_false (is_in s.revisited i) in
    let second : (is_in s.revisited j || (j == k)) ≡ is_in s.revisited j = ap (λ b. is_in s.revisited j || b) two ∙ or_false (is_in s.revisited j) in
    (λ t. if is_joined face s i j && (first t || (i == 0)) && (second t || (j == 0)) then final_weight face s i j else None) where
      or_false : (b : Bool) → (b || false) ≡ b
      or_false true = refl
      or_false false = refl
