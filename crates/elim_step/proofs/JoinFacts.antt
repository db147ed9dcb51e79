-- What joined pairs come to, in the terms of points: the place k stands for the k-th of a list of points.
--   joined-before             before any elimination they are the edges
--   joined-after              after the elimination of one point more
--   joined-neighbours                the pairs of a list, where it holds the remaining neighbours of a place
--   joined-apart, joined-within  no place is joined with itself, nor one that is not below the size
--   names_once-from_rising    a list that rises names no place twice
use Rattle.std.proofs.Common.{suc, ◌≡◌, ◌≢◌, ℕ, ◌<◌, List, [], ◌∷◌, Bool, true, false, ◌&&◌, ◌||◌, not, ap, sym, ◌∙◌, refl, length, get_or, arith, inl, inr, ◌≤◌}
use Rattle.std.specs.Prelude.{◌==◌, if◌then◌else◌}
use Rattle.std.specs.List.{AllPairs}
use Rattle.std.proofs.lemmas.Bool.Decides.{nat_tests}
use Rattle.stn_model.specs.declared.ids.Constraint.{Constraint}
use Rattle.stn_walk.specs.Eliminations.{is_in, before_both}
use Rattle.stn_walk.specs.Joins.{has_edge, joined_of}
use Rattle.stn_walk.proofs.Joins.{joined-symmetric}
use Rattle.stn_walk.proofs.Eliminations.{before-whole}
use Rattle.elim_step.specs.Eliminates.{remains}
use Rattle.elim_step.specs.Eliminated.{point_at}
use Rattle.elim_step.specs.Revisits.{names_once}
use Rattle.elim_step.specs.JoinedPlaces.{is_joined}
use Rattle.elim_step.specs.PlaceLists.{no_places}
use Rattle.elim_step.specs.declared.joins.Joins.{Joins}
use Rattle.std.proofs.Math.ListN.{get_or-eq_default}
use Rattle.std.proofs.lemmas.Bool.{cases_lt, false≢true}
use Rattle.std.proofs.Math.Bool.{and-false}

-- before any elimination
pub joined-before : (arcs : List Constraint) (points : List ℕ) (f : ℕ → ℕ → Bool)
    → ((i j : ℕ) → i < length points → j < length points → i ≢ j → f i j ≡ has_edge arcs (point_at points i) (point_at points j))
    → (i j : ℕ) → i < length points → j < length points → i ≢ j
    → f i j ≡ joined_of arcs (before_both [] (point_at points i) (point_at points j)) (point_at points i) (point_at points j)
joined-before arcs points f edges = edges

-- an eliminated place, or that which is eliminated, is not neighbours
not-neighbour : (points es : List ℕ) (remain : List Bool) (f : ℕ → ℕ → Bool) (k i : ℕ)
    → (point_at points i ≡ point_at points k → i ≡ k) → remains remain i ≡ not (is_in es (point_at points i)) → f k k ≡ false
    → is_in (point_at points k ∷ es) (point_at points i) ≡ true → (remains remain i && f k i) ≡ false
not-neighbour points es remain f k i apart is_remaining none here =
    elim (is_in es (point_at points i)) as (λ b. is_in es (point_at points i) ≡ b → (remains remain i && f k i) ≡ false) [
      | true ↦ λ t. let gone : remains remain i ≡ false = is_remaining ∙ ap not t in rw gone refl
      | false ↦ λ t.
          let last : (point_at points i == point_at points k) ≡ true = (rw t at here) in
          let same : i ≡ k = apart (grind (arith, nat_tests)) in
          rw (same, none) (and-false (remains remain k))
    ] refl

neither : (a b c d : Bool) → ((a || b) || (c || d)) ≡ false → (a ≡ false) × (b ≡ false) × (c ≡ false) × (d ≡ false)
neither true b c d h = absurd (cc)
neither false true c d h = absurd (cc)
neither false false true d h = absurd (cc)
neither false false false d h = (refl, refl, refl, h)

or-false : (b : Bool) → (b || false) ≡ b
or-false true = refl
or-false false = refl

-- what is not neighbours joins nothing more
first-away : (x d a b : Bool) → a ≡ false → (x || (d && a && b)) ≡ x
first-away x d a b h = rw (h, and-false d) (or-false x)

second-away : (x d a b : Bool) → b ≡ false → (x || (d && a && b)) ≡ x
second-away x d a b h = rw (h, and-false (d && a)) (or-false x)

-- after k is eliminated, whose remaining neighbours are joined with one another
pub joined-after : (arcs : List Constraint) (points es : List ℕ) (remain : List Bool) (k : ℕ) (f g : ℕ → ℕ → Bool)
    → ((i j : ℕ) → i < length points → j < length points → point_at points i ≡ point_at points j → i ≡ j)
    → ((i j : ℕ) → i < length points → j < length points → i ≢ j
    → f i j ≡ joined_of arcs (before_both es (point_at points i) (point_at points j)) (point_at points i) (point_at points j))
    → ((p : ℕ) → p < length points → remains remain p ≡ not (is_in es (point_at points p)))
    → ((p : ℕ) → f p p ≡ false)
    → k < length points → is_in es (point_at points k) ≡ false
    → ((p q : ℕ) → g p q ≡ (f p q || (not (p == q) && (remains remain p && f k p) && (remains remain q && f k q))))
    → (i j : ℕ) → i < length points → j < length points → i ≢ j
    → g i j ≡ joined_of arcs (before_both (point_at points k ∷ es) (point_at points i) (point_at points j)) (point_at points i) (point_at points j)
joined-after arcs points es remain k f g apart joins remaining none lk fresh changed i j li lj differ =
    let a = point_at points i in
    let b = point_at points j in
    let e = point_at points k in
    let near_i = remains remain i && f k i in
    let near_j = remains remain j && f k j in
    let test = is_in (e ∷ es) a || is_in (e ∷ es) b in
    elim test as (λ t. test ≡ t → g i j ≡ joined_of arcs (if t then before_both es a b else e ∷ es) a b) [
      | true ↦ λ t. changed i j ∙ kept t ∙ joins i j li lj differ
      | false ↦ λ t.
          let out = neither (is_in es a) (a == e) (is_in es b) (b == e) t in
          let i_k : k ≢ i = λ same. (let s : a ≡ e = ap (point_at points) (sym same) in let no_test = out.1 in grind (arith, nat_tests)) in
          let j_k : k ≢ j = λ same. (let s : b ≡ e = ap (point_at points) (sym same) in let no_test = out.3 in grind (arith, nat_tests)) in
          let ij : f i j ≡ joined_of arcs es a b = joins i j li lj differ ∙ ap (λ xs. joined_of arcs xs a b) (before-whole es a b out.0 out.2) in
          let ki : f k i ≡ joined_of arcs es a e =
          joins k i lk li i_k ∙ ap (λ xs. joined_of arcs xs e a) (before-whole es e a fresh out.0) ∙ joined-symmetric arcs es e a in
          let kj : f k j ≡ joined_of arcs es e b = joins k j lk lj j_k ∙ ap (λ xs. joined_of arcs xs e b) (before-whole es e b fresh out.2) in
          let off : (i == j) ≡ false = grind (arith, nat_tests) in
          let stays_i : remains remain i ≡ true = remaining i li ∙ ap not out.0 in
          let stays_j : remains remain j ≡ true = remaining j lj ∙ ap not out.2 in
          changed i j ∙ rw (off, stays_i, stays_j, ij, ki, kj) refl
    ] refl where
      kept : (is_in (point_at points k ∷ es) (point_at points i) || is_in (point_at points k ∷ es) (point_at points j)) ≡ true
          → (f i j || (not (i == j) && (remains remain i && f k i) && (remains remain j && f k j))) ≡ f i j
      kept t =
          elim (is_in (point_at points k ∷ es) (point_at points i)) as
          (λ b. is_in (point_at points k ∷ es) (point_at points i) ≡ b
          → (f i j || (not (i == j) && (remains remain i && f k i) && (remains remain j && f k j))) ≡ f i j) [
            | true ↦ λ h. first-away (f i j) (not (i == j)) (remains remain i && f k i) (remains remain j && f k j)
                (not-neighbour points es remain f k i (apart i k li lk) (remaining i li) (none k) h)
            | false ↦ λ h.
                let other : is_in (point_at points k ∷ es) (point_at points j) ≡ true = (rw h at t) in
                second-away (f i j) (not (i == j)) (remains remain i && f k i) (remains remain j && f k j)
                (not-neighbour points es remain f k j (apart j k lj lk) (remaining j lj) (none k) other)
          ] refl

-- a number below each of a list is not in it
below-all : (x : ℕ) (xs : List ℕ) → ((k d : ℕ) → k < length xs → x < get_or xs k d) → is_in xs x ≡ false
below-all x [] low = refl
below-all x (y ∷ ys) low =
    let apart : (x == y) ≡ false = (let l = low 0 0 (omega arith) in grind (arith, nat_tests)) in
    let behind = below-all x ys (λ k d lt. low (suc k) d (omega arith)) in
    (λ t. behind t || apart t)

pub names_once-from_rising : (xs : List ℕ) → AllPairs (λ p q. p < q) xs → names_once xs ≡ true
names_once-from_rising [] rising = refl
names_once-from_rising (x ∷ xs) rising =
    let apart = below-all x xs (λ k d lt. rising 0 (suc k) d (omega arith) (omega arith)) in
    let rest = names_once-from_rising xs (λ i j d before lt. rising (suc i) (suc j) d (omega arith) (omega arith)) in
    (λ t. not (apart t) && rest t)

-- no place is joined with itself
pub joined-apart : (j : Joins) (p : ℕ) → is_joined j p p ≡ false
joined-apart j p =
    elim (is_joined j p p) as (λ b. is_joined j p p ≡ b → b ≡ false) [
      | true ↦ λ t. absurd ((j.kept.within p p t).1 refl)
      | false ↦ λ t. refl
    ] refl

-- joined places are below the size
pub joined-within : (j : Joins) (p q : ℕ) → is_joined j p q ≡ true → (p < j.size) × (q < j.size)
joined-within j p q h =
    elim (cases_lt p j.size) [
      | inl low ↦ (low, (j.kept.within p q h).0)
      | inr past ↦ absurd (false≢true (sym (ap (λ l. is_in l.places q) (get_or-eq_default j.lists.items no_places (beyond past))) ∙ h))
    ] where
      beyond : j.size ≤ p → length j.lists.items ≤ p
      beyond past = (let len = j.kept.len in omega arith)

-- what joins the places of a list joins the remaining neighbours of k, where these are the list
pub joined-neighbours : (remain : List Bool) (k : ℕ) (places : List ℕ) (f g : ℕ → ℕ → Bool)
    → ((p : ℕ) → is_in places p ≡ (remains remain p && f k p))
    → ((p q : ℕ) → g p q ≡ (f p q || (not (p == q) && is_in places p && is_in places q)))
    → (p q : ℕ) → g p q ≡ (f p q || (not (p == q) && (remains remain p && f k p) && (remains remain q && f k q)))
joined-neighbours remain k places f g each joins p q = joins p q ∙ (λ t. f p q || (not (p == q) && each p t && each q t))
