-- The points with which a point has final weights, one after another.
--   TellsAbove, above_found, above_all, above_some   which points are above another, by place
--   final_turned                        final weights go both ways
--   next_some, next_none, next_least    from places to points
--   finals_told, told_above             the same under other names
use Rattle.std.proofs.Common.{◌≡◌, ℕ, ◌-◌, ◌<◌, List, length, Bool, true, false, ◌||◌, Option, Some, None, Ok, Err, refl, sym, ap, subst}
use Rattle.std.proofs.Common.{◌∙◌, arith, inl, inr, nat_cmp}
use Rattle.std.specs.Prelude.{ℤ, is_some}
use Rattle.std.specs.List.{AllPairs}
use Rattle.std.specs.List.Sorted.{IsBinarySearchResult}
use Rattle.std.proofs.lemmas.List.Sorted.{searched}
use Rattle.std.proofs.lemmas.Bool.{cases_lt, false≢true, or_cases}
use Rattle.dist_rows.specs.declared.cell.Cell.{Cell}
use Rattle.dist_rows.specs.Cells.{are_neighbours, IsAbove}
use Rattle.elim_step.specs.Eliminated.{weight_at, point_at}
use Rattle.shared_graph.specs.Graphs.{places_in, Fields, GraphView, IsGraph}
use Rattle.shared_graph.specs.Interfaces.{InterfaceView, IsInterface}
use Rattle.shared_graph.specs.States.{State}
use Rattle.shared_graph.specs.Together.{HoldsTogether}
use Rattle.shared_graph.specs.Weights.{final}
use Rattle.shared_graph.proofs.graphs.Seeking.{up, found_at}
use Rattle.shared_graph.proofs.graphs.Standing.{places_rise, place_of_listed}
use Rattle.shared_graph.proofs.graphs.Telling.{joined_turned}
use Rattle.shared_graph.proofs.graphs.Throughs.{final_there}
use Rattle.shared_graph.proofs.states.Keeps.{sound_of, joined_place}
use Rattle.shared_graph.proofs.states.Meetings.{IsPlace}

-- the places above an optional one are those of the points above p
abbrev pub TellsAbove : List ℕ → ℕ → Option ℕ → Type 0
TellsAbove xs p o = (k : ℕ) → k < length xs → (IsAbove k o → p < point_at xs k) × (p < point_at xs k → IsAbove k o)

module _ (xs : List ℕ) (rises : AllPairs (λ p q. p < q) xs) (p : ℕ) where
  pub above_found : (k : ℕ) → IsBinarySearchResult (λ y. nat_cmp y p) xs (Ok k) → TellsAbove xs p (Some k)
  above_found k found m lm =
      let there = found_at xs p k rises found in
      let is = there.1 in (
        λ high. (let less = rises k m 0 high lm in omega arith),
        λ above. elim (cases_lt k m) [
          | inl high ↦ high
          | inr low ↦ (let le = up xs rises m k low there.0 in absurd (omega arith))
        ],
      )

  pub above_all : (k : ℕ) → k ≡ 0 → IsBinarySearchResult (λ y. nat_cmp y p) xs (Err k) → TellsAbove xs p None
  above_all k none found m lm =
      let there = searched xs p (Err k) found (up xs rises) in
      (λ high. there.2 m (omega arith) lm, λ above. tt)

  pub above_some : (k : ℕ) → 0 < k → IsBinarySearchResult (λ y. nat_cmp y p) xs (Err k) → TellsAbove xs p (Some (k - 1))
  above_some k some found m lm =
      let there = searched xs p (Err k) found (up xs rises) in (
        λ high. there.2 m (omega arith) lm,
        λ above. elim (cases_lt (k - 1) m) [
          | inl high ↦ high
          | inr low ↦ (let below = there.1 m (omega arith) in absurd (omega arith))
        ],
      )

-- from cells to final weights
some_weight : (o : Option Cell) → is_some o ≡ true → is_some (weight_at o) ≡ true
some_weight None h = h
some_weight (Some c) h = refl

no_weight : (o : Option Cell) (b : Bool) → (is_some o || b) ≡ false → weight_at o ≡ None
no_weight None b h = refl
no_weight (Some c) b h = absurd (false≢true (sym h))

module _ (face : InterfaceView) (known : IsInterface face) (s : State) (together : HoldsTogether face s) where
  -- final weights go both ways
  pub final_turned : (i j : ℕ) → is_some (final face s i j) ≡ true → is_some (final face s j i) ≡ true
  final_turned i j some = go (final face s i j) refl some where
    go : (o : Option ℤ) → final face s i j ≡ o → is_some o ≡ true → is_some (final face s j i) ≡ true
    go None is h = absurd (false≢true h)
    go (Some w) is h =
        let there = final_there face s i j w is in
        let other = together.finals j i (joined_turned face s j i ∙ there.0) there.2 there.1 in
        ap (λ o. is_some o) other.1

  place_at : (q : ℕ) → IsPlace face q → (m : ℕ) × (m < length (places_in face)) × (point_at (places_in face) m ≡ q)
  place_at q (inl z) = (0, omega arith, sym z)
  place_at q (inr listed) = (let found = place_of_listed face known q listed in (found.0, found.2, found.3))

  module _ (at : ℕ → ℕ → Option Cell)
      (finals : (p q : ℕ) → p < length (places_in face) → q < length (places_in face)
      → weight_at (at p q) ≡ final face s (point_at (places_in face) p) (point_at (places_in face) q))
      (i row : ℕ) (low : row < length (places_in face)) (is : point_at (places_in face) row ≡ i) (before after : Option ℕ)
      (tells : (k : ℕ) → k < length (places_in face)
      → (IsAbove k before → IsAbove (point_at (places_in face) k) after) × (IsAbove (point_at (places_in face) k) after → IsAbove k before)) where
    abbrev pt : ℕ → ℕ
    pt p = point_at (places_in face) p

    with_cell : (m : ℕ) → m < length (places_in face) → are_neighbours at row m ≡ true → is_some (final face s (pt row) (pt m)) ≡ true
    with_cell m lm there = elim (or_cases (is_some (at row m)) (is_some (at m row)) there) [
      | inl out ↦ ap (λ o. is_some o) (sym (finals row m low lm)) ∙ some_weight (at row m) out
      | inr back ↦ final_turned (pt m) (pt row) (ap (λ o. is_some o) (sym (finals m row lm low)) ∙ some_weight (at m row) back)
    ]

    -- what has no final weight at the places has none at the points
    by_place : (q : ℕ) → IsAbove q after
        → ((m : ℕ) → m < length (places_in face) → pt m ≡ q → IsAbove m before → are_neighbours at row m ≡ false) → final face s i q ≡ None
    by_place q above none = go (final face s i q) refl where
      go : (o : Option ℤ) → final face s i q ≡ o → o ≡ None
      go None is_o = refl
      go (Some w) is_o =
          let there = final_there face s i q w is_o in
          let place = place_at q (joined_place face known s (sound_of face known s together) i q there.0) in
          let m = place.0 in
          let point = place.2 in
          let high = (tells m place.1).1 (subst (λ x. IsAbove x after) (sym point) above) in
          sym is_o ∙ sym (λ t. final face s (is t) (point t)) ∙ sym (finals row m low place.1)
          ∙ no_weight (at row m) (is_some (at m row)) (none m place.1 point high)

    pub next_some : (k : ℕ) → k < length (places_in face) → IsAbove k before → are_neighbours at row k ≡ true
        → IsAbove (pt k) after × (is_some (final face s i (pt k)) ≡ true)
    next_some k lk high there = ((tells k lk).0 high, subst (λ x. is_some (final face s x (pt k)) ≡ true) is (with_cell k lk there))

    pub next_none : ((m : ℕ) → IsAbove m before → are_neighbours at row m ≡ false) → (q : ℕ) → IsAbove q after → final face s i q ≡ None
    next_none none q above = by_place q above (λ m lm point high. none m high)

    pub next_least : (k : ℕ) → k < length (places_in face) → ((m : ℕ) → m < k → IsAbove m before → are_neighbours at row m ≡ false)
        → (q : ℕ) → q < pt k → IsAbove q after → final face s i q ≡ None
    next_least k lk none q less above = by_place q above (λ m lm point high. elim (cases_lt m k) [
      | inl early ↦ none m early high
      | inr past ↦ (let le = up (places_in face) (places_rise face known) k m past lm in absurd (omega arith))
    ])

-- the final cells, in the view of the graph, which has another name where they are read
pub finals_told : (g : Fields) → IsGraph g → (v : GraphView) → record { face = g.face; state = g.state } ≡ v
    → (g.final_places ≡ length (places_in v.face)) × ((p q : ℕ) → p < length (places_in v.face) → q < length (places_in v.face)
    → weight_at (g.final_at p q) ≡ final v.face v.state (point_at (places_in v.face) p) (point_at (places_in v.face) q))
finals_told g h v e = subst
    (λ (v : GraphView). (g.final_places ≡ length (places_in v.face)) × ((p q : ℕ) → p < length (places_in v.face) → q < length (places_in v.face)
    → weight_at (g.final_at p q) ≡ final v.face v.state (point_at (places_in v.face) p) (point_at (places_in v.face) q)))
    e (
      h.final_places ∙ ap length h.points,
      subst (λ (ps : List ℕ). (p q : ℕ) → p < length ps → q < length ps
          → weight_at (g.final_at p q) ≡ final g.face g.state (point_at ps p) (point_at ps q)) h.points h.finals,
    )

-- which places are above, of points under another name
pub told_above : (face : InterfaceView) (xs : List ℕ) (p : ℕ) (o : Option ℕ) → xs ≡ places_in face → TellsAbove xs p o → TellsAbove (places_in face) p o
told_above face xs p o same = subst (λ (ys : List ℕ). TellsAbove ys p o) same
