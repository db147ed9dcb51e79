-- The list of least bounds as it grows, pair by pair: first_after, above_after, joined_below, row_falls, bounds_start,
-- bounds_more, bounds_row, bounds_whole.
use Rattle.std.proofs.Common.{◌≡◌, ℕ, ◌+◌, ◌-◌, ◌<◌, ◌≤◌, List, [], ◌∷◌, ◌++◌, Option, Some, None, get_or, sym, ◌∙◌, arith, inl, inr, subst}
use Rattle.std.specs.Prelude.{◌↔◌, Contains}
use Rattle.std.proofs.lemmas.Bool.{cases_lt}
use Rattle.std.proofs.lemmas.List.Elements.{Contains-append_left, Contains-push, Contains-push_cases, Contains-get_or}
use Rattle.std.proofs.lemmas.List.Quantifiers.{all_pairs_push}
use Rattle.dist_rows.specs.Cells.{IsAbove}
use Rattle.stn_model.specs.Joined.{HasEdge as IsEdge, IsPath, IsJoined}
use Rattle.stn_model.specs.Net.{Net, arcs_of, point_count}
use Rattle.stn_model.specs.Schedules.{IsLeastBound}
use Rattle.stn_model.specs.Valid.{IsNetwork}
use Rattle.stn_walk.proofs.Distances.{network_ends}
use Rattle.tri_solve.specs.declared.edge.Edge.{Edge}
use Rattle.joined_answer.specs.LeastBounds.{IsFirst, HasEdge, AreLeastBounds, IsPassed, AreBoundsTo}

-- the least number above another, or of all
abbrev pub first_after : Option ℕ → ℕ
first_after None = 0
first_after (Some q) = q + 1

pub above_after : (after : Option ℕ) (p : ℕ) → IsAbove p after ↔ (first_after after ≤ p)
above_after None p = (λ h. omega arith, λ h. tt)
above_after (Some q) p = (λ h. omega arith, λ h. omega arith)

-- a walk over points goes up
pub row_falls : (points m p : ℕ) → m ≤ p → p < points → points - (p + 1) < points - m
row_falls points m p low lt = omega arith

-- joined points are points of the network
module _ (net : Net) (valid : IsNetwork net) where
  ends_in : (i j : ℕ) → IsEdge (arcs_of net) i j → (i < point_count net) × (j < point_count net)
  ends_in i j (a, here, inl same) = (let in_it = network_ends net valid a here in
      (subst (λ x. x < point_count net) same.0 in_it.0, subst (λ x. x < point_count net) same.1 in_it.1))
  ends_in i j (a, here, inr back) = (let in_it = network_ends net valid a here in
      (subst (λ x. x < point_count net) back.1 in_it.1, subst (λ x. x < point_count net) back.0 in_it.0))

  path_below : (i j : ℕ) (inner : List ℕ) → IsPath (arcs_of net) i j inner → j < point_count net
  path_below i j [] path = (ends_in i j path).1
  path_below i j (p ∷ ps) path = path_below p j ps path.1

  path_from : (i j : ℕ) (inner : List ℕ) → IsPath (arcs_of net) i j inner → i < point_count net
  path_from i j [] path = (ends_in i j path).0
  path_from i j (p ∷ ps) path = (ends_in i p path.0).0

  pub joined_below : (order : List ℕ) (i j : ℕ) → IsJoined (arcs_of net) order i j → (i < point_count net) × (j < point_count net)
  joined_below order i j h = (path_from i j h.inner h.path, path_below i j h.inner h.path)

module _ (net : Net) (order : List ℕ) where
  pub bounds_start : AreBoundsTo net order 0 0 []
  bounds_start = record {
    rising = λ i j d low inside. absurd (omega arith);
    passed = λ e h. absurd (none e h);
    joined = λ e h. absurd (none e h);
    there = λ i j h joined. absurd (nowhere i j h);
    least = λ e h. absurd (none e h);
  } where
    none : (e : Edge) → Contains [] e → ⊥
    none e h = let low : h.0 < 0 = h.1 in omega arith

    nowhere : (i j : ℕ) → IsPassed 0 0 i j → ⊥
    nowhere i j (inl low) = omega arith
    nowhere i j (inr same) = let low = same.1 in omega arith

  -- the next joined pair of a point
  pub bounds_more : (n m p : ℕ) (e : Edge) (edges pushed : List Edge) → pushed ≡ edges ++ e ∷ [] → e.from.0 ≡ n → e.to.0 ≡ p → m ≤ p
      → IsJoined (arcs_of net) order n p → IsLeastBound (point_count net) (arcs_of net) n p e.bound
      → ((q : ℕ) → q < p → m ≤ q → IsJoined (arcs_of net) order n q → ⊥) → AreBoundsTo net order n m edges → AreBoundsTo net order n (p + 1) pushed
  bounds_more n m p e edges pushed is from to low joins bound none h = subst (AreBoundsTo net order n (p + 1)) (sym is) (record {
    rising = all_pairs_push IsFirst edges e h.rising
        (λ k d lt. before (get_or edges k d) (h.passed (get_or edges k d) (Contains-get_or edges k d lt)));
    passed = λ f c. elim (Contains-push_cases edges e f c) [
      | inl old ↦ wider f.from.0 f.to.0 (h.passed f old)
      | inr new ↦ subst (λ (x : Edge). IsPassed n (p + 1) x.from.0 x.to.0) new (inr (from, omega arith))
    ];
    joined = λ f c. elim (Contains-push_cases edges e f c) [
      | inl old ↦ h.joined f old
      | inr new ↦ subst (λ (x : Edge). IsJoined (arcs_of net) order x.from.0 x.to.0) new here
    ];
    there = all_there;
    least = λ f c. elim (Contains-push_cases edges e f c) [
      | inl old ↦ h.least f old
      | inr new ↦ subst (λ (x : Edge). IsLeastBound (point_count net) (arcs_of net) x.from.0 x.to.0 x.bound) new least_here
    ];
  }) where
    here : IsJoined (arcs_of net) order e.from.0 e.to.0
    here = subst (λ x. IsJoined (arcs_of net) order e.from.0 x) (sym to) (subst (λ x. IsJoined (arcs_of net) order x p) (sym from) joins)

    least_here : IsLeastBound (point_count net) (arcs_of net) e.from.0 e.to.0 e.bound
    least_here = subst (λ x. IsLeastBound (point_count net) (arcs_of net) e.from.0 x e.bound) (sym to)
        (subst (λ x. IsLeastBound (point_count net) (arcs_of net) x p e.bound) (sym from) bound)

    before : (f : Edge) → IsPassed n m f.from.0 f.to.0 → IsFirst f e
    before f (inl less) = inl (omega arith)
    before f (inr same) = (let one = same.0 in let two = same.1 in inr (omega arith, omega arith))

    wider : (i j : ℕ) → IsPassed n m i j → IsPassed n (p + 1) i j
    wider i j (inl less) = inl less
    wider i j (inr same) = (let two = same.1 in inr (same.0, omega arith))

    all_there : (i j : ℕ) → IsPassed n (p + 1) i j → IsJoined (arcs_of net) order i j → HasEdge (edges ++ e ∷ []) i j
    all_there i j (inl less) joined = old_one (h.there i j (inl less) joined) where
      old_one : HasEdge edges i j → HasEdge (edges ++ e ∷ []) i j
      old_one f = (f.0, Contains-append_left edges (e ∷ []) f.0 f.1, f.2, f.3)
    all_there i j (inr same) joined = (let below = same.1 in elim (cases_lt j m) [
      | inl less ↦ (let f = h.there i j (inr (same.0, less)) joined in (f.0, Contains-append_left edges (e ∷ []) f.0 f.1, f.2, f.3))
      | inr past ↦ elim (cases_lt j p) [
        | inl less ↦ absurd (none j less past (subst (λ x. IsJoined (arcs_of net) order x j) same.0 joined))
        | inr at ↦ (e, Contains-push edges e, from ∙ sym same.0, to ∙ (let is : p ≡ j = omega arith in is))
      ]
    ])

  -- a point of which no pair is left
  pub bounds_row : (n m : ℕ) (edges : List Edge) → ((q : ℕ) → m ≤ q → IsJoined (arcs_of net) order n q → ⊥) → AreBoundsTo net order n m edges
      → AreBoundsTo net order (n + 1) 0 edges
  bounds_row n m edges none h = record {
    rising = h.rising;
    passed = λ e c. inl (below e.from.0 e.to.0 (h.passed e c));
    joined = h.joined;
    there = all_there;
    least = h.least;
  } where
    below : (i j : ℕ) → IsPassed n m i j → i < n + 1
    below i j (inl less) = omega arith
    below i j (inr same) = (let one = same.0 in omega arith)

    all_there : (i j : ℕ) → IsPassed (n + 1) 0 i j → IsJoined (arcs_of net) order i j → HasEdge edges i j
    all_there i j (inr same) joined = absurd (let low = same.1 in omega arith)
    all_there i j (inl less) joined = elim (cases_lt i n) [
      | inl earlier ↦ h.there i j (inl earlier) joined
      | inr at ↦
          (let is : i ≡ n = omega arith in
          elim (cases_lt j m) [
            | inl low ↦ h.there i j (inr (is, low)) joined
            | inr past ↦ absurd (none j past (subst (λ x. IsJoined (arcs_of net) order x j) is joined))
          ])
    ]

  -- and of all points
  pub bounds_whole : (edges : List Edge) → IsNetwork net → AreBoundsTo net order (point_count net) 0 edges → AreLeastBounds net order edges
  bounds_whole edges valid h = record {
    rising = h.rising;
    joined = λ i j. (
      λ f. subst (λ x. IsJoined (arcs_of net) order i x) f.3 (subst (λ x. IsJoined (arcs_of net) order x f.0.to.0) f.2 (h.joined f.0 f.1)),
      λ joined. h.there i j (inl (joined_below net valid order i j joined).0) joined,
    );
    least = h.least;
  }
