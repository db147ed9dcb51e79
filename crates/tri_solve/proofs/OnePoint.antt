-- The least bounds of a network of one point, for tests: z and the point are joined.
use Rattle.std.proofs.Common.{◌≡◌, ◌≢◌, ℕ, ◌<◌, List, [], ◌∷◌, length, sym, ap, ◌∙◌, refl, arith, inl, inr, ◌⊎◌, subst}
use Rattle.std.specs.Prelude.{ℤ, pos, ◌-ℤ◌, ◌≤ℤ◌, Contains}
use Rattle.std.proofs.lemmas.Bool.{cases_eq}
use Rattle.std.proofs.lemmas.Int.{ints}
use Rattle.stn_model.specs.declared.ids.Constraint.{Constraint}
use Rattle.stn_model.specs.Arcs.{arc_at, from_at, to_at, bound_at}
use Rattle.stn_model.specs.Limits.{greatest_walk}
use Rattle.stn_model.specs.Joined.{HasEdge, IsPath, IsJoined}
use Rattle.stn_model.specs.Net.{Net, point_count, arcs_of}
use Rattle.stn_model.specs.Schedules.{KeepsArcs, Satisfies, IsLeastBound, time_at}
use Rattle.stn_model.specs.Valid.{IsNetwork}
use Rattle.stn_model.proofs.ArcLemmas.{arc_even, arc_odd}
use Rattle.stn_model.proofs.Bridges.{arc_contained}
use Rattle.stn_walk.proofs.Distances.{network_ends}
use Rattle.tri_solve.specs.declared.edge.Edge.{Edge}
use Rattle.tri_solve.specs.Edges.{Bounds, AreBounds, AreBoundsOf}
use Rattle.tri_solve.specs.Passes.{IsLight}
use Rattle.tri_solve.proofs.Lists.{contains_cases}

-- one of two items
pair_cases : {X : Type 0} (a b y : X) → Contains (a ∷ b ∷ []) y → (a ≡ y) ⊎ (b ≡ y)
pair_cases a b y c = elim (contains_cases a y (b ∷ []) c) [
  | inl e ↦ inl e
  | inr d ↦ elim (contains_cases b y [] d) [ inl e ↦ inr e | inr none ↦ absurd (omega (arith, none.1)) ]
]

abbrev pub up_edge : Edge
up_edge = record { from = record { 0 = 1 }; to = record { 0 = 0 }; bound = pos 0 }

abbrev pub down_edge : ℤ → Edge
down_edge h = record { from = record { 0 = 0 }; to = record { 0 = 1 }; bound = h }

abbrev pub one_point : ℤ → Bounds
one_point h = record { order = 1 ∷ 0 ∷ []; edges = up_edge ∷ down_edge h ∷ [] }

module _ (net : Net) (valid : IsNetwork net) (two : point_count net ≡ 2) (few : length (arcs_of net) ≡ 2) where
  abbrev h : ℤ
  h = net.horizon

  abbrev arcs : List Constraint
  arcs = arcs_of net

  each_edge : (P : Edge → Type 0) → P up_edge → P (down_edge h) → (e : Edge) → Contains (up_edge ∷ down_edge h ∷ []) e → P e
  each_edge P a b e c = elim (pair_cases up_edge (down_edge h) e c) [ inl is ↦ subst P is a | inr is ↦ subst P is b ]

  pub are_bounds : AreBounds (one_point net.horizon)
  are_bounds = record {
    once = (((λ e. omega arith), tt), (tt, tt));
    points = λ p. (
      (λ lt. elim (cases_eq p 0) [ inl e ↦ (1, omega arith, sym e) | inr ne ↦ (0, omega arith, omega arith) ]),
      (λ c. elim (pair_cases 1 0 p c) [ inl e ↦ omega arith | inr e ↦ omega arith ]),
    );
    last = (1 ∷ [], refl);
    from_in = each_edge (λ e. e.from.0 < 2) (omega arith) (omega arith);
    to_in = each_edge (λ e. e.to.0 < 2) (omega arith) (omega arith);
    apart = each_edge (λ e. e.from.0 ≢ e.to.0) (λ e. omega arith) (λ e. omega arith);
    single = λ e f c d from to. elim (pair_cases up_edge (down_edge h) e c) [
      | inl a ↦ elim (pair_cases up_edge (down_edge h) f d) [
        | inl b ↦ sym a ∙ b
        | inr b ↦ (let x : 1 ≡ e.from.0 = ap (λ (g : Edge). g.from.0) a in let y : 0 ≡ f.from.0 = ap (λ (g : Edge). g.from.0) b in absurd (omega arith))
      ]
      | inr a ↦ elim (pair_cases up_edge (down_edge h) f d) [
        | inl b ↦ (let x : 0 ≡ e.from.0 = ap (λ (g : Edge). g.from.0) a in let y : 1 ≡ f.from.0 = ap (λ (g : Edge). g.from.0) b in absurd (omega arith))
        | inr b ↦ sym a ∙ b
      ]
    ];
    range = (let low = valid.horizon_low in let high = valid.horizon_high in
        each_edge (λ e. IsLight greatest_walk e.bound) (omega (arith, ints), omega (arith, ints)) (omega (arith, ints), omega (arith, ints)));
  }

  upper : (from_at arcs 0 ≡ 0) × (to_at arcs 0 ≡ 1) × (bound_at arcs 0 ≡ h)
  upper = let e = arc_even net 0 (omega arith) (omega arith) in (ap (λ (a : Constraint). a.from.0) e, ap (λ (a : Constraint). a.to.0) e, ap (λ (a : Constraint). a.bound) e)

  lower : (from_at arcs 1 ≡ 1) × (to_at arcs 1 ≡ 0) × (bound_at arcs 1 ≡ pos 0)
  lower = let e = arc_odd net 1 (omega arith) (omega arith) in (ap (λ (a : Constraint). a.from.0) e, ap (λ (a : Constraint). a.to.0) e, ap (λ (a : Constraint). a.bound) e)

  keeps : (t : ℤ) → pos 0 ≤ℤ t → t ≤ℤ h → KeepsArcs arcs (pos 0 ∷ t ∷ [])
  keeps t low high n lt = elim (cases_eq n 0) [
    | inl e ↦ subst (λ (m : ℕ). (time_at (pos 0 ∷ t ∷ []) (to_at arcs m) -ℤ time_at (pos 0 ∷ t ∷ []) (from_at arcs m)) ≤ℤ bound_at arcs m) (sym e) at_upper
    | inr ne ↦
        (let one : 1 ≡ n = omega (arith, few) in
        subst (λ (m : ℕ). (time_at (pos 0 ∷ t ∷ []) (to_at arcs m) -ℤ time_at (pos 0 ∷ t ∷ []) (from_at arcs m)) ≤ℤ bound_at arcs m) one at_lower)
  ] where
    at_upper : (time_at (pos 0 ∷ t ∷ []) (to_at arcs 0) -ℤ time_at (pos 0 ∷ t ∷ []) (from_at arcs 0)) ≤ℤ bound_at arcs 0
    at_upper =
        let from : time_at (pos 0 ∷ t ∷ []) (from_at arcs 0) ≡ pos 0 = ap (time_at (pos 0 ∷ t ∷ [])) upper.0 in
        let to : time_at (pos 0 ∷ t ∷ []) (to_at arcs 0) ≡ t = ap (time_at (pos 0 ∷ t ∷ [])) upper.1 in
        let b = upper.2 in
        omega (arith, ints)

    at_lower : (time_at (pos 0 ∷ t ∷ []) (to_at arcs 1) -ℤ time_at (pos 0 ∷ t ∷ []) (from_at arcs 1)) ≤ℤ bound_at arcs 1
    at_lower =
        let from : time_at (pos 0 ∷ t ∷ []) (from_at arcs 1) ≡ t = ap (time_at (pos 0 ∷ t ∷ [])) lower.0 in
        let to : time_at (pos 0 ∷ t ∷ []) (to_at arcs 1) ≡ pos 0 = ap (time_at (pos 0 ∷ t ∷ [])) lower.1 in
        let b = lower.2 in
        omega (arith, ints)

  schedule : (t : ℤ) → pos 0 ≤ℤ t → t ≤ℤ h → Satisfies (point_count net) arcs (pos 0 ∷ t ∷ [])
  schedule t low high = record { one_each = sym two; first = refl; keeps = keeps t low high }

  least_up : IsLeastBound (point_count net) arcs 1 0 (pos 0)
  least_up = record {
    walk = 1 ∷ [];
    is_walk = (omega (arith, few), lower.0, lower.1);
    weighs = (let b = lower.2 in omega (arith, ints));
    times = pos 0 ∷ pos 0 ∷ [];
    satisfies = schedule (pos 0) (omega (arith, ints)) valid.horizon_low;
    attains = refl;
  }

  least_down : IsLeastBound (point_count net) arcs 0 1 h
  least_down = record {
    walk = 0 ∷ [];
    is_walk = (omega (arith, few), upper.0, upper.1);
    weighs = (let b = upper.2 in omega (arith, ints));
    times = pos 0 ∷ h ∷ [];
    satisfies = schedule h valid.horizon_low (omega (arith, ints));
    attains = omega (arith, ints);
  }

  has_edge : HasEdge arcs 1 0
  has_edge = (arc_at arcs 1, arc_contained arcs 1 (omega (arith, few)), inl (lower.0, lower.1))

  has_back : HasEdge arcs 0 1
  has_back = (arc_at arcs 1, arc_contained arcs 1 (omega (arith, few)), inr (lower.0, lower.1))

  join : (i j : ℕ) → i ≢ j → HasEdge arcs i j → IsJoined arcs (1 ∷ 0 ∷ []) i j
  join i j ne e = record { different = ne; inner = []; path = e; before = tt }

  edge_below : (i j : ℕ) → HasEdge arcs i j → (i < 2) × (j < 2)
  edge_below i j (a, c, inl e) =
      let ends = network_ends net valid a c in
      let x = ends.0 in
      let y = ends.1 in
      let p = e.0 in
      let q = e.1 in
      (omega arith, omega arith)
  edge_below i j (a, c, inr e) =
      let ends = network_ends net valid a c in
      let x = ends.0 in
      let y = ends.1 in
      let p = e.0 in
      let q = e.1 in
      (omega arith, omega arith)

  path_below : (i j : ℕ) (ps : List ℕ) → IsPath arcs i j ps → (i < 2) × (j < 2)
  path_below i j [] e = edge_below i j e
  path_below i j (p ∷ ps) e = ((edge_below i p e.0).0, (path_below p j ps e.1).1)

  abbrev Between : ℕ → ℕ → Type 0
  Between i j = (e : Edge) × Contains (up_edge ∷ down_edge h ∷ []) e × (e.from.0 ≡ i) × (e.to.0 ≡ j)

  joined_between : (i j : ℕ) → i ≢ j → i < 2 → j < 2 → Between i j
  joined_between i j ne below under = elim (cases_eq i 0) [
    | inl e ↦ (down_edge h, (1, omega arith, refl), sym e, omega arith)
    | inr away ↦ (up_edge, (0, omega arith, refl), omega arith, omega arith)
  ]

  between_joined : (i j : ℕ) → Between i j → IsJoined arcs (1 ∷ 0 ∷ []) i j
  between_joined i j (e, c, from, to) =
      let both = each_edge (λ e. IsJoined arcs (1 ∷ 0 ∷ []) e.from.0 e.to.0) (join 1 0 (λ e. omega arith) has_edge) (join 0 1 (λ e. omega arith) has_back) e c in
      subst (λ (k : ℕ). IsJoined arcs (1 ∷ 0 ∷ []) i k) to (subst (λ (k : ℕ). IsJoined arcs (1 ∷ 0 ∷ []) k e.to.0) from both)

  pub are_bounds_of : AreBoundsOf net (one_point net.horizon)
  are_bounds_of = record {
    points = sym two;
    joined = λ i j. (between_joined i j, λ g. let ends = path_below i j g.inner g.path in joined_between i j g.different ends.0 ends.1);
    least = each_edge (λ e. IsLeastBound (point_count net) arcs e.from.0 e.to.0 e.bound) least_up least_down;
  }
