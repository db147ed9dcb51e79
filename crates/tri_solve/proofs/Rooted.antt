-- The labels of two passes are distances of a network, and a tree of paths.
use Rattle.std.proofs.Common.{◌≡◌, ◌≢◌, ℕ, ◌-◌, ◌*◌, ◌<◌, ◌≤◌, Bool, true, false, List, [], ◌∷◌, length, get_or, Option, Some, None, sym, ap, ◌∙◌, refl, arith, inl, inr, ◌⊎◌, subst}
use Rattle.std.specs.Prelude.{ℤ, pos, ◌+ℤ◌, ◌-ℤ◌, ◌==◌, if◌then◌else◌, int_lt, Contains, reverse, replicate}
use Rattle.std.proofs.lemmas.Bool.{cases_eq, cases_lt}
use Rattle.std.proofs.lemmas.Bool.Decides.{nat_tests}
use Rattle.std.proofs.lemmas.Int.{ints}
use Rattle.std.proofs.lemmas.List.{get_or-set_same, get_or-set_other, get_or-replicate, get_or_past, length-set, length-replicate}
use Rattle.stn_model.specs.declared.ids.PointId.{PointId}
use Rattle.stn_model.specs.Limits.{greatest_walk}
use Rattle.stn_model.specs.Net.{Net, arcs_of}
use Rattle.stn_model.specs.Valid.{IsNetwork}
use Rattle.stn_walk.specs.Eliminations.{lesser}
use Rattle.tri_solve.specs.declared.edge.Edge.{Edge}
use Rattle.tri_solve.specs.declared.label.Label.{Label}
use Rattle.tri_solve.specs.Edges.{Bounds, AreBounds, AreBoundsOf, is_edge, bound_between}
use Rattle.tri_solve.specs.Labels.{number_of, label_at, number_at, IsBelow, Came, IsLabel}
use Rattle.tri_solve.specs.Layouts.{place, turned}
use Rattle.tri_solve.specs.Passes.{IsLight, pass, least_over, by_way_of, at_source, risen, distance}
use Rattle.tri_solve.specs.Turns.{starts, IsPassed}
use Rattle.tri_solve.proofs.EdgeBounds.{joined_is, bound_is}
use Rattle.tri_solve.proofs.Follows.{contains-turned}
use Rattle.tri_solve.proofs.Light.{source_light, risen_light}
use Rattle.tri_solve.proofs.Lists.{contains_first, contains_rest, in_or_not}
use Rattle.tri_solve.proofs.NetworkBounds.{least_weights, is_chordal, joined_to_zero}
use Rattle.tri_solve.proofs.Numbers.{none_is}
use Rattle.tri_solve.proofs.PassTurns.{bounds_light, turned-contains}
use Rattle.tri_solve.proofs.Places.{at_place}
use Rattle.tri_solve.proofs.Schedules.{each_there}
use Rattle.tri_solve.proofs.Tables.{over_same}
use Rattle.tri_solve.proofs.TwoPasses.{risen_stays}

-- a pass depends on the numbers at the start of its points alone
pub pass_same : (joined : ℕ → ℕ → Bool) (bound : ℕ → ℕ → ℤ) (f g : ℕ → Option ℤ) (xs : List ℕ) → ((p : ℕ) → Contains xs p → f p ≡ g p)
    → (p : ℕ) → pass joined bound f xs p ≡ pass joined bound g xs p
pass_same joined bound f g [] h p = refl
pass_same joined bound f g (x ∷ xs) h p =
    let rest = pass_same joined bound f g xs (λ q c. h q (contains_rest x q xs c)) in
    let ways = over_same (by_way_of joined bound (pass joined bound f xs) x) (by_way_of joined bound (pass joined bound g xs) x) xs
    (λ q c. ap (λ o. by_way_of joined bound (λ r. o) x q) (rest q)) in
    ap (λ o. if p == x then lesser o (least_over (by_way_of joined bound (pass joined bound f xs) x) xs) else pass joined bound f xs p) (h x (contains_first x xs))
    ∙ ap (λ o. if p == x then lesser (g x) o else pass joined bound f xs p) ways
    ∙ ap (λ o. if p == x then lesser (g x) (least_over (by_way_of joined bound (pass joined bound g xs) x) xs) else o) (rest p)

-- whether the second number is there and below the first
abbrev is_lowered : Option ℤ → Option ℤ → Bool
is_lowered a None = false
is_lowered None (Some d) = true
is_lowered (Some a) (Some d) = int_lt d a

not_lowered : (a : Option ℤ) → is_lowered a a ≡ false
not_lowered None = refl
not_lowered (Some a) = grind (arith, ints)

lowered : (a : Option ℤ) (d : ℤ) → IsBelow d a → is_lowered a (Some d) ≡ true
lowered None d h = refl
lowered (Some a) d h = grind (arith, ints)

abbrev pub via_or : PointId → Option Label → ℕ
via_or d None = d.0
via_or d (Some l) = l.via.0

module _ (points : ℕ) (i : PointId) (lt : i.0 < points) where
  start_here : label_at (starts points i) i.0 ≡ Some (record { number = pos 0; via = i })
  start_here = get_or-set_same (replicate points None) i.0 (Some (record { number = pos 0; via = i })) None (let n = length-replicate {A = Option Label} points None in omega arith)

  start_other : (p : ℕ) → p ≢ i.0 → label_at (starts points i) p ≡ None
  start_other p ne =
      get_or-set_other (replicate points None) i.0 p (Some (record { number = pos 0; via = i })) None ne
      ∙ elim (cases_lt p points) [
        | inl below ↦ get_or-replicate points p None None below
        | inr past ↦ get_or_past (replicate points None) p None (let n = length-replicate {A = Option Label} points None in omega arith)
      ]

  pub start_number : (p : ℕ) → number_at (starts points i) p ≡ at_source i.0 p
  start_number p =
      elim (p == i.0) as (λ t. (p == i.0) ≡ t → number_at (starts points i) p ≡ (if t then Some (pos 0) else None)) [
        | true ↦ λ t. let e : p ≡ i.0 = grind (arith, nat_tests) in ap (number_at (starts points i)) e ∙ ap number_of start_here
        | false ↦ λ t. let ne : p ≢ i.0 = grind (arith, nat_tests) in ap number_of (start_other p ne)
      ] refl

  pub length-starts : length (starts points i) ≡ points
  length-starts = length-set (replicate points None) i.0 (Some (record { number = pos 0; via = i })) ∙ length-replicate points None

module _ (b : Bounds) (are : AreBounds b) (i : PointId) (lt : i.0 < length b.order) where
  abbrev at_start : List (Option Label)
  at_start = starts (length b.order) i

  pub starts_light : (p : ℕ) (d : ℤ) → number_at (starts (length b.order) i) p ≡ Some d → IsLight (greatest_walk * length b.order) d
  starts_light p d e =
      let l = source_light (is_edge b.edges) (bound_between b.edges) greatest_walk (bounds_light b are) b.order i.0 p d (sym (start_number (length b.order) i lt p) ∙ e) in
      let low = l.0 in
      let high = l.1 in
      (omega (arith, ints), omega (arith, ints))

  module _ (first : List (Option Label)) (up : IsPassed b true (starts (length b.order) i) first) where
    pub first_number : (p : ℕ) → Contains b.order p → number_at first p ≡ risen (is_edge b.edges) (bound_between b.edges) b.order i.0 p
    first_number p c =
        up.table.set p (contains-turned b.order are.once true p c)
        ∙ pass_same (is_edge b.edges) (bound_between b.edges) (number_at at_start) (at_source i.0) (reverse b.order) (λ q d. start_number (length b.order) i lt q) p

    pub first_light : (p : ℕ) (d : ℤ) → number_at first p ≡ Some d → IsLight (greatest_walk * length b.order) d
    first_light p d e = elim (in_or_not b.order p) [
      | inl c ↦ risen_light (is_edge b.edges) (bound_between b.edges) greatest_walk (bounds_light b are) b.order i.0 p d (sym (first_number p c) ∙ e)
      | inr no_c ↦ starts_light p d (ap number_of (sym (up.unset p (λ c. no_c (turned-contains true b.order p c)))) ∙ e)
    ]

    module _ (second : List (Option Label)) (down : IsPassed b false first second) where
      pub second_number : (p : ℕ) → Contains b.order p → number_at second p ≡ distance (is_edge b.edges) (bound_between b.edges) b.order i.0 p
      second_number p c =
          down.table.set p c
          ∙ pass_same (is_edge b.edges) (bound_between b.edges) (number_at first) (risen (is_edge b.edges) (bound_between b.edges) b.order i.0) b.order first_number p

      pub second_many : length second ≡ length b.order
      second_many = down.len ∙ up.len ∙ length-starts (length b.order) i lt

      module _ (net : Net) (valid : IsNetwork net) (of : AreBoundsOf net b) where
        abbrev joined : ℕ → ℕ → Bool
        joined = is_edge b.edges

        abbrev bound : ℕ → ℕ → ℤ
        bound = bound_between b.edges

        here : Contains b.order i.0
        here = (are.points i.0).0 lt

        label_of : (o : Option Label) (d : ℤ) → number_of o ≡ Some d → (l : Label) × (o ≡ Some l)
        label_of None d e = absurd (none_is d e)
        label_of (Some l) d e = (l, refl)

        pub each_labelled : (p : ℕ) → p < length second → IsLabel second p
        each_labelled p below =
            let m = second_many in
            let c = (are.points p).0 (omega arith) in
            let there = each_there (arcs_of net) joined bound (least_weights net valid b are of) b.order (is_chordal net valid b are of) (joined_to_zero net valid b are of) i.0 here p c in
            label_of (label_at second p) there.0 (second_number p c ∙ there.1)

        pub depth : ℕ → ℕ
        depth p = if is_lowered (number_at first p) (number_at second p) then 2 * length b.order - place b.order p else place b.order p

        -- how a point but the source came to its distance
        pub record Step (p : ℕ) : Type 0 where
          pub label : Label
          pub is : label_at second p ≡ Some label
          pub via_in : Contains b.order label.via.0
          pub before : ℤ
          pub known : number_at second label.via.0 ≡ Some before
          pub edge : Contains b.edges (record { from = label.via; to = record { 0 = p }; bound = label.number -ℤ before })
          pub falls : depth label.via.0 < depth p

        depth_kept : (p : ℕ) → is_lowered (number_at first p) (number_at second p) ≡ false → depth p ≡ place b.order p
        unfolding depth
        depth_kept p t = ap (λ (x : Bool). if x then 2 * length b.order - place b.order p else place b.order p) t

        depth_lowered : (p : ℕ) → is_lowered (number_at first p) (number_at second p) ≡ true → depth p ≡ 2 * length b.order - place b.order p
        unfolding depth
        depth_lowered p t = ap (λ (x : Bool). if x then 2 * length b.order - place b.order p else place b.order p) t

        depth_either : (p : ℕ) → (depth p ≡ place b.order p) ⊎ (depth p ≡ 2 * length b.order - place b.order p)
        depth_either p = by (is_lowered (number_at first p) (number_at second p)) refl where
          by : (t : Bool) → is_lowered (number_at first p) (number_at second p) ≡ t → (depth p ≡ place b.order p) ⊎ (depth p ≡ 2 * length b.order - place b.order p)
          by true t = inr (depth_lowered p t)
          by false t = inl (depth_kept p t)

        pub depth_shallow : (p : ℕ) → Contains b.order p → depth p ≤ 2 * length b.order
        depth_shallow p c = let at = (at_place b.order are.once p c).0 in elim (depth_either p) [ inl e ↦ omega arith | inr e ↦ omega arith ]

        -- by the pass up, and left so by the pass down
        step_up : (p : ℕ) → Contains b.order p → label_at second p ≡ label_at first p → Came b.order b.edges at_start first (turned true b.order) p true → Step p
        step_up p c same f =
            let e : Edge = record { from = f.label.via; to = record { 0 = p }; bound = f.label.number -ℤ f.before } in
            let via_in = turned-contains true b.order f.label.via.0 f.set in
            let number : number_at second p ≡ Some f.label.number = ap number_of (same ∙ f.is) in
            let bound_here = bound_is b.edges are.single e f.edge in
            let sum : f.label.number ≡ f.before +ℤ bound f.label.via.0 p = omega (arith, ints) in
            let stays = risen_stays (arcs_of net) joined bound (least_weights net valid b are of) b.order (is_chordal net valid b are of) i.0 here p f.label.via.0 f.label.number f.before
            (sym (second_number p c) ∙ number) (sym (first_number f.label.via.0 via_in) ∙ f.known) (joined_is b.edges are.single e f.edge) sum via_in in
            let known : number_at second f.label.via.0 ≡ Some f.before = second_number f.label.via.0 via_in ∙ stays in
            let kept = depth_kept p (ap (is_lowered (number_at first p)) (ap number_of same) ∙ not_lowered (number_at first p)) in
            let via_kept = depth_kept f.label.via.0 (ap (is_lowered (number_at first f.label.via.0)) (known ∙ sym f.known) ∙ not_lowered (number_at first f.label.via.0)) in
            let side = f.side in
            let before : place b.order f.label.via.0 < place b.order p = grind (arith, nat_tests) in
            record { label = f.label; is = same ∙ f.is; via_in = via_in; before = f.before; known = known; edge = f.edge; falls = omega arith }

        -- by the pass down
        step_down : (p : ℕ) → Contains b.order p → Came b.order b.edges first second (turned false b.order) p false → Step p
        step_down p c f =
            let apart : f.label.via.0 ≢ p = are.apart (record { from = f.label.via; to = record { 0 = p }; bound = f.label.number -ℤ f.before }) f.edge in
            let low = depth_lowered p (ap (is_lowered (number_at first p)) (ap number_of f.is) ∙ lowered (number_at first p) f.label.number f.less) in
            let via_at = at_place b.order are.once f.label.via.0 f.set in
            let at = at_place b.order are.once p c in
            let via_lt = via_at.0 in
            let p_lt = at.0 in
            let differ : place b.order f.label.via.0 ≢ place b.order p = λ e. apart (sym via_at.1 ∙ ap (λ k. get_or b.order k 0) e ∙ at.1) in
            let side = f.side in
            let after : place b.order p ≤ place b.order f.label.via.0 = grind (arith, nat_tests) in
            record {
              label = f.label;
              is = f.is;
              via_in = f.set;
              before = f.before;
              known = f.known;
              edge = f.edge;
              falls = elim (depth_either f.label.via.0) [ inl e ↦ omega arith | inr e ↦ omega arith ];
            }

        pub step : (p : ℕ) → Contains b.order p → p ≢ i.0 → Step p
        step p c ne = elim (down.vias p c) [
          | inl same ↦ elim (up.vias p (contains-turned b.order are.once true p c)) [
            | inl none ↦
                (let l = each_labelled p (let m = second_many in let lt = (are.points p).1 c in omega arith) in
                let gone : None ≡ Some l.0.number = ap number_of (sym (start_other (length b.order) i lt p ne) ∙ sym none ∙ sym same ∙ l.1) in
                absurd (none_is l.0.number gone))
            | inr f ↦ step_up p c same f
          ]
          | inr f ↦ step_down p c f
        ]

        -- the source has itself, or also a point before it
        pub via_listed : (p : ℕ) (l : Label) → Contains b.order p → label_at second p ≡ Some l → Contains b.order l.via.0
        via_listed p l c is = elim (cases_eq p i.0) [
          | inl e ↦ elim (down.vias p c) [
            | inl same ↦ elim (up.vias p (contains-turned b.order are.once true p c)) [
              | inl first_is ↦
                  (let whole : Some (record { number = pos 0; via = i }) ≡ Some l =
                  sym (start_here (length b.order) i lt) ∙ ap (label_at at_start) (sym e) ∙ sym first_is ∙ sym same ∙ is in
                  subst (Contains b.order) (ap (via_or i) whole) here)
              | inr f ↦ (let whole : Some f.label ≡ Some l = sym f.is ∙ sym same ∙ is in subst (Contains b.order) (ap (via_or i) whole) (turned-contains true b.order f.label.via.0 f.set))
            ]
            | inr f ↦ (let whole : Some f.label ≡ Some l = sym f.is ∙ is in subst (Contains b.order) (ap (via_or i) whole) f.set)
          ]
          | inr ne ↦ (let s = step p c ne in let whole : Some s.label ≡ Some l = sym s.is ∙ is in subst (Contains b.order) (ap (via_or i) whole) s.via_in)
        ]
