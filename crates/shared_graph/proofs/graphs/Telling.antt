-- What a graph tells of points, from what it keeps of their places: joined_turned, strange_from, strange_to, forward_joined, no_forward, no_final,
-- told_none, unvisited_told, forward_told, some_told, origin_told.
use Rattle.std.proofs.Common.{◌≡◌, ◌≢◌, ℕ, ◌<◌, List, [], ◌∷◌, Bool, true, false, ◌||◌, ◌&&◌, not, Option, Some, None, ap, sym, ◌∙◌, refl}
use Rattle.std.proofs.Common.{arith, inl, inr, length, subst, filter}
use Rattle.std.specs.Prelude.{ℤ, ◌==◌, is_some, IfSome, if◌then◌else◌}
use Rattle.std.proofs.lemmas.Bool.{cases_eq, false≢true}
use Rattle.std.proofs.lemmas.Bool.Decides.{nat_tests}
use Rattle.std.proofs.Math.Bool.{or-true}
use Rattle.stn_model.specs.ArcWalks.{IsInnerLeast}
use Rattle.stn_walk.specs.Eliminations.{is_in, before_both, sum_of}
use Rattle.stn_walk.specs.Joins.{joined_of}
use Rattle.stn_walk.proofs.Joins.{joined-symmetric, joined-from_walk}
use Rattle.dist_rows.specs.declared.cell.Cell.{Cell}
use Rattle.dist_rows.specs.declared.cell.Via.{Via}
use Rattle.dist_rows.specs.declared.cell.Via.TheVariants.{Given, Published as PublishedBy, Through}
use Rattle.elim_step.specs.Eliminated.{point_at, weight_at}
use Rattle.elim_step.specs.Origins.{IsFrom}
use Rattle.elim_step.proofs.Whole.{none-from}
use Rattle.shared_graph.specs.Graphs.{places_in, IsMeetingLeaf, IsOrigin, via_by_point, IsSumBefore, flag_at, Fields, GraphView, IsGraph}
use Rattle.shared_graph.specs.Histories.{unvisited_in}
use Rattle.shared_graph.specs.Interfaces.{InterfaceView, IsInterface, points_of, is_listed}
use Rattle.shared_graph.specs.States.{State, meeting_of, is_revisited}
use Rattle.shared_graph.specs.Weights.{forward, final, final_weight, is_joined}
use Rattle.shared_graph.specs.Together.{HoldsTogether}
use Rattle.shared_graph.proofs.graphs.Counts.{count_same, count_filter, filter_same}
use Rattle.shared_graph.proofs.graphs.Standing.{fields_grounded}
use Rattle.shared_graph.proofs.states.Keeps.{sound_of, joined_place}
use Rattle.shared_graph.proofs.states.Meetings.{IsPlace, listed_not_z}
use Rattle.shared_graph.proofs.states.Passing.{in_listed}

-- neither z nor a shared point
abbrev pub IsStranger : InterfaceView → ℕ → Type 0
IsStranger face p = (p ≢ 0) × (is_listed face p ≡ false)

or_turned : (a b : Bool) → (a || b) ≡ (b || a)
or_turned true true = refl
or_turned true false = refl
or_turned false true = refl
or_turned false false = refl

pub before_turned : (es : List ℕ) (i j : ℕ) → before_both es i j ≡ before_both es j i
before_turned [] i j = refl
before_turned (k ∷ es) i j = (λ t. if or_turned (is_in (k ∷ es) i) (is_in (k ∷ es) j) t then before_turned es i j t else k ∷ es)

pub joined_turned : (face : InterfaceView) (s : State) (i j : ℕ) → is_joined face s i j ≡ is_joined face s j i
joined_turned face s i j = (λ t. not (apart t) && joined t) where
  apart : (i == j) ≡ (j == i)
  apart = grind (arith, nat_tests)

  joined : joined_of (meeting_of face s) (before_both s.order i j) i j ≡ joined_of (meeting_of face s) (before_both s.order j i) j i
  joined = ap (λ es. joined_of (meeting_of face s) es i j) (before_turned s.order i j) ∙ joined-symmetric (meeting_of face s) (before_both s.order j i) i j

pub no_final : (face : InterfaceView) (s : State) (i j : ℕ) → is_joined face s i j ≡ false → final face s i j ≡ None
no_final face s i j f = (λ t. if f t && is_revisited s i && is_revisited s j then final_weight face s i j else None)

module _ (face : InterfaceView) (known : IsInterface face) (s : State) (together : HoldsTogether face s) where
  no_place : (p : ℕ) → IsStranger face p → IsPlace face p → ⊥
  no_place p strange (inl z) = strange.0 z
  no_place p strange (inr listed) = false≢true (sym strange.1 ∙ listed)

  -- no stranger is joined
  pub strange_to : (i j : ℕ) → IsStranger face j → is_joined face s i j ≡ false
  strange_to i j strange = go (is_joined face s i j) refl where
    go : (b : Bool) → is_joined face s i j ≡ b → b ≡ false
    go true t = absurd (no_place j strange (joined_place face known s (sound_of face known s together) i j t))
    go false t = refl

  pub strange_from : (i j : ℕ) → IsStranger face i → is_joined face s i j ≡ false
  strange_from i j strange = joined_turned face s i j ∙ strange_to j i strange

  -- there is no weight without being joined
  pub forward_joined : (i j : ℕ) (b : ℤ) → i ≢ j → forward face s i j ≡ Some b → is_joined face s i j ≡ true
  forward_joined i j b apart is =
      let least = subst (IsInnerLeast (is_in (before_both s.order i j)) (meeting_of face s) i j) is (together.cells i j) in
      let joined : joined_of (meeting_of face s) (before_both s.order i j) i j ≡ true =
      joined-from_walk (meeting_of face s) (before_both s.order i j) i j least.0.0 least.0.1 in
      let differ : (i == j) ≡ false = grind (arith, nat_tests) in
      (λ t. not (differ t) && joined t)

  pub no_forward : (i j : ℕ) → i ≢ j → is_joined face s i j ≡ false → forward face s i j ≡ None
  no_forward i j apart away = go (forward face s i j) refl where
    go : (o : Option ℤ) → forward face s i j ≡ o → o ≡ None
    go None is = refl
    go (Some b) is = absurd (false≢true (sym away ∙ forward_joined i j b apart is))

  pub told_none : (i j : ℕ) → is_joined face s i j ≡ false → None ≡ (if i == j then None else forward face s i j)
  told_none i j away =
      elim (i == j) as (λ b. (i == j) ≡ b → None ≡ (if b then None else forward face s i j)) [
        | true ↦ λ t. refl
        | false ↦ λ t. sym (no_forward i j (grind (arith, nat_tests)) away)
      ] refl

module _ (g : Fields) (h : IsGraph g) where
  within : (p : ℕ) → p < length (places_in g.face) → p < length g.points
  within p low = (let same = ap length h.points in omega arith)

  point_is : (p i : ℕ) → point_at (places_in g.face) p ≡ i → point_at g.points p ≡ i
  point_is p i is = ap (λ ps. point_at ps p) h.points ∙ is

  -- how many points are not revisited
  pub unvisited_told : g.unvisited ≡ unvisited_in g.face g.state
  unvisited_told =
      h.unvisited ∙ count_same (λ k. not (flag_at g.done k)) (λ k. not (is_revisited g.state (point_at g.points k))) (length g.points)
      (λ k low. ap not (h.done k low))
      ∙ count_filter (λ p. not (is_revisited g.state p)) g.points ∙ ap (λ ps. length (filter (λ p. not (is_revisited g.state p)) ps)) h.points
      ∙ ap (λ b. length (if not b then 0 ∷ filter (λ p. not (is_revisited g.state p)) (points_of g.face)
      else filter (λ p. not (is_revisited g.state p)) (points_of g.face))) (or-true (is_in g.state.revisited 0))
      ∙ ap length (filter_same (λ p. not (is_revisited g.state p)) (λ p. not (is_in g.state.revisited p)) (points_of g.face) same) where
        or_false : (b : Bool) → (b || false) ≡ b
        or_false true = refl
        or_false false = refl

        same : (p : ℕ) → is_in (points_of g.face) p ≡ true → not (is_revisited g.state p) ≡ not (is_in g.state.revisited p)
        same p there =
            let apart = listed_not_z g.face h.interface p (in_listed g.face.points p there) in
            let differ : (p == 0) ≡ false = grind (arith, nat_tests) in
            ap (λ b. not (is_in g.state.revisited p || b)) differ ∙ ap not (or_false (is_in g.state.revisited p))

  module _ (inside : (p q : ℕ) → is_some (g.at p q) ≡ true → (p < g.places) × (q < g.places) × (p ≢ q)) where
    -- no cell from a place to itself
    pub none_to_itself : (p : ℕ) → g.at p p ≡ None
    none_to_itself p = none-from (g.at p p) (λ here. (inside p p here).2 refl)

    pub points_differ : (p q : ℕ) → p < length g.points → q < length g.points → p ≢ q → point_at g.points p ≢ point_at g.points q
    points_differ p q lp lq apart e = apart ((fields_grounded g h).apart p q lp lq e)

    weight_told : (p q : ℕ) → p < length g.points → q < length g.points
        → weight_at (g.at p q)
        ≡ (if point_at g.points p == point_at g.points q then None else forward g.face g.state (point_at g.points p) (point_at g.points q))
    weight_told p q lp lq =
        let i = point_at g.points p in
        let j = point_at g.points q in
        elim (cases_eq p q) [
          | inl e ↦
              let same : (i == j) ≡ true = (let f = ap (point_at g.points) e in grind (arith, nat_tests)) in
              ap (λ n. weight_at (g.at p n)) (sym e) ∙ ap weight_at (none_to_itself p) ∙ sym (ap (λ b. if b then None else forward g.face g.state i j) same)
          | inr ne ↦
              let differ : (i == j) ≡ false = (let f = points_differ p q lp lq ne in grind (arith, nat_tests)) in
              h.cells.cells p q lp lq ne ∙ sym (ap (λ b. if b then None else forward g.face g.state i j) differ)
        ]

    -- the weight of a cell that is read, as one between points; the view of the graph has another name where it is read
    pub forward_told : (v : GraphView) → record { face = g.face; state = g.state } ≡ v → (i j p q : ℕ) (o : Option Cell)
        → p < length (places_in v.face) → point_at (places_in v.face) p ≡ i → q < length (places_in v.face) → point_at (places_in v.face) q ≡ j
        → o ≡ g.at p q → weight_at o ≡ (if i == j then None else forward v.face v.state i j)
    forward_told v e = subst
        (λ (v : GraphView). (i j p q : ℕ) (o : Option Cell) → p < length (places_in v.face) → point_at (places_in v.face) p ≡ i
        → q < length (places_in v.face) → point_at (places_in v.face) q ≡ j → o ≡ g.at p q
        → weight_at o ≡ (if i == j then None else forward v.face v.state i j))
        e (λ i j p q o lp is_i lq is_j is.
        ap weight_at is ∙ weight_told p q (within p lp) (within q lq)
        ∙ (λ t. if point_is p i is_i t == point_is q j is_j t then None else forward g.face g.state (point_is p i is_i t) (point_is q j is_j t)))

    pub some_told : (v : GraphView) → record { face = g.face; state = g.state } ≡ v → (i j p q : ℕ) (c : Cell) (z : ℤ)
        → p < length (places_in v.face) → point_at (places_in v.face) p ≡ i → q < length (places_in v.face) → point_at (places_in v.face) q ≡ j
        → Some c ≡ g.at p q → z ≡ c.weight → Some z ≡ (if i == j then None else forward v.face v.state i j)
    some_told v e i j p q c z lp is_i lq is_j is weighs = ap (λ (z : ℤ). Some z) weighs ∙ forward_told v e i j p q (Some c) lp is_i lq is_j is

    -- two cells that are there, as weights between points
    pub weight_there : (p q : ℕ) (c : Cell) → g.at p q ≡ Some c → forward g.face g.state (point_at g.points p) (point_at g.points q) ≡ Some c.weight
    weight_there p q c is =
        let room = inside p q (ap is_some is) in
        let lp = room.0 in
        let lq = room.1 in
        let many = h.places in
        sym (h.cells.cells p q (omega arith) (omega arith) room.2) ∙ ap weight_at is

    module _ (p q : ℕ) (c : Cell) (is : g.at p q ≡ Some c) where
      from : IsFrom (IsMeetingLeaf g.face g.state g.points) g.points g.state.order g.at p q c c.via
      from = subst (λ (o : Option Cell). IfSome o (λ c. IsFrom (IsMeetingLeaf g.face g.state g.points) g.points g.state.order g.at p q c c.via)) is
          (h.origins p q)

      before : IsSumBefore g.points g.state.order p q c.via
      before = subst (λ (o : Option Cell). IfSome o (λ c. IsSumBefore g.points g.state.order p q c.via)) is (h.sums p q)

      origin_of : (v w : Via) → IsFrom (IsMeetingLeaf g.face g.state g.points) g.points g.state.order g.at p q c v
          → IsSumBefore g.points g.state.order p q v
          → IsOrigin g.face g.state (point_at g.points p) (point_at g.points q) (record { weight = c.weight; via = w }) (via_by_point g.points v)
      origin_of (Given e) w f b = record { within = f.within; starts = f.starts; ends = f.ends; weighs = f.weighs }
      origin_of (PublishedBy a) w f b = f
      origin_of (Through k) w f b =
          let first = weight_there p k f.front f.is_front in
          let second = weight_there k q f.back f.is_back in
          record { before = b; weighs = (λ t. sum_of (first t) (second t)) ∙ ap (λ z. Some z) f.weighs }

      -- and by the point of that place it is one of the weight between the points
      pub origin_told : (v : GraphView) → record { face = g.face; state = g.state } ≡ v → (i j : ℕ) (z : ℤ) (w : Via)
          → point_at (places_in v.face) p ≡ i → point_at (places_in v.face) q ≡ j → z ≡ c.weight → w ≡ via_by_point (places_in v.face) c.via
          → IsOrigin v.face v.state i j (record { weight = z; via = w }) w
      origin_told v e = subst
          (λ (v : GraphView). (i j : ℕ) (z : ℤ) (w : Via) → point_at (places_in v.face) p ≡ i → point_at (places_in v.face) q ≡ j → z ≡ c.weight
          → w ≡ via_by_point (places_in v.face) c.via → IsOrigin v.face v.state i j (record { weight = z; via = w }) w)
          e (λ i j z w is_i is_j weighs named.
          subst (λ (t : ℤ). IsOrigin g.face g.state i j (record { weight = t; via = w }) w) (sym weighs)
          (subst (λ (v : Via). IsOrigin g.face g.state i j (record { weight = c.weight; via = w }) v) (sym named)
          (subst (λ n. IsOrigin g.face g.state n j (record { weight = c.weight; via = w }) (via_by_point (places_in g.face) c.via)) is_i
          (subst (λ n. IsOrigin g.face g.state (point_at (places_in g.face) p) n (record { weight = c.weight; via = w })
          (via_by_point (places_in g.face) c.via)) is_j
          (subst (λ ps. IsOrigin g.face g.state (point_at ps p) (point_at ps q) (record { weight = c.weight; via = w }) (via_by_point ps c.via)) h.points
          (origin_of c.via w from before))))))
