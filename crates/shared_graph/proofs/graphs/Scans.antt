-- Firsts among points and agents, as scans find them: none_counted, but_first, below_is, passing_is, listed_item, passing_same, passing_here,
-- passing_on, passing_past; by the flags of places: taken_is, taken_at, revisited_at, first_remains, all_taken, all_revisited; among later neighbours: flag_read, list_read,
-- later_below,
-- first_unvisited, none_unvisited, first_unassigned, none_unassigned.
use Rattle.std.proofs.Common.{zero, suc, ◌≡◌, ◌≢◌, ℕ, ◌+◌, ◌<◌, ◌≤◌, List, [], ◌∷◌, Bool, true, false, ◌&&◌, ◌||◌, not, Some, None, ap, sym, ◌∙◌, refl}
use Rattle.std.proofs.Common.{arith, inl, inr, length, subst, get_or, map, drop}
use Rattle.std.specs.Prelude.{◌==◌, if◌then◌else◌, is_some}
use Rattle.std.proofs.Math.Bool.{not-not, or-true, or-false}
use Rattle.std.proofs.lemmas.Bool.{cases_lt, cases_eq, or_cases, ne_eqb}
use Rattle.std.proofs.lemmas.Bool.Decides.{nat_tests}
use Rattle.std.proofs.lemmas.List.{drop_more, drop_all, get_or_default, get_or-map, length-map}
use Rattle.stn_model.specs.declared.ids.PointId.{PointId}
use Rattle.stn_walk.specs.Eliminations.{is_in}
use Rattle.stn_walk.proofs.Members.{is_in-at, is_in-first}
use Rattle.dist_rows.specs.Places.{AreRisingPlaces}
use Rattle.elim_step.specs.Eliminated.{point_at}
use Rattle.elim_step.specs.Eliminates.{remains, count_below}
use Rattle.shared_graph.specs.Graphs.{GraphView, places_in, list_at, flag_at, Fields, IsLaterList, IsGraph}
use Rattle.shared_graph.specs.Interfaces.{InterfaceView, points_of, is_listed}
use Rattle.shared_graph.specs.Refusals.{or_number, first_below}
use Rattle.shared_graph.specs.States.{point_id, is_revisited}
use Rattle.shared_graph.specs.Weights.{first_passing, is_later}
use Rattle.shared_graph.specs.Windows.{is_assigned, assigned_in}
use Rattle.shared_graph.proofs.graphs.Standing.{rises_pairs, not_z_at, place_above, place_of_listed}
use Rattle.shared_graph.proofs.states.Grounds.{member_at}
use Rattle.shared_graph.proofs.states.Meetings.{not_z}
use Rattle.shared_graph.proofs.states.Passing.{in_listed}
use Rattle.shared_graph.proofs.states.Progress.{all_below, all_listed}
use Rattle.shared_graph.proofs.states.Rising.{Rises, rises_in, all_rise}

-- where none is counted none passes
pub none_counted : (test : ℕ → Bool) (n : ℕ) → count_below test n ≡ 0 → (a : ℕ) → a < n → test a ≡ false
none_counted test zero h a lt = absurd (omega arith)
none_counted test (suc n) h a lt =
    elim (test n) as (λ b. test n ≡ b → (if b then 1 else 0) + count_below test n ≡ 0 → test a ≡ false) [
      | true ↦ λ t f. absurd (omega arith)
      | false ↦ λ t f. elim (cases_eq a n) [
        | inl e ↦ ap test e ∙ t
        | inr other ↦ none_counted test n (omega arith) a (omega arith)
      ]
    ] refl h

one_there : (test : ℕ → Bool) (n : ℕ) → 0 < n → test 0 ≡ true → 1 ≤ count_below test n
one_there test zero lt h = absurd (omega arith)
one_there test (suc zero) lt h = subst (λ b. 1 ≤ (if b then 1 else 0) + 0) (sym h) (omega arith)
one_there test (suc (suc n)) lt h = (let more = one_there test (suc n) (omega arith) h in omega arith)

-- where only the first is counted no other passes
pub but_first : (test : ℕ → Bool) (n : ℕ) → count_below test n ≡ 1 → test 0 ≡ true → (a : ℕ) → 0 < a → a < n → test a ≡ false
but_first test zero h first a above lt = absurd (omega arith)
but_first test (suc n) h first a above lt =
    let there = one_there test n (omega arith) first in
    elim (test n) as (λ b. test n ≡ b → (if b then 1 else 0) + count_below test n ≡ 1 → test a ≡ false) [
      | true ↦ λ t f. absurd (omega arith)
      | false ↦ λ t f. elim (cases_eq a n) [
        | inl e ↦ ap test e ∙ t
        | inr other ↦ but_first test n (omega arith) first a above (omega arith)
      ]
    ] refl h

-- the first number that passes
pub below_is : (test : ℕ → Bool) (n a : ℕ) → a < n → test a ≡ true → ((b : ℕ) → b < a → test b ≡ false) → first_below test n ≡ Some a
below_is test zero a lt passes before = absurd (omega arith)
below_is test (suc n) a lt passes before =
    elim (cases_eq a n) [
      | inl e ↦
          (let none = all_below test n (λ b low. before b (omega arith)) in
          let last : test n ≡ true = ap test (sym e) ∙ passes in
          (λ t. or_number (none t) (if last t then Some n else None)) ∙ ap (λ m. Some m) (sym e))
      | inr other ↦ (let some = below_is test n a (omega arith) passes before in ap (λ o. or_number o (if test n then Some n else None)) some)
    ]

-- the least of rising points that passes is the first
pub passing_is : (test : ℕ → Bool) (low : ℕ) (xs : List ℕ) → Rises low xs → (i : ℕ) → is_in xs i ≡ true → test i ≡ true
    → ((p : ℕ) → is_in xs p ≡ true → p < i → test p ≡ false) → first_passing test xs ≡ Some i
passing_is test low [] h i there passes before = absurd (cc)
passing_is test low (x ∷ xs) h i there passes before = elim (or_cases (is_in xs i) (i == x) there) [
  | inl later ↦
      (let more = rises_in (suc x) xs i h.1 later in
      let fails = before x (is_in-first x xs) (omega arith) in
      (λ t. if fails t then Some x else first_passing test xs)
      ∙ passing_is test (suc x) xs h.1 i later passes (λ p in_rest lt. before p (ap (λ b. b || (p == x)) in_rest) lt))
  | inr here ↦
      (let e : i ≡ x = grind (arith, nat_tests) in
      let passed : test x ≡ true = ap test (sym e) ∙ passes in
      (λ t. if passed t then Some x else first_passing test xs) ∙ ap (λ m. Some m) (sym e))
]

-- points of a list, by place
pub listed_item : (face : InterfaceView) (ps : List PointId) (i : ℕ) → map (λ (p : PointId). p.0) ps ≡ points_of face → i < length ps
    → is_listed face (get_or ps i (point_id 0)).0 ≡ true
listed_item face ps i e lt =
    let inside : i < length (map (λ (p : PointId). p.0) ps) = (let same = length-map ps (λ (p : PointId). p.0) in omega arith) in
    let there : is_in (points_of face) (get_or (map (λ (p : PointId). p.0) ps) i 0) ≡ true =
    subst (λ xs. is_in xs (get_or (map (λ (p : PointId). p.0) ps) i 0) ≡ true) e (is_in-at (map (λ (p : PointId). p.0) ps) i inside) in
    in_listed face.points (get_or ps i (point_id 0)).0
    (subst (λ q. is_in (points_of face) q ≡ true) (get_or-map (λ (p : PointId). p.0) ps i (point_id 0) 0 lt) there)

pub passing_same : (test : ℕ → Bool) (xs ys : List ℕ) → xs ≡ ys → first_passing test xs ≡ first_passing test ys
passing_same test xs ys e = ap (first_passing test) e

-- the first of what is left of a list
pub passing_here : (test : ℕ → Bool) (ps : List PointId) (i : ℕ) → i < length ps → test (get_or ps i (point_id 0)).0 ≡ true
    → first_passing test (map (λ (p : PointId). p.0) (drop i ps)) ≡ Some (get_or ps i (point_id 0)).0
passing_here test ps i lt passes =
    ap (λ xs. first_passing test (map (λ (p : PointId). p.0) xs)) (drop_more ps i (point_id 0) lt)
    ∙ (λ t. if passes t then Some (get_or ps i (point_id 0)).0 else first_passing test (map (λ (p : PointId). p.0) (drop (i + 1) ps)))

pub passing_on : (test : ℕ → Bool) (ps : List PointId) (i : ℕ) → i < length ps → test (get_or ps i (point_id 0)).0 ≡ false
    → first_passing test (map (λ (p : PointId). p.0) (drop i ps)) ≡ first_passing test (map (λ (p : PointId). p.0) (drop (i + 1) ps))
passing_on test ps i lt fails =
    ap (λ xs. first_passing test (map (λ (p : PointId). p.0) xs)) (drop_more ps i (point_id 0) lt)
    ∙ (λ t. if fails t then Some (get_or ps i (point_id 0)).0 else first_passing test (map (λ (p : PointId). p.0) (drop (i + 1) ps)))

pub passing_past : (test : ℕ → Bool) (ps : List PointId) (i : ℕ) → length ps ≤ i → first_passing test (map (λ (p : PointId). p.0) (drop i ps)) ≡ None
passing_past test ps i past = ap (λ xs. first_passing test (map (λ (p : PointId). p.0) xs)) (drop_all i ps past)

module _ (g : Fields) (h : IsGraph g) where
  abbrev spots : List ℕ
  spots = places_in g.face

  inside : (k : ℕ) → k < length (places_in g.face) → k < length g.points
  inside k lt = subst (λ ps. k < length ps) (sym h.points) lt

  point_is : (k : ℕ) → point_at g.points k ≡ point_at (places_in g.face) k
  point_is k = ap (λ ps. point_at ps k) h.points

  -- the flag of a place says whether its point is eliminated
  pub taken_is : (k : ℕ) → k < length (places_in g.face) → not (remains g.remain k) ≡ is_in g.state.order (point_at (places_in g.face) k)
  taken_is k lt = ap not (h.cells.remaining k (inside k lt)) ∙ not-not (is_in g.state.order (point_at g.points k)) ∙ ap (is_in g.state.order) (point_is k)

  taken_here : (k p : ℕ) (b : Bool) → k < length (places_in g.face) → point_at (places_in g.face) k ≡ p → b ≡ get_or g.remain k b
      → not b ≡ is_in g.state.order p
  taken_here k p b lt e read =
      let len = h.cells.len in
      let low = inside k lt in
      ap not (read ∙ get_or_default g.remain k b false (omega arith)) ∙ taken_is k lt ∙ ap (is_in g.state.order) e

  -- and whether it is revisited
  done_is : (k : ℕ) → 0 < k → k < length (places_in g.face) → flag_at g.done k ≡ is_in g.state.revisited (point_at (places_in g.face) k)
  done_is k above lt =
      h.done k (inside k lt) ∙ ap (is_revisited g.state) (point_is k)
      ∙ ap (λ b. is_in g.state.revisited (point_at (places_in g.face) k) || b)
      (ne_eqb (point_at (places_in g.face) k) 0 (not_z_at g.face h.interface k above lt))
      ∙ or-false (is_in g.state.revisited (point_at (places_in g.face) k))

  revisited_here : (k p : ℕ) (b : Bool) → is_listed g.face p ≡ true → k < length (places_in g.face) → point_at (places_in g.face) k ≡ p
      → b ≡ get_or g.done k b → b ≡ is_in g.state.revisited p
  revisited_here k p b listed lt e read =
      let len = h.done_len in
      let low = inside k lt in
      (read ∙ get_or_default g.done k b false (omega arith)) ∙ done_is k (place_above g.face h.interface p k listed e) lt ∙ ap (is_in g.state.revisited) e

  -- and so in what contracts see
  module _ (v : GraphView) (is : record { face = g.face; state = g.state } ≡ v) (k p : ℕ) (b : Bool) where
    pub taken_at : k < length (places_in v.face) → point_at (places_in v.face) k ≡ p → b ≡ get_or g.remain k b → not b ≡ is_in v.state.order p
    taken_at lt e read =
        subst (λ (v : GraphView). k < length (places_in v.face) → point_at (places_in v.face) k ≡ p → not b ≡ is_in v.state.order p) is
        (λ lt e. taken_here k p b lt e read) lt e

    pub revisited_at : is_listed v.face p ≡ true → k < length (places_in v.face) → point_at (places_in v.face) k ≡ p → b ≡ get_or g.done k b
        → b ≡ is_in v.state.revisited p
    revisited_at listed lt e read =
        subst (λ (v : GraphView). is_listed v.face p ≡ true → k < length (places_in v.face) → point_at (places_in v.face) k ≡ p
        → b ≡ is_in v.state.revisited p) is (λ listed lt e. revisited_here k p b listed lt e read) listed lt e

  -- z is not eliminated
  pub first_remains : remains g.remain 0 ≡ true
  first_remains = sym (not-not (remains g.remain 0)) ∙ ap not (taken_is 0 (omega arith) ∙ none (is_in g.state.order 0) refl) where
    none : (b : Bool) → is_in g.state.order 0 ≡ b → b ≡ false
    none true t = (let o = h.together.owned 0 t in absurd (not_z g.face h.interface 0 o.0 o.1 refl))
    none false t = refl

  -- where no place is counted, no point passes
  pub all_taken : g.untaken ≡ 0 → first_passing (λ p. not (is_in g.state.order p)) (points_of g.face) ≡ None
  all_taken none = all_listed (λ p. not (is_in g.state.order p)) (points_of g.face) (λ p there. one p (place_of_listed g.face h.interface p
      (in_listed g.face.points p there))) where
        one : (p : ℕ) → (k : ℕ) × (0 < k) × (k < length (places_in g.face)) × (point_at (places_in g.face) k ≡ p) → not (is_in g.state.order p) ≡ false
        one p (k, above, lt, e) =
            let count : count_below (remains g.remain) (length g.points) ≡ 1 = sym h.untaken ∙ ap suc none in
            let gone = but_first (remains g.remain) (length g.points) count first_remains k above (inside k lt) in
            ap not (sym (ap not (sym gone) ∙ taken_is k lt ∙ ap (is_in g.state.order) e))

  pub all_revisited : g.unvisited ≡ 0 → first_passing (λ p. not (is_in g.state.revisited p)) (points_of g.face) ≡ None
  all_revisited none = all_listed (λ p. not (is_in g.state.revisited p)) (points_of g.face) (λ p there. one p (place_of_listed g.face h.interface p
      (in_listed g.face.points p there))) where
        one : (p : ℕ) → (k : ℕ) × (0 < k) × (k < length (places_in g.face)) × (point_at (places_in g.face) k ≡ p) → not (is_in g.state.revisited p) ≡ false
        one p (k, above, lt, e) =
            let gone = none_counted (λ k. not (flag_at g.done k)) (length g.points) (sym h.unvisited ∙ none) k (inside k lt) in
            ap not (sym (ap (is_in g.state.revisited) e) ∙ sym (done_is k above lt)) ∙ gone

-- what a place of a list of flags reads, and of a list of lists
pub flag_read : (flags : List Bool) (k : ℕ) (b c : Bool) → k < length flags → b ≡ get_or flags k b → b ≡ c → flag_at flags k ≡ c
flag_read flags k b c lt read is = get_or_default flags k false b lt ∙ sym read ∙ is

pub list_read : {X : Type 0} (f : X → List ℕ) (xs : List X) (k : ℕ) (x : X) → k < length (map f xs) → x ≡ get_or xs k x → f x ≡ list_at (map f xs) k
list_read {X} f xs k x lt read = (let same = length-map xs f in ap f read ∙ sym (get_or-map f xs k x [] (omega arith)))

-- a list of rising places, of which those that are open pass the test
module _ (points : List ℕ) (rising : Rises 0 points) (list : List ℕ) (places : AreRisingPlaces list)
    (within : (m : ℕ) → is_in list m ≡ true → m < length points)
    (test is_open : ℕ → Bool) (each : (m : ℕ) → m < length points → test (point_at points m) ≡ (is_in list m && is_open m)) where
  not_both : (a b : Bool) → (a ≡ true → b ≡ false) → (a && b) ≡ false
  not_both true b h = h refl
  not_both false b h = refl

  ordered : (xs : List ℕ) → ((m n : ℕ) → m < n → n < length xs → get_or xs m 0 < get_or xs n 0) → (m n : ℕ) → m ≤ n → n < length xs
      → get_or xs m 0 ≤ get_or xs n 0
  ordered xs h m n le lt = elim (cases_eq m n) [
    | inl e ↦ (let same = ap (λ k. get_or xs k 0) e in omega arith)
    | inr other ↦ (let less = h m n (omega arith) lt in omega arith)
  ]

  pub open_here : (n : ℕ) → n < length list → is_open (get_or list n 0) ≡ true → ((j : ℕ) → j < n → is_open (get_or list j 0) ≡ false)
      → first_passing test points ≡ Some (point_at points (get_or list n 0))
  open_here n lt passes before =
      let m = get_or list n 0 in
      let there = is_in-at list n lt in
      let low = within (get_or list n 0) there in
      passing_is test 0 points rising (point_at points (get_or list n 0)) (is_in-at points (get_or list n 0) low)
      (each (get_or list n 0) low ∙ (λ t. there t && passes t)) (λ p in_points less. earlier p (member_at points p in_points) less) where
        known : (k : ℕ) → k < length points → point_at points k < point_at points (get_or list n 0) → is_in list k ≡ true → is_open k ≡ false
        known k lk less in_list = go (member_at list k in_list) where
          go : (j : ℕ) × (j < length list) × (point_at list j ≡ k) → is_open k ≡ false
          go (j, lj, e) = elim (cases_lt j n) [
            | inl first ↦ ap is_open (sym e) ∙ before j first
            | inr last ↦
                (let up = ordered list places n j (omega arith) lj in
                let more = ordered points (λ a b. rises_pairs 0 points rising a b 0) (get_or list n 0) k (omega arith) lk in
                absurd (omega arith))
          ]

        earlier : (p : ℕ) → (k : ℕ) × (k < length points) × (point_at points k ≡ p) → p < point_at points (get_or list n 0) → test p ≡ false
        earlier p (k, lk, e) less =
            ap test (sym e) ∙ each k lk ∙ not_both (is_in list k) (is_open k)
            (known k lk (let same = e in omega arith))

  pub open_none : ((j : ℕ) → j < length list → is_open (get_or list j 0) ≡ false) → first_passing test points ≡ None
  open_none none = all_listed test points (λ p in_points. one p (member_at points p in_points)) where
    closed : (k : ℕ) → is_in list k ≡ true → is_open k ≡ false
    closed k in_list = (let r = member_at list k in_list in ap is_open (sym r.2) ∙ none r.0 r.1)

    one : (p : ℕ) → (k : ℕ) × (k < length points) × (point_at points k ≡ p) → test p ≡ false
    one p (k, lk, e) = ap test (sym e) ∙ each k lk ∙ not_both (is_in list k) (is_open k) (closed k)

-- the later neighbours of an eliminated point, by place
module _ (g : Fields) (h : IsGraph g) (k p : ℕ) (lk : k < length (places_in g.face)) (at_k : point_at (places_in g.face) k ≡ p)
    (taken : is_in g.state.order p ≡ true) (list : List ℕ) (read : list ≡ list_at g.later k) where
  here : point_at g.points k ≡ p
  here = ap (λ ps. point_at ps k) h.points ∙ at_k

  kept : IsLaterList g k list
  kept = subst (IsLaterList g k) (sym read) (h.later k (subst (λ ps. k < length ps) (sym h.points) lk) (ap (is_in g.state.order) here ∙ taken))

  later_within : (n : ℕ) → n < length list → get_or list n 0 < length g.points
  later_within n lt = kept.within (get_or list n 0) (is_in-at list n lt)

  rising : Rises 0 g.points
  rising = subst (Rises 0) (sym h.points) (all_rise g.face h.interface)

  is_here : (m : ℕ) → m < length g.points → is_later g.face g.state p (point_at g.points m) ≡ is_in list m
  is_here m lt = sym (kept.each m lt ∙ ap (λ q. is_later g.face g.state q (point_at g.points m)) here)

  unvisited : (m : ℕ) → m < length g.points
      → (is_later g.face g.state p (point_at g.points m) && not (is_revisited g.state (point_at g.points m))) ≡ (is_in list m && not (flag_at g.done m))
  unvisited m lt = (let one = is_here m lt in let two = sym (h.done m lt) in (λ t. one t && not (two t)))

  unvisited_here : (n x : ℕ) → n < length list → flag_at g.done (get_or list n 0) ≡ false
      → ((j : ℕ) → j < n → flag_at g.done (get_or list j 0) ≡ true) → x ≡ point_at g.points (get_or list n 0)
      → Some x ≡ first_passing (λ q. is_later g.face g.state p q && not (is_revisited g.state q)) (0 ∷ points_of g.face)
  unvisited_here n x lt fresh before is =
      let test = λ (q : ℕ). is_later g.face g.state p q && not (is_revisited g.state q) in
      ap (λ m. Some m) is
      ∙ sym (open_here g.points rising list kept.rising kept.within (λ (q : ℕ). is_later g.face g.state p q && not (is_revisited g.state q))
      (λ m. not (flag_at g.done m)) unvisited n lt (ap not fresh) (λ j low. ap not (before j low)))
      ∙ ap (first_passing (λ (q : ℕ). is_later g.face g.state p q && not (is_revisited g.state q))) h.points

  unvisited_none : ((j : ℕ) → j < length list → flag_at g.done (get_or list j 0) ≡ true)
      → None ≡ first_passing (λ q. is_later g.face g.state p q && not (is_revisited g.state q)) (0 ∷ points_of g.face)
  unvisited_none done =
      sym (open_none g.points rising list kept.rising kept.within (λ (q : ℕ). is_later g.face g.state p q && not (is_revisited g.state q))
      (λ m. not (flag_at g.done m)) unvisited (λ j low. ap not (done j low)))
      ∙ ap (first_passing (λ (q : ℕ). is_later g.face g.state p q && not (is_revisited g.state q))) h.points

  -- where no point has a time, z alone has one
  module _ (no_times : g.state.assigned ≡ []) where
    assigned_is : (m : ℕ) → m < length g.points → is_assigned g.state (point_at g.points m) ≡ (m == 0)
    assigned_is zero lt =
        (let z : point_at g.points 0 ≡ 0 = ap (λ ps. point_at ps 0) h.points in
        ap (is_assigned g.state) z ∙ or-true (is_some (assigned_in g.state.assigned 0)))
    assigned_is (suc m) lt =
        (let low : suc m < length (places_in g.face) = subst (λ ps. suc m < length ps) h.points lt in
        let apart : point_at g.points (suc m) ≢ 0 =
        λ e. not_z_at g.face h.interface (suc m) (omega arith) low (sym (ap (λ ps. point_at ps (suc m)) h.points) ∙ e) in
        ap (λ as_. is_some (assigned_in as_ (point_at g.points (suc m))) || (point_at g.points (suc m) == 0)) no_times
        ∙ ne_eqb (point_at g.points (suc m)) 0 apart ∙ sym (ne_eqb (suc m) 0 (λ e. absurd (omega arith))))

    unassigned : (m : ℕ) → m < length g.points
        → (is_later g.face g.state p (point_at g.points m) && not (is_assigned g.state (point_at g.points m))) ≡ (is_in list m && not (m == 0))
    unassigned m lt = (let one = is_here m lt in let two = assigned_is m lt in (λ t. one t && not (two t)))

    unassigned_here : (n x : ℕ) → n < length list → get_or list n 0 ≢ 0 → ((j : ℕ) → j < n → get_or list j 0 ≡ 0)
        → x ≡ point_at g.points (get_or list n 0)
        → Some x ≡ first_passing (λ q. is_later g.face g.state p q && not (is_assigned g.state q)) (0 ∷ points_of g.face)
    unassigned_here n x lt apart before is =
        ap (λ m. Some m) is
        ∙ sym (open_here g.points rising list kept.rising kept.within (λ (q : ℕ). is_later g.face g.state p q && not (is_assigned g.state q))
        (λ m. not (m == 0)) unassigned n lt (ap not (ne_eqb (get_or list n 0) 0 apart)) (λ j low. ap (λ m. not (m == 0)) (before j low)))
        ∙ ap (first_passing (λ (q : ℕ). is_later g.face g.state p q && not (is_assigned g.state q))) h.points

    unassigned_none : ((j : ℕ) → j < length list → get_or list j 0 ≡ 0)
        → None ≡ first_passing (λ q. is_later g.face g.state p q && not (is_assigned g.state q)) (0 ∷ points_of g.face)
    unassigned_none all =
        sym (open_none g.points rising list kept.rising kept.within (λ (q : ℕ). is_later g.face g.state p q && not (is_assigned g.state q))
        (λ m. not (m == 0)) unassigned (λ j low. ap (λ m. not (m == 0)) (all j low)))
        ∙ ap (first_passing (λ (q : ℕ). is_later g.face g.state p q && not (is_assigned g.state q))) h.points

-- and so in what contracts see
module _ (g : Fields) (h : IsGraph g) (v : GraphView) (is : record { face = g.face; state = g.state } ≡ v) (k p : ℕ)
    (lk : k < length (places_in v.face)) (at_k : point_at (places_in v.face) k ≡ p) (taken : is_in v.state.order p ≡ true)
    (list : List ℕ) (read : list ≡ list_at g.later k) where
  seen : (P : GraphView → Type 0)
      → (k < length (places_in g.face) → point_at (places_in g.face) k ≡ p → is_in g.state.order p ≡ true → P (record { face = g.face; state = g.state }))
      → P v
  seen P f =
      subst (λ (v : GraphView). k < length (places_in v.face) → point_at (places_in v.face) k ≡ p → is_in v.state.order p ≡ true → P v) is f lk at_k taken

  pub later_below : (n : ℕ) → n < length list → get_or list n 0 < length g.points
  later_below n lt = seen (λ (v : GraphView). get_or list n 0 < length g.points) (λ lk e t. later_within g h k p lk e t list read n lt)

  pub first_unvisited : (n x : ℕ) → n < length list → flag_at g.done (get_or list n 0) ≡ false
      → ((j : ℕ) → j < n → flag_at g.done (get_or list j 0) ≡ true) → x ≡ get_or g.points (get_or list n 0) x
      → Some x ≡ first_passing (λ q. is_later v.face v.state p q && not (is_revisited v.state q)) (0 ∷ points_of v.face)
  first_unvisited n x lt fresh before is =
      seen (λ (v : GraphView). Some x ≡ first_passing (λ q. is_later v.face v.state p q && not (is_revisited v.state q)) (0 ∷ points_of v.face))
      (λ lk e t. unvisited_here g h k p lk e t list read n x lt fresh before
      (is ∙ get_or_default g.points (get_or list n 0) x 0 (later_within g h k p lk e t list read n lt)))

  pub none_unvisited : ((j : ℕ) → j < length list → flag_at g.done (get_or list j 0) ≡ true)
      → None ≡ first_passing (λ q. is_later v.face v.state p q && not (is_revisited v.state q)) (0 ∷ points_of v.face)
  none_unvisited done =
      seen (λ (v : GraphView). None ≡ first_passing (λ q. is_later v.face v.state p q && not (is_revisited v.state q)) (0 ∷ points_of v.face))
      (λ lk e t. unvisited_none g h k p lk e t list read done)

  pub first_unassigned : g.state.assigned ≡ [] → (n x : ℕ) → n < length list → get_or list n 0 ≢ 0 → ((j : ℕ) → j < n → get_or list j 0 ≡ 0)
      → x ≡ get_or g.points (get_or list n 0) x
      → Some x ≡ first_passing (λ q. is_later v.face v.state p q && not (is_assigned v.state q)) (0 ∷ points_of v.face)
  first_unassigned no_times n x lt apart before is =
      seen (λ (v : GraphView). Some x ≡ first_passing (λ q. is_later v.face v.state p q && not (is_assigned v.state q)) (0 ∷ points_of v.face))
      (λ lk e t. unassigned_here g h k p lk e t list read no_times n x lt apart before
      (is ∙ get_or_default g.points (get_or list n 0) x 0 (later_within g h k p lk e t list read n lt)))

  pub none_unassigned : g.state.assigned ≡ [] → ((j : ℕ) → j < length list → get_or list j 0 ≡ 0)
      → None ≡ first_passing (λ q. is_later v.face v.state p q && not (is_assigned v.state q)) (0 ∷ points_of v.face)
  none_unassigned no_times all =
      seen (λ (v : GraphView). None ≡ first_passing (λ q. is_later v.face v.state p q && not (is_assigned v.state q)) (0 ∷ points_of v.face))
      (λ lk e t. unassigned_none g h k p lk e t list read no_times all)
