-- One elimination keeps what a graph keeps: may_parts, later_stays, later_new, joined_stays, final_none, has_neighbours, gives, left_is, above_none,
-- gone_few, taken_graph, order_grown, IsTurn, turn_of, left_told.
use Rattle.std.proofs.Common.{suc, ◌≡◌, ◌≢◌, ℕ, ◌+◌, ◌<◌, List, [], ◌∷◌, Bool, true, false, ◌||◌, ◌&&◌, not, Option, Some, None, ap, sym, ◌∙◌}
use Rattle.std.proofs.Common.{◌++◌, map, refl, arith, inl, inr, length, length-set, subst, set, filter, get_or, get_or-set_same, get_or-set_other}
use Rattle.std.proofs.lemmas.List.{map-append, reverse-append}
use Rattle.std.specs.Prelude.{reverse, ◌+ℤ◌, ◌==◌, int_lt, is_some, IfSome, if◌then◌else◌}
use Rattle.std.proofs.lemmas.Bool.{cases_eq, false≢true, or_cases, and_parts, not-true}
use Rattle.std.proofs.lemmas.Bool.Decides.{nat_tests}
use Rattle.std.proofs.Math.Bool.{or-true, and-true, and-false}
use Rattle.stn_model.specs.declared.ids.PointId.{PointId}
use Rattle.stn_walk.specs.Eliminations.{is_in, before_both}
use Rattle.stn_walk.specs.Joins.{joined_of}
use Rattle.stn_walk.proofs.Eliminations.{before-whole, before-in}
use Rattle.stn_walk.proofs.Members.{is_in-first, is_in-rest}
use Rattle.dist_rows.specs.Cells.{are_neighbours}
use Rattle.dist_rows.specs.Places.{AreRisingPlaces}
use Rattle.dist_rows.specs.declared.cell.Cell.{Cell}
use Rattle.dist_rows.specs.declared.cell.Via.{Via}
use Rattle.dist_rows.specs.declared.cell.Via.TheVariants.{Given, Published as PublishedBy, Through}
use Rattle.elim_step.specs.declared.joins.Joins.{Joins}
use Rattle.elim_step.specs.declared.step.Found.{Found}
use Rattle.elim_step.specs.declared.step.Found.TheVariants.{Clear}
use Rattle.elim_step.specs.Among.{StepAmong, HasNeighbours}
use Rattle.elim_step.specs.Eliminated.{point_at, weight_at}
use Rattle.elim_step.specs.Eliminates.{remains, is_pair, eliminated, lesser_of, sum_through, count_below, StepGives}
use Rattle.elim_step.specs.JoinedPlaces.{is_joined as are_joined}
use Rattle.elim_step.proofs.Amongs.{step_among}
use Rattle.elim_step.proofs.Blocks.{remains-within}
use Rattle.elim_step.proofs.JoinWrites.{count_below-few}
use Rattle.elim_step.proofs.JoinFacts.{joined-apart, joined-within, joined-neighbours, joined-after}
use Rattle.elim_step.proofs.OriginFacts.{origins_kept, origins_wider}
use Rattle.elim_step.proofs.Sound.{eliminates_more}
use Rattle.shared_graph.specs.declared.events.By.TheVariants.{Joiner}
use Rattle.shared_graph.specs.declared.events.Event.TheVariants.{Eliminate, Stop}
use Rattle.shared_graph.specs.declared.events.SharedCycle.{SharedCycle}
use Rattle.shared_graph.specs.declared.told.Told.{Told}
use Rattle.shared_graph.specs.Graphs.{state_of, places_in, IsMeetingLeaf, IsSumBefore, list_at, is_gone, gone_count}
use Rattle.shared_graph.specs.Graphs.{Fields, GraphView, IsLaterList, AreCounted, IsGraph}
use Rattle.shared_graph.specs.Interfaces.{InterfaceView, IsInterface}
use Rattle.shared_graph.specs.Refusals.{refusal}
use Rattle.shared_graph.specs.States.{State, point_id, meeting_of, is_revisited}
use Rattle.shared_graph.specs.Takes.{MayEliminate, is_left, left_count}
use Rattle.shared_graph.specs.Together.{IsOwned, HoldsTogether}
use Rattle.shared_graph.specs.Weights.{is_joined, is_later, final, final_weight, least_negative}
use Rattle.shared_graph.proofs.graphs.Counts.{count_same, count_filter, count_at, count_off, count_some, count_rising}
use Rattle.shared_graph.proofs.graphs.Keeping.{leaf_same, still_together}
use Rattle.shared_graph.proofs.graphs.Negatives.{none_here}
use Rattle.shared_graph.proofs.graphs.Standing.{fields_grounded}
use Rattle.shared_graph.proofs.graphs.Telling.{joined_turned, forward_joined, none_to_itself, points_differ, weight_there}
use Rattle.shared_graph.proofs.graphs.Throughs.{nothing_came}
use Rattle.shared_graph.proofs.states.Keeps.{sound_of}
use Rattle.shared_graph.proofs.states.Meetings.{listed_of, not_z}
use Rattle.shared_graph.proofs.states.Passing.{no_stop, eliminate_passes, stop_passes}
use Rattle.shared_graph.proofs.states.Progress.{may_eliminate}
use Rattle.shared_graph.proofs.states.Stops.{negative_stops}

-- what is known of a point that may be eliminated
pub may_parts : (face : InterfaceView) (s : State) (k : PointId) → MayEliminate face s Joiner k
    → (s.stop ≡ None) × IsOwned face s k.0 × (is_in s.order k.0 ≡ false)
may_parts face s k (inl legal) =
    let going = no_stop face s (record { by = Joiner; event = Eliminate k }) legal in
    let p = eliminate_passes face s Joiner k.0 going.1 in
    (going.0, p.0, p.1)
may_parts face s k (inr refused) =
    let legal = (negative_stops face s Joiner k.0 refused.0).0 refused.1 in
    let going = no_stop face s (record { by = Joiner; event = Stop k (point_id refused.0) }) legal in
    let p = stop_passes face s Joiner k.0 refused.0 going.1 in
    (going.0, p.0, p.1)

-- and where no sum is below 0, its elimination is legal
may_take : (face : InterfaceView) → IsInterface face → (s : State) → HoldsTogether face s → (k : ℕ) → s.stop ≡ None → IsOwned face s k
    → is_in s.order k ≡ false → least_negative face s k ≡ None → refusal face s (record { by = Joiner; event = Eliminate (point_id k) }) ≡ None
may_take face known s holds k going own fresh clear =
    elim (may_eliminate face known s (sound_of face known s holds) going k own fresh) [
      | inl legal ↦ legal
      | inr stop ↦ absurd
          (let e = no_stop face s (record { by = Joiner; event = Stop (point_id k) (point_id stop.0) }) stop.1 in
          let least = (stop_passes face s Joiner k stop.0 e.1).2 in
          cc)
    ]

-- the points before two points, once one point more is eliminated
before_more : (es : List ℕ) (x i j p : ℕ) → is_in (before_both es i j) p ≡ true → is_in (before_both (x ∷ es) i j) p ≡ true
before_more es x i j p here =
    elim (is_in (x ∷ es) i || is_in (x ∷ es) j) as (λ b. is_in (if b then before_both es i j else x ∷ es) p ≡ true) [
      | true ↦ here
      | false ↦ ap (λ b. b || (p == x)) (before-in es i j p here)
    ]

before_gone : (es : List ℕ) (x i j : ℕ) → is_in (x ∷ es) i ≡ true → before_both (x ∷ es) i j ≡ before_both es i j
before_gone es x i j gone = ap (λ b. if b || is_in (x ∷ es) j then before_both es i j else x ∷ es) gone

before_gone_to : (es : List ℕ) (x i j : ℕ) → is_in (x ∷ es) j ≡ true → before_both (x ∷ es) i j ≡ before_both es i j
before_gone_to es x i j gone =
    ap (λ b. if b then before_both es i j else x ∷ es) (ap (λ b. is_in (x ∷ es) i || b) gone ∙ or-true (is_in (x ∷ es) i))

module _ (face : InterfaceView) (s : State) (x : ℕ) where
  -- what is joined with an eliminated point stays so
  pub joined_stays : (i j : ℕ) → is_in (x ∷ s.order) j ≡ true → is_joined face (record s { order = x ∷ s.order }) i j ≡ is_joined face s i j
  joined_stays i j gone = ap (λ es. not (i == j) && joined_of (meeting_of face s) es i j) (before_gone_to s.order x i j gone)

  -- later neighbours of an eliminated point stay
  pub later_stays : (i j : ℕ) → is_in s.order i ≡ true → is_later face (record s { order = x ∷ s.order }) i j ≡ is_later face s i j
  later_stays i j gone =
      let still : is_in (x ∷ s.order) i ≡ true = ap (λ b. b || (i == x)) gone in
      let both = before_gone s.order x i j still in
      let alone = before_gone s.order x i i still in
      (λ t. (not (i == j) && joined_of (meeting_of face s) (both t) i j) && not (is_in (alone t) j))

  -- those of the new one are the points that are joined with it and left
  pub later_new : (j : ℕ) → is_in s.order x ≡ false
      → is_later face (record s { order = x ∷ s.order }) x j ≡ (is_joined face s x j && not (is_in s.order j))
  later_new j fresh =
      let still = is_in-first x s.order in
      let both = before_gone s.order x x j still in
      let alone = before_gone s.order x x x still ∙ before-whole s.order x x fresh fresh in
      (λ t. (not (x == j) && joined_of (meeting_of face s) (both t) x j) && not (is_in (alone t) j))

-- no final weights where nothing is revisited
pub final_none : (face : InterfaceView) (s : State) (i j : ℕ) → ((p : ℕ) → is_in s.revisited p ≡ false) → final face s i j ≡ None
final_none face s i j none =
    elim (cases_eq i j) [
      | inl e ↦
          let same : (i == j) ≡ true = grind (arith, nat_tests) in
          ap (λ b. if (not b && joined_of (meeting_of face s) (before_both s.order i j) i j) && is_revisited s i && is_revisited s j
          then final_weight face s i j else None) same
      | inr ne ↦ no_pair (is_joined face s i j) (is_in s.revisited i) (i == 0) (is_in s.revisited j) (j == 0) (none i) (none j) (apart ne)
    ] where
      apart : i ≢ j → (i == 0) ≡ true → (j == 0) ≡ false
      apart ne z = (let e : i ≡ 0 = grind (arith, nat_tests) in let other : j ≢ 0 = λ f. ne (e ∙ sym f) in grind (arith, nat_tests))

      no_pair : (a b c d e : Bool) → b ≡ false → d ≡ false → (c ≡ true → e ≡ false)
          → (if a && (b || c) && (d || e) then final_weight face s i j else None) ≡ None
      no_pair true true c d e x y z = absurd (cc)
      no_pair true false true true e x y z = absurd (cc)
      no_pair true false true false e x y z = ap (λ b. if b then final_weight face s i j else None) (z refl)
      no_pair true false false d e x y z = refl
      no_pair false b c d e x y z = refl

some_of : (o : Option Cell) → is_some o ≡ true → (c : Cell) × (o ≡ Some c)
some_of None h = absurd (cc)
some_of (Some c) h = (c, refl)

-- what holds of a cell and of a sum holds of the lesser of the two
lesser-either : (P : Cell → Type 0) (k : ℕ) (y a b : Option Cell) → IfSome y P
    → ((c d : Cell) → P (record { weight = c.weight +ℤ d.weight; via = Through k })) → IfSome (lesser_of y (sum_through k a b)) P
lesser-either P k y None b old sum = old
lesser-either P k y (Some a) None old sum = old
lesser-either P k None (Some a) (Some b) old sum = sum a b
lesser-either P k (Some c) (Some a) (Some b) old sum =
    let s : Cell = record { weight = a.weight +ℤ b.weight; via = Through k } in
    elim (int_lt s.weight c.weight) as (λ t. IfSome (if t then Some s else Some c) P) [ true ↦ sum a b | false ↦ old ]

module _ (g : Fields) (h : IsGraph g) (inside : (p q : ℕ) → is_some (g.at p q) ≡ true → (p < g.places) × (q < g.places) × (p ≢ q))
    (k : ℕ) (lk : k < length g.points) where
  -- places with a cell are joined
  cell_joined : (p q : ℕ) → is_some (g.at p q) ≡ true → are_joined g.joins p q ≡ true
  cell_joined p q there =
      let c = some_of (g.at p q) there in
      let room = inside p q there in
      let many = h.places in
      let lp : p < length g.points = (let l = room.0 in omega arith) in
      let lq : q < length g.points = (let l = room.1 in omega arith) in
      h.joined p q lp lq
      ∙ forward_joined g.face h.interface g.state h.together (point_at g.points p) (point_at g.points q) c.0.weight
      (points_differ g h inside p q lp lq room.2) (weight_there g h inside p q c.0 c.1)

  joined_low : (p q : ℕ) → are_joined g.joins p q ≡ true → (p < length g.points) × (q < length g.points)
  joined_low p q there = (let w = joined-within g.joins p q there in let lp = w.0 in let lq = w.1 in let size = h.joins_size in (omega arith, omega arith))

  joined_back : (p q : ℕ) → are_joined g.joins p q ≡ true → are_joined g.joins q p ≡ true
  joined_back p q there =
      let low = joined_low p q there in
      h.joined q p low.1 low.0 ∙ joined_turned g.face g.state (point_at g.points q) (point_at g.points p) ∙ sym (h.joined p q low.0 low.1) ∙ there

  module _ (list : List ℕ) (each : (p : ℕ) → is_in list p ≡ (remains g.remain p && are_joined g.joins k p)) (rising : AreRisingPlaces list) where
    -- the places that are left and joined with one are its neighbours that remain
    pub has_neighbours : HasNeighbours g.remain g.at k list
    has_neighbours = record {
      only = λ p here. (and_parts (remains g.remain p) (are_joined g.joins k p) (sym (each p) ∙ here)).0;
      all = λ p near.
          let b = and_parts (remains g.remain p) (are_neighbours g.at k p) near in
          let left = b.0 in
          let met = joined_here p b.1 in
          each p ∙ (λ t. left t && met t);
    } where
      joined_here : (p : ℕ) → are_neighbours g.at k p ≡ true → are_joined g.joins k p ≡ true
      joined_here p near = elim (or_cases (is_some (g.at k p)) (is_some (g.at p k)) near) [
        | inl out ↦ cell_joined k p out
        | inr back ↦ joined_back p k (cell_joined p k back)
      ]

    pub gives : (after : ℕ → ℕ → Option Cell) (found : Found) → StepAmong list k g.at after found → StepGives g.remain k g.at after found
    gives after found step = step_among g.remain g.at k list has_neighbours after found (none_to_itself g h inside k) step

    listed_low : (p : ℕ) → is_in list p ≡ true → p < length g.points
    listed_low p here = (joined_low k p (and_parts (remains g.remain p) (are_joined g.joins k p) (sym (each p) ∙ here)).1).1

    -- the same by points
    listed_is : (m : ℕ) → m < length g.points
        → is_in list m ≡ (is_joined g.face g.state (point_at g.points k) (point_at g.points m) && not (is_in g.state.order (point_at g.points m)))
    listed_is m lm =
        each m ∙ (λ t. h.cells.remaining m lm t && h.joined k m lk lm t)
        ∙ and_turned (not (is_in g.state.order (point_at g.points m))) (is_joined g.face g.state (point_at g.points k) (point_at g.points m)) where
          and_turned : (a b : Bool) → (a && b) ≡ (b && a)
          and_turned true true = refl
          and_turned true false = refl
          and_turned false true = refl
          and_turned false false = refl

    -- how many they are
    pub left_is : length list ≡ left_count g.face g.state (point_at g.points k)
    left_is =
        count_rising list (length g.points) rising listed_low
        ∙ count_same (is_in list) (λ m. is_left g.face g.state (point_at g.points k) (point_at g.points m)) (length g.points) listed_is
        ∙ count_filter (is_left g.face g.state (point_at g.points k)) g.points
        ∙ ap (λ ps. length (filter (is_left g.face g.state (point_at g.points k)) ps)) h.points

    module _ (going : g.state.stop ≡ None) (own : IsOwned g.face g.state (point_at g.points k))
        (fresh : is_in g.state.order (point_at g.points k) ≡ false) where
      -- z is left as well
      first_low : 0 < length g.points
      first_low = (let many = ap length h.points in omega arith)

      first_left : remains g.remain 0 ≡ true
      first_left =
          let out : is_in g.state.order (point_at g.points 0) ≡ false =
          ap (λ ps. is_in g.state.order (point_at ps 0)) h.points ∙ go (is_in g.state.order 0) refl in
          h.cells.remaining 0 first_low ∙ ap not out where
            go : (b : Bool) → is_in g.state.order 0 ≡ b → b ≡ false
            go true t = absurd (let o = h.together.owned 0 t in not_z g.face h.interface 0 o.0 o.1 refl)
            go false t = refl

      above_first : 0 ≢ k
      above_first e =
          not_z g.face h.interface (point_at g.points k) own.0 own.1 (ap (point_at g.points) (sym e) ∙ ap (λ ps. point_at ps 0) h.points)

      left_counts : g.untaken ≡ count_below (remains (set g.remain k false)) (length g.points)
      left_counts =
          let len = h.cells.len in
          let here : remains g.remain k ≡ true = h.cells.remaining k lk ∙ ap not fresh in
          let less = count_off g.remain k (length g.points) (omega arith) lk here in
          let was = h.untaken in
          omega arith

      pub above_none : 0 < g.untaken
      above_none =
          let on : remains (set g.remain k false) 0 ≡ true = get_or-set_other g.remain k 0 false false above_first ∙ first_left in
          let some = count_some (remains (set g.remain k false)) 0 (length g.points) first_low on in
          let same = left_counts in
          omega arith

      -- no point is revisited yet
      unvisited : (p : ℕ) → is_in g.state.revisited p ≡ false
      unvisited p = go (is_in g.state.revisited p) refl where
        go : (b : Bool) → is_in g.state.revisited p ≡ b → b ≡ false
        go true t = absurd (false≢true (sym fresh
            ∙ (h.together.revisits p t).whole (point_at g.points k) (listed_of g.face (point_at g.points k) own.0 own.1)))
        go false t = refl

      -- each sum is of two cells that were there before the point between was eliminated
      sums_more : (after : ℕ → ℕ → Option Cell) → ((p q : ℕ) → after p q ≡ eliminated g.remain k g.at p q)
          → (p q : ℕ) → IfSome (after p q) (λ c. IsSumBefore g.points (point_at g.points k ∷ g.state.order) p q c.via)
      sums_more after changed p q =
          elim (is_pair g.remain k p q) as (λ b. is_pair g.remain k p q ≡ b
          → IfSome (after p q) (λ c. IsSumBefore g.points (point_at g.points k ∷ g.state.order) p q c.via)) [
            | true ↦ λ t. subst (λ (o : Option Cell). IfSome o (λ c. IsSumBefore g.points (point_at g.points k ∷ g.state.order) p q c.via))
                (sym (changed p q ∙ ap (λ b. if b then lesser_of (g.at p q) (sum_through k (g.at p k) (g.at k q)) else g.at p q) t))
                (lesser-either (λ c. IsSumBefore g.points (point_at g.points k ∷ g.state.order) p q c.via) k (g.at p q) (g.at p k) (g.at k q)
                (kept_at (g.at p q) (h.sums p q)) (λ c d. between t))
            | false ↦ λ t. subst (λ (o : Option Cell). IfSome o (λ c. IsSumBefore g.points (point_at g.points k ∷ g.state.order) p q c.via))
                (sym (changed p q ∙ ap (λ b. if b then lesser_of (g.at p q) (sum_through k (g.at p k) (g.at k q)) else g.at p q) t))
                (kept_at (g.at p q) (h.sums p q))
          ] refl where
            kept : (v : Via) → IsSumBefore g.points g.state.order p q v → IsSumBefore g.points (point_at g.points k ∷ g.state.order) p q v
            kept (Given e) b = b
            kept (PublishedBy a) b = b
            kept (Through m) b = before_more g.state.order (point_at g.points k) (point_at g.points p) (point_at g.points q) (point_at g.points m) b

            kept_at : (o : Option Cell) → IfSome o (λ c. IsSumBefore g.points g.state.order p q c.via)
                → IfSome o (λ c. IsSumBefore g.points (point_at g.points k ∷ g.state.order) p q c.via)
            kept_at None b = b
            kept_at (Some c) b = kept c.via b

            out_of : (m : ℕ) → m ≢ k → remains g.remain m ≡ true → is_in (point_at g.points k ∷ g.state.order) (point_at g.points m) ≡ false
            out_of m ne left =
                let lm : m < length g.points = (let low = remains-within g.remain m left in let len = h.cells.len in omega arith) in
                is_in-rest (point_at g.points k) g.state.order (point_at g.points m) (points_differ g h inside m k lm lk ne)
                ∙ not-true (is_in g.state.order (point_at g.points m)) (sym (h.cells.remaining m lm) ∙ left)

            pair_parts : (a b c d e : Bool) → (not a && not b && not c && d && e) ≡ true → (b ≡ false) × (c ≡ false) × (d ≡ true) × (e ≡ true)
            pair_parts true b c d e f = absurd (cc)
            pair_parts false true c d e f = absurd (cc)
            pair_parts false false true d e f = absurd (cc)
            pair_parts false false false true e f = (refl, refl, refl, f)
            pair_parts false false false false e f = absurd (cc)

            between : is_pair g.remain k p q ≡ true
                → is_in (before_both (point_at g.points k ∷ g.state.order) (point_at g.points p) (point_at g.points q)) (point_at g.points k) ≡ true
            between t =
                let parts = pair_parts (p == q) (p == k) (q == k) (remains g.remain p) (remains g.remain q) t in
                let p_k : p ≢ k = (let f = parts.0 in grind (arith, nat_tests)) in
                let q_k : q ≢ k = (let f = parts.1 in grind (arith, nat_tests)) in
                ap (λ es. is_in es (point_at g.points k)) (before-whole (point_at g.points k ∷ g.state.order) (point_at g.points p) (point_at g.points q)
                (out_of p p_k parts.2) (out_of q q_k parts.3))
                ∙ is_in-first (point_at g.points k) g.state.order

      -- a point that is left is joined with one eliminated point more where it is in the list
      abbrev next : State
      next = record g.state { order = point_at g.points k ∷ g.state.order }

      gone_more : (m : ℕ) → m < length g.points → is_in g.state.order (point_at g.points m) ≡ false
          → gone_count g.face next g.points (point_at g.points m)
          ≡ gone_count g.face g.state g.points (point_at g.points m) + (if is_in list m then 1 else 0)
      gone_more m lm left =
          count_at (after m) (before m) k (length g.points) lk (off m) (same m)
          ∙ ap (λ b. gone_count g.face g.state g.points (point_at g.points m) + (if b then 1 else 0)) (on ∙ sym listed) where
            before : ℕ → ℕ → Bool
            before m p = is_gone g.face g.state (point_at g.points m) (point_at g.points p)

            after : ℕ → ℕ → Bool
            after m p = is_gone g.face next (point_at g.points m) (point_at g.points p)

            off : (m : ℕ) → before m k ≡ false
            off m = ap (λ b. is_joined g.face g.state (point_at g.points m) (point_at g.points k) && b) fresh
                ∙ and-false (is_joined g.face g.state (point_at g.points m) (point_at g.points k))

            first : is_in (point_at g.points k ∷ g.state.order) (point_at g.points k) ≡ true
            first = is_in-first (point_at g.points k) g.state.order

            on : after m k ≡ is_joined g.face g.state (point_at g.points m) (point_at g.points k)
            on =
                (λ t. joined_stays g.face g.state (point_at g.points k) (point_at g.points m) (point_at g.points k) first t && first t)
                ∙ and-true (is_joined g.face g.state (point_at g.points m) (point_at g.points k))

            listed : is_in list m ≡ is_joined g.face g.state (point_at g.points m) (point_at g.points k)
            listed =
                listed_is m lm ∙ ap (λ b. is_joined g.face g.state (point_at g.points k) (point_at g.points m) && not b) left
                ∙ and-true (is_joined g.face g.state (point_at g.points k) (point_at g.points m))
                ∙ joined_turned g.face g.state (point_at g.points k) (point_at g.points m)

            same : (m p : ℕ) → p < length g.points → p ≢ k → before m p ≡ after m p
            same m p lp ne = by (is_in g.state.order (point_at g.points p)) refl where
              out : is_in (point_at g.points k ∷ g.state.order) (point_at g.points p) ≡ is_in g.state.order (point_at g.points p)
              out = is_in-rest (point_at g.points k) g.state.order (point_at g.points p) (points_differ g h inside p k lp lk ne)

              by : (b : Bool) → is_in g.state.order (point_at g.points p) ≡ b → before m p ≡ after m p
              by true gone = (λ t. sym (joined_stays g.face g.state (point_at g.points k) (point_at g.points m) (point_at g.points p) (out ∙ gone)) t
                  && sym out t)
              by false none =
                  ap (λ b. is_joined g.face g.state (point_at g.points m) (point_at g.points p) && b) none
                  ∙ and-false (is_joined g.face g.state (point_at g.points m) (point_at g.points p))
                  ∙ sym (ap (λ b. is_joined g.face next (point_at g.points m) (point_at g.points p) && b) (out ∙ none)
                  ∙ and-false (is_joined g.face next (point_at g.points m) (point_at g.points p)))

      -- so there is room for one more
      pub gone_few : (m : ℕ) → is_in list m ≡ true → (m < length g.gone) × (get_or g.gone m 0 < length g.points)
      gone_few m here =
          let lm = listed_low m here in
          let left : is_in g.state.order (point_at g.points m) ≡ false =
          not-true (is_in g.state.order (point_at g.points m))
          ((and_parts (is_joined g.face g.state (point_at g.points k) (point_at g.points m)) (not (is_in g.state.order (point_at g.points m)))
          (sym (listed_is m lm) ∙ here)).1) in
          let more = gone_more m lm left ∙ ap (λ b. gone_count g.face g.state g.points (point_at g.points m) + (if b then 1 else 0)) here in
          let few = count_below-few (λ p. is_gone g.face next (point_at g.points m) (point_at g.points p)) (length g.points) in
          let was = h.gone.each m lm left in
          let len = h.gone.len in
          (omega arith, omega arith)

      counted : (gone : List ℕ) → length gone ≡ length g.gone → ((p : ℕ) → get_or gone p 0 ≡ get_or g.gone p 0 + (if is_in list p then 1 else 0))
          → AreCounted g.face next g.points gone
      counted gone len now = record {
        len = len ∙ h.gone.len;
        each = λ m lm left.
            let was = before-in_rest (point_at g.points k) g.state.order (point_at g.points m) left in
            now m ∙ ap (λ n. n + (if is_in list m then 1 else 0)) (h.gone.each m lm was) ∙ sym (gone_more m lm was);
      } where
        before-in_rest : (x : ℕ) (es : List ℕ) (p : ℕ) → is_in (x ∷ es) p ≡ false → is_in es p ≡ false
        before-in_rest x es p out = by (is_in es p) refl out where
          by : (b : Bool) → is_in es p ≡ b → (is_in es p || (p == x)) ≡ false → is_in es p ≡ false
          by true t out = absurd (false≢true (sym out ∙ ap (λ b. b || (p == x)) t))
          by false t out = t

      -- joined places are those whose points are
      joined_more : (joins : Joins) → ((p q : ℕ) → are_joined joins p q ≡ (are_joined g.joins p q || (not (p == q) && is_in list p && is_in list q)))
          → (p q : ℕ) → p < length g.points → q < length g.points
          → are_joined joins p q ≡ is_joined g.face (record g.state { order = point_at g.points k ∷ g.state.order }) (point_at g.points p) (point_at g.points q)
      joined_more joins pairs p q lp lq =
          let arcs = meeting_of g.face g.state in
          let es = g.state.order in
          let i = point_at g.points p in
          let j = point_at g.points q in
          let new = point_at g.points k ∷ g.state.order in
          elim (cases_eq p q) [
            | inl e ↦
                let same : (i == j) ≡ true = (let f = ap (point_at g.points) e in grind (arith, nat_tests)) in
                ap (are_joined joins p) (sym e) ∙ joined-apart joins p ∙ sym (ap (λ b. not b && joined_of arcs (before_both new i j) i j) same)
            | inr ne ↦
                let differ : (i == j) ≡ false = (let f = points_differ g h inside p q lp lq ne in grind (arith, nat_tests)) in
                joined-after arcs g.points es g.remain k (are_joined g.joins) (are_joined joins)
                (λ a b la lb f. (fields_grounded g h).apart a b la lb f) was h.cells.remaining (joined-apart g.joins) lk fresh
                (joined-neighbours g.remain k list (are_joined g.joins) (are_joined joins) each pairs) p q lp lq ne
                ∙ sym (ap (λ b. not b && joined_of arcs (before_both new i j) i j) differ)
          ] where
            was : (a b : ℕ) → a < length g.points → b < length g.points → a ≢ b → are_joined g.joins a b
                ≡ joined_of (meeting_of g.face g.state) (before_both g.state.order (point_at g.points a) (point_at g.points b)) (point_at g.points a)
                (point_at g.points b)
            was a b la lb ne =
                let apart = points_differ g h inside a b la lb ne in
                let differ : (point_at g.points a == point_at g.points b) ≡ false = grind (arith, nat_tests) in
                h.joined a b la lb ∙ ap (λ t. not t && joined_of (meeting_of g.face g.state)
                (before_both g.state.order (point_at g.points a) (point_at g.points b)) (point_at g.points a) (point_at g.points b)) differ

      pub taken_graph : (after : ℕ → ℕ → Option Cell) → StepAmong list k g.at after Clear
          → (state : State) (places : ℕ) (joins : Joins) (later : List (List ℕ)) (final_places : ℕ) (final_at : ℕ → ℕ → Option Cell)
          (final_room : ℕ → ℕ → Bool) (untaken : ℕ) (gone : List ℕ)
          → state ≡ record g.state { order = point_at g.points k ∷ g.state.order } → places ≡ g.places → joins.size ≡ g.joins.size
          → ((p q : ℕ) → are_joined joins p q ≡ (are_joined g.joins p q || (not (p == q) && is_in list p && is_in list q)))
          → later ≡ set g.later k list → final_places ≡ g.final_places → ((p q : ℕ) → final_at p q ≡ g.final_at p q)
          → ((p q : ℕ) → g.final_room p q ≡ true → final_room p q ≡ true)
          → ((m : ℕ) → is_in list m ≡ true → (final_room k m ≡ true) × (final_room m k ≡ true)) → suc untaken ≡ g.untaken
          → length gone ≡ length g.gone → ((p : ℕ) → get_or gone p 0 ≡ get_or g.gone p 0 + (if is_in list p then 1 else 0))
          → IsGraph (record {
            face = g.face;
            state = state;
            points = g.points;
            places = places;
            at = after;
            joins = joins;
            remain = set g.remain k false;
            later = later;
            final_places = final_places;
            final_at = final_at;
            final_room = final_room;
            done = g.done;
            unpublished = g.unpublished;
            untaken = untaken;
            unvisited = g.unvisited;
            revisit_room = g.revisit_room;
            gone = gone;
          })
      taken_graph after step state places joins later final_places final_at final_room untaken gone same_state same_places size pairs same_later final_size
          final_cells kept room less len now =
          let x = point_at g.points k in
          let arcs = meeting_of g.face g.state in
          let s : State = record g.state { order = x ∷ g.state.order } in
          let found = gives after Clear step in
          let clear = none_here g h inside k lk found.0 in
          let new : Fields = record {
            face = g.face;
            state = s;
            points = g.points;
            places = places;
            at = after;
            joins = joins;
            remain = set g.remain k false;
            later = set g.later k list;
            final_places = final_places;
            final_at = final_at;
            final_room = final_room;
            done = g.done;
            unpublished = g.unpublished;
            untaken = untaken;
            unvisited = g.unvisited;
            revisit_room = g.revisit_room;
            gone = gone;
          } in
          rw (same_state, same_later) (record {
            interface = h.interface;
            together = still_together g.face h.interface g.state h.together (Eliminate (point_id x))
                (may_take g.face h.interface g.state h.together x going own fresh clear);
            points = h.points;
            places = same_places ∙ h.places;
            joins_size = size ∙ h.joins_size;
            cells = eliminates_more g.points arcs (fields_grounded g h) g.state.order g.at g.remain h.cells k lk fresh after found.1 found.0;
            origins = origins_wider (IsMeetingLeaf g.face g.state g.points) (IsMeetingLeaf g.face s g.points) g.points (x ∷ g.state.order) after
                (leaf_same g.face g.state s refl g.points)
                (origins_kept (IsMeetingLeaf g.face g.state g.points) g.points g.state.order g.at after g.remain k lk fresh h.cells.remaining h.origins
                found.1);
            sums = sums_more after found.1;
            joined = joined_more joins pairs;
            later_len = length-set g.later k list ∙ h.later_len;
            later = λ m lm gone. elim (cases_eq m k) [
              | inl e ↦ subst (λ n. IsLaterList new n (list_at (set g.later k list) n)) (sym e)
                  (subst (IsLaterList new k) (sym (get_or-set_same g.later k list [] (let len = h.later_len in omega arith))) (record {
                    rising = rising;
                    within = listed_low;
                    each = λ n ln. listed_is n ln ∙ sym (later_new g.face g.state x (point_at g.points n) fresh);
                    room = room;
                  }))
              | inr ne ↦
                  let was : is_in g.state.order (point_at g.points m) ≡ true =
                  sym (is_in-rest x g.state.order (point_at g.points m) (points_differ g h inside m k lm lk ne)) ∙ gone in
                  let l = h.later m lm was in
                  subst (IsLaterList new m) (sym (get_or-set_other g.later k m list [] ne)) (record {
                    rising = l.rising;
                    within = l.within;
                    each = λ n ln. l.each n ln ∙ sym (later_stays g.face g.state x (point_at g.points m) (point_at g.points n) was);
                    room = λ n here. let r = l.room n here in (kept m n r.0, kept n m r.1);
                  })
            ];
            final_places = final_size ∙ h.final_places;
            finals = λ p q lp lq.
                ap weight_at (final_cells p q) ∙ h.finals p q lp lq
                ∙ final_none g.face g.state (point_at g.points p) (point_at g.points q) unvisited
                ∙ sym (final_none g.face s (point_at g.points p) (point_at g.points q) unvisited);
            done_len = h.done_len;
            done = h.done;
            unpublished = h.unpublished;
            untaken = (let counts = left_counts in omega arith);
            unvisited = h.unvisited;
            revisits_fit = h.revisits_fit;
            throughs = λ p q lp lq.
                nothing_came _ (final_at p q)
                (ap weight_at (final_cells p q) ∙ h.finals p q lp lq
                ∙ final_none g.face g.state (point_at g.points p) (point_at g.points q) unvisited);
            gone = counted gone len now;
          })

-- the state with one eliminated point more at the end of its list
pub order_grown : (published : List Told) (order grown : List PointId) (stop : Option SharedCycle) (revisited : List PointId) (x : PointId) (p : ℕ)
    → grown ≡ order ++ x ∷ [] → p ≡ x.0
    → state_of published grown stop revisited
    ≡ record (state_of published order stop revisited) { order = p ∷ (state_of published order stop revisited).order }
order_grown published order grown stop revisited x p more is =
    let turned : reverse (map (λ (p : PointId). p.0) grown) ≡ x.0 ∷ reverse (map (λ (p : PointId). p.0) order) =
    ap (λ xs. reverse (map (λ (p : PointId). p.0) xs)) more ∙ ap reverse (map-append (λ (p : PointId). p.0) order (x ∷ []))
    ∙ reverse-append (map (λ (p : PointId). p.0) order) (x.0 ∷ []) in
    ap (λ (es : List ℕ). record (state_of published order stop revisited) { order = es })
    (turned ∙ ap (λ q. q ∷ reverse (map (λ (p : PointId). p.0) order)) (sym is))

-- what is known of the place of a point that may be eliminated
pub record IsTurn (g : Fields) (x k : ℕ) : Type 0 where
  pub low : k < length g.points
  pub is : point_at g.points k ≡ x
  pub going : g.state.stop ≡ None
  pub own : IsOwned g.face g.state (point_at g.points k)
  pub fresh : is_in g.state.order (point_at g.points k) ≡ false

pub turn_of : (g : Fields) → IsGraph g → (v : GraphView) → record { face = g.face; state = g.state } ≡ v → (x : PointId) (k : ℕ)
    → MayEliminate v.face v.state Joiner x → k < length (places_in v.face) → point_at (places_in v.face) k ≡ x.0 → IsTurn g x.0 k
turn_of g h v e = subst
    (λ (v : GraphView). (x : PointId) (k : ℕ) → MayEliminate v.face v.state Joiner x → k < length (places_in v.face)
    → point_at (places_in v.face) k ≡ x.0 → IsTurn g x.0 k) e
    (λ x k may low is.
    let parts = may_parts g.face g.state x may in
    let many = ap length h.points in
    let here : point_at g.points k ≡ x.0 = ap (λ ps. point_at ps k) h.points ∙ is in
    record {
      low = omega arith;
      is = here;
      going = parts.0;
      own = subst (IsOwned g.face g.state) (sym here) parts.1;
      fresh = ap (is_in g.state.order) here ∙ parts.2;
    })

-- the list of neighbours under another name, and how many they are
pub left_told : (g : Fields) (h : IsGraph g) (inside : (p q : ℕ) → is_some (g.at p q) ≡ true → (p < g.places) × (q < g.places) × (p ≢ q))
    (v : GraphView) → record { face = g.face; state = g.state } ≡ v → (x k : ℕ) → IsTurn g x k
    → (list : List ℕ) → ((p : ℕ) → is_in list p ≡ (remains g.remain p && are_joined g.joins k p)) → AreRisingPlaces list
    → length list ≡ left_count v.face v.state x
left_told g h inside v e x k turn list each rising =
    left_is g h inside k turn.low list each rising ∙ ap (left_count g.face g.state) turn.is ∙ ap (λ (v : GraphView). left_count v.face v.state x) e
