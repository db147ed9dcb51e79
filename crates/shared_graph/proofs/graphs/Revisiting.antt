-- One revisit keeps what a graph keeps: visit_grown, visited, later_counts, earlier_open, prepared, finals_more, visited_graph, later_told.
use Rattle.std.proofs.Common.{suc, ◌≡◌, ◌≢◌, ℕ, ◌<◌, List, [], ◌∷◌, ◌++◌, Bool, true, false, ◌||◌, ◌&&◌, not, Option, None, ap, sym, ◌∙◌}
use Rattle.std.proofs.Common.{refl, arith, inl, inr, length, map, subst, set, filter, length-set, get_or-set_same, get_or-set_other}
use Rattle.std.specs.Prelude.{ℤ, ◌==◌, is_some, reverse, if◌then◌else◌}
use Rattle.std.proofs.lemmas.Bool.{false≢true, and_parts, not-true, cases_eq}
use Rattle.std.proofs.lemmas.Bool.Decides.{nat_tests}
use Rattle.std.proofs.lemmas.List.{map-append, reverse-append}
use Rattle.std.proofs.Math.Bool.{or-true, and-false}
use Rattle.stn_model.specs.ArcWalks.{IsInnerLeast}
use Rattle.stn_model.specs.declared.ids.PointId.{PointId}
use Rattle.stn_walk.specs.Eliminations.{is_in, before_both}
use Rattle.stn_walk.specs.Joins.{joined_of}
use Rattle.stn_walk.proofs.Eliminations.{before-in}
use Rattle.stn_walk.proofs.Exits.{every}
use Rattle.stn_walk.proofs.Joins.{joined-from_walk, joined-symmetric}
use Rattle.stn_walk.proofs.Visits.{least_unique}
use Rattle.dist_rows.specs.declared.cell.Cell.{Cell}
use Rattle.elim_step.specs.Eliminated.{point_at, weight_at}
use Rattle.elim_step.specs.Revisits.{Revisits}
use Rattle.elim_step.proofs.FinalWeights.{IsStrange, Prepared, finals_are_least}
use Rattle.shared_graph.specs.declared.events.Event.TheVariants.{Revisit}
use Rattle.shared_graph.specs.declared.events.SharedCycle.{SharedCycle}
use Rattle.shared_graph.specs.declared.told.Told.{Told}
use Rattle.shared_graph.specs.Graphs.{state_of, flag_at, Fields, GraphView, IsLaterList, IsGraph, IsMeetingLeaf}
use Rattle.shared_graph.specs.States.{State, point_id, meeting_of, is_revisited}
use Rattle.shared_graph.specs.Takes.{later_count}
use Rattle.shared_graph.specs.Weights.{forward, is_joined, is_later, final, final_weight}
use Rattle.elim_step.proofs.OriginFacts.{origins_wider}
use Rattle.shared_graph.proofs.cells.Neighbours.{later_parts, neighbours_join}
use Rattle.shared_graph.proofs.cells.Revisits.{before_alone, before_alone_back}
use Rattle.shared_graph.proofs.cells.Steps.{revisit_keeps}
use Rattle.shared_graph.proofs.graphs.Counts.{count_same, count_filter, count_rising}
use Rattle.shared_graph.proofs.graphs.Keeping.{leaf_same, still_together}
use Rattle.shared_graph.proofs.graphs.Readying.{before_once, IsVisit, later_at, asks_others, not_revisited, some_left}
use Rattle.shared_graph.proofs.graphs.Standing.{fields_grounded, place_of_listed}
use Rattle.shared_graph.proofs.graphs.Telling.{joined_turned, no_forward}
use Rattle.shared_graph.proofs.graphs.Throughs.{all_came}
use Rattle.shared_graph.proofs.states.Keeps.{IsSound, sound_of, cells_hold, whole_light, whole_least, joined_place}
use Rattle.shared_graph.proofs.states.Meetings.{IsPlace, listed_not_z}

-- the state with one revisited point more at the end of its list
pub visit_grown : (published : List Told) (order : List PointId) (stop : Option SharedCycle) (revisited grown : List PointId) (x : PointId) (p : ℕ)
    → grown ≡ revisited ++ x ∷ [] → p ≡ x.0
    → state_of published order stop grown
    ≡ record (state_of published order stop revisited) { revisited = p ∷ (state_of published order stop revisited).revisited }
visit_grown published order stop revisited grown x p more is =
    let turned : reverse (map (λ (p : PointId). p.0) grown) ≡ x.0 ∷ reverse (map (λ (p : PointId). p.0) revisited) =
    ap (λ xs. reverse (map (λ (p : PointId). p.0) xs)) more ∙ ap reverse (map-append (λ (p : PointId). p.0) revisited (x ∷ []))
    ∙ reverse-append (map (λ (p : PointId). p.0) revisited) (x.0 ∷ []) in
    ap (λ (ps : List ℕ). record (state_of published order stop revisited) { revisited = ps })
    (turned ∙ ap (λ q. q ∷ reverse (map (λ (p : PointId). p.0) revisited)) (sym is))

-- the state with the point of this place revisited
abbrev pub visited : Fields → ℕ → State
visited g k = record g.state { revisited = point_at g.points k ∷ g.state.revisited }

no_weight : (o : Option ℤ) (b : Bool) → b ≡ false → (if b then o else None) ≡ None
no_weight o b e = ap (λ t. if t then o else None) e

module _ (g : Fields) (h : IsGraph g) (x k : ℕ) (visit : IsVisit g x k) where
  sound : IsSound g.face g.state
  sound = sound_of g.face h.interface g.state h.together

  gone : is_in g.state.order (point_at g.points k) ≡ true
  gone = visit.ready.whole (point_at g.points k) visit.ready.listed

  differ : (p : ℕ) → p < length g.points → p ≢ k → point_at g.points p ≢ point_at g.points k
  differ p lp apart e = apart ((fields_grounded g h).apart p k lp visit.low e)

  -- a point that is joined with k and comes before it is not revisited
  earlier_open : (y : ℕ) → is_joined g.face g.state (point_at g.points k) y ≡ true → is_later g.face g.state (point_at g.points k) y ≡ false
      → is_revisited (visited g k) y ≡ false
  earlier_open y joined not_later =
      let p = point_at g.points k in
      let s = g.state in
      let before : is_in (before_both s.order p p) y ≡ true = before_of (is_joined g.face s p y) (is_in (before_both s.order p p) y) joined not_later in
      let in_order = before-in s.order p p y before in
      let own = h.together.owned y in_order in
      let listed = ap (λ o. is_some o) own.1 in
      let not_z = listed_not_z g.face h.interface y listed in
      let back : is_joined g.face s y p ≡ true = joined_turned g.face s y p ∙ joined in
      let out = before_once s.order p y before in
      let later : is_later g.face s y p ≡ true = (λ t. back t && not (out t)) in
      let fresh : is_in s.revisited y ≡ false = unvisited (is_in s.revisited y) refl later in
      let apart : (y == p) ≡ false = (let d = (and_parts (not (y == p)) _ back).0 in not-true (y == p) d) in
      let other : (y == 0) ≡ false = grind (arith, nat_tests) in
      (λ t. (fresh t || apart t) || other t) where
        before_of : (a b : Bool) → a ≡ true → (a && not b) ≡ false → b ≡ true
        before_of true true e f = refl
        before_of true false e f = absurd (cc)
        before_of false b e f = absurd (cc)

        unvisited : (b : Bool) → is_in g.state.revisited y ≡ b → is_later g.face g.state y (point_at g.points k) ≡ true → b ≡ false
        unvisited true t later = absurd (false≢true (sym (not_revisited g h x k visit)
            ∙ (h.together.revisits y t).later (point_at g.points k) later))
        unvisited false t later = refl

  -- so there is no final weight with it, before and after the revisit
  none_now : (y : ℕ) → is_later g.face g.state (point_at g.points k) y ≡ false
      → (final g.face (visited g k) (point_at g.points k) y ≡ None)
      × (final g.face (visited g k) y (point_at g.points k) ≡ None)
  none_now y not_later = go (is_joined g.face g.state (point_at g.points k) y) refl where
    second : (a b c : Bool) → (a ≡ true → c ≡ false) → (a && b && c) ≡ false
    second true true c e = e refl
    second true false c e = refl
    second false b c e = refl

    go : (b : Bool) → is_joined g.face g.state (point_at g.points k) y ≡ b
        → (final g.face (visited g k) (point_at g.points k) y ≡ None)
        × (final g.face (visited g k) y (point_at g.points k) ≡ None)
    go true joined =
        let p = point_at g.points k in
        let t : State = record g.state { revisited = p ∷ g.state.revisited } in
        let still = earlier_open y joined not_later in (
          (λ i. if is_joined g.face g.state p y && is_revisited t p && still i then final_weight g.face g.state p y else None)
              ∙ no_weight (final_weight g.face g.state p y) (is_joined g.face g.state p y && is_revisited t p && false)
              (second (is_joined g.face g.state p y) (is_revisited t p) false (λ e. refl)),
          (λ i. if is_joined g.face g.state y p && still i && is_revisited t p then final_weight g.face g.state y p else None)
              ∙ no_weight (final_weight g.face g.state y p) (is_joined g.face g.state y p && false && is_revisited t p)
              (first (is_joined g.face g.state y p) (is_revisited t p)),
        ) where
          first : (a c : Bool) → (a && false && c) ≡ false
          first true c = refl
          first false c = refl
    go false away =
        let p = point_at g.points k in
        let t : State = record g.state { revisited = p ∷ g.state.revisited } in
        let back : is_joined g.face g.state y p ≡ false = joined_turned g.face g.state y p ∙ away in (
          (λ i. if away i && is_revisited t p && is_revisited t y then final_weight g.face g.state p y else None),
          (λ i. if back i && is_revisited t y && is_revisited t p then final_weight g.face g.state y p else None),
        )

  none_before : (y : ℕ) → (final g.face g.state (point_at g.points k) y ≡ None) × (final g.face g.state y (point_at g.points k) ≡ None)
  none_before y =
      let p = point_at g.points k in
      let s = g.state in
      let fresh = not_revisited g h x k visit in (
        no_weight (final_weight g.face s p y) _ (first (is_joined g.face s p y) (is_revisited s p) (is_revisited s y) fresh),
        no_weight (final_weight g.face s y p) _ (second (is_joined g.face s y p) (is_revisited s y) (is_revisited s p) fresh),
      ) where
        first : (a b c : Bool) → b ≡ false → (a && b && c) ≡ false
        first true true c e = absurd (cc)
        first true false c e = refl
        first false b c e = refl

        second : (a b c : Bool) → c ≡ false → (a && b && c) ≡ false
        second true true true e = absurd (cc)
        second true true false e = refl
        second true false c e = refl
        second false b c e = refl

  -- a point that is no place of the list is neither z nor shared
  no_place : (p : ℕ) → IsStrange g.points p → IsPlace g.face p → ⊥
  no_place p strange (inl z) =
      let first : point_at g.points 0 ≡ p = ap (λ ps. point_at ps 0) h.points ∙ sym z in
      strange 0 (let low = visit.low in omega arith) first
  no_place p strange (inr listed) =
      let at = place_of_listed g.face h.interface p listed in
      let low = at.2 in
      let many = ap length h.points in
      strange at.0 (omega arith) (ap (λ ps. point_at ps at.0) h.points ∙ at.3)

  -- so no walk goes to it from k through the points before k
  no_path : (p : ℕ) → IsStrange g.points p → is_in (before_both g.state.order (point_at g.points k) (point_at g.points k)) p ≡ false
      → joined_of (meeting_of g.face g.state) (before_both g.state.order (point_at g.points k) (point_at g.points k)) (point_at g.points k) p ≡ true → ⊥
  no_path p strange out joined =
      let q = point_at g.points k in
      let apart : p ≢ q = λ e. strange k visit.low (sym e) in
      let off : (q == p) ≡ false = (let turned : q ≢ p = λ e. apart (sym e) in grind (arith, nat_tests)) in
      let there : joined_of (meeting_of g.face g.state) (before_both g.state.order q p) q p ≡ true =
      ap (λ es. joined_of (meeting_of g.face g.state) es q p) (before_alone g.state.order q p apart out) ∙ joined in
      let is : is_joined g.face g.state q p ≡ true = (λ t. not (off t) && there t) in
      no_place p strange (joined_place g.face h.interface g.state sound q p is)

  module _ (list : List ℕ) (l : IsLaterList g k list) (inside : (p q : ℕ) → is_some (g.at p q) ≡ true → (p < g.places) × (q < g.places) × (p ≢ q)) where
    later_here : (m : ℕ) → is_in list m ≡ true → is_later g.face g.state (point_at g.points k) (point_at g.points m) ≡ true
    later_here = later_at g h x k visit list l

    -- the later neighbours are as many as those of the point
    pub later_counts : length list ≡ later_count g.face g.state (point_at g.points k)
    later_counts =
        count_rising list (length g.points) l.rising l.within
        ∙ count_same (is_in list) (λ m. is_later g.face g.state (point_at g.points k) (point_at g.points m)) (length g.points) l.each
        ∙ count_filter (is_later g.face g.state (point_at g.points k)) g.points
        ∙ ap (λ ps. length (filter (is_later g.face g.state (point_at g.points k)) ps)) h.points

    -- where a place is not among them, there is no weight with a point that comes later
    no_weights : (m : ℕ) → m < length g.points → is_in (before_both g.state.order (point_at g.points k) (point_at g.points k)) (point_at g.points m) ≡ false
        → m ≢ k → is_in list m ≡ false → (weight_at (g.at k m) ≡ None) × (weight_at (g.at m k) ≡ None)
    no_weights m lm out apart none =
        let p = point_at g.points k in
        let q = point_at g.points m in
        let ne = differ m lm apart in
        let away : is_joined g.face g.state p q ≡ false =
        unless (is_joined g.face g.state p q) (is_in (before_both g.state.order p p) q) out (sym (l.each m lm) ∙ none) in
        let back : is_joined g.face g.state q p ≡ false = joined_turned g.face g.state q p ∙ away in (
          h.cells.cells k m visit.low lm (λ e. apart (sym e)) ∙ no_forward g.face h.interface g.state h.together p q (λ e. ne (sym e)) away,
          h.cells.cells m k lm visit.low apart ∙ no_forward g.face h.interface g.state h.together q p ne back,
        ) where
          unless : (a b : Bool) → b ≡ false → (a && not b) ≡ false → a ≡ false
          unless true true e f = absurd (cc)
          unless true false e f = f
          unless false b e f = refl

    prepared : Prepared (is_in (before_both g.state.order (point_at g.points k) (point_at g.points k))) (meeting_of g.face g.state) g.points k list
        g.at g.final_at
    prepared = record {
      none_below = whole_light g.face h.interface g.state sound visit.ready.whole;
      apart = (fields_grounded g h).apart;
      here = visit.low;
      out = λ m lm out apart.
          let p = point_at g.points k in
          let q = point_at g.points m in
          let alone = before_alone g.state.order p q (differ m lm apart) out in
          subst (IsInnerLeast (is_in (before_both g.state.order p p)) (meeting_of g.face g.state) p q)
          (sym (h.cells.cells k m visit.low lm (λ e. apart (sym e))))
          (subst (λ es. IsInnerLeast (is_in es) (meeting_of g.face g.state) p q (forward g.face g.state p q)) alone
          (cells_hold g.face h.interface g.state sound p q));
      back = λ m lm out apart.
          let p = point_at g.points k in
          let q = point_at g.points m in
          let alone = before_alone_back g.state.order p q (differ m lm apart) out in
          subst (IsInnerLeast (is_in (before_both g.state.order p p)) (meeting_of g.face g.state) q p)
          (sym (h.cells.cells m k lm visit.low apart))
          (subst (λ es. IsInnerLeast (is_in es) (meeting_of g.face g.state) q p (forward g.face g.state q p)) alone
          (cells_hold g.face h.interface g.state sound q p));
      joined = no_weights;
      strange = λ p strange out.
          let q = point_at g.points k in
          let es = before_both g.state.order q q in
          let arcs = meeting_of g.face g.state in (
            λ w walk. no_path p strange out (joined-from_walk arcs es q p w walk),
            λ w walk. no_path p strange out (joined-symmetric arcs es q p ∙ joined-from_walk arcs es p q w walk),
          );
      outside = λ m here.
          let parts = later_parts g.face g.state (point_at g.points k) (point_at g.points m) (later_here m here) in
          (l.within m here, parts.2, λ e. parts.0 (sym (ap (point_at g.points) e)));
      between = λ m j one two apart.
          let p = point_at g.points k in
          let a = point_at g.points m in
          let b = point_at g.points j in
          let lm = l.within m one in
          let lj = l.within j two in
          let ne : a ≢ b = λ e. apart ((fields_grounded g h).apart m j lm lj e) in
          let joined = neighbours_join g.face g.state p a b gone (later_here m one) (later_here j two) ne in
          let final_is =
          h.together.finals a b joined (visit.ready.later a (later_here m one)) (visit.ready.later b (later_here j two)) in
          subst (IsInnerLeast every (meeting_of g.face g.state) a b) (sym (h.finals m j lm lj ∙ final_is.1)) final_is.2;
    }

    module _ (after : ℕ → ℕ → Option Cell) (revisits : Revisits g.at k list g.final_at after) where
      -- the new final cells with a later neighbour are those of the state
      made : (j : ℕ) → is_in list j ≡ true
          → (weight_at (after k j) ≡ final g.face (visited g k) (point_at g.points k) (point_at g.points j))
          × (weight_at (after j k) ≡ final g.face (visited g k) (point_at g.points j) (point_at g.points k))
      made j here =
          let p = point_at g.points k in
          let q = point_at g.points j in
          let s = g.state in
          let t : State = record s { revisited = p ∷ s.revisited } in
          let arcs = meeting_of g.face s in
          let least = finals_are_least (is_in (before_both s.order p p)) arcs g.points k list g.at g.final_at after prepared revisits j here in
          let later = later_here j here in
          let joined = (and_parts (is_joined g.face s p q) (not (is_in (before_both s.order p p) q)) later).0 in
          let back : is_joined g.face s q p ≡ true = joined_turned g.face s q p ∙ joined in
          let new_p : is_revisited t p ≡ true =
          ap (λ b. (is_in s.revisited p || b) || (p == 0)) (let same : (p == p) ≡ true = grind (arith, nat_tests) in same)
          ∙ ap (λ b. b || (p == 0)) (or-true (is_in s.revisited p)) in
          let new_q : is_revisited t q ≡ true = wider (is_in s.revisited q) (q == 0) (q == p) (visit.ready.later q later) in
          let whole = visit.ready.whole in (
            least_unique every arcs p q (weight_at (after k j)) (final_weight g.face s p q) least.0 (whole_least g.face h.interface s sound whole p q)
                ∙ sym (λ i. if joined i && new_p i && new_q i then final_weight g.face s p q else None),
            least_unique every arcs q p (weight_at (after j k)) (final_weight g.face s q p) least.1 (whole_least g.face h.interface s sound whole q p)
                ∙ sym (λ i. if back i && new_q i && new_p i then final_weight g.face s q p else None),
          ) where
            wider : (a b c : Bool) → (a || b) ≡ true → ((a || c) || b) ≡ true
            wider true b c e = refl
            wider false b c e = ap (λ y. c || y) e ∙ or-true c

      from_k : (q : ℕ) → q < length g.points
          → weight_at (after k q) ≡ final g.face (visited g k) (point_at g.points k) (point_at g.points q)
      from_k q lq = go (is_in list q) refl where
        go : (b : Bool) → is_in list q ≡ b
            → weight_at (after k q) ≡ final g.face (visited g k) (point_at g.points k) (point_at g.points q)
        go true here = (made q here).0
        go false away =
            let same = revisits.others k q (ap (λ b. (k == k) && b) away ∙ and-false (k == k))
            (ap (λ b. (q == k) && b) (asks_others g h x k visit list l) ∙ and-false (q == k)) in
            ap weight_at same ∙ h.finals k q visit.low lq ∙ (none_before (point_at g.points q)).0
            ∙ sym (none_now (point_at g.points q) (sym (l.each q lq) ∙ away)).0

      to_k : (p : ℕ) → p < length g.points
          → weight_at (after p k) ≡ final g.face (visited g k) (point_at g.points p) (point_at g.points k)
      to_k p lp = go (is_in list p) refl where
        go : (b : Bool) → is_in list p ≡ b
            → weight_at (after p k) ≡ final g.face (visited g k) (point_at g.points p) (point_at g.points k)
        go true here = (made p here).1
        go false away =
            let same = revisits.others p k (ap (λ b. (p == k) && b) (asks_others g h x k visit list l) ∙ and-false (p == k))
            (ap (λ b. (k == k) && b) away ∙ and-false (k == k)) in
            ap weight_at same ∙ h.finals p k lp visit.low ∙ (none_before (point_at g.points p)).1
            ∙ sym (none_now (point_at g.points p) (sym (l.each p lp) ∙ away)).1

      finals_more : (p q : ℕ) → p < length g.points → q < length g.points
          → weight_at (after p q) ≡ final g.face (visited g k) (point_at g.points p) (point_at g.points q)
      finals_more p q lp lq =
          let t : State = visited g k in
          elim (cases_eq p k) [
            | inl e ↦ subst (λ n. weight_at (after n q) ≡ final g.face t (point_at g.points n) (point_at g.points q)) (sym e) (from_k q lq)
            | inr ne ↦ elim (cases_eq q k) [
              | inl e ↦ subst (λ n. weight_at (after p n) ≡ final g.face t (point_at g.points p) (point_at g.points n)) (sym e) (to_k p lp)
              | inr other ↦
                  let off_p : (p == k) ≡ false = grind (arith, nat_tests) in
                  let off_q : (q == k) ≡ false = grind (arith, nat_tests) in
                  let same = revisits.others p q (ap (λ b. b && is_in list q) off_p) (ap (λ b. b && is_in list p) off_q) in
                  ap weight_at same ∙ h.finals p q lp lq
                  ∙ sym (revisit_keeps g.face [] g.state (point_at g.points k) (point_at g.points p) (point_at g.points q) (differ p lp ne) (differ q lq other))
            ]
          ]

      done_more : (m : ℕ) → m < length g.points
          → flag_at (set g.done k true) m ≡ is_revisited (visited g k) (point_at g.points m)
      done_more m lm =
          let p = point_at g.points k in
          let q = point_at g.points m in
          let len = h.done_len in
          let low = visit.low in
          elim (cases_eq m k) [
            | inl e ↦
                let same : (q == p) ≡ true = (let f = ap (point_at g.points) e in grind (arith, nat_tests)) in
                ap (flag_at (set g.done k true)) e ∙ get_or-set_same g.done k true false (omega arith)
                ∙ sym (ap (λ b. (is_in g.state.revisited q || b) || (q == 0)) same ∙ ap (λ b. b || (q == 0)) (or-true (is_in g.state.revisited q)))
            | inr ne ↦
                let off : (q == p) ≡ false = (let f = differ m lm ne in grind (arith, nat_tests)) in
                get_or-set_other g.done k m true false ne ∙ h.done m lm
                ∙ sym (ap (λ b. (is_in g.state.revisited q || b) || (q == 0)) off ∙ ap (λ b. b || (q == 0)) (or_false (is_in g.state.revisited q)))
          ] where
            or_false : (b : Bool) → (b || false) ≡ b
            or_false true = refl
            or_false false = refl

      pub visited_graph : (state : State) (final_places : ℕ) (final_room : ℕ → ℕ → Bool) (unvisited revisit_room : ℕ)
          → state ≡ visited g k → final_places ≡ g.final_places
          → ((p q : ℕ) → final_room p q ≡ g.final_room p q) → suc unvisited ≡ g.unvisited → revisit_room ≡ g.revisit_room
          → IsGraph (record {
            face = g.face;
            state = state;
            points = g.points;
            places = g.places;
            at = g.at;
            joins = g.joins;
            remain = g.remain;
            later = g.later;
            final_places = final_places;
            final_at = after;
            final_room = final_room;
            done = set g.done k true;
            unpublished = g.unpublished;
            untaken = g.untaken;
            unvisited = unvisited;
            revisit_room = revisit_room;
            gone = g.gone;
          })
      visited_graph state final_places final_room unvisited revisit_room same_state final_size room less same_room =
          let p = point_at g.points k in
          let t : State = record g.state { revisited = p ∷ g.state.revisited } in
          let left = some_left g h x k visit in
          rw same_state (record {
            interface = h.interface;
            together = still_together g.face h.interface g.state h.together (Revisit (point_id p)) visit.legal;
            points = h.points;
            places = h.places;
            joins_size = h.joins_size;
            cells = h.cells;
            origins = origins_wider (IsMeetingLeaf g.face g.state g.points) (IsMeetingLeaf g.face t g.points) g.points g.state.order g.at
                (leaf_same g.face g.state t refl g.points) h.origins;
            sums = h.sums;
            joined = h.joined;
            later_len = h.later_len;
            later = λ m lm before.
                let old = h.later m lm before in
                record {
                  rising = old.rising;
                  within = old.within;
                  each = old.each;
                  room = λ n here. let r = old.room n here in (room m n ∙ r.0, room n m ∙ r.1);
                };
            final_places = final_size ∙ h.final_places;
            finals = finals_more;
            done_len = length-set g.done k true ∙ h.done_len;
            done = done_more;
            unpublished = h.unpublished;
            untaken = h.untaken;
            unvisited = omega arith;
            revisits_fit = (let fit = h.revisits_fit in omega arith);
            throughs = all_came g h x k visit list l after revisits finals_more;
            gone = record { len = h.gone.len; each = h.gone.each };
          })

-- how many later neighbours there are, in a view that has another name
pub later_told : (g : Fields) (h : IsGraph g) (v : GraphView) → record { face = g.face; state = g.state } ≡ v → (x k : ℕ) (visit : IsVisit g x k)
    → (list : List ℕ) → IsLaterList g k list
    → ((p q : ℕ) → is_some (g.at p q) ≡ true → (p < g.places) × (q < g.places) × (p ≢ q)) → length list ≡ later_count v.face v.state x
later_told g h v e x k visit list l inside =
    later_counts g h x k visit list l inside ∙ ap (later_count g.face g.state) visit.is ∙ ap (λ (v : GraphView). later_count v.face v.state x) e
