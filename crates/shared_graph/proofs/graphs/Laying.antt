-- Arcs laid into cells and joined pairs, one by one: same_test, joined_one, room_one, weight_one, laid_one,
-- rooms_more, joined_more, weights_more, laid_more, agent_joining, externals_joining.
use Rattle.std.proofs.Common.{◌≡◌, ◌≢◌, ℕ, ◌+◌, ◌<◌, List, [], ◌∷◌, Bool, true, false, ◌&&◌, ◌||◌, not, Option, Some, None, ap, sym}
use Rattle.std.proofs.Common.{◌∙◌, refl, arith, length, take, inl, inr, ◌⊎◌, subst}
use Rattle.std.specs.Prelude.{ℤ, ◌==◌, int_lt, if◌then◌else◌}
use Rattle.std.specs.List.{AllPairs}
use Rattle.std.proofs.lemmas.Bool.{and_parts, cases_lt}
use Rattle.std.proofs.lemmas.Bool.Decides.{nat_tests}
use Rattle.std.proofs.lemmas.List.{take_more}
use Rattle.std.proofs.lemmas.List.Elements.{Contains-get_or}
use Rattle.stn_model.specs.declared.ids.AgentId.{AgentId}
use Rattle.stn_model.specs.declared.ids.Constraint.{Constraint}
use Rattle.stn_model.specs.Arcs.{no_arc, arc_at, from_at, to_at, bound_at}
use Rattle.stn_walk.specs.Eliminations.{bound_of, lesser}
use Rattle.stn_walk.specs.Joins.{has_edge}
use Rattle.dist_rows.specs.declared.cell.Cell.{Cell}
use Rattle.dist_rows.specs.declared.cell.Via.{Via}
use Rattle.dist_rows.specs.Cells as cells
use Rattle.elim_step.specs.Eliminated.{point_at, weight_at}
use Rattle.elim_step.specs.Origins.{IsArcOf}
use Rattle.shared_graph.specs.Graphs.{places_in}
use Rattle.shared_graph.specs.Interfaces.{InterfaceView, IsInterface, IsFitting}
use Rattle.shared_graph.specs.Publications.{via_of, IsOldOrLaid, AreJoining}
use Rattle.shared_graph.specs.States.{Published, agent_arcs}
use Rattle.shared_graph.proofs.states.Grounds.{place_listed}
use Rattle.shared_graph.proofs.states.Meetings.{agent_arc, place_of_end}
use Rattle.shared_graph.proofs.cells.Steps.{none_right, bound_both, edge_both, lesser_swap, lesser_turned}

-- the least of three numbers
lesser_last : (x y z : Option ℤ) → lesser (lesser x y) z ≡ lesser x (lesser y z)
lesser_last None y z = refl
lesser_last (Some a) None z = refl
lesser_last (Some a) (Some b) None = none_right (lesser (Some a) (Some b))
lesser_last (Some a) (Some b) (Some c) =
    ap (λ o. lesser o (Some c)) (lesser_turned a b) ∙ lesser_swap (Some b) (Some a) (Some c) ∙ by (lesser (Some b) (Some c)) where
      by : (o : Option ℤ) → lesser o (Some a) ≡ lesser (Some a) o
      by None = refl
      by (Some x) = lesser_turned x a

-- one arc more
bound_more : (arcs : List Constraint) (n : ℕ) (x : Option ℤ) (i j : ℕ) → n < length arcs
    → lesser (lesser x (bound_of (take n arcs) i j)) (bound_of (arc_at arcs n ∷ []) i j) ≡ lesser x (bound_of (take (n + 1) arcs) i j)
bound_more arcs n x i j lt =
    lesser_last x (bound_of (take n arcs) i j) (bound_of (arc_at arcs n ∷ []) i j)
    ∙ ap (lesser x) (sym (bound_both (take n arcs) (arc_at arcs n ∷ []) i j) ∙ ap (λ xs. bound_of xs i j) (sym (take_more arcs n no_arc lt)))

edge_more : (arcs : List Constraint) (n : ℕ) (i j : ℕ) → n < length arcs
    → has_edge (take (n + 1) arcs) i j ≡ (has_edge (take n arcs) i j || has_edge (arc_at arcs n ∷ []) i j)
edge_more arcs n i j lt = ap (λ xs. has_edge xs i j) (take_more arcs n no_arc lt) ∙ edge_both (take n arcs) (arc_at arcs n ∷ []) i j

-- a place has a point exactly where it is the place of the point
place_test : (points : List ℕ) → AllPairs (λ p q. p < q) points → (k x p : ℕ) → k < length points → p < length points → point_at points k ≡ x
    → (p == k) ≡ (x == point_at points p)
place_test points rising k x p lk lp is =
    elim (p == k) as (λ b. (p == k) ≡ b → b ≡ (x == point_at points p)) [
      | true ↦ λ t. (let e : p ≡ k = grind (arith, nat_tests) in let f : x ≡ point_at points p = sym is ∙ ap (point_at points) (sym e) in
          grind (arith, nat_tests))
      | false ↦ λ t. (let ne : p ≢ k = grind (arith, nat_tests) in let f : x ≢ point_at points p = λ e. ne (same (sym e ∙ sym is)) in
          grind (arith, nat_tests))
    ] refl where
      same : point_at points p ≡ point_at points k → p ≡ k
      same e = elim (cases_lt p k) [
        | inl low ↦ (let less = rising p k 0 low lk in absurd (omega arith))
        | inr high ↦ elim (cases_lt k p) [ inl less ↦ (let more = rising k p 0 less lp in absurd (omega arith)) | inr le ↦ omega arith ]
      ]

-- and two places have one point exactly where they are one
pub same_test : (points : List ℕ) → AllPairs (λ p q. p < q) points → (p q : ℕ) → p < length points → q < length points
    → (p == q) ≡ (point_at points p == point_at points q)
same_test points rising p q lp lq = by (point_at points q == point_at points p) refl where
  by : (b : Bool) → (point_at points q == point_at points p) ≡ b → (p == q) ≡ (point_at points p == point_at points q)
  by true t = (let e : point_at points p ≡ point_at points q = grind (arith, nat_tests) in
      let here : (point_at points p == point_at points q) ≡ true = grind (arith, nat_tests) in
      place_test points rising q (point_at points q) p lq lp refl ∙ t ∙ sym here)
  by false t = (let ne : point_at points p ≢ point_at points q = grind (arith, nat_tests) in
      let off : (point_at points p == point_at points q) ≡ false = grind (arith, nat_tests) in
      place_test points rising q (point_at points q) p lq lp refl ∙ t ∙ sym off)

lesser_weight : (o : Option Cell) (c : Cell) → weight_at (cells.lesser o c) ≡ lesser (weight_at o) (Some c.weight)
lesser_weight None c = refl
lesser_weight (Some x) c =
    elim (int_lt c.weight x.weight) as
    (λ b. weight_at (if b then Some c else Some x) ≡ (if b then Some c.weight else Some x.weight)) [ true ↦ refl | false ↦ refl ]

module _ (points : List ℕ) (rising : AllPairs (λ p q. p < q) points) (arcs : List Constraint) (n from to : ℕ) (lf : from < length points)
    (lt : to < length points) (is_from : point_at points from ≡ from_at arcs n) (is_to : point_at points to ≡ to_at arcs n) where
  start_test : (p : ℕ) → p < length points → (p == from) ≡ (from_at arcs n == point_at points p)
  start_test p lp = place_test points rising from (from_at arcs n) p lf lp is_from

  end_test : (p : ℕ) → p < length points → (p == to) ≡ (to_at arcs n == point_at points p)
  end_test p lp = place_test points rising to (to_at arcs n) p lt lp is_to

  -- the pair of the arc is joined
  pub joined_one : (f g : ℕ → ℕ → Bool)
      → ((p q : ℕ) → g p q ≡ (f p q || (not (p == q) && (((p == from) && (q == to)) || ((p == to) && (q == from))))))
      → (p q : ℕ) → p < length points → q < length points
      → g p q ≡ (f p q || (not (p == q) && has_edge (arc_at arcs n ∷ []) (point_at points p) (point_at points q)))
  joined_one f g joins p q lp lq =
      joins p q
      ∙ (λ t. f p q || (not (p == q) && ((start_test p lp t && end_test q lq t) || turned (p == to) (q == from) t)))
      ∙ (λ t. f p q || (not (p == q) && or_none ((from_at arcs n == point_at points p) && (to_at arcs n == point_at points q))
      (start_test q lq t && end_test p lp t) t)) where
        turned : (a b : Bool) → (a && b) ≡ (b && a)
        turned true true = refl
        turned true false = refl
        turned false true = refl
        turned false false = refl

        or_none : (a b : Bool) → (a || b) ≡ ((a || b) || false)
        or_none true b = refl
        or_none false true = refl
        or_none false false = refl

  -- which has room
  pub room_one : (room after : ℕ → ℕ → Bool) → ((p q : ℕ) → after p q ≡ (((p == from) && (q == to)) || room p q)) → (p q : ℕ) → p < length points
      → q < length points → from_at arcs n ≡ point_at points p → to_at arcs n ≡ point_at points q → after p q ≡ true
  room_one room after changed p q lp lq starts ends =
      let one : (p == from) ≡ true = start_test p lp ∙ (grind (arith, nat_tests)) in
      let two : (q == to) ≡ true = end_test q lq ∙ (grind (arith, nat_tests)) in
      changed p q ∙ (λ t. (one t && two t) || room p q)

  -- and its cell is lowered to the bound
  pub weight_one : (c : Cell) (at after : ℕ → ℕ → Option Cell) → ((p q : ℕ) → after p q ≡ cells.lowered from to c at p q) → c.weight ≡ bound_at arcs n
      → (p q : ℕ) → p < length points → q < length points
      → weight_at (after p q) ≡ lesser (weight_at (at p q)) (bound_of (arc_at arcs n ∷ []) (point_at points p) (point_at points q))
  weight_one c at after changed weighs p q lp lq =
      let a = arc_at arcs n in
      let x = point_at points p in
      let y = point_at points q in
      let tests : ((p == from) && (q == to)) ≡ ((a.from.0 == x) && (a.to.0 == y)) = (λ t. start_test p lp t && end_test q lq t) in
      ap weight_at (changed p q)
      ∙ (elim ((p == from) && (q == to)) as (λ b. ((p == from) && (q == to)) ≡ b
      → weight_at (if b then cells.lesser (at from to) c else at p q) ≡ lesser (weight_at (at p q)) (if b then Some a.bound else None)) [
        | true ↦ λ t.
            (let parts = and_parts (p == from) (q == to) t in
            let ep : p ≡ from = (let e = parts.0 in grind (arith, nat_tests)) in
            let eq : q ≡ to = (let e = parts.1 in grind (arith, nat_tests)) in
            lesser_weight (at from to) c ∙ (λ t. lesser (weight_at (at (sym ep t) (sym eq t))) (Some (weighs t))))
        | false ↦ λ t. sym (none_right (weight_at (at p q)))
      ] refl)
      ∙ ap (λ b. lesser (weight_at (at p q)) (if b then Some a.bound else None)) tests

  -- and has the arc's weight where it is another
  pub laid_one : (c : Cell) (v : Via) (at after : ℕ → ℕ → Option Cell) → n < length arcs → ((p q : ℕ) → after p q ≡ cells.lowered from to c at p q)
      → c.weight ≡ bound_at arcs n → c.via ≡ v → (p q : ℕ)
      → (after p q ≡ at p q) ⊎ ((x : Cell) × (after p q ≡ Some x) × IsArcOf points arcs p q x n × (x.via ≡ v))
  laid_one c v at after within changed weighs via p q =
      elim ((p == from) && (q == to)) as (λ b. ((p == from) && (q == to)) ≡ b
      → (after p q ≡ at p q) ⊎ ((x : Cell) × (after p q ≡ Some x) × IsArcOf points arcs p q x n × (x.via ≡ v))) [
        | true ↦ λ t.
            (let parts = and_parts (p == from) (q == to) t in
            let ep : p ≡ from = (let e = parts.0 in grind (arith, nat_tests)) in
            let eq : q ≡ to = (let e = parts.1 in grind (arith, nat_tests)) in
            here p q ep eq (changed p q ∙ ap (λ b. if b then cells.lesser (at from to) c else at p q) t))
        | false ↦ λ t. inl (changed p q ∙ ap (λ b. if b then cells.lesser (at from to) c else at p q) t)
      ] refl where
        arc_of : (p q : ℕ) → p ≡ from → q ≡ to → IsArcOf points arcs p q c n
        arc_of p q ep eq = record {
          within = within;
          starts = sym is_from ∙ ap (point_at points) (sym ep);
          ends = sym is_to ∙ ap (point_at points) (sym eq);
          weighs = sym weighs;
        }

        by : (p q : ℕ) → p ≡ from → q ≡ to → (o : Option Cell) → at p q ≡ o → after p q ≡ cells.lesser o c
            → (after p q ≡ at p q) ⊎ ((x : Cell) × (after p q ≡ Some x) × IsArcOf points arcs p q x n × (x.via ≡ v))
        by p q ep eq None is now = inr (c, now, arc_of p q ep eq, via)
        by p q ep eq (Some old) is now =
            (elim (int_lt c.weight old.weight) as (λ b. after p q ≡ (if b then Some c else Some old)
            → (after p q ≡ at p q) ⊎ ((x : Cell) × (after p q ≡ Some x) × IsArcOf points arcs p q x n × (x.via ≡ v))) [
              | true ↦ λ now. inr (c, now, arc_of p q ep eq, via)
              | false ↦ λ now. inl (now ∙ sym is)
            ]) now

        here : (p q : ℕ) → p ≡ from → q ≡ to → after p q ≡ cells.lesser (at from to) c
            → (after p q ≡ at p q) ⊎ ((x : Cell) × (after p q ≡ Some x) × IsArcOf points arcs p q x n × (x.via ≡ v))
        here p q ep eq now = by p q ep eq (at p q) refl (now ∙ (λ t. cells.lesser (at (sym ep t) (sym eq t)) c))

-- the cells of the arcs so far and of one more
pub laid_more : (points : List ℕ) (arcs : List Constraint) (agent : Option AgentId) (n : ℕ) (first at after : ℕ → ℕ → Option Cell)
    → ((p q : ℕ) → IsOldOrLaid points arcs agent p q (first p q) (at p q))
    → ((p q : ℕ) → (after p q ≡ at p q) ⊎ ((c : Cell) × (after p q ≡ Some c) × IsArcOf points arcs p q c n × (c.via ≡ via_of agent n)))
    → (p q : ℕ) → IsOldOrLaid points arcs agent p q (first p q) (after p q)
laid_more points arcs agent n first at after was now p q =
    elim (now p q) [
      | inl same ↦ elim (was p q) [ inl old ↦ inl (same ∙ old) | inr laid ↦ inr (laid.0, same ∙ laid.1, laid.2) ]
      | inr new ↦ inr (new.0, new.1, (n, new.2, new.3))
    ]

-- the rooms of the arcs so far and of one more
pub rooms_more : (points : List ℕ) (arcs : List Constraint) (n : ℕ) (room after : ℕ → ℕ → Bool)
    → ((m p q : ℕ) → m < n → p < length points → q < length points → from_at arcs m ≡ point_at points p → to_at arcs m ≡ point_at points q → room p q ≡ true)
    → ((p q : ℕ) → room p q ≡ true → after p q ≡ true)
    → ((p q : ℕ) → p < length points → q < length points → from_at arcs n ≡ point_at points p → to_at arcs n ≡ point_at points q → after p q ≡ true)
    → (m p q : ℕ) → m < n + 1 → p < length points → q < length points → from_at arcs m ≡ point_at points p → to_at arcs m ≡ point_at points q
    → after p q ≡ true
rooms_more points arcs n room after was kept now m p q lt lp lq starts ends =
    elim (cases_lt m n) [
      | inl low ↦ kept p q (was m p q low lp lq starts ends)
      | inr high ↦ (let e : m ≡ n = omega arith in now p q lp lq (subst (λ k. from_at arcs k ≡ point_at points p) e starts)
          (subst (λ k. to_at arcs k ≡ point_at points q) e ends))
    ]

-- the joined pairs of the arcs so far and of one more
pub joined_more : (points : List ℕ) (arcs : List Constraint) (n : ℕ) (first f g : ℕ → ℕ → Bool) → n < length arcs
    → ((p q : ℕ) → p < length points → q < length points
    → f p q ≡ (first p q || (not (p == q) && has_edge (take n arcs) (point_at points p) (point_at points q))))
    → ((p q : ℕ) → p < length points → q < length points
    → g p q ≡ (f p q || (not (p == q) && has_edge (arc_at arcs n ∷ []) (point_at points p) (point_at points q))))
    → (p q : ℕ) → p < length points → q < length points
    → g p q ≡ (first p q || (not (p == q) && has_edge (take (n + 1) arcs) (point_at points p) (point_at points q)))
joined_more points arcs n first f g low was now p q lp lq =
    let x = point_at points p in
    let y = point_at points q in
    now p q lp lq ∙ ap (λ b. b || (not (p == q) && has_edge (arc_at arcs n ∷ []) x y)) (was p q lp lq)
    ∙ both (first p q) (not (p == q)) (has_edge (take n arcs) x y) (has_edge (arc_at arcs n ∷ []) x y)
    ∙ ap (λ b. first p q || (not (p == q) && b)) (sym (edge_more arcs n x y low)) where
      both : (a b c d : Bool) → ((a || (b && c)) || (b && d)) ≡ (a || (b && (c || d)))
      both true b c d = refl
      both false true c d = refl
      both false false c d = refl

-- the weights of the arcs so far and of one more
pub weights_more : (points : List ℕ) (arcs : List Constraint) (n : ℕ) (first at after : ℕ → ℕ → Option Cell) → n < length arcs
    → ((p q : ℕ) → p < length points → q < length points
    → weight_at (at p q) ≡ lesser (weight_at (first p q)) (bound_of (take n arcs) (point_at points p) (point_at points q)))
    → ((p q : ℕ) → p < length points → q < length points
    → weight_at (after p q) ≡ lesser (weight_at (at p q)) (bound_of (arc_at arcs n ∷ []) (point_at points p) (point_at points q)))
    → (p q : ℕ) → p < length points → q < length points
    → weight_at (after p q) ≡ lesser (weight_at (first p q)) (bound_of (take (n + 1) arcs) (point_at points p) (point_at points q))
weights_more points arcs n first at after low was now p q lp lq =
    let x = point_at points p in
    let y = point_at points q in
    now p q lp lq ∙ ap (λ o. lesser o (bound_of (arc_at arcs n ∷ []) x y)) (was p q lp lq) ∙ bound_more arcs n (weight_at (first p q)) x y low

-- the arcs that an agent tells join places
pub agent_joining : (face : InterfaceView) → IsInterface face → (told : Published) → IsFitting face told.agent told.entries
    → AreJoining (places_in face) (agent_arcs face told)
agent_joining face known told fits =
    let ends = λ (n : ℕ) (lt : n < length (agent_arcs face told)).
    agent_arc face known told fits (arc_at (agent_arcs face told) n) (Contains-get_or (agent_arcs face told) n no_arc lt) in
    record {
      starts = λ n lt. place_listed face known (from_at (agent_arcs face told) n)
          (place_of_end face known told.agent (from_at (agent_arcs face told) n) (ends n lt).0);
      ends = λ n lt. place_listed face known (to_at (agent_arcs face told) n)
          (place_of_end face known told.agent (to_at (agent_arcs face told) n) (ends n lt).1);
      apart = λ n lt. (ends n lt).2;
    }

-- and so do the external arcs
pub externals_joining : (face : InterfaceView) → IsInterface face → AreJoining (places_in face) face.externals
externals_joining face known =
    let there = λ (n : ℕ) (lt : n < length face.externals). Contains-get_or face.externals n no_arc lt in
    record {
      starts = λ n lt. place_listed face known (from_at face.externals n) (inr (known.starts (arc_at face.externals n) (there n lt)));
      ends = λ n lt. place_listed face known (to_at face.externals n) (inr (known.ends (arc_at face.externals n) (there n lt)));
      apart = λ n lt. known.different (arc_at face.externals n) (there n lt);
    }
