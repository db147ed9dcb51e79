-- A graph after an agent publishes: no_final, next_together, some_left, published_graph, may_publish.
use Rattle.std.proofs.Common.{suc, ◌≡◌, ◌≢◌, ℕ, ◌<◌, List, ◌∷◌, Bool, true, false, ◌&&◌, ◌||◌, not, Option, Some, None, ap, sym, ◌∙◌, refl}
use Rattle.std.proofs.Common.{arith, length, inl, inr, ◌⊎◌, subst}
use Rattle.std.specs.Prelude.{◌==◌, if◌then◌else◌, IfSome, Contains}
use Rattle.std.specs.List.{AllPairs}
use Rattle.std.proofs.Math.Bool.{and-false}
use Rattle.std.proofs.lemmas.Bool.Decides.{nat_tests}
use Rattle.std.proofs.lemmas.List.Elements.{Contains-get_or}
use Rattle.stn_model.specs.declared.ids.AgentId.{AgentId}
use Rattle.stn_model.specs.declared.ids.Constraint.{Constraint}
use Rattle.stn_model.specs.Arcs.{no_arc, arc_at}
use Rattle.stn_walk.specs.Eliminations.{is_in, before_both, bound_of, lesser}
use Rattle.stn_walk.specs.Joins.{has_edge, joined_of}
use Rattle.dist_rows.specs.declared.cell.Cell.{Cell}
use Rattle.dist_rows.specs.declared.cell.Via.{Via}
use Rattle.dist_rows.specs.declared.cell.Via.TheVariants.{Given, Published as PublishedBy, Through}
use Rattle.elim_step.specs.declared.joins.Joins.{Joins}
use Rattle.elim_step.specs.JoinedPlaces.{is_joined as are_joined}
use Rattle.elim_step.specs.Eliminated.{point_at, weight_at}
use Rattle.elim_step.specs.Eliminates.{count_below}
use Rattle.elim_step.specs.Origins.{is_leaf, HasOrigins}
use Rattle.elim_step.proofs.OriginFacts.{origins_wider, origins_changed}
use Rattle.shared_graph.specs.declared.events.By.TheVariants.{Joiner}
use Rattle.shared_graph.specs.declared.events.Event.TheVariants.{Publish}
use Rattle.shared_graph.specs.Refusals.{refusal}
use Rattle.shared_graph.specs.Graphs.{Fields, IsGraph, IsMeetingLeaf, IsSumBefore, HasSumsBefore, is_gone, gone_count}
use Rattle.shared_graph.specs.Interfaces.{InterfaceView, Summary, IsFitting}
use Rattle.shared_graph.specs.Publications.{IsLaid, IsOldOrLaid}
use Rattle.shared_graph.specs.States.{State, Published, agent_arcs, is_published, is_revisited, meeting_of}
use Rattle.shared_graph.specs.Together.{HoldsTogether}
use Rattle.shared_graph.specs.Weights.{final, final_weight, is_joined, is_later}
use Rattle.shared_graph.proofs.cells.Steps.{Misses, edge_at, publish_lowers}
use Rattle.shared_graph.proofs.states.Keeps.{IsSound, sound_of, together, new_outside, published}
use Rattle.shared_graph.proofs.states.Passing.{no_stop, publish_passes}
use Rattle.shared_graph.proofs.graphs.Counts.{count_same, count_less, count_some}
use Rattle.shared_graph.proofs.graphs.Laying.{same_test}
use Rattle.shared_graph.proofs.graphs.Standing.{places_rise}
use Rattle.shared_graph.proofs.graphs.Throughs.{nothing_came}

-- where no point is revisited there is no final weight
pub no_final : (face : InterfaceView) (s : State) → ((p : ℕ) → is_in s.revisited p ≡ false) → (i j : ℕ) → final face s i j ≡ None
no_final face s none i j = ap (λ b. if b then final_weight face s i j else None) (by (i == 0) refl (j == 0) refl) where
  by : (a : Bool) → (i == 0) ≡ a → (b : Bool) → (j == 0) ≡ b → (is_joined face s i j && is_revisited s i && is_revisited s j) ≡ false
  by false t b u = (λ k. is_joined face s i j && (none i k || t k) && is_revisited s j) ∙ off (is_joined face s i j) (is_revisited s j) where
    off : (x y : Bool) → (x && false && y) ≡ false
    off true y = refl
    off false y = refl
  by true t false u = (λ k. is_joined face s i j && is_revisited s i && (none j k || u k)) ∙ off (is_joined face s i j) (is_revisited s i) where
    off : (x y : Bool) → (x && y && false) ≡ false
    off true true = refl
    off true false = refl
    off false y = refl
  by true t true u =
      let same : (i == j) ≡ true = grind (arith, nat_tests) in
      off (i == j) (joined_of (meeting_of face s) (before_both s.order i j) i j) (is_revisited s i) (is_revisited s j) same where
        off : (x y z w : Bool) → x ≡ true → (((not x && y) && z) && w) ≡ false
        off true y z w h = refl
        off false y z w h = absurd (cc)

module _ (g : Fields) (h : IsGraph g) (agent : AgentId) (entries : Summary) (fits : IsFitting g.face agent.0 entries) (going : g.state.stop ≡ None)
    (low : agent.0 < length g.face.leans) (fresh : is_published g.state agent.0 ≡ false) where
  abbrev told : Published
  told = record { agent = agent.0; entries = entries }

  abbrev arcs : List Constraint
  arcs = agent_arcs g.face told

  abbrev next : State
  next = record g.state { published = told ∷ g.state.published }

  sound : IsSound g.face g.state
  sound = sound_of g.face h.interface g.state h.together

  pub next_together : HoldsTogether g.face next
  next_together = together g.face h.interface next (published g.face h.interface g.state sound told fits going low fresh)

  none_revisited : (p : ℕ) → is_in g.state.revisited p ≡ false
  none_revisited p = by (is_in g.state.revisited p) refl where
    by : (b : Bool) → is_in g.state.revisited p ≡ b → b ≡ false
    by true t = absurd (let all = (h.together.revisits p t).all_published agent.0 low in cc)
    by false t = refl

  outside : (x : Constraint) → Contains arcs x → (is_in g.state.order x.from.0 ≡ false) × (is_in g.state.order x.to.0 ≡ false)
  outside = new_outside g.face h.interface g.state sound told fits fresh

  misses : (k : ℕ) → is_in g.state.order k ≡ true → Misses arcs k
  misses k gone x there =
      let out = outside x there in (
        λ e. absurd (let f : is_in g.state.order k ≡ false = subst (λ q. is_in g.state.order q ≡ false) e out.0 in cc),
        λ e. absurd (let f : is_in g.state.order k ≡ false = subst (λ q. is_in g.state.order q ≡ false) e out.1 in cc),
      )

  here : (n : ℕ) → n < length arcs → Contains arcs (arc_at arcs n)
  here n lt = Contains-get_or arcs n no_arc lt

  -- what was a leaf is one
  wider : (p q : ℕ) (c : Cell) (v : Via) → IsMeetingLeaf g.face g.state g.points p q c v → IsMeetingLeaf g.face next g.points p q c v
  wider p q c (Given e) w = w
  wider p q c (PublishedBy b) w = (let at = w.1 in (w.0, (suc at.0, omega (arith, at.1), at.2), w.2, w.3))
  wider p q c (Through k) w = w

  -- a cell of a new arc is a leaf
  new_leaf : (p q : ℕ) (c : Cell) → IsLaid g.points arcs (Some agent) p q c → (is_leaf c.via ≡ true) × IsMeetingLeaf g.face next g.points p q c c.via
  new_leaf p q c w =
      let arc = w.1 in
      subst (λ (v : Via). (is_leaf v ≡ true) × IsMeetingLeaf g.face next g.points p q c v) (sym w.2)
      (refl, (told, (0, omega arith, refl), refl, (arc_at arcs w.0, here w.0 arc.within, arc.starts, arc.ends, arc.weighs)))

  module _ (at : ℕ → ℕ → Option Cell) (laid : (p q : ℕ) → IsOldOrLaid g.points arcs (Some agent) p q (g.at p q) (at p q)) where
    -- the cells of eliminated places stay
    stays : (p q m : ℕ) → m < length g.points → is_in g.state.order (point_at g.points m) ≡ true → (at p m ≡ g.at p m) × (at m q ≡ g.at m q)
    stays p q m lm gone = (
      elim (laid p m) [
        | inl same ↦ same
        | inr new ↦ absurd (let arc = new.2.1 in let out = (outside (arc_at arcs new.2.0) (here new.2.0 arc.within)).1 in
            let e : is_in g.state.order (point_at g.points m) ≡ false = subst (λ x. is_in g.state.order x ≡ false) arc.ends out in cc)
      ],
      elim (laid m q) [
        | inl same ↦ same
        | inr new ↦ absurd (let arc = new.2.1 in let out = (outside (arc_at arcs new.2.0) (here new.2.0 arc.within)).0 in
            let e : is_in g.state.order (point_at g.points m) ≡ false = subst (λ x. is_in g.state.order x ≡ false) arc.starts out in cc)
      ],
    )

    old_or_leaf : (p q : ℕ)
        → IfSome (at p q) (λ c. (g.at p q ≡ Some c) ⊎ ((is_leaf c.via ≡ true) × IsMeetingLeaf g.face next g.points p q c c.via))
    old_or_leaf p q = by (laid p q) (at p q) refl where
      by : IsOldOrLaid g.points arcs (Some agent) p q (g.at p q) (at p q) → (o : Option Cell) → at p q ≡ o
          → IfSome o (λ c. (g.at p q ≡ Some c) ⊎ ((is_leaf c.via ≡ true) × IsMeetingLeaf g.face next g.points p q c c.via))
      by w None is = tt
      by (inl same) (Some c) is = inl (sym same ∙ is)
      by (inr new) (Some c) is = (let e : new.0 ≡ c = cc (sym new.1 ∙ is) in
          inr (new_leaf p q c (subst (λ (x : Cell). IsLaid g.points arcs (Some agent) p q x) e new.2)))

    next_origins : HasOrigins (IsMeetingLeaf g.face next g.points) g.points g.state.order at
    next_origins =
        origins_changed (IsMeetingLeaf g.face next g.points) g.points g.state.order g.at at
        (origins_wider (IsMeetingLeaf g.face g.state g.points) (IsMeetingLeaf g.face next g.points) g.points g.state.order g.at wider h.origins)
        stays old_or_leaf

    next_sums : HasSumsBefore g.points g.state.order at
    next_sums p q =
        elim (laid p q) [
          | inl same ↦ subst (λ (o : Option Cell). IfSome o (λ c. IsSumBefore g.points g.state.order p q c.via)) (sym same) (h.sums p q)
          | inr new ↦ subst (λ (o : Option Cell). IfSome o (λ c. IsSumBefore g.points g.state.order p q c.via)) (sym new.1)
              (subst (λ (v : Via). IsSumBefore g.points g.state.order p q v) (sym new.2.2) tt)
        ]

  -- the later neighbours of an eliminated point stay
  later_same : (k m : ℕ) → is_in g.state.order k ≡ true → is_later g.face next k m ≡ is_later g.face g.state k m
  later_same k m gone =
      ap (λ b. b && not (is_in (before_both g.state.order k k) m))
      ((publish_lowers g.face h.interface g.state sound told fits fresh k m).1
      ∙ ap (λ b. is_joined g.face g.state k m || (not (k == m) && b)) (edge_at arcs m k (misses k gone)).1
      ∙ off (is_joined g.face g.state k m) (not (k == m))) where
        off : (x y : Bool) → (x || (y && false)) ≡ x
        off true y = refl
        off false true = refl
        off false false = refl

  -- and a point is joined with the same eliminated points
  gone_same : (k : ℕ) → gone_count g.face next g.points k ≡ gone_count g.face g.state g.points k
  gone_same k =
      count_same (λ m. is_gone g.face next k (point_at g.points m)) (λ m. is_gone g.face g.state k (point_at g.points m)) (length g.points)
      (λ m lm. by (point_at g.points m) (is_in g.state.order (point_at g.points m)) refl) where
        by : (m : ℕ) (b : Bool) → is_in g.state.order m ≡ b → (is_joined g.face next k m && is_in g.state.order m)
            ≡ (is_joined g.face g.state k m && is_in g.state.order m)
        by m true gone =
            ap (λ b. b && is_in g.state.order m)
            ((publish_lowers g.face h.interface g.state sound told fits fresh k m).1
            ∙ ap (λ b. is_joined g.face g.state k m || (not (k == m) && b)) (edge_at arcs k m (misses m gone)).0
            ∙ off (is_joined g.face g.state k m) (not (k == m))) where
              off : (x y : Bool) → (x || (y && false)) ≡ x
              off true y = refl
              off false true = refl
              off false false = refl
        by m false left = rw left (and-false (is_joined g.face next k m) ∙ sym (and-false (is_joined g.face g.state k m)))

  rising : AllPairs (λ p q. p < q) g.points
  rising = subst (λ (xs : List ℕ). AllPairs (λ p q. p < q) xs) (sym h.points) (places_rise g.face h.interface)

  -- one agent less is left
  one_less : (u : ℕ) → g.unpublished ≡ suc u → u ≡ count_below (λ b. not (is_published next b)) (length g.face.leans)
  one_less u less =
      let count = count_less (λ b. not (is_published g.state b)) (λ b. not (is_published next b)) agent.0 (length g.face.leans) low (ap not fresh) off same in
      let was = h.unpublished in
      omega arith where
        off : not (is_published next agent.0) ≡ false
        off = (let e : (agent.0 == agent.0) ≡ true = grind (arith, nat_tests) in
            ap (λ b. not (is_published g.state agent.0 || b)) e ∙ by (is_published g.state agent.0)) where
              by : (b : Bool) → not (b || true) ≡ false
              by true = refl
              by false = refl

        same : (b : ℕ) → b ≢ agent.0 → not (is_published next b) ≡ not (is_published g.state b)
        same b ne = (let e : (b == agent.0) ≡ false = grind (arith, nat_tests) in
            ap (λ x. not (is_published g.state b || x)) e ∙ by (is_published g.state b)) where
              by : (b : Bool) → not (b || false) ≡ not b
              by true = refl
              by false = refl

  -- this one was left
  pub some_left : 0 < g.unpublished
  some_left =
      let some = count_some (λ b. not (is_published g.state b)) agent.0 (length g.face.leans) low (ap not fresh) in
      let was = h.unpublished in
      omega arith

  pub published_graph : (places : ℕ) (at : ℕ → ℕ → Option Cell) (joins : Joins) (u : ℕ) → places ≡ g.places → joins.size ≡ g.joins.size
      → ((p q : ℕ) → p < length g.points → q < length g.points
      → weight_at (at p q) ≡ lesser (weight_at (g.at p q)) (bound_of arcs (point_at g.points p) (point_at g.points q)))
      → ((p q : ℕ) → IsOldOrLaid g.points arcs (Some agent) p q (g.at p q) (at p q))
      → ((p q : ℕ) → p < length g.points → q < length g.points
      → are_joined joins p q ≡ (are_joined g.joins p q || (not (p == q) && has_edge arcs (point_at g.points p) (point_at g.points q))))
      → g.unpublished ≡ suc u
      → IsGraph (record {
        face = g.face;
        state = next;
        points = g.points;
        places = places;
        at = at;
        joins = joins;
        remain = g.remain;
        later = g.later;
        final_places = g.final_places;
        final_at = g.final_at;
        final_room = g.final_room;
        done = g.done;
        unpublished = u;
        untaken = g.untaken;
        unvisited = g.unvisited;
        revisit_room = g.revisit_room;
        gone = g.gone;
      })
  published_graph places at joins u same_places size weights laid joined less =
      let lowers = publish_lowers g.face h.interface g.state sound told fits fresh in
      record {
        interface = h.interface;
        together = next_together;
        points = h.points;
        places = same_places ∙ h.places;
        joins_size = size ∙ h.joins_size;
        cells = record {
          cells = λ i j li lj apart.
              weights i j li lj
              ∙ ap (λ o. lesser o (bound_of arcs (point_at g.points i) (point_at g.points j))) (h.cells.cells i j li lj apart)
              ∙ sym (lowers (point_at g.points i) (point_at g.points j)).0;
          none_below = next_together.none_below;
          remaining = h.cells.remaining;
          len = h.cells.len;
        };
        origins = next_origins at laid;
        sums = next_sums at laid;
        joined = λ p q lp lq.
            joined p q lp lq
            ∙ (λ t. h.joined p q lp lq t || (not (same_test g.points rising p q lp lq t) && has_edge arcs (point_at g.points p) (point_at g.points q)))
            ∙ sym (lowers (point_at g.points p) (point_at g.points q)).1;
        later_len = h.later_len;
        later = λ k lk gone.
            let l = h.later k lk gone in
            record {
              rising = l.rising;
              within = l.within;
              each = λ m lm. l.each m lm ∙ sym (later_same (point_at g.points k) (point_at g.points m) gone);
              room = l.room;
            };
        final_places = h.final_places;
        finals = λ p q lp lq.
            h.finals p q lp lq ∙ no_final g.face g.state none_revisited (point_at g.points p) (point_at g.points q)
            ∙ sym (no_final g.face next none_revisited (point_at g.points p) (point_at g.points q));
        done_len = h.done_len;
        done = h.done;
        unpublished = one_less u less;
        untaken = h.untaken;
        unvisited = h.unvisited;
        revisits_fit = h.revisits_fit;
        throughs = λ p q lp lq.
            nothing_came _ (g.final_at p q)
            (h.finals p q lp lq ∙ no_final g.face g.state none_revisited (point_at g.points p) (point_at g.points q));
        gone = record { len = h.gone.len; each = λ k lk left. h.gone.each k lk left ∙ sym (gone_same (point_at g.points k)) };
      }

-- what it says that an agent may publish
pub may_publish : (face : InterfaceView) (s : State) (agent : AgentId) → refusal face s (record { by = Joiner; event = Publish agent }) ≡ None
    → (s.stop ≡ None) × (agent.0 < length face.leans) × (is_published s agent.0 ≡ false)
may_publish face s agent legal =
    let going = no_stop face s (record { by = Joiner; event = Publish agent }) legal in
    let passes = publish_passes face s Joiner agent.0 going.1 in
    (going.0, passes.0, passes.1)
