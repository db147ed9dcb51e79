-- Legal entries keep what holds of a state.
use Rattle.std.proofs.Common.{zero, suc, ◌≡◌, ◌≢◌, ℕ, ◌<◌, List, [], ◌∷◌, Bool, true, false, ◌||◌, ◌&&◌, not, Option, Some, None, ap, sym, ◌∙◌, refl, arith}
use Rattle.std.proofs.Common.{inl, inr, ◌⊎◌, length, subst}
use Rattle.std.specs.Prelude.{ℤ, pos, Contains, ◌==◌, is_some, if◌then◌else◌}
use Rattle.std.proofs.lemmas.Bool.{and_parts, or_cases}
use Rattle.std.proofs.Math.Bool.{or-true}
use Rattle.std.proofs.lemmas.Bool.Decides.{nat_tests}
use Rattle.std.proofs.lemmas.Int.{ints}
use Rattle.stn_model.specs.declared.ids.Constraint.{Constraint}
use Rattle.stn_model.specs.Net.{horizon_pair}
use Rattle.stn_model.specs.ArcWalks.{IsInner, IsInnerLeast, NoNegative}
use Rattle.stn_walk.specs.Eliminations.{is_in, cell_of, before_both, IsNotBelow}
use Rattle.stn_walk.proofs.Eliminations.{cell-least, stays, before-whole, before-in}
use Rattle.stn_walk.proofs.NewArcs.{IsOutside, publishes_nonnegative}
use Rattle.stn_walk.proofs.Visits.{inner_in}
use Rattle.stn_walk.proofs.Joins.{path-from_joined}
use Rattle.stn_model.specs.Joined.{IsPath}
use Rattle.stn_walk.proofs.Exits.{every}
use Rattle.meeting_arcs.proofs.WholeOrders.{whole_none_below}
use Rattle.shared_graph.specs.declared.events.SharedCycle.{SharedCycle}
use Rattle.shared_graph.specs.declared.events.By.{By}
use Rattle.shared_graph.specs.declared.events.Event.{Event}
use Rattle.shared_graph.specs.declared.events.Entry.{Entry}
use Rattle.shared_graph.specs.declared.events.Event.TheVariants.{Publish, Eliminate, Stop, Revisit, Assign, Widen}
use Rattle.shared_graph.specs.Interfaces.{InterfaceView, Summary, IsInterface, IsEnd, IsFitting, points_of, is_listed}
use Rattle.shared_graph.specs.States.{point_id, State, Published, Assigned, start, is_published, is_revisited, agent_arcs, meeting_of}
use Rattle.shared_graph.specs.Weights.{forward, is_joined, is_later, final, final_weight, least_negative, is_negative, sums_below}
use Rattle.shared_graph.specs.Refusals.{refusal, cause_of}
use Rattle.shared_graph.specs.Replays.{after, summary_of, replay}
use Rattle.shared_graph.specs.Together.{IsWhole, IsOwned, IsStop, IsRevisit, HasFinal, HoldsTogether}
use Rattle.shared_graph.proofs.states.Passing.{passing_none, listed_in, no_stop, publish_passes, eliminate_passes, stop_passes, revisit_passes}
use Rattle.shared_graph.proofs.states.ArcLists.{single_none_below, least_all}
use Rattle.shared_graph.proofs.states.Meetings.{IsPlace, agent_arc, meeting_ends, listed_of, not_z, pair_meets}

pub false_of : (b : Bool) → (b ≡ true → ⊥) → b ≡ false
false_of true h = absurd (h refl)
false_of false h = refl

not_below : (x y : Option ℤ) → sums_below y x ≡ false → IsNotBelow x y
not_below None y h = tt
not_below (Some a) None h = tt
not_below (Some a) (Some b) h = grind (arith, ints)

-- the facts from which the rest of HoldsTogether follows
pub record IsSound (face : InterfaceView) (s : State) : Type 0 where
  pub none_below : NoNegative (is_in s.order) (meeting_of face s)
  pub owned : (k : ℕ) → is_in s.order k ≡ true → IsOwned face s k
  pub revisits : (k : ℕ) → is_in s.revisited k ≡ true → IsRevisit face s k
  pub stops : (t : SharedCycle) → s.stop ≡ Some t → IsStop face s t
  pub fitting : (p : Published) → Contains s.published p → IsFitting face p.agent p.entries

-- what an agent publishes
abbrev pub made : List Summary → ℕ → Published
made summaries a = record { agent = a; entries = summary_of summaries a }

module _ (face : InterfaceView) (known : IsInterface face) where
  module _ (s : State) (sound : IsSound face s) where
    abbrev arcs : List Constraint
    arcs = meeting_of face s

    pub cells_hold : (i j : ℕ) → IsInnerLeast (is_in (before_both s.order i j)) (meeting_of face s) i j (forward face s i j)
    cells_hold i j =
        cell-least (meeting_of face s) (before_both s.order i j)
        (λ p w h. sound.none_below p w (inner_in (is_in (before_both s.order i j)) (is_in s.order) (meeting_of face s) p p w (before-in s.order i j) h)) i j

    -- all meeting arcs begin at z or at points of a whole order
    pub starts_whole : IsWhole face s → (a : Constraint) → Contains (meeting_of face s) a → is_in (0 ∷ s.order) a.from.0 ≡ true
    starts_whole whole a h = go a.from.0 (meeting_ends face known s.published sound.fitting a h).0 where
      go : (p : ℕ) → IsPlace face p → is_in (0 ∷ s.order) p ≡ true
      go p (inl z) = (let same : (p == 0) ≡ true = grind (arith, nat_tests) in ap (λ b. is_in s.order p || b) same ∙ or-true (is_in s.order p))
      go p (inr listed) = ap (λ b. b || (p == 0)) (whole p listed)

    -- no closed walk is negative once the order is whole
    pub whole_light : IsWhole face s → NoNegative every (meeting_of face s)
    whole_light whole = whole_none_below (meeting_of face s) s.order 0 (starts_whole whole) sound.none_below

    -- and the least weights of all walks are cells
    pub whole_least : IsWhole face s → (i j : ℕ) → IsInnerLeast every (meeting_of face s) i j (final_weight face s i j)
    whole_least whole i j =
        let light = whole_light whole in
        least_all (is_in (0 ∷ s.order)) (meeting_of face s) i j (final_weight face s i j) (starts_whole whole)
        (cell-least (meeting_of face s) (0 ∷ s.order) (λ p w h. light p w (inner_in (is_in (0 ∷ s.order)) every (meeting_of face s) p p w (λ q t. refl) h)) i j)

    -- the horizon arcs of a point of a whole order
    pub whole_pair : IsWhole face s → (k : ℕ) (a : Constraint) → is_listed face k ≡ true → Contains (horizon_pair face.horizon k) a
        → Contains (meeting_of face s) a
    whole_pair whole k a listed h =
        let o = sound.owned k (whole k listed) in
        pair_meets face o.0 k s.published a o.1 (listed_in face.points k listed) o.2 h

    -- each two places are joined by a walk
    walk_there : IsWhole face s → (i j : ℕ) → IsPlace face i → IsPlace face j → i ≢ j → (w : List Constraint) × IsInner every (meeting_of face s) i j w
    walk_there whole i j (inl a) (inl b) apart = absurd (apart (a ∙ sym b))
    walk_there whole i j (inl a) (inr listed) apart = (
      record { from = record { 0 = 0 }; to = record { 0 = j }; bound = face.horizon } ∷ [],
      (whole_pair whole j _ listed (0, omega arith, refl), sym a, refl),
    )
    walk_there whole i j (inr listed) (inl b) apart = (
      record { from = record { 0 = i }; to = record { 0 = 0 }; bound = pos 0 } ∷ [],
      (whole_pair whole i _ listed (1, omega arith, refl), refl, sym b),
    )
    walk_there whole i j (inr one) (inr two) apart = (
      record { from = record { 0 = i }; to = record { 0 = 0 }; bound = pos 0 } ∷ record {
        from = record { 0 = 0 };
        to = record { 0 = j };
        bound =
            face.horizon;
      } ∷ [],
      (whole_pair whole i _ one (1, omega arith, refl), refl, (refl, whole_pair whole j _ two (0, omega arith, refl), refl, refl)),
    )

    -- the least weight of all walks between two places is there
    pub whole_there : IsWhole face s → (i j : ℕ) → IsPlace face i → IsPlace face j → i ≢ j
        → (b : ℤ) × (final_weight face s i j ≡ Some b) × IsInnerLeast every (meeting_of face s) i j (Some b)
    whole_there whole i j one two apart =
        let w = walk_there whole i j one two apart in
        go (final_weight face s i j) refl (whole_least whole i j) w.0 w.1 where
          go : (o : Option ℤ) → final_weight face s i j ≡ o → IsInnerLeast every (meeting_of face s) i j o → (w : List Constraint)
              → IsInner every (meeting_of face s) i j w
              → (b : ℤ) × (final_weight face s i j ≡ Some b) × IsInnerLeast every (meeting_of face s) i j (Some b)
          go None is least w h = absurd (least w h)
          go (Some b) is least w h = (b, is, least)

    -- z and the revisited points are places, and where there is a revisited point but z, the order is whole
    pub revisited_place : (p : ℕ) → is_revisited s p ≡ true → IsPlace face p
    revisited_place p h = elim (or_cases (is_in s.revisited p) (p == 0) h) [
      | inl done ↦ inr (sound.revisits p done).listed
      | inr z ↦ inl (grind (arith, nat_tests))
    ]

    pub revisited_whole : (i j : ℕ) → i ≢ j → is_revisited s i ≡ true → is_revisited s j ≡ true → IsWhole face s
    revisited_whole i j apart one two = elim (or_cases (is_in s.revisited i) (i == 0) one) [
      | inl done ↦ (sound.revisits i done).whole
      | inr z ↦ elim (or_cases (is_in s.revisited j) (j == 0) two) [
        | inl done ↦ (sound.revisits j done).whole
        | inr also ↦ absurd (let a : i ≡ 0 = grind (arith, nat_tests) in let b : j ≡ 0 = grind (arith, nat_tests) in apart (a ∙ sym b))
      ]
    ]

    pub finals_hold : (i j : ℕ) → is_joined face s i j ≡ true → is_revisited s i ≡ true → is_revisited s j ≡ true → HasFinal face s i j
    finals_hold i j joined one two =
        let apart : i ≢ j = (let d = (and_parts (not (i == j)) _ joined).0 in grind (arith, nat_tests)) in
        let there = whole_there (revisited_whole i j apart one two) i j (revisited_place i one) (revisited_place j two) apart in
        let is : final face s i j ≡ final_weight face s i j = (λ t. if joined t && one t && two t then final_weight face s i j else None) in
        (there.0, is ∙ there.1, there.2)

    pub together : HoldsTogether face s
    together = record {
      cells = cells_hold;
      none_below = sound.none_below;
      owned = sound.owned;
      revisits = sound.revisits;
      finals = finals_hold;
      stops =
          sound.stops;
      fitting = sound.fitting;
    }

    -- a point that is joined is a place
    path_end : (i j : ℕ) (ps : List ℕ) → IsPath (meeting_of face s) i j ps → IsPlace face j
    path_end i j [] h = edge h.0 h.1 h.2 where
      edge : (a : Constraint) → Contains (meeting_of face s) a → ((a.from.0 ≡ i) × (a.to.0 ≡ j)) ⊎ ((a.from.0 ≡ j) × (a.to.0 ≡ i)) → IsPlace face j
      edge a here (inl e) = subst (IsPlace face) e.1 (meeting_ends face known s.published sound.fitting a here).1
      edge a here (inr e) = subst (IsPlace face) e.0 (meeting_ends face known s.published sound.fitting a here).0
    path_end i j (p ∷ ps) h = path_end p j ps h.1

    pub joined_place : (i j : ℕ) → is_joined face s i j ≡ true → IsPlace face j
    joined_place i j joined =
        let path = path-from_joined (meeting_of face s) (before_both s.order i j) i j (and_parts (not (i == j)) _ joined).1 in
        path_end i j path.0 path.1

    pub later_place : (k p : ℕ) → is_later face s k p ≡ true → IsPlace face p
    later_place k p later = joined_place k p (and_parts (is_joined face s k p) _ later).0

    pub in_places : (p : ℕ) → IsPlace face p → is_in (0 ∷ points_of face) p ≡ true
    in_places p (inl z) = (let same : (p == 0) ≡ true = grind (arith, nat_tests) in ap (λ b. is_in (points_of face) p || b) same
        ∙ or-true (is_in (points_of face) p))
    in_places p (inr listed) = ap (λ b. b || (p == 0)) (listed_in face.points p listed)

    -- no walk begins at a point that is no place
    none_starts : (p j : ℕ) (w : List Constraint) (inner : ℕ → Bool) → (IsPlace face p → ⊥) → IsInner inner (meeting_of face s) p j w → ⊥
    none_starts p j [] inner out h = h
    none_starts p j (a ∷ w) inner out h = out (subst (IsPlace face) h.1 (meeting_ends face known s.published sound.fitting a h.0).0)

    none_there : (p j : ℕ) (inner : ℕ → Bool) (x y : Option ℤ) → (IsPlace face p → ⊥) → IsInnerLeast inner (meeting_of face s) p j x → IsNotBelow x y
    none_there p j inner None y out least = tt
    none_there p j inner (Some b) y out least = absurd (none_starts p j least.0.0 inner out least.0.1)

    -- no other point outside has two cells with k that sum below 0
    sums_hold : (k : ℕ) → is_in s.order k ≡ false → least_negative face s k ≡ None → (p : ℕ) → is_in s.order p ≡ false → p ≢ k
        → IsNotBelow (cell_of (meeting_of face s) s.order p k) (cell_of (meeting_of face s) s.order k p)
    sums_hold k fresh clear p out apart =
        elim (is_in (0 ∷ points_of face) p) as (λ b. is_in (0 ∷ points_of face) p ≡ b
        → IsNotBelow (cell_of (meeting_of face s) s.order p k) (cell_of (meeting_of face s) s.order k p)) [
          | true ↦ λ t.
              (let bad : is_negative face s k p ≡ false = passing_none (is_negative face s k) (0 ∷ points_of face) clear p t in
              let differ : (p == k) ≡ false = grind (arith, nat_tests) in
              let there : forward face s k p ≡ cell_of (meeting_of face s) s.order k p =
              ap (λ es. cell_of (meeting_of face s) es k p) (before-whole s.order k p fresh out) in
              let back : forward face s p k ≡ cell_of (meeting_of face s) s.order p k =
              ap (λ es. cell_of (meeting_of face s) es p k) (before-whole s.order p k out fresh) in
              let sum : sums_below (cell_of (meeting_of face s) s.order k p) (cell_of (meeting_of face s) s.order p k) ≡ false =
              sym (λ u. not (out u) && not (differ u) && sums_below (there u) (back u)) ∙ bad in
              not_below (cell_of (meeting_of face s) s.order p k) (cell_of (meeting_of face s) s.order k p) sum)
          | false ↦ λ t. none_there p k (is_in s.order) (cell_of (meeting_of face s) s.order p k) (cell_of (meeting_of face s) s.order k p) (off p t)
              (cell-least (meeting_of face s) s.order sound.none_below p k)
        ] refl where
          off : (p : ℕ) → is_in (0 ∷ points_of face) p ≡ false → IsPlace face p → ⊥
          off p t place = (let e = in_places p place in absurd (cc))

    -- the entries, one by one
    eliminated : (summaries : List Summary) (k : ℕ) → s.stop ≡ None → IsOwned face s k → is_in s.order k ≡ false → least_negative face s k ≡ None
        → IsSound face (after face summaries s (Eliminate (point_id k)))
    eliminated summaries k going own fresh clear = record {
      none_below = stays (meeting_of face s) s.order k sound.none_below (sums_hold k fresh clear);
      owned = λ p h. elim (or_cases (is_in s.order p) (p == k) h) [
        | inl old ↦ sound.owned p old
        | inr new ↦ (let e : k ≡ p = grind (arith, nat_tests) in subst (IsOwned face s) e own)
      ];
      revisits = λ p h. absurd (let w = (sound.revisits p h).whole k (listed_of face k own.0 own.1) in cc);
      stops = λ t h. absurd (cc);
      fitting = sound.fitting;
    }

    stopped : (summaries : List Summary) (k i : ℕ) → IsOwned face s k → is_in s.order k ≡ false → least_negative face s k ≡ Some i
        → IsSound face (after face summaries s (Stop (point_id k) (point_id i)))
    stopped summaries k i own fresh least = record {
      none_below = sound.none_below;
      owned = sound.owned;
      revisits = λ p h. absurd (none p h);
      stops = λ t h.
          let e : record { point = point_id k; other = point_id i } ≡ t = some_is (record { point = point_id k; other = point_id i }) t h in
          subst (IsStop face (after face summaries s (Stop (point_id k) (point_id i)))) e
          (record { owned = own; outside = fresh; least = least; unvisited = λ p. false_of (is_in s.revisited p) (none p) });
      fitting = sound.fitting;
    } where
      none : (p : ℕ) → is_in s.revisited p ≡ true → ⊥
      none p h = (let w = (sound.revisits p h).whole k (listed_of face k own.0 own.1) in absurd (cc))

      some_is : (x y : SharedCycle) → Some x ≡ Some y → x ≡ y
      some_is x y h = cc

    revisited : (summaries : List Summary) (k : ℕ) → s.stop ≡ None → IsRevisit face s k → IsSound face (after face summaries s (Revisit (point_id k)))
    revisited summaries k going ready = record {
      none_below = sound.none_below;
      owned = sound.owned;
      revisits = λ p h. elim (or_cases (is_in s.revisited p) (p == k) h) [
        | inl old ↦ more p (sound.revisits p old)
        | inr new ↦ (let e : k ≡ p = grind (arith, nat_tests) in more p (subst (IsRevisit face s) e ready))
      ];
      stops = λ t h. absurd (cc);
      fitting = sound.fitting;
    } where
      wider : (a b c : Bool) → (a || b) ≡ true → ((a || c) || b) ≡ true
      wider true b c h = refl
      wider false b c h = ap (λ x. c || x) h ∙ or-true c

      more : (p : ℕ) → IsRevisit face s p → IsRevisit face (after face summaries s (Revisit (point_id k))) p
      more p r = record {
        listed = r.listed;
        all_published = r.all_published;
        whole = r.whole;
        later =
            λ q h. wider (is_in s.revisited q) (q == 0) (q == k) (r.later q h);
      }

    -- new arcs have no end in the order
    new_end : (a : ℕ) → is_published s a ≡ false → (p : ℕ) → IsEnd face a p → is_in s.order p ≡ false
    new_end a fresh p (inl z) = false_of (is_in s.order p) (λ h. let o = sound.owned p h in not_z face known p o.0 o.1 z)
    new_end a fresh p (inr owner) = false_of (is_in s.order p) (λ h. let o = sound.owned p h in let is = o.1 in let yes = o.2 in let e : o.0 ≡ a = cc in
        let f : is_published s a ≡ true = subst (λ x. is_published s x ≡ true) e yes in absurd (cc))

    pub new_outside : (told : Published) → IsFitting face told.agent told.entries → is_published s told.agent ≡ false
        → IsOutside (is_in s.order) (agent_arcs face told)
    new_outside told fits fresh x h = (let ends = agent_arc face known told fits x h in
        (new_end told.agent fresh x.from.0 ends.0, new_end told.agent fresh x.to.0 ends.1))

    pub published : (told : Published) → IsFitting face told.agent told.entries → s.stop ≡ None → told.agent < length face.leans
        → is_published s told.agent ≡ false → IsSound face (record s { published = told ∷ s.published })
    published told fits going low fresh = record {
      none_below = publishes_nonnegative (is_in s.order) (meeting_of face s) (agent_arcs face told) (new_outside told fits fresh)
          (λ x h. (agent_arc face known told fits x h).2) sound.none_below;
      owned = λ p h. (let o = sound.owned p h in (o.0, o.1, ap (λ b. b || (o.0 == told.agent)) o.2));
      revisits = λ p h. absurd (let w = (sound.revisits p h).all_published told.agent low in cc);
      stops = λ t h. absurd (cc);
      fitting = fit;
    } where
      fit : (p : Published) → Contains (told ∷ s.published) p → IsFitting face p.agent p.entries
      fit p (zero, lt, is) = subst (λ (q : Published). IsFitting face q.agent q.entries) is fits
      fit p (suc n, lt, is) = sound.fitting p (n, omega arith, is)

    -- times and ends change none of this
    still_sound : (times : List Assigned) → IsSound face (record s { assigned = times })
    still_sound times = record {
      none_below = sound.none_below;
      owned = sound.owned;
      revisits = λ p h.
          let r = sound.revisits p h in
          record { listed = r.listed; all_published = r.all_published; whole = r.whole; later = r.later };
      stops = λ t h.
          let stop = sound.stops t h in
          record { owned = stop.owned; outside = stop.outside; least = stop.least; unvisited = stop.unvisited };
      fitting = sound.fitting;
    }

    -- a legal entry keeps the state sound
    pub keeps : (summaries : List Summary) → ((a : ℕ) → IsFitting face a (summary_of summaries a)) → (by : By) (event : Event) → s.stop ≡ None
        → cause_of face s by event ≡ None → IsSound face (after face summaries s event)
    keeps summaries fits by (Publish a) going h = (let p = publish_passes face s by a.0 h in published (made summaries a.0) (fits a.0) going p.0 p.1)
    keeps summaries fits by (Eliminate k) going h = (let p = eliminate_passes face s by k.0 h in eliminated summaries k.0 going p.0 p.1 p.2)
    keeps summaries fits by (Stop k i) going h = (let p = stop_passes face s by k.0 i.0 h in stopped summaries k.0 i.0 p.0 p.1 p.2)
    keeps summaries fits by (Assign k value) going h = still_sound (after face summaries s (Assign k value)).assigned
    keeps summaries fits by (Widen k end) going h = still_sound (after face summaries s (Widen k end)).assigned
    keeps summaries fits by (Revisit k) going h =
        let p = revisit_passes face s by k.0 h in
        revisited summaries k.0 going (record {
          listed = p.0;
          all_published = p.1;
          whole = p.2;
          later =
              λ q later. p.3 q (in_places q (later_place k.0 q later)) later;
        })

  pub start_sound : IsSound face start
  start_sound = record {
    none_below = single_none_below (is_in []) face.externals (λ p. refl) known.different;
    owned = λ k h. absurd (cc);
    revisits = λ k h. absurd (cc);
    stops = λ t h. absurd (cc);
    fitting = λ p h. absurd (let low : h.0 < 0 = h.1 in omega arith);
  }

  pub sound_of : (s : State) → HoldsTogether face s → IsSound face s
  sound_of s h = record { none_below = h.none_below; owned = h.owned; revisits = h.revisits; stops = h.stops; fitting = h.fitting }

  pub entry_keeps : (summaries : List Summary) → ((a : ℕ) → IsFitting face a (summary_of summaries a)) → (s : State) (e : Entry) → IsSound face s
      → refusal face s e ≡ None → IsSound face (after face summaries s e.event)
  entry_keeps summaries fits s e sound h = (let p = no_stop face s e h in keeps s sound summaries fits e.by e.event p.0 p.1)

  pub replay_sound : (summaries : List Summary) → ((a : ℕ) → IsFitting face a (summary_of summaries a)) → (es : List Entry) (s last : State) → IsSound face s
      → replay face summaries s es ≡ Some last → IsSound face last
  replay_sound summaries fits [] s last sound h = (let e : s ≡ last = cc in subst (IsSound face) e sound)
  replay_sound summaries fits (e ∷ es) s last sound h =
      elim (refusal face s e) as (λ o. refusal face s e ≡ o → (if is_some o then None else replay face summaries (after face summaries s e.event) es)
      ≡ Some last → IsSound face last) [
        | None ↦ λ is g. replay_sound summaries fits es (after face summaries s e.event) last (entry_keeps summaries fits s e sound is) g
        | Some c ↦ λ is g. absurd (cc)
      ] refl h
