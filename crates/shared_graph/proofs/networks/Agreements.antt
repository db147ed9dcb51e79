-- Two lists of entries over one interface and the same summaries agree.
use Rattle.std.proofs.Common.{suc, ◌≡◌, ℕ, ◌<◌, List, [], ◌∷◌, ◌++◌, Bool, true, not, Option, Some, None, ap, sym, ◌∙◌, refl, arith, inl, inr, length, subst}
use Rattle.std.specs.Prelude.{ℤ, Contains, ◌==◌}
use Rattle.std.proofs.lemmas.Bool.{or_cases}
use Rattle.std.proofs.lemmas.Bool.Decides.{nat_tests}
use Rattle.std.proofs.lemmas.Int.{ints}
use Rattle.std.proofs.lemmas.List.Elements.{Contains-append_cases, Contains-append_left, Contains-append_right}
use Rattle.stn_model.specs.declared.ids.Constraint.{Constraint}
use Rattle.stn_model.specs.ArcWalks.{IsInner, IsInnerLeast}
use Rattle.stn_walk.specs.Eliminations.{is_in}
use Rattle.stn_walk.proofs.ArcWalks.{arcs_weight-append, GoesOn-wider}
use Rattle.stn_walk.proofs.Visits.{inner_joined, least_unique}
use Rattle.stn_walk.proofs.Finals.{inner_every}
use Rattle.stn_walk.proofs.Exits.{every}
use Rattle.shared_graph.specs.declared.events.SharedCycle.{SharedCycle}
use Rattle.shared_graph.specs.declared.events.Entry.{Entry}
use Rattle.shared_graph.specs.Interfaces.{InterfaceView, Summary, IsInterface, IsFitting, points_of}
use Rattle.shared_graph.specs.States.{State, Published, start, published_in, agent_arcs, arcs_after, meeting_of}
use Rattle.shared_graph.specs.Weights.{forward, final_weight, is_negative, sums_below}
use Rattle.shared_graph.specs.Replays.{summary_of, replay}
use Rattle.shared_graph.specs.Together.{IsAllPublished, IsWhole}
use Rattle.shared_graph.proofs.states.Passing.{passing_some}
use Rattle.shared_graph.proofs.states.Listed.{IsListed, AreListed, listed_replay, start_listed}
use Rattle.shared_graph.proofs.states.Keeps.{IsSound, start_sound, replay_sound, cells_hold, whole_light, whole_least}
use Rattle.shared_graph.proofs.networks.Verdicts.{below_there, three_true}

inner_over : (inner : ℕ → Bool) (arcs more : List Constraint) → ((a : Constraint) → Contains arcs a → Contains more a) → (i j : ℕ) (w : List Constraint)
    → IsInner inner arcs i j w → IsInner inner more i j w
inner_over inner arcs more up i j [] h = h
inner_over inner arcs more up i j (a ∷ w) h = (up a h.0, h.1, GoesOn-wider inner arcs more up a.to.0 j w h.2)

-- lists with the same arcs have the same least weights
least_over_both : (inner : ℕ → Bool) (arcs more : List Constraint) → ((a : Constraint) → Contains arcs a → Contains more a)
    → ((a : Constraint) → Contains more a → Contains arcs a)
    → (i j : ℕ) (o : Option ℤ) → IsInnerLeast inner arcs i j o → IsInnerLeast inner more i j o
least_over_both inner arcs more up down i j None least = λ w h. least w (inner_over inner more arcs down i j w h)
least_over_both inner arcs more up down i j (Some b) least = (
  (least.0.0, inner_over inner arcs more up i j least.0.0 least.0.1, least.0.2),
  λ w h. least.1 w (inner_over inner more arcs down i j w h),
)

module _ (face : InterfaceView) (known : IsInterface face) (summaries : List Summary) (fits : (a : ℕ) → IsFitting face a (summary_of summaries a)) where
  -- what a published agent publishes is there
  agent_there : (qs : List Published) → AreListed face summaries qs → (p : Published) → IsListed face summaries p → published_in qs p.agent ≡ true
      → (a : Constraint) → Contains (agent_arcs face p) a → Contains (arcs_after face qs) a
  agent_there [] listed p own done a h = absurd (cc)
  agent_there (q ∷ qs) listed p own done a h =
      elim (or_cases (published_in qs p.agent) (p.agent == q.agent) done) [
        | inl old ↦ Contains-append_left (arcs_after face qs) (agent_arcs face q) a
            (agent_there qs (λ r there. listed r (suc there.0, omega (arith, there.1), there.2)) p own old a h)
        | inr new ↦
            (let e : p.agent ≡ q.agent = grind (arith, nat_tests) in
            let entries : p.entries ≡ q.entries = own.1 ∙ ap (summary_of summaries) e ∙ sym (listed q (0, omega arith, refl)).1 in
            let same : p ≡ q = (λ t. record { agent = e t; entries = entries t }) in
            Contains-append_right (arcs_after face qs) (agent_arcs face q) a (subst (λ (r : Published). Contains (agent_arcs face r) a) same h))
      ]

  externals_there : (qs : List Published) (a : Constraint) → Contains face.externals a → Contains (arcs_after face qs) a
  externals_there [] a h = h
  externals_there (q ∷ qs) a h = Contains-append_left (arcs_after face qs) (agent_arcs face q) a (externals_there qs a h)

  -- once all agents are published, all meeting arcs of any state are there
  arcs_there : (ps qs : List Published) → AreListed face summaries ps → AreListed face summaries qs
      → ((a : ℕ) → a < length face.leans → published_in qs a ≡ true)
      → (a : Constraint) → Contains (arcs_after face ps) a → Contains (arcs_after face qs) a
  arcs_there [] qs listed other all a h = externals_there qs a h
  arcs_there (p ∷ ps) qs listed other all a h =
      elim (Contains-append_cases (arcs_after face ps) (agent_arcs face p) a h) [
        | inl old ↦ arcs_there ps qs (λ r there. listed r (suc there.0, omega (arith, there.1), there.2)) other all a old
        | inr new ↦ (let own = listed p (0, omega arith, refl) in agent_there qs other p own (all p.agent own.0) a new)
      ]

  module _ (es fs : List Entry) (s t : State) (is : replay face summaries start es ≡ Some s) (at : replay face summaries start fs ≡ Some t) where
    sound_s : IsSound face s
    sound_s = replay_sound face known summaries fits es start s (start_sound face known) is

    sound_t : IsSound face t
    sound_t = replay_sound face known summaries fits fs start t (start_sound face known) at

    listed_s : AreListed face summaries s.published
    listed_s = listed_replay face summaries es start s (start_listed face summaries) is

    listed_t : AreListed face summaries t.published
    listed_t = listed_replay face summaries fs start t (start_listed face summaries) at

    -- a stop shows a negative closed walk, which would be one of the whole order's arcs
    stop_negative : IsAllPublished face t → IsWhole face t → (x : SharedCycle) → s.stop ≡ Some x → ⊥
    stop_negative all whole x stopped =
        let stop = sound_s.stops x stopped in
        let k = x.point.0 in
        let p = x.other.0 in
        let bad : is_negative face s k p ≡ true = passing_some (is_negative face s k) (0 ∷ points_of face) p stop.least in
        let parts = three_true (not (is_in s.order p)) (not (p == k)) (sums_below (forward face s k p) (forward face s p k)) bad in
        let cells = below_there (forward face s k p) (forward face s p k) parts.2 in
        let there = subst (IsInnerLeast _ (meeting_of face s) k p) cells.2 (cells_hold face known s sound_s k p) in
        let back = subst (IsInnerLeast _ (meeting_of face s) p k) cells.3 (cells_hold face known s sound_s p k) in
        let closed = inner_joined every (meeting_of face s) k p k there.0.0 back.0.0 refl (inner_every _ (meeting_of face s) k p there.0.0 there.0.1)
        (inner_every _ (meeting_of face s) p k back.0.0 back.0.1) in
        let light = whole_light face known t sound_t whole k (there.0.0 ++ back.0.0)
        (inner_over every (meeting_of face s) (meeting_of face t) (arcs_there s.published t.published listed_s listed_t all) k k
        (there.0.0 ++ back.0.0) closed) in
        let sum = arcs_weight-append there.0.0 back.0.0 in
        let one = there.0.2 in
        let two = back.0.2 in
        let low = cells.4 in
        absurd (omega (arith, ints))

    pub no_stop_beside : IsAllPublished face t → IsWhole face t → s.stop ≡ None
    no_stop_beside all whole = go s.stop refl where
      go : (o : Option SharedCycle) → s.stop ≡ o → o ≡ None
      go None e = refl
      go (Some x) e = absurd (stop_negative all whole x e)

    pub weights_same : IsAllPublished face s → IsWhole face s → IsAllPublished face t → IsWhole face t → (i j : ℕ)
        → final_weight face s i j ≡ final_weight face t i j
    weights_same all_s whole_s all_t whole_t i j =
        least_unique every (meeting_of face t) i j (final_weight face s i j) (final_weight face t i j)
        (least_over_both every (meeting_of face s) (meeting_of face t) (arcs_there s.published t.published listed_s listed_t all_t)
        (arcs_there t.published s.published listed_t listed_s all_s) i j
        (final_weight face s i j) (whole_least face known s sound_s whole_s i j))
        (whole_least face known t sound_t whole_t i j)
