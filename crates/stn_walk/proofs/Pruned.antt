-- What a pass over a walk keeps, for pruning and for the search of a negative part.
use Rattle.std.proofs.Common.{◌≡◌, ◌≢◌, ℕ, zero, suc, ◌+◌, ◌-◌, ◌<◌, ◌≤◌, List, [], ◌∷◌, ◌++◌, length, get_or, take, drop, add-one, refl, sym, ap, subst, ◌∙◌, arith, pos, ◌<ℤ◌, ◌≤ℤ◌, ◌+ℤ◌, ⊎_elim}
use Rattle.std.specs.List.{All, AllByRecursion, Contains}
use Rattle.std.proofs.lemmas.Int.{ints}
use Rattle.std.proofs.lemmas.Bool.{cases_lt}
use Rattle.std.proofs.lemmas.List.{take-append-drop, drop_more, take_more, drop_all, take_all, take-take, length-take-le, length_push, get_or_append_left, get_or-append_right, get_or-take, take-append-le}
use Rattle.std.proofs.lemmas.List.Elements.{All-push, All-take, All-drop, All-contains_itself}
use Rattle.stn_model.specs.declared.ids.Constraint.{Constraint}
use Rattle.stn_model.specs.Arcs.{to_at, bound_at}
use Rattle.stn_model.specs.Walks.{IsWalk, weight, heads, AllDifferent, IsNegativeCycle, PassesNoPointTwice}
use Rattle.stn_model.proofs.WalkLemmas.{IsWalk-append, IsWalk-back, weight-append, weight_split, end_of_walk}
use Rattle.stn_walk.specs.Parts.{NoPartIsNegative}
use Rattle.stn_walk.specs.Trails.{Trail, IsSimple, IsLonger, IsCut, IsClosed, GoesOn, GoesOnLight}
use Rattle.stn_walk.specs.ClosedParts.{PrunedWalk}
use Rattle.stn_walk.proofs.Heads.{ends_in_heads}
use Rattle.stn_walk.proofs.Different.{differs_at, place_in}
use Rattle.stn_walk.proofs.Trails.{IsSimple-start, IsSimple-longer, IsSimple-cut, closes_cycle, passed_many}

-- one arc more, at the end of a list of arcs of the walk
module _ (ns : List ℕ) (i : ℕ) (lt : i < length ns) where
  part-push : (xs : List ℕ) → All (Contains ns) xs → All (Contains ns) (xs ++ get_or ns i 0 ∷ [])
  part-push xs h = All-push (Contains ns) xs (get_or ns i 0) h (All-contains_itself ns i 0 lt)

-- a path of arcs of a closed walk, from where it begins to where the first i arcs of the walk end; with what is left of the walk it sums below 0
pub record IsNarrowed (list : List Constraint) (s : ℕ) (ns : List ℕ) (i : ℕ) (t : Trail) : Type 0 where
  pub at : ℕ
  pub path : IsSimple list s at t
  pub ahead : IsWalk list at s (drop i ns)
  pub part : All (Contains ns) t.arcs
  pub negative : (weight list t.arcs +ℤ weight list (drop i ns)) <ℤ pos 0

module _ (list : List Constraint) (s : ℕ) (ns : List ℕ) where
  pub IsNarrowed-start : (room : ℕ) → IsWalk list s s ns → weight list ns <ℤ pos 0 → IsNarrowed list s ns 0 (record { points = s ∷ []; arcs = []; room = room })
  IsNarrowed-start room w low = record { at = s; path = IsSimple-start list s room; ahead = w; part = λ k d lt. absurd (omega arith); negative = omega (arith, ints) }

  -- a path that is closed has no arc
  pub IsNarrowed-end : (t : Trail) → IsNarrowed list s ns (length ns) t → ⊥
  IsNarrowed-end t h = at_end t.arcs (subst (IsWalk list h.at s) rest h.ahead) (subst (λ (xs : List ℕ). (weight list t.arcs +ℤ weight list xs) <ℤ pos 0) rest h.negative)
      h.path.walk (subst AllDifferent h.path.passed h.path.simple) where
        rest : drop (length ns) ns ≡ []
        rest = drop_all (length ns) ns (omega arith)

        at_end : {at : ℕ} (xs : List ℕ) → at ≡ s → (weight list xs +ℤ pos 0) <ℤ pos 0 → IsWalk list s at xs → AllDifferent (s ∷ heads list xs) → ⊥
        at_end [] e low w d = absurd (omega (arith, ints))
        at_end (x ∷ xs) e low w d = ends_in_heads list s s x xs (subst (λ (q : ℕ). IsWalk list s q (x ∷ xs)) e w) d.0

  module _ (i : ℕ) (lt : i < length ns) (t : Trail) (h : IsNarrowed list s ns i t) where
    on : IsWalk list h.at s (get_or ns i 0 ∷ drop (i + 1) ns)
    on = subst (IsWalk list h.at s) (drop_more ns i 0 lt) h.ahead

    left : weight list (drop i ns) ≡ bound_at list (get_or ns i 0) +ℤ weight list (drop (i + 1) ns)
    left = ap (weight list) (drop_more ns i 0 lt)

    pub next_within : get_or ns i 0 < length list
    next_within = on.0

    pub IsNarrowed-step : (new : Trail) → GoesOnLight list (get_or ns i 0) t new → IsNarrowed list s ns (i + 1) new
    IsNarrowed-step new g = ⊎_elim
        (λ (l : IsLonger list (get_or ns i 0) t new).
        let sum = ap (weight list) l.arcs ∙ weight-append list t.arcs (get_or ns i 0 ∷ []) in
        let rest = left in
        let low = h.negative in
        record {
          at = to_at list (get_or ns i 0);
          path = IsSimple-longer list s h.at t h.path (get_or ns i 0) on.0 on.1 new l;
          ahead = on.2;
          part = subst (All (Contains ns)) (sym l.arcs) (part-push ns i lt t.arcs h.part);
          negative = omega (arith, ints);
        })
        (λ (c : (place : ℕ) × IsCut list (get_or ns i 0) place t new × (pos 0 ≤ℤ (weight list (drop place t.arcs) +ℤ bound_at list (get_or ns i 0)))).
        let sum = ap (weight list) c.1.arcs in
        let whole = weight_split list t.arcs c.0 in
        let rest = left in
        let low = h.negative in
        let light = c.2 in
        record {
          at = to_at list (get_or ns i 0);
          path = IsSimple-cut list s h.at t h.path (get_or ns i 0) on.0 on.1 new c.0 c.1;
          ahead = on.2;
          part = subst (All (Contains ns)) (sym c.1.arcs) (All-take (Contains ns) c.0 t.arcs h.part);
          negative = omega (arith, ints);
        })
        g

    pub IsNarrowed-closed : (closed : List ℕ) → IsClosed list (get_or ns i 0) t closed → IsNegativeCycle list closed × All (Contains ns) closed
    IsNarrowed-closed closed c = (
      closes_cycle list s h.at t h.path (get_or ns i 0) on.0 on.1 closed c,
      subst (All (Contains ns)) (sym c.arcs) (part-push ns i lt (drop c.place t.arcs) (All-drop (Contains ns) c.place t.arcs h.part)),
    )

-- the walk came to the point at this place after its first m arcs, and the path up to there is no heavier than they
pub record IsReached (list : List Constraint) (i : ℕ) (ns : List ℕ) (many : ℕ) (t : Trail) (k : ℕ) : Type 0 where
  pub after : ℕ
  pub done : after ≤ many
  pub walk : IsWalk list i (get_or t.points k 0) (take after ns)
  pub light : weight list (take k t.arcs) ≤ℤ weight list (take after ns)

-- a path of arcs of the walk, to where its first arcs end; where no closed part of the walk is negative, neither it nor its front is heavier
pub record IsPruned (list : List Constraint) (i j : ℕ) (ns : List ℕ) (many : ℕ) (t : Trail) : Type 0 where
  pub at : ℕ
  pub path : IsSimple list i at t
  pub back : IsWalk list i at (take many ns)
  pub ahead : IsWalk list at j (drop many ns)
  pub part : All (Contains ns) t.arcs
  pub reached : NoPartIsNegative list ns → (k : ℕ) → k < length t.points → IsReached list i ns many t k
  pub light : NoPartIsNegative list ns → weight list t.arcs ≤ℤ weight list (take many ns)

module _ (list : List Constraint) (i j : ℕ) (ns : List ℕ) where
  pub IsPruned-start : (room : ℕ) → IsWalk list i j ns → IsPruned list i j ns 0 (record { points = i ∷ []; arcs = []; room = room })
  IsPruned-start room w = record {
    at = i;
    path = IsSimple-start list i room;
    back = refl;
    ahead = w;
    part = λ k d lt. absurd (omega arith);
    reached = λ none k lt. start_reached k lt;
    light = λ none. omega (arith, ints);
  } where
    start_reached : (k : ℕ) → k < 1 → IsReached list i ns 0 (record { points = i ∷ []; arcs = []; room = room }) k
    start_reached zero lt = record { after = 0; done = omega arith; walk = refl; light = omega (arith, ints) }
    start_reached (suc k) lt = absurd (omega arith)

  pub IsPruned-end : (t : Trail) → IsPruned list i j ns (length ns) t → IsWalk list i j t.arcs × PassesNoPointTwice list i j t.arcs
      × (NoPartIsNegative list ns → weight list t.arcs ≤ℤ weight list ns)
  IsPruned-end t h =
      let e : h.at ≡ j = subst (IsWalk list h.at j) (drop_all (length ns) ns (omega arith)) h.ahead in
      let d = subst AllDifferent h.path.passed h.path.simple in (
        subst (λ (q : ℕ). IsWalk list i q t.arcs) e h.path.walk,
        record { ends_apart = λ ne. d; ends_meet = λ same. d.1 },
        λ none. subst (λ (xs : List ℕ). weight list t.arcs ≤ℤ weight list xs) (take_all (length ns) ns (omega arith)) (h.light none),
      )

  module _ (many : ℕ) (lt : many < length ns) (t : Trail) (h : IsPruned list i j ns many t) where
    next : IsWalk list h.at j (get_or ns many 0 ∷ drop (many + 1) ns)
    next = subst (IsWalk list h.at j) (drop_more ns many 0 lt) h.ahead

    pub pruned_next_within : get_or ns many 0 < length list
    pruned_next_within = next.0

    back_on : IsWalk list i (to_at list (get_or ns many 0)) (take (many + 1) ns)
    back_on = subst (IsWalk list i (to_at list (get_or ns many 0))) (sym (take_more ns many 0 lt))
        (IsWalk-append list i h.at (to_at list (get_or ns many 0)) (take many ns) (get_or ns many 0 ∷ []) h.back (next.0, next.1, refl))

    weight_on : weight list (take (many + 1) ns) ≡ weight list (take many ns) +ℤ bound_at list (get_or ns many 0)
    weight_on = let e = ap (weight list) (take_more ns many 0 lt) ∙ weight-append list (take many ns) (get_or ns many 0 ∷ []) in omega (arith, ints)

    later : (k : ℕ) → IsReached list i ns many t k → (new : Trail) → get_or new.points k 0 ≡ get_or t.points k 0
        → take k new.arcs ≡ take k t.arcs → IsReached list i ns (many + 1) new k
    later k r new point front =
        let done = r.done in
        record {
          after = r.after;
          done = omega arith;
          walk = subst (λ (q : ℕ). IsWalk list i q (take r.after ns)) (sym point) r.walk;
          light = subst (λ (xs : List ℕ). weight list xs ≤ℤ weight list (take r.after ns)) (sym front) r.light;
        }

    -- what the walk did since it came to a point where it is again is a closed part of it
    since : NoPartIsNegative list ns → (m p : ℕ) → m ≤ many + 1 → IsWalk list i p (take m ns) → p ≡ to_at list (get_or ns many 0)
        → weight list (take m ns) ≤ℤ weight list (take (many + 1) ns)
    unfolding NoPartIsNegative
    since none m p le w e =
        let part = drop m (take (many + 1) ns) in
        let whole = take-append-drop m (take (many + 1) ns) in
        let front = take-take m (many + 1) ns le in
        let ends = end_of_walk list i p (take m ns) w in
        let closed = IsWalk-back list i (to_at list (get_or ns many 0)) (take m ns) part
        (subst (λ (xs : List ℕ). IsWalk list i (to_at list (get_or ns many 0)) (xs ++ part)) front (subst (IsWalk list i (to_at list (get_or ns many 0))) (sym whole) back_on)) in
        let split : ns ≡ take m ns ++ part ++ drop (many + 1) ns =
        sym (take-append-drop (many + 1) ns) ∙ ap (λ (xs : List ℕ). xs ++ drop (many + 1) ns) (sym whole ∙ ap (λ (xs : List ℕ). xs ++ part) front) in
        let light = none (take m ns) part (drop (many + 1) ns) (to_at list (get_or ns many 0)) split
        (subst (λ (q : ℕ). IsWalk list q (to_at list (get_or ns many 0)) part) (ends ∙ e) closed) in
        let sum = ap (weight list) (sym whole ∙ ap (λ (xs : List ℕ). xs ++ part) front) ∙ weight-append list (take m ns) part in
        omega (arith, ints)

    pub IsPruned-longer : (new : Trail) → IsLonger list (get_or ns many 0) t new → IsPruned list i j ns (many + 1) new
    IsPruned-longer new l = record {
      at = to_at list (get_or ns many 0);
      path = IsSimple-longer list i h.at t h.path (get_or ns many 0) next.0 next.1 new l;
      back = back_on;
      ahead = next.2;
      part = subst (All (Contains ns)) (sym l.arcs) (part-push ns many lt t.arcs h.part);
      reached = λ none k k_lt. ⊎_elim
          (λ (old : k < length t.points). later k (h.reached none k old) new
          (ap (λ (xs : List ℕ). get_or xs k 0) l.points ∙ get_or_append_left t.points (to_at list (get_or ns many 0) ∷ []) 0 k old)
          (ap (λ (xs : List ℕ). take k xs) l.arcs ∙ take-append-le k t.arcs (get_or ns many 0 ∷ []) (let m = passed_many list i h.at t h.path in omega arith)))
          (λ (fresh : length t.points ≤ k). last none k fresh k_lt)
          (cases_lt k (length t.points));
      light = longer_light;
    } where
      longer_light : NoPartIsNegative list ns → weight list new.arcs ≤ℤ weight list (take (many + 1) ns)
      longer_light none =
          let sum = ap (weight list) l.arcs ∙ weight-append list t.arcs (get_or ns many 0 ∷ []) in
          let old = h.light none in
          let more = weight_on in
          omega (arith, ints)

      last : NoPartIsNegative list ns → (k : ℕ) → length t.points ≤ k → k < length new.points → IsReached list i ns (many + 1) new k
      last none k fresh k_lt =
          let len = ap (λ (xs : List ℕ). length xs) l.points ∙ length_push t.points (to_at list (get_or ns many 0)) in
          let arcs_len = ap (λ (xs : List ℕ). length xs) l.arcs ∙ length_push t.arcs (get_or ns many 0) in
          let m = passed_many list i h.at t h.path in
          let zeroth : k - length t.points ≡ 0 = omega arith in
          let point : get_or new.points k 0 ≡ to_at list (get_or ns many 0) =
          ap (λ (xs : List ℕ). get_or xs k 0) l.points ∙ get_or-append_right t.points (to_at list (get_or ns many 0) ∷ []) (length t.points) k 0 refl fresh
          ∙ ap (λ (x : ℕ). get_or (to_at list (get_or ns many 0) ∷ []) x 0) zeroth in
          record {
            after = many + 1;
            done = omega arith;
            walk = subst (λ (q : ℕ). IsWalk list i q (take (many + 1) ns)) (sym point) back_on;
            light = subst (λ (xs : List ℕ). weight list xs ≤ℤ weight list (take (many + 1) ns)) (sym (take_all k new.arcs (omega arith))) (longer_light none);
          }

    pub IsPruned-cut : (new : Trail) (place : ℕ) → IsCut list (get_or ns many 0) place t new → IsPruned list i j ns (many + 1) new
    IsPruned-cut new place c = record {
      at = to_at list (get_or ns many 0);
      path = IsSimple-cut list i h.at t h.path (get_or ns many 0) next.0 next.1 new place c;
      back = back_on;
      ahead = next.2;
      part = subst (All (Contains ns)) (sym c.arcs) (All-take (Contains ns) place t.arcs h.part);
      reached = λ none k k_lt.
          let len : length new.points ≡ place + 1 = (ap (λ (xs : List ℕ). length xs) c.points ∙ length-take-le (place + 1) t.points (let w = c.within in omega arith)) in
          let w = c.within in
          later k (h.reached none k (omega arith)) new
          (ap (λ (xs : List ℕ). get_or xs k 0) c.points ∙ get_or-take (place + 1) t.points k 0 (omega arith))
          (ap (λ (xs : List ℕ). take k xs) c.arcs ∙ take-take k place t.arcs (omega arith));
      light = λ none.
          let r = h.reached none place c.within in
          let done = r.done in
          let old = r.light in
          let more = since none r.after (get_or t.points place 0) (omega arith) r.walk c.same in
          let sum = ap (weight list) c.arcs in
          omega (arith, ints);
    }

    pub IsPruned-step : (new : Trail) → GoesOn list (get_or ns many 0) t new → IsPruned list i j ns (many + 1) new
    IsPruned-step new g = ⊎_elim
        (λ (l : IsLonger list (get_or ns many 0) t new). IsPruned-longer new l)
        (λ (c : (place : ℕ) × IsCut list (get_or ns many 0) place t new). IsPruned-cut new c.0 c.1)
        g

-- the same pass over any list of arcs
module _ (list : List Constraint) (i j : ℕ) (ns : List ℕ) (w : IsWalk list i j ns) where
  pass : (many : ℕ) (lt : many < length ns) (t : Trail) → IsPruned list i j ns many t → (new : Trail) × IsPruned list i j ns (many + 1) new
  pass many lt t h = ⊎_elim
      (λ (fresh : AllByRecursion (λ y. to_at list (get_or ns many 0) ≢ y) t.points).
      let new : Trail = record { points = t.points ++ to_at list (get_or ns many 0) ∷ []; arcs = t.arcs ++ get_or ns many 0 ∷ []; room = t.room } in (
        new,
        IsPruned-longer list i j ns many lt t h new
            (record { fresh = λ k k_lt e. differs_at (to_at list (get_or ns many 0)) t.points fresh k k_lt (sym e); points = refl; arcs = refl }),
      ))
      (λ (met : (m : ℕ) × (m < length t.points) × (to_at list (get_or ns many 0) ≡ get_or t.points m 0)).
      let new : Trail = record { points = take (met.0 + 1) t.points; arcs = take met.0 t.arcs; room = t.room } in
      (new, IsPruned-cut list i j ns many lt t h new met.0 (record { within = met.1; same = sym met.2; points = refl; arcs = refl })))
      (place_in (to_at list (get_or ns many 0)) t.points)

  passes : (many : ℕ) → many ≤ length ns → (t : Trail) × IsPruned list i j ns many t
  passes zero le = (record { points = i ∷ []; arcs = []; room = 0 }, IsPruned-start list i j ns 0 w)
  passes (suc many) le =
      let r = passes many (omega arith) in
      let s = pass many (omega arith) r.0 r.1 in
      (s.0, subst (λ (k : ℕ). IsPruned list i j ns k s.0) (add-one many) s.1)

  pub pruned_walk : PrunedWalk list i j ns
  pruned_walk =
      let r = passes (length ns) (omega arith) in
      let e = IsPruned-end list i j ns r.0 r.1 in
      record { left = r.0.arcs; walk = e.0; simple = e.1; part = r.1.part; light = e.2 }
