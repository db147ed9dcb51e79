-- Where no closed walk is negative each two points have a distance, the least weight of the walks between them; distances are potentials, so
-- they give schedules, and are the least bounds.
use Rattle.std.proofs.Common.{◌≡◌, ◌≢◌, ℕ, zero, suc, ◌+◌, ◌-◌, ◌*◌, ◌/◌, ◌<◌, ◌≤◌, List, [], ◌∷◌, ◌++◌, map, Bool, true, Option, Some, None, ap, sym, ◌∙◌, refl, arith, inl, inr, subst, ⊎_elim}
use Rattle.std.specs.Prelude.{ℤ, pos, ◌+ℤ◌, ◌-ℤ◌, ◌≤ℤ◌, Contains}
use Rattle.std.specs.List.{range_with_len}
use Rattle.std.proofs.lemmas.Bool.{cases_eq}
use Rattle.std.proofs.lemmas.Int.{ints}
use Rattle.std.proofs.lemmas.List.{get_or_default}
use Rattle.stn_model.specs.declared.ids.Constraint.{Constraint}
use Rattle.stn_model.specs.Arcs.{arc_at, no_arc, from_at, to_at, bound_at}
use Rattle.stn_model.specs.Walks.{IsWalk, weight}
use Rattle.stn_model.specs.ArcWalks.{arcs_weight, GoesOn, IsArcWalk, IsInner, IsInnerLeast, NoNegative}
use Rattle.stn_model.specs.Schedules.{Satisfies, IsConsistent, IsLeastBound, time_at}
use Rattle.stn_model.specs.Net.{Net, point_count, arcs_of}
use Rattle.stn_model.specs.Valid.{IsNetwork}
use Rattle.stn_model.proofs.ArcLemmas.{arc_even, arc_odd, arcs_within}
use Rattle.stn_model.proofs.NetLemmas.{length-arcs_of}
use Rattle.stn_model.proofs.Bridges.{arc_contained, numbers_of, IsArcWalk-from_walk, arcs_weight-map, IsArcWalk-from_inner, inner_bounds}
use Rattle.stn_model.proofs.WalkLemmas.{weight_bounds}
use Rattle.stn_walk.specs.ClosedParts.{AreWithin}
use Rattle.stn_walk.specs.Eliminations.{is_in, lesser, cell_of}
use Rattle.stn_walk.specs.Distances.{HasEndsBelow, IsLeastWalk, ReachesZero}
use Rattle.stn_walk.proofs.ArcWalks.{GoesOn-append, GoesOn-wider, arcs_weight-append, arcs_weight_bounds}
use Rattle.stn_walk.proofs.Visits.{wider, at_point}
use Rattle.stn_walk.proofs.Eliminations.{cell-least}
use Rattle.stn_walk.proofs.Exits.{every, Rest}
use Rattle.stn_walk.proofs.Finals.{IsLower, RestOf, reach, value, inner_every, rest_to, rest_of_to}
use Rattle.stn_walk.proofs.Potentials.{IsPotential, lower_more, lower_value, value_lower, value_is, lower_left, lower_right, lower_cases, potential_lesser, potential_times, times_of, time_of, potential_satisfies}

-- the numbers of a range are in it
is_in_range : (n a p : ℕ) → a ≤ p → p < a + n → is_in (range_with_len a n) p ≡ true
is_in_range zero a p low high = absurd (omega arith)
is_in_range (suc n) a p low high =
    ⊎_elim
    (λ (e : p ≡ a). subst (λ (q : ℕ). is_in (a ∷ range_with_len (a + 1) n) q ≡ true) (sym e) (at_point a (is_in (range_with_len (a + 1) n))))
    (λ (ne : p ≢ a). wider (is_in (range_with_len (a + 1) n)) a p (is_in_range n (a + 1) p (omega arith) (omega arith)))
    (cases_eq p a)

-- a walk leaves only points where arcs begin
goes_in : (inner : ℕ → Bool) (arcs : List Constraint) (m j : ℕ) (w : List Constraint) → ((a : Constraint) → Contains arcs a → inner a.from.0 ≡ true)
    → GoesOn every arcs m j w → GoesOn inner arcs m j w
goes_in inner arcs m j [] has h = h
goes_in inner arcs m j (a ∷ w) has h = (ap inner (sym h.2) ∙ has a h.1, h.1, h.2, goes_in inner arcs a.to.0 j w has h.3)

-- the same of one that is not empty
inner_in : (inner : ℕ → Bool) (arcs : List Constraint) (i j : ℕ) (w : List Constraint) → ((a : Constraint) → Contains arcs a → inner a.from.0 ≡ true)
    → IsInner every arcs i j w → IsInner inner arcs i j w
inner_in inner arcs i j [] has h = absurd h
inner_in inner arcs i j (a ∷ w) has h = (h.0, h.1, goes_in inner arcs a.to.0 j w has h.2)

-- least weights over a set in which all arcs begin are those of all walks
least_every : (inner : ℕ → Bool) (arcs : List Constraint) (i j : ℕ) (o : Option ℤ) → ((a : Constraint) → Contains arcs a → inner a.from.0 ≡ true)
    → IsInnerLeast inner arcs i j o → IsInnerLeast every arcs i j o
least_every inner arcs i j None has least = λ w h. least w (inner_in inner arcs i j w has h)
least_every inner arcs i j (Some b) has least = (
  (least.0.0, inner_every inner arcs i j least.0.0 least.0.1, least.0.2),
  λ w h. least.1 w (inner_in inner arcs i j w has h),
)

-- a walk that may be empty, in two forms
rest_from_walk : (arcs : List Constraint) (i j : ℕ) (w : List Constraint) → IsArcWalk arcs i j w → Rest arcs i j w
rest_from_walk arcs i j [] h = inl (refl, h)
rest_from_walk arcs i j (a ∷ w) h = inr (h.1, h.2, h.3)

-- and back
walk_from_rest : (arcs : List Constraint) (i j : ℕ) (w : List Constraint) → Rest arcs i j w → IsArcWalk arcs i j w
walk_from_rest arcs i j w (inl d) = subst (IsArcWalk arcs i j) (sym d.0) d.1
walk_from_rest arcs i j w (inr g) = IsArcWalk-from_inner arcs every i j w g

-- between two different points no walk is empty
inner_from_walk : (arcs : List Constraint) (i j : ℕ) (w : List Constraint) → i ≢ j → IsArcWalk arcs i j w → IsInner every arcs i j w
inner_from_walk arcs i j [] ne h = absurd (ne h)
inner_from_walk arcs i j (a ∷ w) ne h = (h.1, h.2, h.3)

-- the least weight of the walks from i to p, where there is one; the empty walk goes from each point to itself
abbrev pub distance : ℕ → List Constraint → ℕ → ℕ → Option ℤ
distance points arcs i p = reach (cell_of arcs (range_with_len 0 points) i) i p

-- arcs within the limits join points
pub ends_below : (points : ℕ) (arcs : List Constraint) → AreWithin points arcs → HasEndsBelow points arcs
ends_below points arcs within = λ a c.
    let is : arc_at arcs c.0 ≡ a = get_or_default arcs c.0 no_arc a c.1 ∙ c.2 in (
      subst (λ (x : Constraint). x.from.0 < points) is (within c.0 c.1).starts,
      subst (λ (x : Constraint). x.to.0 < points) is (within c.0 c.1).ends,
    )

module _ (points : ℕ) (arcs : List Constraint) (below : HasEndsBelow points arcs) where
  -- every arc begins at one of the points
  starts_in : (a : Constraint) → Contains arcs a → is_in (range_with_len 0 points) a.from.0 ≡ true
  starts_in a c = let low = (below a c).0 in is_in_range points 0 a.from.0 (omega arith) (omega arith)

  -- a walk from one of the points ends at one
  pub walk_ends_below : (i j : ℕ) (ns : List ℕ) → i < points → IsWalk arcs i j ns → j < points
  walk_ends_below i j [] lt w = let e : i ≡ j = w in omega arith
  walk_ends_below i j (n ∷ ns) lt w = walk_ends_below (to_at arcs n) j ns (below (arc_at arcs n) (arc_contained arcs n w.0)).1 w.2

  module _ (none_below : NoNegative every arcs) where
    -- with all points eliminated the cells are the least weights of all walks
    pub all_least : (i j : ℕ) → IsInnerLeast every arcs i j (cell_of arcs (range_with_len 0 points) i j)
    all_least i j =
        least_every (is_in (range_with_len 0 points)) arcs i j (cell_of arcs (range_with_len 0 points) i j) starts_in
        (cell-least arcs (range_with_len 0 points) (λ p w h. none_below p w (inner_every (is_in (range_with_len 0 points)) arcs p p w h)) i j)

    -- the distance is at most the weight of each walk
    pub distance_least : (i p : ℕ) (w : List Constraint) → IsArcWalk arcs i p w → IsLower (arcs_weight w) (distance points arcs i p)
    distance_least i p w h = rest_to arcs p i (cell_of arcs (range_with_len 0 points) i) none_below (λ apart. all_least i p) w (rest_from_walk arcs i p w h)

    -- and the weight of some walk
    pub distance_walk : (i p : ℕ) (x : ℤ) → IsLower x (distance points arcs i p) → (w : List Constraint) × IsArcWalk arcs i p w × (arcs_weight w ≤ℤ x)
    distance_walk i p x low = found (distance points arcs i p) (rest_of_to arcs p i (cell_of arcs (range_with_len 0 points) i) (λ apart. all_least i p)) low where
      found : (o : Option ℤ) → RestOf arcs i p o → IsLower x o → (w : List Constraint) × IsArcWalk arcs i p w × (arcs_weight w ≤ℤ x)
      found None r l = absurd l
      found (Some c) r l = let e = r.2 in (r.0, walk_from_rest arcs i p r.0 r.1, omega (arith, ints))

    -- from a point to itself it is at most 0
    pub distance_to_itself : (i : ℕ) → IsLower (pos 0) (distance points arcs i i)
    distance_to_itself i = distance_least i i [] refl

    -- distances from one point are a potential
    pub distance_potential : (i : ℕ) → IsPotential arcs (distance points arcs i)
    distance_potential i = λ n lt x low.
        let r = distance_walk i (from_at arcs n) x low in
        let longer = GoesOn-append every arcs i (from_at arcs n) (to_at arcs n) r.0 (arc_at arcs n ∷ []) r.1 (refl, arc_contained arcs n lt, refl, refl) in
        let sum = arcs_weight-append r.0 (arc_at arcs n ∷ []) in
        let light = r.2 in
        lower_more (arcs_weight (r.0 ++ arc_at arcs n ∷ [])) (x +ℤ bound_at arcs n) (distance points arcs i (to_at arcs n)) (omega (arith, ints))
        (distance_least i (to_at arcs n) (r.0 ++ arc_at arcs n ∷ []) longer)

-- at each point the least of its distances from the points of a list
abbrev from_any : ℕ → List Constraint → List ℕ → ℕ → Option ℤ
from_any points arcs [] p = None
from_any points arcs (q ∷ qs) p = lesser (from_any points arcs qs p) (distance points arcs q p)

-- the distances of a list of points are a potential together
any_potential : (points : ℕ) (arcs : List Constraint) → HasEndsBelow points arcs → NoNegative every arcs → (qs : List ℕ) → IsPotential arcs (from_any points arcs qs)
any_potential points arcs below none_below [] = λ n lt x low. absurd low
any_potential points arcs below none_below (q ∷ qs) =
    potential_lesser arcs (from_any points arcs qs) (distance points arcs q) (any_potential points arcs below none_below qs) (distance_potential points arcs below none_below q)

-- each point of the list is reached from itself
any_there : (points : ℕ) (arcs : List Constraint) → HasEndsBelow points arcs → NoNegative every arcs → (n a p : ℕ) → a ≤ p → p < a + n
    → IsLower (pos 0) (from_any points arcs (range_with_len a n) p)
any_there points arcs below none_below zero a p low high = absurd (omega arith)
any_there points arcs below none_below (suc n) a p low high =
    let rest = from_any points arcs (range_with_len (a + 1) n) p in
    ⊎_elim
    (λ (e : p ≡ a). lower_right (pos 0) rest (distance points arcs a p)
    (subst (λ (q : ℕ). IsLower (pos 0) (distance points arcs q p)) e (distance_to_itself points arcs below none_below p)))
    (λ (ne : p ≢ a). lower_left (pos 0) rest (distance points arcs a p) (any_there points arcs below none_below n (a + 1) p (omega arith) (omega arith)))
    (cases_eq p a)

-- where no closed walk is negative some schedule satisfies the arcs
pub no_negative_consistent : (points : ℕ) (arcs : List Constraint) → HasEndsBelow points arcs → NoNegative every arcs → IsConsistent points arcs
no_negative_consistent points arcs below none_below =
    let f : ℕ → Option ℤ = from_any points arcs (range_with_len 0 points) in (
      times_of points f,
      potential_satisfies points arcs f below (any_potential points arcs below none_below (range_with_len 0 points))
          (λ p lt. (pos 0, any_there points arcs below none_below points 0 p (omega arith) (omega arith))),
    )

-- and where a schedule satisfies them no closed walk is negative
pub consistent_no_negative : (points : ℕ) (arcs : List Constraint) → IsConsistent points arcs → (inner : ℕ → Bool) → NoNegative inner arcs
consistent_no_negative points arcs s inner = λ p w h. let b = inner_bounds arcs s.0 s.1.keeps inner p p w h in omega (arith, ints)

-- a walk that is a list of arcs, and no heavier than any, has numbers
pub least_from_arcs : (arcs : List Constraint) (i j : ℕ) (b : ℤ) (w : List Constraint) → IsArcWalk arcs i j w → arcs_weight w ≤ℤ b
    → ((v : List Constraint) → IsArcWalk arcs i j v → b ≤ℤ arcs_weight v) → IsLeastWalk arcs i j b
least_from_arcs arcs i j b w g light least =
    let ns = numbers_of arcs (λ _. true) i j w g in
    let sum : arcs_weight w ≡ weight arcs ns.0 = sym (ap arcs_weight ns.2) ∙ arcs_weight-map arcs ns.0 in
    let heavy = least w g in
    record {
      walk = ns.0;
      is_walk = ns.1;
      weighs = omega (arith, ints);
      least = λ ms h. let l = least (map (arc_at arcs) ms) (IsArcWalk-from_walk arcs i j ms h) in let e = arcs_weight-map arcs ms in omega (arith, ints);
    }

-- no walk that is a list of arcs is lighter than a least walk
pub least_of_arcs : (arcs : List Constraint) (i j : ℕ) (b : ℤ) → IsLeastWalk arcs i j b → (v : List Constraint) → IsArcWalk arcs i j v → b ≤ℤ arcs_weight v
least_of_arcs arcs i j b l v g =
    let ns = numbers_of arcs (λ _. true) i j v g in
    let sum : arcs_weight v ≡ weight arcs ns.0 = sym (ap arcs_weight ns.2) ∙ arcs_weight-map arcs ns.0 in
    let h = l.least ns.0 ns.1 in
    omega (arith, ints)

-- where a walk goes from i to j and no closed walk is negative, one is least
pub least_walk_there : (points : ℕ) (arcs : List Constraint) → HasEndsBelow points arcs → NoNegative every arcs
    → (i j : ℕ) (w : List Constraint) → IsArcWalk arcs i j w → (b : ℤ) × IsLeastWalk arcs i j b
least_walk_there points arcs below none_below i j w g =
    let d : Option ℤ = distance points arcs i j in
    let r = distance_walk points arcs below none_below i j (value d) (lower_value (arcs_weight w) d (distance_least points arcs below none_below i j w g)) in
    (value d, least_from_arcs arcs i j (value d) r.0 r.1 r.2 (λ v h. value_lower (arcs_weight v) d (distance_least points arcs below none_below i j v h)))

-- a least bound is the weight of a least walk
pub bound_least_walk : (points : ℕ) (arcs : List Constraint) (i j : ℕ) (b : ℤ) → IsLeastBound points arcs i j b → IsLeastWalk arcs i j b
bound_least_walk points arcs i j b l = record {
  walk = l.walk;
  is_walk = l.is_walk;
  weighs = l.weighs;
  least = λ ns h. let low = weight_bounds arcs l.times l.satisfies.keeps i j ns h in let at = l.attains in omega (arith, ints);
}

-- where a schedule satisfies the arcs, one has j exactly a least weight after i: at each point the lesser of the distance from i and the time of the
-- given schedule, moved so that j keeps the least weight
module _ (points : ℕ) (arcs : List Constraint) (below : HasEndsBelow points arcs) (times : List ℤ) (satisfies : Satisfies points arcs times) where
  module _ (i j : ℕ) (b : ℤ) (l : IsLeastWalk arcs i j b) where
    -- no closed walk is negative
    none_below : NoNegative every arcs
    none_below = consistent_no_negative points arcs (times, satisfies) every

    -- the given schedule, moved
    abbrev moved : ℕ → ℤ
    moved p = (b -ℤ time_at times j) +ℤ time_at times p

    -- the lesser of both
    abbrev lesser_time : ℕ → Option ℤ
    lesser_time p = lesser (distance points arcs i p) (Some (moved p))

    -- the given schedule has j at most b after i
    apart : (time_at times j -ℤ time_at times i) ≤ℤ b
    apart = let h = weight_bounds arcs times satisfies.keeps i j l.walk l.is_walk in let e = l.weighs in omega (arith, ints)

    -- each point has a time
    there : (p : ℕ) → IsLower (moved p) (lesser_time p)
    there p = lower_right (moved p) (distance points arcs i p) (Some (moved p)) (lower_value (moved p) (Some (moved p)) (omega (arith, ints)))

    -- from i to itself the distance is 0, and its time was moved to at least that
    at_start : value (lesser_time i) ≡ pos 0
    at_start =
        value_is (pos 0) (lesser_time i) (lower_left (pos 0) (distance points arcs i i) (Some (moved i)) (distance_to_itself points arcs below none_below i))
        (λ x low. elim (lower_cases x (distance points arcs i i) (Some (moved i)) low) [
          | inl h ↦
              (let r = distance_walk points arcs below none_below i i x h in
              let bound = arcs_weight_bounds arcs times satisfies.keeps i i r.0 r.1 in
              let light = r.2 in
              omega (arith, ints))
          | inr h ↦ (let late = apart in omega (arith, ints))
        ])

    -- the distance from i to j is the least weight, and the time of j was moved to it
    at_end : value (lesser_time j) ≡ b
    at_end =
        value_is b (lesser_time j)
        (lower_right b (distance points arcs i j) (Some (moved j)) (let low : moved j ≤ℤ b = omega (arith, ints) in low))
        (λ x low. elim (lower_cases x (distance points arcs i j) (Some (moved j)) low) [
          | inl h ↦
              (let r = distance_walk points arcs below none_below i j x h in
              let least = least_of_arcs arcs i j b l r.0 r.1 in
              let light = r.2 in
              omega (arith, ints))
          | inr h ↦ omega (arith, ints)
        ])

    -- so the schedule attains the least weight
    bound_between : i < points → j < points → IsLeastBound points arcs i j b
    bound_between start end =
        let at_i = time_of points lesser_time i start in
        let at_j = time_of points lesser_time j end in
        let from = at_start in
        let to = at_end in
        record {
          walk = l.walk;
          is_walk = l.is_walk;
          weighs = l.weighs;
          times = times_of points lesser_time;
          satisfies =
              potential_satisfies points arcs lesser_time below
              (potential_lesser arcs (distance points arcs i) (λ p. Some (moved p)) (distance_potential points arcs below none_below i)
              (potential_times arcs times (b -ℤ time_at times j) satisfies.keeps))
              (λ p lt. (moved p, there p));
          attains = omega (arith, ints);
        }

-- a least weight of walks is a least bound
pub least_walk_bound : (points : ℕ) (arcs : List Constraint) → HasEndsBelow points arcs → IsConsistent points arcs
    → (i j : ℕ) (b : ℤ) → IsLeastWalk arcs i j b → IsLeastBound points arcs i j b
least_walk_bound points arcs below s i j b l = of_walk l.walk l.is_walk l.weighs where
  of_walk : (ns : List ℕ) → IsWalk arcs i j ns → weight arcs ns ≡ b → IsLeastBound points arcs i j b
  of_walk [] w e =
      let same : time_at s.0 i ≡ time_at s.0 j = ap (time_at s.0) w in
      record { walk = []; is_walk = w; weighs = e; times = s.0; satisfies = s.1; attains = omega (arith, ints) }
  of_walk (n ∷ ns) w e =
      let start : i < points = subst (λ (p : ℕ). p < points) w.1 (below (arc_at arcs n) (arc_contained arcs n w.0)).0 in
      bound_between points arcs below s.0 s.1 i j b l start (walk_ends_below points arcs below i j (n ∷ ns) start w)

-- the same of the walks between two different points that are lists of arcs
pub inner_least_walk : (arcs : List Constraint) (i j : ℕ) (b : ℤ) → i ≢ j → IsInnerLeast every arcs i j (Some b) → IsLeastWalk arcs i j b
inner_least_walk arcs i j b ne least =
    let e = least.0.2 in
    least_from_arcs arcs i j b least.0.0 (IsArcWalk-from_inner arcs every i j least.0.0 least.0.1) (omega (arith, ints))
    (λ v h. least.1 v (inner_from_walk arcs i j v ne h))

-- so the least weight of all walks is the least bound
pub inner_least_bound : (points : ℕ) (arcs : List Constraint) → HasEndsBelow points arcs → IsConsistent points arcs
    → (i j : ℕ) (b : ℤ) → i ≢ j → IsInnerLeast every arcs i j (Some b) → IsLeastBound points arcs i j b
inner_least_bound points arcs below s i j b ne least = least_walk_bound points arcs below s i j b (inner_least_walk arcs i j b ne least)

-- and from numbers to lists of arcs
pub least_walk_inner : (arcs : List Constraint) (i j : ℕ) (b : ℤ) → i ≢ j → IsLeastWalk arcs i j b → IsInnerLeast every arcs i j (Some b)
least_walk_inner arcs i j b ne l = (
  (map (arc_at arcs) l.walk, inner_from_walk arcs i j (map (arc_at arcs) l.walk) ne (IsArcWalk-from_walk arcs i j l.walk l.is_walk), arcs_weight-map arcs l.walk ∙ l.weighs),
  λ v h. least_of_arcs arcs i j b l v (IsArcWalk-from_inner arcs every i j v h),
)

-- so the least bound is the least weight of all walks
pub bound_inner_least : (points : ℕ) (arcs : List Constraint) (i j : ℕ) (b : ℤ) → i ≢ j → IsLeastBound points arcs i j b → IsInnerLeast every arcs i j (Some b)
bound_inner_least points arcs i j b ne l = least_walk_inner arcs i j b ne (bound_least_walk points arcs i j b l)

-- where each point is reached from z and z from it, there is a walk between any two
pub walk_there : (points : ℕ) (arcs : List Constraint) → ReachesZero points arcs → (i j : ℕ) → i < points → j < points → (w : List Constraint) × IsArcWalk arcs i j w
walk_there points arcs reaches i j start end =
    let back = (reaches i start).1 in
    let forth = (reaches j end).0 in
    (back.0 ++ forth.0, GoesOn-append every arcs i 0 j back.0 forth.0 back.1 forth.1)

-- each list of arcs that has those arcs reaches z alike
pub reaches_wider : (points : ℕ) (arcs more : List Constraint) → ((a : Constraint) → Contains arcs a → Contains more a) → ReachesZero points arcs → ReachesZero points more
reaches_wider points arcs more has reaches = λ p lt.
    let forth = (reaches p lt).0 in
    let back = (reaches p lt).1 in
    ((forth.0, GoesOn-wider every arcs more has 0 p forth.0 forth.1), (back.0, GoesOn-wider every arcs more has p 0 back.0 back.1))

-- so there is a least bound between any two
pub least_bound_there : (points : ℕ) (arcs : List Constraint) → HasEndsBelow points arcs → ReachesZero points arcs → IsConsistent points arcs
    → (i j : ℕ) → i < points → j < points → (b : ℤ) × IsLeastBound points arcs i j b
least_bound_there points arcs below reaches s i j start end =
    let w = walk_there points arcs reaches i j start end in
    let l = least_walk_there points arcs below (consistent_no_negative points arcs s every) i j w.0 w.1 in
    (l.0, least_walk_bound points arcs below s i j l.0 l.1)

-- each point of a network has an arc from z and one to it
pub network_reaches : (net : Net) → ReachesZero (point_count net) (arcs_of net)
network_reaches net = λ p lt. ⊎_elim
    (λ (e : p ≡ 0). (([], sym e), ([], e)))
    (λ (ne : p ≢ 0).
    let upper = arc_even net (2 * (p - 1)) (omega arith) (omega arith) in
    let lower = arc_odd net (2 * (p - 1) + 1) (omega arith) (omega arith) in
    let up : to_at (arcs_of net) (2 * (p - 1)) ≡ 2 * (p - 1) / 2 + 1 = ap (λ (a : Constraint). a.to.0) upper in
    let down : from_at (arcs_of net) (2 * (p - 1) + 1) ≡ (2 * (p - 1) + 1) / 2 + 1 = ap (λ (a : Constraint). a.from.0) lower in
    let many = length-arcs_of net in (
      (arc_at (arcs_of net) (2 * (p - 1)) ∷ [], (refl, arc_contained (arcs_of net) (2 * (p - 1)) (omega arith), ap (λ (a : Constraint). a.from.0) upper, omega arith)),
      (arc_at (arcs_of net) (2 * (p - 1) + 1) ∷ [], (refl, arc_contained (arcs_of net) (2 * (p - 1) + 1) (omega arith), omega arith, ap (λ (a : Constraint). a.to.0) lower)),
    ))
    (cases_eq p 0)

-- its arcs join its points
pub network_ends : (net : Net) → IsNetwork net → HasEndsBelow (point_count net) (arcs_of net)
network_ends net valid = ends_below (point_count net) (arcs_of net) (arcs_within net valid)

-- a consistent network has a least bound between any two of its points
pub network_bound_there : (net : Net) → IsNetwork net → IsConsistent (point_count net) (arcs_of net)
    → (i j : ℕ) → i < point_count net → j < point_count net → (b : ℤ) × IsLeastBound (point_count net) (arcs_of net) i j b
network_bound_there net valid = least_bound_there (point_count net) (arcs_of net) (network_ends net valid) (network_reaches net)
