-- The point that gets its time first, whose window lies between its bounds with z: owner_below, lean_of, taken_of, no_time_yet, joins_z, joined_z,
-- first_of_all,
-- light_final, back_there, out_there, back_light, out_light, first_time.
use Rattle.std.proofs.Common.{suc, ◌≡◌, ◌≢◌, ℕ, ◌*◌, ◌<◌, ◌≤◌, List, [], ◌∷◌, Bool, true, false, ◌&&◌, ◌||◌, not, Some, None, ap, sym, ◌∙◌, refl}
use Rattle.std.proofs.Common.{arith, length, subst, get_or, map}
use Rattle.std.specs.Prelude.{ℤ, pos, neg_ℤ, ◌-ℤ◌, ◌+ℤ◌, nat_abs, ◌==◌, if◌then◌else◌, is_some, filter}
use Rattle.std.specs.Option.{unwrap_or}
use Rattle.std.proofs.Math.Bool.{or-true}
use Rattle.std.proofs.lemmas.Bool.{and_parts, ne_eqb}
use Rattle.std.proofs.lemmas.Bool.Decides.{nat_tests}
use Rattle.std.proofs.lemmas.Int.{ints}
use Rattle.stn_model.specs.declared.ids.Constraint.{Constraint}
use Rattle.stn_model.specs.declared.ids.Lean.{Lean}
use Rattle.stn_model.specs.declared.ids.Lean.TheVariants.{Early}
use Rattle.stn_model.specs.declared.ids.PointId.{PointId}
use Rattle.stn_model.specs.ArcWalks.{IsInnerLeast}
use Rattle.stn_model.specs.Limits.{most_points, greatest_walk}
use Rattle.stn_walk.specs.Eliminations.{is_in, before_both, lesser, sum_of}
use Rattle.stn_walk.specs.Joins.{joined_of}
use Rattle.stn_walk.proofs.Eliminations.{before-in}
use Rattle.stn_walk.proofs.Exits.{every}
use Rattle.stn_walk.proofs.Joins.{joined-from_walk}
use Rattle.stn_walk.proofs.LightWalks.{IsBelow, HasBounds, final_light}
use Rattle.dist_rows.specs.Cells.{IsLight}
use Rattle.elim_step.specs.Eliminated.{IsGround}
use Rattle.shared_graph.specs.Firsts.{IsFirstOfAll}
use Rattle.shared_graph.specs.Graphs.{places_in}
use Rattle.shared_graph.specs.Interfaces.{InterfaceView, SharedPoint, IsInterface, owner_among, owner_in, points_of, is_listed}
use Rattle.shared_graph.specs.States.{State, point_id, is_revisited, meeting_of}
use Rattle.shared_graph.specs.Together.{IsWhole, HoldsTogether}
use Rattle.shared_graph.specs.Weights.{first_passing, is_joined, is_later, final, least_over}
use Rattle.shared_graph.specs.Windows.{is_assigned, assigned_in, value_in, negated, chosen, lean_in, kept_value, window_low, window_high}
use Rattle.shared_graph.proofs.graphs.Scans.{passing_here}
use Rattle.shared_graph.proofs.graphs.Standing.{state_grounded}
use Rattle.shared_graph.proofs.states.Keeps.{IsSound, sound_of, whole_pair, whole_light, revisited_whole}
use Rattle.shared_graph.proofs.states.Meetings.{not_z, listed_not_z}
use Rattle.shared_graph.proofs.states.Passing.{passing_none, listed_in, in_listed, not_false}

-- the owner of a shared point is an agent
owners_below : (n : ℕ) (qs : List SharedPoint) (p a : ℕ) → ((k : ℕ) (d : SharedPoint) → k < length qs → (get_or qs k d).owner < n)
    → owner_among qs p ≡ Some a → a < n
owners_below n [] p a all h = absurd (cc)
owners_below n (q ∷ qs) p a all h =
    elim (p == q.point) as (λ b. (if b then Some q.owner else owner_among qs p) ≡ Some a → a < n) [
      | true ↦ λ g. (let e : q.owner ≡ a = cc in let low = all 0 q (omega arith) in omega arith)
      | false ↦ λ g. owners_below n qs p a (λ k d lt. all (suc k) d (omega arith)) g
    ] h

pub owner_below : (face : InterfaceView) → IsInterface face → (p a : ℕ) → owner_in face p ≡ Some a → a < length face.leans
owner_below face known p a h = owners_below (length face.leans) face.points p a known.owners h

-- the lean of a shared point's owner
pub lean_of : (face : InterfaceView) (p a : ℕ) → owner_in face p ≡ Some a → get_or face.leans a Early ≡ lean_in face p
lean_of face p a is = ap (λ o. get_or face.leans (unwrap_or o 0) Early) (sym is)

-- no point has a time
not_assigned : (s : State) (p : ℕ) → s.assigned ≡ [] → p ≢ 0 → is_assigned s p ≡ false
not_assigned s p no_times apart = ap (λ as_. is_some (assigned_in as_ p) || (p == 0)) no_times ∙ ne_eqb p 0 apart

-- what passes in no rest of a list is left out
filter_alone : (test : ℕ → Bool) (xs : List ℕ) → test 0 ≡ true → ((p : ℕ) → is_in xs p ≡ true → test p ≡ false) → filter test (0 ∷ xs) ≡ 0 ∷ []
filter_alone test xs first rest =
    (λ t. if first t then 0 ∷ filter test xs else filter test xs) ∙ ap (λ ys. 0 ∷ ys) (none xs rest) where
      none : (ys : List ℕ) → ((p : ℕ) → is_in ys p ≡ true → test p ≡ false) → filter test ys ≡ []
      none [] h = refl
      none (y ∷ ys) h =
          let here : test y ≡ false = h y (let same : (y == y) ≡ true = grind (arith, nat_tests) in ap (λ b. is_in ys y || b) same ∙ or-true (is_in ys y)) in
          (λ t. if here t then y ∷ filter test ys else filter test ys) ∙ none ys (λ p there. h p (ap (λ b. b || (p == y)) there))

and_first : (a b : Bool) → (a && b) ≡ false → b ≡ true → a ≡ false
and_first true b h g = absurd (cc)
and_first false b h g = refl

module _ (face : InterfaceView) (known : IsInterface face) (s : State) (together : HoldsTogether face s) where
  -- once all points are revisited, all are eliminated
  all_done : first_passing (λ p. not (is_in s.revisited p)) (points_of face) ≡ None → (p : ℕ) → is_listed face p ≡ true → is_in s.revisited p ≡ true
  all_done none p listed = not_false (is_in s.revisited p) (passing_none (λ p. not (is_in s.revisited p)) (points_of face) none p
      (listed_in face.points p listed))

  pub taken_of : (k : ℕ) → is_listed face k ≡ true → first_passing (λ p. not (is_in s.revisited p)) (points_of face) ≡ None → is_in s.order k ≡ true
  taken_of k listed none = (together.revisits k (all_done none k listed)).whole k listed

  -- the first shared point is the least without a time
  pub no_time_yet : s.assigned ≡ [] → (k : ℕ) → is_listed face k ≡ true → (items : List PointId) → map (λ (p : PointId). p.0) items ≡ points_of face
      → first_passing (λ p. not (is_assigned s p)) (points_of face) ≡ Some (get_or items 0 (point_id 0)).0
  no_time_yet no_times k listed items same =
      ap (first_passing (λ p. not (is_assigned s p))) (sym same)
      ∙ passing_here (λ p. not (is_assigned s p)) items 0 (some items same)
      (ap not (not_assigned s (get_or items 0 (point_id 0)).0 no_times (apart items same))) where
        some : (items : List PointId) → map (λ (p : PointId). p.0) items ≡ points_of face → 0 < length items
        some [] e = absurd (let there : is_in [] k ≡ true = subst (λ xs. is_in xs k ≡ true) (sym e) (listed_in face.points k listed) in cc)
        some (x ∷ xs) e = omega arith

        apart : (items : List PointId) → map (λ (p : PointId). p.0) items ≡ points_of face → (get_or items 0 (point_id 0)).0 ≢ 0
        apart [] e = absurd (let there : is_in [] k ≡ true = subst (λ xs. is_in xs k ≡ true) (sym e) (listed_in face.points k listed) in cc)
        apart (x ∷ xs) e =
            let there : is_in (points_of face) x.0 ≡ true =
            subst (λ ys. is_in ys x.0 ≡ true) e
            (let same : (x.0 == x.0) ≡ true = grind (arith, nat_tests) in ap (λ b. is_in (map (λ (p : PointId). p.0) xs) x.0 || b) same
            ∙ or-true (is_in (map (λ (p : PointId). p.0) xs) x.0)) in
            listed_not_z face known x.0 (in_listed face.points x.0 there)

  -- a point of a whole order is joined with z
  module _ (k : ℕ) (listed : is_listed face k ≡ true) (whole : IsWhole face s) where
    sound : IsSound face s
    sound = sound_of face known s together

    apart_z : k ≢ 0
    apart_z = listed_not_z face known k listed

    pub joins_z : is_joined face s k 0 ≡ true
    joins_z =
        let arc : Constraint = record { from = record { 0 = k }; to = record { 0 = 0 }; bound = pos 0 } in
        let joined : joined_of (meeting_of face s) (before_both s.order k 0) k 0 ≡ true =
        joined-from_walk (meeting_of face s) (before_both s.order k 0) k 0 (arc ∷ [])
        (whole_pair face known s sound whole k arc listed (1, omega arith, refl), refl, refl) in
        let differ : (k == 0) ≡ false = ne_eqb k 0 apart_z in
        (λ t. not (differ t) && joined t)

    pub joined_z : is_joined face s 0 k ≡ true
    joined_z =
        let arc : Constraint = record { from = record { 0 = 0 }; to = record { 0 = k }; bound = face.horizon } in
        let joined : joined_of (meeting_of face s) (before_both s.order 0 k) 0 k ≡ true =
        joined-from_walk (meeting_of face s) (before_both s.order 0 k) 0 k (arc ∷ [])
        (whole_pair face known s sound whole k arc listed (0, omega arith, refl), refl, refl) in
        let differ : (0 == k) ≡ false = ne_eqb 0 k (λ e. apart_z (sym e)) in
        (λ t. not (differ t) && joined t)

    pub later_z : is_later face s k 0 ≡ true
    later_z = (let one = joins_z in let two = none (is_in (before_both s.order k k) 0) refl in (λ t. one t && not (two t))) where
      none : (b : Bool) → is_in (before_both s.order k k) 0 ≡ b → b ≡ false
      none true t = (let o = together.owned 0 (before-in s.order k k 0 t) in absurd (not_z face known 0 o.0 o.1 refl))
      none false t = refl

  pub first_of_all : (k : ℕ) → is_listed face k ≡ true → first_passing (λ p. not (is_in s.revisited p)) (points_of face) ≡ None
      → first_passing (λ p. is_later face s k p && not (is_assigned s p)) (0 ∷ points_of face) ≡ None → s.assigned ≡ [] → IsFirstOfAll face s k
  first_of_all k listed none alone no_times =
      let done = all_done none in
      record {
        revisited = λ p there. ap (λ b. b || (p == 0)) (done p there);
        alone =
            filter_alone (is_later face s k) (points_of face) (later_z k listed (together.revisits k (done k listed)).whole)
            (λ p there. and_first (is_later face s k p) (not (is_assigned s p))
            (passing_none (λ p. is_later face s k p && not (is_assigned s p)) (0 ∷ points_of face) alone p (ap (λ b. b || (p == 0)) there))
            (ap not (not_assigned s p no_times (listed_not_z face known p (in_listed face.points p there)))));
      }

  ground : IsGround (places_in face) (meeting_of face s)
  ground = state_grounded face known s together

  below : IsBelow most_points (meeting_of face s)
  unfolding IsBelow
  below = λ a here. let l = ground.starts a here in let low = ground.below l.0 l.1 in let e = l.2 in omega arith

  bounds : HasBounds greatest_walk (meeting_of face s)
  unfolding HasBounds
  bounds = λ a here. ground.light a here

  -- least bounds are light
  pub light_final : (i j : ℕ) (b : ℤ) → is_joined face s i j ≡ true → is_revisited s i ≡ true → is_revisited s j ≡ true → final face s i j ≡ Some b
      → IsLight 99 b
  light_final i j b joined one two is =
      let there = together.finals i j joined one two in
      let same : Some there.0 ≡ Some b = sym there.1 ∙ is in
      let apart : i ≢ j = (let d = (and_parts (not (i == j)) _ joined).0 in grind (arith, nat_tests)) in
      let sound = sound_of face known s together in
      let light = whole_light face known s sound (revisited_whole face known s sound i j apart one two) in
      let few : nat_abs b ≤ most_points * greatest_walk =
      final_light (meeting_of face s) most_points greatest_walk i j (Some b) below bounds light
      (subst (IsInnerLeast every (meeting_of face s) i j) same there.2) in
      omega arith

  -- the final cells of a first point with z are there
  module _ (k : ℕ) (listed : is_listed face k ≡ true) (first : IsFirstOfAll face s k) where
    visited : is_in s.revisited k ≡ true
    visited = left (is_in s.revisited k) (k == 0) (ne_eqb k 0 (listed_not_z face known k listed)) (first.revisited k listed) where
      left : (a b : Bool) → b ≡ false → (a || b) ≡ true → a ≡ true
      left true b e h = refl
      left false b e h = absurd (cc)

    first_whole : IsWhole face s
    first_whole = (together.revisits k visited).whole

    first_joins : is_joined face s k 0 ≡ true
    first_joins = joins_z k listed first_whole

    first_joined : is_joined face s 0 k ≡ true
    first_joined = joined_z k listed first_whole

    z_visited : is_revisited s 0 ≡ true
    z_visited = or-true (is_in s.revisited 0)

    -- their bounds are there, and are light
    pub back_there : final face s k 0 ≡ None → ⊥
    back_there none = (let there = together.finals k 0 first_joins (first.revisited k listed) z_visited in let e = sym there.1 ∙ none in absurd (cc))

    pub out_there : final face s 0 k ≡ None → ⊥
    out_there none = (let there = together.finals 0 k first_joined z_visited (first.revisited k listed) in let e = sym there.1 ∙ none in absurd (cc))

    pub back_light : (b : ℤ) → final face s k 0 ≡ Some b → IsLight 99 b
    back_light b is = light_final k 0 b first_joins (first.revisited k listed) z_visited is

    pub out_light : (b : ℤ) → final face s 0 k ≡ Some b → IsLight 99 b
    out_light b is = light_final 0 k b first_joined z_visited (first.revisited k listed) is

  -- the rule's time of a first point, from its bounds with z
  first_window : (k : ℕ) (back out : ℤ) (lean : Lean) (from to : ℤ) → IsFirstOfAll face s k
      → final face s k 0 ≡ Some back → final face s 0 k ≡ Some out → lean ≡ lean_in face k → from ≡ pos 0 -ℤ back → to ≡ out
      → chosen lean (Some from) (Some to) ≡ kept_value face s k
  first_window k back out lean from to first is_back is_out is_lean is_from is_to = (λ t. chosen (is_lean t) (low t) (high t)) where
    low : Some from ≡ window_low face s k
    low =
        (let e : from ≡ neg_ℤ (back +ℤ neg_ℤ (pos 0)) = omega (arith, ints) in ap (λ z. Some z) e)
        ∙ sym (ap (λ js. negated (least_over (λ j. sum_of (final face s k j) (negated (value_in s j))) js)) first.alone
        ∙ ap (λ o. negated (lesser (sum_of o (negated (Some (pos 0)))) None)) is_back)

    high : Some to ≡ window_high face s k
    high =
        (let e : to ≡ pos 0 +ℤ out = omega (arith, ints) in ap (λ z. Some z) e)
        ∙ sym (ap (λ js. least_over (λ j. sum_of (value_in s j) (final face s j k)) js) first.alone
        ∙ ap (λ o. lesser (sum_of (Some (pos 0)) o) None) is_out)

  pub first_time : (k : ℕ) (back out : ℤ) (lean : Lean) (from to time as_read : ℤ) → IsFirstOfAll face s k
      → final face s k 0 ≡ Some back → final face s 0 k ≡ Some out → lean ≡ lean_in face k → from ≡ pos 0 -ℤ back → to ≡ out
      → Some time ≡ chosen lean (Some from) (Some to) → as_read ≡ time → Some as_read ≡ kept_value face s k
  first_time k back out lean from to time as_read first is_back is_out is_lean is_from is_to is same =
      ap (λ z. Some z) same ∙ is ∙ first_window k back out lean from to first is_back is_out is_lean is_from is_to
