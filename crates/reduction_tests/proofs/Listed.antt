-- Lists of points, one point more.
use Rattle.std.proofs.Common.{zero, suc, ◌≡◌, ◌≢◌, ℕ, ◌+◌, ◌<◌, List, [], ◌∷◌, ◌++◌, Bool, true, false, ◌||◌, ◌&&◌, not, Some, None, Option, ap, sym}
use Rattle.std.proofs.Common.{◌∙◌, refl, arith, length, get_or, take, map, subst, inl, inr, ◌⊎◌}
use Rattle.std.specs.Prelude.{◌==◌, slice_index_or, ℤ, is_some, reverse, Contains}
use Rattle.std.proofs.lemmas.Bool.Decides.{nat_tests}
use Rattle.std.proofs.lemmas.List.{take_more, map-append, get_or_default}
use Rattle.stn_model.specs.declared.ids.PointId.{PointId}
use Rattle.stn_model.specs.Walks.{AllDifferent}
use Rattle.stn_walk.specs.Eliminations.{is_in, before_both}
use Rattle.stn_walk.proofs.Members.{is_in-at, is_in-push}
use Rattle.stn_walk.proofs.Different.{AllDifferent-push}
use Rattle.stn_model.specs.Inner.{IsInnerWeight}
use Rattle.elim_step.specs.declared.summary.Window.{Window}
use Rattle.elim_step.specs.Eliminated.{point_at}
use Rattle.private_elim.specs.Locals.{LocalView, IsLocal, is_private_in, place_in, private_at, passes_at, arcs_in, IsWindowOf}
use Rattle.elim_step.specs.Summaries.{entry_in}
use Rattle.private_elim.specs.ReducedViews.{ReducedView, IsWeightBetween}
use Rattle.private_elim.proofs.taking.Choices.{private_placed}
use Rattle.private_elim.proofs.locals.Places.{place_found}

-- the numbers of the points before one more
pub numbers_more : (points : List PointId) (n : ℕ) → n < length points
    → map (λ (p : PointId). p.0) (take (n + 1) points) ≡ map (λ (p : PointId). p.0) (take n points) ++ (slice_index_or points n (record { 0 = 0 })).0 ∷ []
numbers_more points n lt =
    ap (map (λ (p : PointId). p.0)) (take_more points n (record { 0 = 0 }) lt)
    ∙ map-append (λ (p : PointId). p.0) (take n points) (slice_index_or points n (record { 0 = 0 }) ∷ [])

pub listed_more : (points : List PointId) (n q : ℕ) (listed : Bool) → n < length points → listed ≡ is_in (map (λ (p : PointId). p.0) (take n points)) q
    → (listed || (q == (slice_index_or points n (record { 0 = 0 })).0)) ≡ is_in (map (λ (p : PointId). p.0) (take (n + 1) points)) q
listed_more points n q listed lt was =
    ap (λ b. b || (q == (slice_index_or points n (record { 0 = 0 })).0)) was
    ∙ sym (is_in-push (map (λ (p : PointId). p.0) (take n points)) (slice_index_or points n (record { 0 = 0 })).0 q)
    ∙ ap (λ xs. is_in xs q) (sym (numbers_more points n lt))

pub different_more : (points : List PointId) (n : ℕ) → n < length points → AllDifferent (map (λ (p : PointId). p.0) (take n points))
    → is_in (map (λ (p : PointId). p.0) (take n points)) (slice_index_or points n (record { 0 = 0 })).0 ≡ false
    → AllDifferent (map (λ (p : PointId). p.0) (take (n + 1) points))
different_more points n lt was fresh =
    let xs = map (λ (p : PointId). p.0) (take n points) in
    let x = (slice_index_or points n (record { 0 = 0 })).0 in
    subst AllDifferent (sym (numbers_more points n lt))
    (AllDifferent-push xs x was (λ k lk e. absurd (let here = is_in-at xs k lk in let f = ap (is_in xs) e in cc)))

-- each private point is listed, where those of all places are
pub whole_from_places : (v : LocalView) (order : List ℕ) → ((k : ℕ) → k < length v.points → private_at v k ≡ true → is_in order (point_at v.points k) ≡ true)
    → (p : ℕ) → is_private_in v p ≡ true → is_in order p ≡ true
whole_from_places v order each p private =
    let k = private_placed v p private in
    let found = place_found v.points p k.0 k.1 in
    let here : private_at v k.0 ≡ true = sym (ap (passes_at (private_at v)) k.1) ∙ private in
    ap (is_in order) (sym found.1) ∙ each k.0 found.0 here

-- the places below one more
pub places_more : (v : LocalView) (order : List ℕ) (n : ℕ) → ((k : ℕ) → k < n → private_at v k ≡ true → is_in order (point_at v.points k) ≡ true)
    → (private_at v n ≡ true → is_in order (point_at v.points n) ≡ true) → (k : ℕ) → k < n + 1 → private_at v k ≡ true
    → is_in order (point_at v.points k) ≡ true
places_more v order n was last k lk private =
    elim (k == n) as (λ b. (k == n) ≡ b → is_in order (point_at v.points k) ≡ true) [
      | true ↦ λ t. let e : k ≡ n = grind (arith, nat_tests) in ap (λ m. is_in order (point_at v.points m)) e ∙ last (sym (ap (private_at v) e) ∙ private)
      | false ↦ λ t. let ne : k ≢ n = grind (arith, nat_tests) in was k (omega arith) private
    ] refl

-- a pair with an entry or a forward weight has a weight
pub weight_there : (r : ReducedView) (i j : ℕ) (entry forward : Option ℤ) → entry ≡ entry_in r.summary i j → (i ≡ j → forward ≡ None)
    → (i ≢ j → IsInnerWeight (is_in (before_both (reverse r.order) i j)) (arcs_in r.local) i j forward) → (is_some entry || is_some forward) ≡ true
    → (w : ℤ) × IsWeightBetween r i j w
weight_there r i j (Some v) forward is same least some = (v, inl (sym is))
weight_there r i j None None is same least some = absurd (cc)
weight_there r i j None (Some w) is same least some =
    let apart : i ≢ j = λ e. (let f = same e in cc) in
    (w, inr (sym is, apart, least apart))

-- a point with a place is one of the local problem
pub placed_contained : (points : List ℕ) (p k : ℕ) → place_in points p ≡ Some k → Contains points p
placed_contained points p k e = let found = place_found points p k e in (k, found.0, get_or_default points k p 0 found.0 ∙ found.1)

-- the one window of a list is one
pub window_at : (points : List ℕ) (ws : List Window) (w : Window) → ws ≡ w ∷ [] → IsWindowOf points w → (k : ℕ) (d : Window) → k < length ws
    → IsWindowOf points (get_or ws k d)
window_at points ws w one known k d lt =
    let many = ap (λ (xs : List Window). length xs) one in
    let first : k ≡ 0 = omega arith in
    subst (IsWindowOf points) (sym (ap (λ n. get_or ws n d) first ∙ ap (λ xs. get_or xs 0 d) one)) known
