-- Which point is taken next, and when none is left.
use Rattle.std.proofs.Common.{zero, suc, ◌≡◌, ◌≢◌, ℕ, ◌<◌, ◌≤◌, List, [], ◌∷◌, ◌++◌, true, false, ◌||◌, Option, Some, None, ap, sym}
use Rattle.std.proofs.Common.{◌∙◌, refl, arith, subst, length, get_or, take, map}
use Rattle.std.specs.Prelude.{◌==◌, reverse, slice_index, slice_index_or}
use Rattle.std.specs.List.{AllByRecursion}
use Rattle.std.proofs.lemmas.Bool.Decides.{nat_tests}
use Rattle.std.proofs.lemmas.List.{length-map, get_or-map, get_or-take, length-take-le, length-reverse}
use Rattle.stn_model.specs.Limits.{most_points}
use Rattle.stn_model.specs.declared.ids.PointId.{PointId}
use Rattle.stn_model.specs.Walks.{AllDifferent}
use Rattle.stn_walk.specs.Eliminations.{is_in}
use Rattle.stn_walk.proofs.Different.{few_different, different_at}
use Rattle.stn_walk.proofs.Joins.{is_in-reverse}
use Rattle.private_elim.specs.Locals.{LocalView, IsLocal, is_private_in, place_in, private_at, passes_at}
use Rattle.private_elim.specs.Taken.{TakenView, HasTaken, StopsAt}
use Rattle.private_elim.specs.Picked.{IsPicked, ArePicked}
use Rattle.private_elim.specs.declared.outcome.PrivateOutcome.{PrivateOutcome}
use Rattle.private_elim.specs.declared.outcome.PrivateOutcome.TheVariants.{Reduced, Conflict}
use Rattle.private_elim.specs.Outcomes.{IsNext, IsReducedFrom, IsConflictFrom, IsListedOutcome, IsPickedOutcome, IsReducedWith}
use Rattle.private_elim.proofs.locals.LocalFacts.{points_small}
use Rattle.private_elim.proofs.taking.Takes.{order_push}
use Rattle.private_elim.proofs.locals.Places.{place_found}

-- a private point has a place
pub private_placed : (v : LocalView) (p : ℕ) → is_private_in v p ≡ true → (k : ℕ) × (place_in v.points p ≡ Some k)
private_placed v p h = by (place_in v.points p) refl where
  by : (o : Option ℕ) → place_in v.points p ≡ o → (k : ℕ) × (place_in v.points p ≡ Some k)
  by None e = absurd (let f : is_private_in v p ≡ false = ap (passes_at (private_at v)) e in cc)
  by (Some k) e = (k, e)

private_below : (v : LocalView) → IsLocal v → (p : ℕ) → is_private_in v p ≡ true → p < most_points
private_below v h p private =
    let k = private_placed v p private in
    let found = place_found v.points p k.0 k.1 in
    let low = points_small v h k.0 0 found.0 in
    let is = found.1 in
    omega arith

-- at most as many points are taken as a network may have
pub few_taken : (t : TakenView) → HasTaken t → length t.order ≤ most_points
few_taken t h = few_different most_points t.order h.once (all t.order h.private) where
  all : (xs : List ℕ) → AllByRecursion (λ p. is_private_in t.local p ≡ true) xs → AllByRecursion (λ p. p < most_points) xs
  all [] a = tt
  all (x ∷ xs) a = (private_below t.local h.known x a.0, all xs a.1)

-- the next point of an order in which no point stands twice
not_before : (xs : List ℕ) (n : ℕ) → n < length xs → AllDifferent xs → is_in (take n xs) (get_or xs n 0) ≡ false
not_before xs n lt once = by (take n xs) (λ k lk e. different_at xs once n k lt (less k lk) (prefix k lk ∙ e)) where
  less : (k : ℕ) → k < length (take n xs) → k < n
  less k lk = let e = length-take-le n xs (omega arith) in omega arith

  prefix : (k : ℕ) → k < length (take n xs) → get_or xs k 0 ≡ get_or (take n xs) k 0
  prefix k lk = sym (get_or-take n xs k 0 (less k lk))

  by : (ys : List ℕ) → ((k : ℕ) → k < length ys → get_or ys k 0 ≡ get_or xs n 0 → ⊥) → is_in ys (get_or xs n 0) ≡ false
  by [] apart = refl
  by (y ∷ ys) apart =
      let ne : get_or xs n 0 ≢ y = λ e. apart 0 (omega arith) (sym e) in
      let off : (get_or xs n 0 == y) ≡ false = grind (arith, nat_tests) in
      let rest = by ys (λ k lk e. apart (suc k) (omega arith) e) in
      (λ t. rest t || off t)

-- the place of the next point of an order
pub listed_next : (t : TakenView) (order : List PointId) (n place : ℕ) → n < length order → t.order ≡ take n (map (λ (p : PointId). p.0) order)
    → AllByRecursion (λ (p : PointId). is_private_in t.local p.0 ≡ true) order → AllDifferent (map (λ (p : PointId). p.0) order)
    → place_in t.local.points (slice_index_or order n (record { 0 = 0 })).0 ≡ Some place → IsNext t (slice_index (map (λ (p : PointId). p.0) order) n) place
listed_next t order n place lt taken private once e =
    let xs = map (λ (p : PointId). p.0) order in
    let many : length xs ≡ length order = length-map order (λ (p : PointId). p.0) in
    let here : get_or xs n 0 ≡ (slice_index_or order n (record { 0 = 0 })).0 = get_or-map (λ (p : PointId). p.0) order n (record { 0 = 0 }) 0 lt in
    let found = place_found t.local.points (slice_index_or order n (record { 0 = 0 })).0 place e in
    let apart : is_in (take n xs) (get_or xs n 0) ≡ false = not_before xs n (omega arith) once in
    record {
      within = found.0;
      is = found.1 ∙ sym here;
      private = ap (is_private_in t.local) here ∙ each order n lt private;
      left = is_in-reverse t.order (get_or xs n 0) ∙ ap (λ ys. is_in ys (get_or xs n 0)) taken ∙ apart;
    } where
      each : (ps : List PointId) (n : ℕ) → n < length ps → AllByRecursion (λ (p : PointId). is_private_in t.local p.0 ≡ true) ps
          → is_private_in t.local (slice_index_or ps n (record { 0 = 0 })).0 ≡ true
      each [] n lt all = absurd (omega arith)
      each (p ∷ ps) zero lt all = all.0
      each (p ∷ ps) (suc n) lt all = each ps n (omega arith) all.1

-- the answer for a given order, once all of it is taken
pub listed_reduced : (v : LocalView) (t : TakenView) (order : List ℕ) (o : PrivateOutcome) → t.local ≡ v → t.order ≡ order → IsReducedFrom t o
    → IsListedOutcome v order o
listed_reduced v t order (Reduced r) local is h = rw (sym local, sym is) h
listed_reduced v t order (Conflict walk place other) local is h = absurd h

-- and where a point of it fails
pub listed_conflict : (v : LocalView) (t : TakenView) (order : List ℕ) (n : ℕ) (q : ℕ) (o : PrivateOutcome) → t.local ≡ v → n < length order
    → t.order ≡ take n order
    → StopsAt t.local (reverse t.order) (slice_index order n) q → IsConflictFrom t q o → IsListedOutcome v order o
listed_conflict v t order n q (Reduced r) local lt is stops h = absurd h
listed_conflict v t order n q (Conflict walk place other) local lt is stops h =
    let many : length t.order ≡ n = ap (λ (xs : List ℕ). length xs) is ∙ length-take-le n order (omega arith) in
    let at : place ≡ n = h.1 ∙ many in (
      rw (sym local) h.0,
      omega arith,
      rw (at, h.2, sym local, sym is) stops,
    )

-- the answer for an order that the picker allows, once no private point is left
pub picked_reduced : (answers : ℕ → ℕ → ℕ → Type 0) (v : LocalView) (t : TakenView) (o : PrivateOutcome) → t.local ≡ v
    → ArePicked answers t.local (reverse t.order) → IsReducedFrom t o → IsPickedOutcome answers v o
picked_reduced answers v t (Reduced r) local picked h = (
  subst (λ w. IsReducedWith w r.order r) local (subst (λ xs. IsReducedWith t.local xs r) (sym h.order_is) h),
  subst (λ w. ArePicked answers w (reverse r.order)) local (subst (λ xs. ArePicked answers t.local (reverse xs)) (sym h.order_is) picked),
)
picked_reduced answers v t (Conflict walk place other) local picked h = absurd h

-- and where the point that was picked fails
pub picked_conflict : (answers : ℕ → ℕ → ℕ → Type 0) (v : LocalView) (t : TakenView) (p q : ℕ) (o : PrivateOutcome) → t.local ≡ v
    → ArePicked answers t.local (reverse t.order) → IsPicked answers t.local (reverse t.order) p
    → StopsAt t.local (reverse t.order) p q → IsConflictFrom t q o → IsPickedOutcome answers v o
picked_conflict answers v t p q (Reduced r) local picked next stops h = absurd h
picked_conflict answers v t p q (Conflict walk place other) local picked next stops h = (
  rw (sym local) h.0,
  rw (sym local) (record {
    taken = reverse t.order;
    picked = picked;
    many = length-reverse t.order ∙ sym h.1;
    next = p;
    next_picked = next;
    stops = rw h.2 stops;
  }),
)

-- the same of a state that is equal
pub picked_stop : (answers : ℕ → ℕ → ℕ → Type 0) (v : LocalView) (t u : TakenView) (p q : ℕ) (o : PrivateOutcome) → u.local ≡ t.local → u.order ≡ t.order
    → t.local ≡ v → ArePicked answers t.local (reverse t.order)
    → IsPicked answers t.local (reverse t.order) p → StopsAt t.local (reverse t.order) p q → IsConflictFrom u q o → IsPickedOutcome answers v o
picked_stop answers v t u p q o e_local e_order local picked next stops h =
    let same : u ≡ t = (λ i. record { local = e_local i; order = e_order i }) in
    picked_conflict answers v t p q o local picked next stops (subst (λ (w : TakenView). IsConflictFrom w q o) same h)

-- one point more was picked
pub picked_more : (answers : ℕ → ℕ → ℕ → Type 0) (t u : TakenView) (p : ℕ) → u.local ≡ t.local → u.order ≡ t.order ++ p ∷ []
    → ArePicked answers t.local (reverse t.order)
    → IsPicked answers t.local (reverse t.order) p → ArePicked answers u.local (reverse u.order)
picked_more answers t u p local is picked next =
    subst (λ w. ArePicked answers w (reverse u.order)) (sym local)
    (subst (ArePicked answers t.local) (sym (ap reverse is ∙ order_push t.order p)) (next, picked))
