-- One more point in an order that follows last arcs, and the whole order.
use Rattle.std.proofs.Common.{◌≡◌, ◌≢◌, ℕ, zero, suc, ◌+◌, ◌-◌, ◌*◌, ◌<◌, ◌≤◌, ℤ, List, [], ◌∷◌, ◌++◌, length, get_or, set, replicate, refl, sym, ap, subst, ◌∙◌, ⊎_elim, ◌⊎◌, inl, inr, arith, length-set, get_or-set_same, get_or-set_other}
use Rattle.std.specs.List.{sum_by}
use Rattle.std.proofs.lemmas.Bool.{cases_eq}
use Rattle.std.proofs.lemmas.List.{length_push, get_or_push, get_or_append_left, get_or-replicate, length-replicate}
use Rattle.std.proofs.lemmas.List.Sums.{sum_by-set}
use Rattle.std.proofs.lemmas.List.Folds.{sum_by-replicate}
use Rattle.stn_model.specs.declared.ids.PointId.{PointId}
use Rattle.plain_solve.specs.declared.graph.Graph.{Graph}
use Rattle.plain_solve.specs.LeastWalks.{point_at, IsBefore, ListsOthersOnce}
use Rattle.plain_solve.specs.declared.order.Arranged.{Arranged}
use Rattle.plain_solve.specs.OrderFacts.{parent, IsOrder, IsInOrder, IsTried, Grows, GrowsBy, IsArranged}

pub nothing_placed : (g : Graph) (last places : List ℕ) (order : List PointId) → order ≡ [] → places ≡ replicate g.points 0 → g.root < g.points → IsOrder g last order places
nothing_placed g last places order none e root_in =
    let empty = ap (λ xs. length xs) none in
    let zero_at : (p : ℕ) → p < g.points → get_or places p 0 ≡ 0 = λ p within. ap (λ (xs : List ℕ). get_or xs p 0) e ∙ get_or-replicate g.points p 0 0 within in
    record {
      marks = ap (λ (xs : List ℕ). length xs) e ∙ length-replicate {A = ℕ} g.points 0;
      root = zero_at g.root root_in;
      listed = λ k lt. absurd (omega arith);
      placed = λ p within more. let z = zero_at p within in absurd (omega arith);
      after = λ k lt. absurd (omega arith);
      few = let s = ap (sum_by (λ (c : ℕ). 1 - c)) e ∙ sum_by-replicate (λ (c : ℕ). 1 - c) g.points 0 in omega arith;
    }

module _ (g : Graph) (last : List ℕ) (order : List PointId) (places : List ℕ) (i : IsOrder g last order places)
    (p : ℕ) (within : p < g.points) (away : p ≢ g.root) (fresh : get_or places p 0 ≡ 0) (above_in : parent g last p < g.points)
    (above : (parent g last p ≡ g.root) ⊎ (0 < get_or places (parent g last p) 0)) where
  here : point_at (order ++ record { 0 = p } ∷ []) (length order) ≡ p
  here = ap (λ (q : PointId). q.0) (get_or_push order (record { 0 = p }) (record { 0 = 0 }) (length order) refl)

  earlier : (k : ℕ) → k < length order → point_at (order ++ record { 0 = p } ∷ []) k ≡ point_at order k
  earlier k lt = ap (λ (q : PointId). q.0) (get_or_append_left order (record { 0 = p } ∷ []) (record { 0 = 0 }) k lt)

  p_in : p < length places
  p_in = omega (arith, i.marks)

  place_here : get_or (set places p (length order + 1)) p 0 ≡ length order + 1
  place_here = get_or-set_same places p (length order + 1) 0 p_in

  place_elsewhere : (q : ℕ) → q ≢ p → get_or (set places p (length order + 1)) q 0 ≡ get_or places q 0
  place_elsewhere q e = get_or-set_other places p q (length order + 1) 0 e

  before_end : IsBefore g.root (order ++ record { 0 = p } ∷ []) (length order) (parent g last p)
  before_end = ⊎_elim
      (λ (root : parent g last p ≡ g.root). inl root)
      (λ (some : 0 < get_or places (parent g last p) 0).
      let at = i.placed (parent g last p) above_in some in
      let low = at.0 in
      let lt : get_or places (parent g last p) 0 - 1 < length order = omega arith in
      inr (get_or places (parent g last p) 0 - 1, lt, earlier (get_or places (parent g last p) 0 - 1) lt ∙ at.1))
      above

  before_kept : (k q : ℕ) → k ≤ length order → IsBefore g.root order k q → IsBefore g.root (order ++ record { 0 = p } ∷ []) k q
  before_kept k q most b = ⊎_elim
      (λ (root : q ≡ g.root). inl root)
      (λ (at : (j : ℕ) × (j < k) × (point_at order j ≡ q)). let lt = at.1 in let in_order : at.0 < length order = omega arith in inr (at.0, at.1, earlier at.0 in_order ∙ at.2))
      b

  pub one_more : IsOrder g last (order ++ record { 0 = p } ∷ []) (set places p (length order + 1))
  one_more = record {
    marks = length-set places p (length order + 1) ∙ i.marks;
    root = place_elsewhere g.root (λ e. away (sym e)) ∙ i.root;
    listed = λ k lt.
        let len = length_push order (record { 0 = p }) in
        ⊎_elim
        (λ (e : k ≡ length order).
        let is : point_at (order ++ record { 0 = p } ∷ []) k ≡ p = ap (point_at (order ++ record { 0 = p } ∷ [])) e ∙ here in
        let at = ap (λ (x : ℕ). get_or (set places p (length order + 1)) x 0) is ∙ place_here in
        (omega arith, omega arith))
        (λ (e : k ≢ length order).
        let lower : k < length order = omega arith in
        let is = earlier k lower in
        let old = i.listed k lower in
        let old_in = old.0 in
        let old_at = old.1 in
        let apart : point_at order k ≢ p = λ z. let same = ap (λ (x : ℕ). get_or places x 0) z in omega arith in
        let at = ap (λ (x : ℕ). get_or (set places p (length order + 1)) x 0) is ∙ place_elsewhere (point_at order k) apart in
        (omega arith, omega arith))
        (cases_eq k (length order));
    placed = λ q q_in some.
        let len = length_push order (record { 0 = p }) in
        ⊎_elim
        (λ (e : q ≡ p).
        let at = ap (λ (x : ℕ). get_or (set places p (length order + 1)) x 0) e ∙ place_here in
        let back : get_or (set places p (length order + 1)) q 0 - 1 ≡ length order = omega arith in
        (omega arith, ap (point_at (order ++ record { 0 = p } ∷ [])) back ∙ here ∙ sym e))
        (λ (e : q ≢ p).
        let at = place_elsewhere q e in
        let old_some : 0 < get_or places q 0 = omega arith in
        let old = i.placed q q_in old_some in
        let old_high = old.0 in
        let lt : get_or places q 0 - 1 < length order = omega arith in
        let back : get_or (set places p (length order + 1)) q 0 - 1 ≡ get_or places q 0 - 1 = omega arith in
        (omega arith, ap (point_at (order ++ record { 0 = p } ∷ [])) back ∙ earlier (get_or places q 0 - 1) lt ∙ old.1))
        (cases_eq q p);
    after = λ k lt.
        let len = length_push order (record { 0 = p }) in
        ⊎_elim
        (λ (e : k ≡ length order).
        let is : point_at (order ++ record { 0 = p } ∷ []) k ≡ p = ap (point_at (order ++ record { 0 = p } ∷ [])) e ∙ here in
        subst (λ (x : ℕ). IsBefore g.root (order ++ record { 0 = p } ∷ []) x (parent g last (point_at (order ++ record { 0 = p } ∷ []) k))) (sym e)
        (subst (λ (x : ℕ). IsBefore g.root (order ++ record { 0 = p } ∷ []) (length order) (parent g last x)) (sym is) before_end))
        (λ (e : k ≢ length order).
        let lower : k < length order = omega arith in
        subst (λ (x : ℕ). IsBefore g.root (order ++ record { 0 = p } ∷ []) k (parent g last x)) (sym (earlier k lower))
        (before_kept k (parent g last (point_at order k)) (omega arith) (i.after k lower)))
        (cases_eq k (length order));
    few =
        let s = sum_by-set (λ (c : ℕ). 1 - c) places p (length order + 1) 0 p_in in
        let len = length_push order (record { 0 = p }) in
        let old = i.few in
        omega arith;
  }

-- where no point is without a place, the order lists each other point once
pub whole_order : (g : Graph) (last : List ℕ) (order : List PointId) (places : List ℕ) → IsOrder g last order places
    → ((p : ℕ) → p ≢ g.root → p < g.points → get_or places p 0 ≡ 0 → ⊥) → IsArranged g last order
whole_order g last order places i none = record {
  others = record {
    others = λ k lt.
        let l = i.listed k lt in
        let at = l.1 in
        (l.0, λ e. let root = ap (λ (x : ℕ). get_or places x 0) e ∙ i.root in omega arith);
    once = λ j k less lt e.
        let lower : j < length order = omega arith in
        let at_j = (i.listed j lower).1 in
        let at_k = (i.listed k lt).1 in
        let same = ap (λ (x : ℕ). get_or places x 0) e in
        omega arith;
    each = λ p within away.
        ⊎_elim
        (λ (fresh : get_or places p 0 ≡ 0). absurd (none p away within fresh))
        (λ (some : get_or places p 0 ≢ 0).
        let more : 0 < get_or places p 0 = omega arith in
        let at = i.placed p within more in
        let high = at.0 in
        let lt : get_or places p 0 - 1 < length order = omega arith in
        (get_or places p 0 - 1, lt, at.1))
        (cases_eq (get_or places p 0) 0);
  };
  after = i.after;
}

-- a point without a place was tried in vain
pub unchanged : (g : Graph) (last : List ℕ) (a : Arranged) (p : ℕ) → IsInOrder g last a → IsTried g last a.places.items p → GrowsBy g last p a a
unchanged g last a p i tried = record { grows = record { order = i; more = omega arith; same = λ e. refl }; tried = λ e. tried }

-- a point was added
pub grown : (g : Graph) (last : List ℕ) (old new : Arranged) → IsInOrder g last old → (p : ℕ)
    → p < g.points → p ≢ g.root → get_or old.places.items p 0 ≡ 0 → parent g last p < g.points
    → (parent g last p ≡ g.root) ⊎ (0 < get_or old.places.items (parent g last p) 0)
    → new.order.items ≡ old.order.items ++ record { 0 = p } ∷ [] → new.places.items ≡ set old.places.items p (length old.order.items + 1) → GrowsBy g last p old new
grown g last old new i p within away fresh above_in above order_is places_is =
    let len : length new.order.items ≡ length old.order.items + 1 = ap (λ xs. length xs) order_is ∙ length_push old.order.items (record { 0 = p }) in
    record {
      grows = record {
        order = subst (λ (xs : List PointId). IsOrder g last xs new.places.items) (sym order_is)
            (subst (λ (xs : List ℕ). IsOrder g last (old.order.items ++ record { 0 = p } ∷ []) xs) (sym places_is)
            (one_more g last old.order.items old.places.items i p within away fresh above_in above));
        more = omega arith;
        same = λ e. absurd (omega arith);
      };
      tried = λ e. absurd (omega arith);
    }

pub grows_then : (g : Graph) (last : List ℕ) (a b d : Arranged) (p : ℕ) → Grows g last a b → GrowsBy g last p b d → GrowsBy g last p a d
grows_then g last a b d p first next =
    let low = first.more in
    let high = next.grows.more in
    record {
      grows = record {
        order = next.grows.order;
        more = omega arith;
        same = λ e. let left : length a.order.items ≡ length b.order.items = omega arith in
            let right : length b.order.items ≡ length d.order.items = omega arith in
            next.grows.same right ∙ first.same left;
      };
      tried = λ e. let right : length b.order.items ≡ length d.order.items = omega arith in next.tried right;
    }

-- where nothing was added by one point more either, all these were tried
pub tried_more : (g : Graph) (last : List ℕ) (a b d : Arranged) (n : ℕ) → Grows g last a b
    → (length a.order.items ≡ length b.order.items → (q : ℕ) → q < n → IsTried g last b.places.items q)
    → GrowsBy g last n b d → length a.order.items ≡ length d.order.items → (q : ℕ) → q < n + 1 → IsTried g last d.places.items q
tried_more g last a b d n first tried next e q lt =
    let low = first.more in
    let high = next.grows.more in
    let left : length a.order.items ≡ length b.order.items = omega arith in
    let right : length b.order.items ≡ length d.order.items = omega arith in
    ⊎_elim
    (λ (here : n ≡ q). subst (λ (x : ℕ). IsTried g last d.places.items x) here (next.tried right))
    (λ (other : n ≢ q).
    let lower : q < n = omega arith in
    subst (λ (xs : List ℕ). IsTried g last xs q) (sym (next.grows.same right)) (tried left q lower))
    (cases_eq n q)
