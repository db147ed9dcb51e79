-- The place of each point in an order, found from the order's end on: item_in, AreSet, set_none, set_more, set_all; and that the points of the order of all points
-- are points of the network: order_within.
use Rattle.std.proofs.Common.{◌≡◌, ◌≢◌, ⊎_elim, ℕ, ◌+◌, ◌-◌, ◌<◌, ◌≤◌, List, [], ◌∷◌, ◌++◌, true, false, not, cond, length, drop, get_or}
use Rattle.std.proofs.Common.{set, ap, sym, ◌∙◌, refl, arith, subst, inl, inr, Option, Some, None, if◌then◌else◌, get_or-set_same, get_or-set_other}
use Rattle.std.specs.Prelude.{nat_eq, reverse, slice_get, slice_index}
use Rattle.std.specs.Option.{option_eq, option_map}
use Rattle.std.proofs.lemmas.Bool.{cases_eq, eq-eqb, false≢true, ne_eqb, or_cases}
use Rattle.std.proofs.lemmas.Bool.Decides.{nat_tests}
use Rattle.std.proofs.lemmas.List.{drop_more, drop_all, get_or-map, length-map, length-set}
use Rattle.std.proofs.lemmas.Option.{slice_get_within}
use Rattle.stn_model.specs.declared.ids.PointId.{PointId}
use Rattle.stn_model.specs.Kinds.{is_owned_by}
use Rattle.stn_model.specs.Net.{Net, Place, point_count}
use Rattle.stn_model.specs.Valid.{IsNetwork}
use Rattle.stn_walk.specs.Eliminations.{is_in}
use Rattle.stn_walk.proofs.Joins.{is_in-reverse}
use Rattle.stn_walk.proofs.Members.{is_in-at}
use Rattle.stn_walk.proofs.PrivateArcs.{private_owned}
use Rattle.elim_step.proofs.Parts.{is_in-append}
use Rattle.shared_graph.proofs.interfaces.SharedPoints.{shared_within}
use Rattle.stn_model.specs.Kinds.{is_shared}
use Rattle.private_elim.specs.ReducedViews.{ReducedView}
use Rattle.shared_graph.specs.States.{State}
use Rattle.conflict_cycle.specs.Belongs.{AreReducedOf}
use Rattle.conflict_cycle.specs.Edges.{place_of, ArePlaces}
use Rattle.conflict_cycle.specs.PartOrders.{order_of, AreReduced}
use Rattle.conflict_cycle.proofs.LaidOrders.{all_private, laid, laid_private}
use Rattle.conflict_cycle.proofs.PartLists.{orders, numbers}

-- the points from a place on have their places, and the others the order's length
pub record AreSet (points : ℕ) (order : List PointId) (k : ℕ) (places : List ℕ) : Type 0 where
  pub within : k ≤ length order
  pub one_each : length places ≡ points
  pub each : (p : ℕ) → p < points → slice_index places p ≡ k + place_of (numbers (drop k order)) p

-- a point at a place of an order is one of it
pub item_in : (order : List PointId) (k : ℕ) (d : PointId) → k < length order → is_in (numbers order) (get_or order k d).0 ≡ true
item_in order k d lt =
    subst (λ p. is_in (numbers order) p ≡ true) (get_or-map (λ (p : PointId). p.0) order k d 0 lt)
    (is_in-at (numbers order) k (omega (arith, length-map order (λ (p : PointId). p.0))))

module _ (points : ℕ) (order : List PointId) where
  pub set_none : (places : List ℕ) → length places ≡ points → ((p : ℕ) → p < points → slice_index places p ≡ length order)
      → AreSet points order (length order) places
  set_none places len each = record {
    within = omega arith;
    one_each = len;
    each = λ p low.
        let is = each p low in
        let none : place_of (numbers (drop (length order) order)) p ≡ 0 = ap (λ ps. place_of (numbers ps) p) (drop_all (length order) order (omega arith)) in
        omega arith;
  }

  pub set_more : (k : ℕ) (d : PointId) (places : List ℕ) → k < length order → (get_or order k d).0 < points → AreSet points order (k + 1) places
      → AreSet points order k (set places (get_or order k d).0 k)
  set_more k d places lt low h = record {
    within = omega arith;
    one_each = length-set places x k ∙ h.one_each;
    each = λ p below. ⊎_elim (λ (same : p ≡ x). here p same) (λ (apart : p ≢ x). there p below apart) (cases_eq p x);
  } where
    x : ℕ
    x = (get_or order k d).0

    step : (p : ℕ) → place_of (numbers (drop k order)) p ≡ cond (not (nat_eq p x)) (1 + place_of (numbers (drop (k + 1) order)) p) 0
    step p = ap (λ ps. place_of (numbers ps) p) (drop_more order k d lt)

    here : (p : ℕ) → p ≡ x → slice_index (set places x k) p ≡ k + place_of (numbers (drop k order)) p
    here p same =
        let len = h.one_each in
        let now : place_of (numbers (drop k order)) p ≡ 0 =
        step p ∙ ap (λ b. cond (not b) (1 + place_of (numbers (drop (k + 1) order)) p) 0) (eq-eqb p x same) in
        let is : slice_index (set places x k) p ≡ k =
        ap (slice_index (set places x k)) same ∙ get_or-set_same places x k 0 (omega arith) in
        omega arith

    there : (p : ℕ) → p < points → p ≢ x → slice_index (set places x k) p ≡ k + place_of (numbers (drop k order)) p
    there p below apart =
        let now : place_of (numbers (drop k order)) p ≡ 1 + place_of (numbers (drop (k + 1) order)) p =
        step p ∙ ap (λ b. cond (not b) (1 + place_of (numbers (drop (k + 1) order)) p) 0) (ne_eqb p x apart) in
        let is : slice_index (set places x k) p ≡ slice_index places p = get_or-set_other places x p k 0 apart in
        let was = h.each p below in
        omega arith

  pub set_all : (k : ℕ) (places : List ℕ) → k ≡ 0 → AreSet points order k places → ArePlaces points (numbers order) places
  set_all k places none h = record {
    one_each = h.one_each;
    each = λ p low.
        let is = h.each p low in
        let all : place_of (numbers (drop k order)) p ≡ place_of (numbers order) p = ap (λ n. place_of (numbers (drop n order)) p) none in
        omega arith;
  }

listed : (places : List Place) (k agent : ℕ) (o : Option Place) → slice_get places k ≡ o
    → option_eq nat_eq (option_map (λ q. q.owner) o) (Some agent) ≡ true → k < length places
listed places k agent None e own = absurd (false≢true own)
listed places k agent (Some q) e own = slice_get_within places k q e

-- a point of an agent is one of the network
owned_within : (net : Net) (agent p : ℕ) → nat_eq p 0 ≡ false → is_owned_by net agent p ≡ true → p < point_count net
owned_within net agent p off own =
    let other : p ≢ 0 = grind (arith, nat_tests) in
    let there = listed net.places (p - 1) agent (slice_get net.places (p - 1)) refl
    (sym (ap (λ b. option_eq nat_eq (if b then None else option_map (λ q. q.owner) (slice_get net.places (p - 1))) (Some agent)) off) ∙ own) in
    omega arith

module _ (net : Net) (valid : IsNetwork net) (reduced : List ReducedView) (s : State) (parts : AreReducedOf net reduced) (each : AreReduced reduced)
    (shared : (p : ℕ) → is_in s.order p ≡ true → is_shared net p ≡ true) where
  -- each point of the order of all points is one of the network
  pub order_within : (p : ℕ) → is_in (order_of reduced s) p ≡ true → p < point_count net
  order_within p h =
      let here = sym (ap (λ ps. is_in ps p) (laid (orders reduced) (reverse s.order)) ∙ is_in-append (all_private (orders reduced)) (reverse s.order ++ 0 ∷ []) p) ∙ h in
      elim (or_cases (is_in (all_private (orders reduced)) p) (is_in (reverse s.order ++ 0 ∷ []) p) here) [
        | inl private ↦
            (let own = laid_private net reduced parts each p private in
            let owned = private_owned net own.0 p own.1 in
            owned_within net own.0 p owned.1 owned.0)
        | inr seen ↦
            (elim (or_cases (is_in (reverse s.order) p) (is_in (0 ∷ []) p) (sym (is_in-append (reverse s.order) (0 ∷ []) p) ∙ seen)) [
              | inl out ↦ shared_within net valid p (shared p (sym (is_in-reverse s.order p) ∙ out))
              | inr z ↦ (let e : p ≡ 0 = grind (arith, nat_tests) in omega arith)
            ])
      ]
