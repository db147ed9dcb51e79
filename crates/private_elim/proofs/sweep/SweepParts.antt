-- What cells and joined places come to at a private point of the order, when the points before it are the ones left: facts for its revisit.
--   reverse-cut                 an order turned round, cut at one of its points
--   joined_in_order, order_joins   joined places are joined in the order
--   rows_light                  weights of the rows have magnitude at most 2^53
--   cell_out, cell_back, join_out, cells_apart   cells and joins with the point
use Rattle.std.proofs.Common.{◌≡◌, ◌≢◌, ℕ, ◌+◌, ◌<◌, ◌≤◌, List, [], ◌∷◌, ◌++◌, Bool, true, false, ◌||◌, Option, Some, None, length, take, drop}
use Rattle.std.proofs.Common.{reverse, refl, sym, ap, subst, ◌∙◌}
use Rattle.std.specs.Prelude.{ℤ, ◌==◌, is_some, IfSome, nat_abs}
use Rattle.std.proofs.lemmas.Bool.{false≢true}
use Rattle.std.proofs.lemmas.List.{take_more, take-append-drop, reverse-append}
use Rattle.stn_model.specs.Limits.{greatest_walk}
use Rattle.stn_model.specs.declared.ids.Constraint.{Constraint}
use Rattle.stn_model.specs.ArcWalks.{NoNegative, IsInnerLeast}
use Rattle.stn_model.specs.Joined.{IsJoined}
use Rattle.stn_model.specs.Walks.{AllDifferent}
use Rattle.stn_walk.specs.Eliminations.{is_in, before_both, cell_of}
use Rattle.stn_walk.specs.Joins.{joined_of}
use Rattle.stn_walk.proofs.Eliminations.{cell-least}
use Rattle.stn_walk.proofs.Joins.{is_in-reverse, joined-symmetric, joined-from_walk, joined-from_order, order-from_joined}
use Rattle.stn_walk.proofs.Visits.{inner_in}
use Rattle.dist_rows.specs.declared.cell.Cell.{Cell}
use Rattle.elim_step.specs.Eliminated.{weight_at, forward_of, point_at}
use Rattle.elim_step.proofs.FinalWeights.{IsApart}
use Rattle.private_elim.specs.Locals.{LocalView, arcs_in, is_private_in}
use Rattle.private_elim.specs.Taken.{IsTaken}
use Rattle.private_elim.proofs.taking.TakenFacts.{taken_private, forward_light}
use Rattle.private_elim.proofs.taking.Takes.{local_ground, facts}
use Rattle.stn_walk.proofs.Members.{is_in-first, is_in-behind}
use Rattle.private_elim.proofs.taking.Orders.{before-at, before-turned, different-reverse, different-behind}

-- a prefix of an order, one point longer, turned round
pub reverse-prefix : (xs : List ℕ) (n : ℕ) → n < length xs → reverse (take (n + 1) xs) ≡ point_at xs n ∷ reverse (take n xs)
reverse-prefix xs n lt = ap reverse (take_more xs n 0 lt) ∙ reverse-append (take n xs) (point_at xs n ∷ [])

-- an order turned round, cut at one of its points
pub reverse-cut : (xs : List ℕ) (n : ℕ) → n < length xs → reverse xs ≡ reverse (drop (n + 1) xs) ++ point_at xs n ∷ reverse (take n xs)
reverse-cut xs n lt =
    ap reverse (sym (take-append-drop (n + 1) xs)) ∙ reverse-append (take (n + 1) xs) (drop (n + 1) xs)
    ∙ ap (λ ys. reverse (drop (n + 1) xs) ++ ys) (reverse-prefix xs n lt)

-- where points are not joined there is no cell
cell-apart : (arcs : List Constraint) (es : List ℕ) → NoNegative (is_in es) arcs → (i j : ℕ) → joined_of arcs es i j ≡ false → cell_of arcs es i j ≡ None
cell-apart arcs es none_below i j away = none (cell_of arcs es i j) (cell-least arcs es none_below i j) where
  none : (o : Option ℤ) → IsInnerLeast (is_in es) arcs i j o → o ≡ None
  none None least = refl
  none (Some b) least = absurd (false≢true (sym away ∙ joined-from_walk arcs es i j least.0.0 least.0.1))

module _ (v : LocalView) (order : List ℕ) (f : ℕ → ℕ → Option Cell) (joined : ℕ → ℕ → Bool) (remain : List Bool) (t : IsTaken v order f joined remain) where
  -- places are told apart by their points
  pub points_apart : IsApart v.points
  points_apart = (local_ground v t.known).apart

  -- the points of the order are private
  pub order_private : (p : ℕ) → is_in (reverse order) p ≡ true → is_private_in v p ≡ true
  order_private = taken_private (record { local = v; order = order }) (facts v order f joined remain t)

  -- joined places are joined in the order, and the other way round
  pub joined_in_order : (i j : ℕ) → i < length v.points → j < length v.points → i ≢ j → joined i j ≡ true
      → IsJoined (arcs_in v) order (point_at v.points i) (point_at v.points j)
  joined_in_order i j li lj apart h =
      order-from_joined (arcs_in v) order (point_at v.points i) (point_at v.points j) (λ e. apart (points_apart i j li lj e))
      (sym (t.joins i j li lj apart) ∙ h)

  pub order_joins : (i j : ℕ) → i < length v.points → j < length v.points → IsJoined (arcs_in v) order (point_at v.points i) (point_at v.points j)
      → (i ≢ j) × (joined i j ≡ true)
  order_joins i j li lj h =
      let apart : i ≢ j = λ e. h.different (ap (point_at v.points) e) in
      (apart, t.joins i j li lj apart ∙ (joined-from_order (arcs_in v) order (point_at v.points i) (point_at v.points j) h).1)

  -- it does not matter in which direction
  pub joined_turned : (i j : ℕ) → i < length v.points → j < length v.points → i ≢ j → joined i j ≡ joined j i
  joined_turned i j li lj apart =
      let x = point_at v.points i in
      let y = point_at v.points j in
      t.joins i j li lj apart
      ∙ joined-symmetric (arcs_in v) (before_both (reverse order) x y) x y
      ∙ ap (λ es. joined_of (arcs_in v) es y x) (before-turned (reverse order) x y)
      ∙ sym (t.joins j i lj li (λ e. apart (sym e)))

  -- no closed walk through some of the points of the order is negative
  pub none_among : (es : List ℕ) → ((p : ℕ) → is_in es p ≡ true → is_in (reverse order) p ≡ true) → NoNegative (is_in es) (arcs_in v)
  none_among es up p w h = t.cells.none_below p w (inner_in (is_in es) (is_in (reverse order)) (arcs_in v) p p w up h)

  light_of : (x : Option Cell) (y : Option ℤ) → weight_at x ≡ y → IfSome y (λ w. nat_abs w ≤ greatest_walk)
      → IfSome x (λ c. nat_abs c.weight ≤ greatest_walk)
  light_of None y e g = tt
  light_of (Some c) None e g = absurd (cc)
  light_of (Some c) (Some w) e g = let same : c.weight ≡ w = cc in rw same g

  none_light : (x : Option Cell) → is_some x ≡ false → IfSome x (λ c. nat_abs c.weight ≤ greatest_walk)
  none_light None g = tt
  none_light (Some c) g = absurd (cc)

  -- the weights of the rows have magnitude at most 2^53
  pub rows_light : ((p q : ℕ) → is_some (f p q) ≡ true → (p < length v.points) × (q < length v.points) × (p ≢ q))
      → (p q : ℕ) → IfSome (f p q) (λ c. nat_abs c.weight ≤ greatest_walk)
  rows_light room p q =
      elim (is_some (f p q)) as (λ b. is_some (f p q) ≡ b → IfSome (f p q) (λ c. nat_abs c.weight ≤ greatest_walk)) [
        | true ↦ λ there.
            let r = room p q there in
            let x = point_at v.points p in
            let y = point_at v.points q in
            light_of (f p q) (forward_of (arcs_in v) (reverse order) x y) (t.cells.cells p q r.0 r.1 r.2)
            (forward_light (record { local = v; order = order }) (facts v order f joined remain t) x y)
        | false ↦ λ there. none_light (f p q) there
      ] refl

  -- the private place k has the point of number n in the order
  module _ (n k : ℕ) (lt : n < length order) (lk : k < length v.points) (is : point_at v.points k ≡ point_at order n) where
    -- the points before it, the last one first
    abbrev pub left : List ℕ
    left = reverse (take n order)

    pub cut : reverse order ≡ reverse (drop (n + 1) order) ++ point_at v.points k ∷ left
    cut = reverse-cut order n lt ∙ ap (λ p. reverse (drop (n + 1) order) ++ p ∷ left) (sym is)

    -- it is not among them
    pub fresh : is_in left (point_at v.points k) ≡ false
    fresh = different-behind (reverse (drop (n + 1) order)) (point_at v.points k) left (subst AllDifferent cut (different-reverse order t.once))

    -- and the one more is it
    pub in_prefix : (p : ℕ) → is_in (take (n + 1) order) p ≡ is_in (point_at v.points k ∷ left) p
    in_prefix p = sym (is_in-reverse (take (n + 1) order) p) ∙ ap (λ xs. is_in xs p) (reverse-prefix order n lt ∙ ap (λ q. q ∷ left) (sym is))

    -- all of them are of the order, so private
    behind_in_order : (p : ℕ) → is_in (point_at v.points k ∷ left) p ≡ true → is_in (reverse order) p ≡ true
    behind_in_order p h = ap (λ xs. is_in xs p) cut ∙ is_in-behind (reverse (drop (n + 1) order)) (point_at v.points k ∷ left) p h

    behind_private : (p : ℕ) → is_in (point_at v.points k ∷ left) p ≡ true → is_private_in v p ≡ true
    behind_private p h = order_private p (behind_in_order p h)

    left_in : (p : ℕ) → is_in left p ≡ true → is_in (point_at v.points k ∷ left) p ≡ true
    left_in p h = ap (λ b. b || (p == point_at v.points k)) h

    pub left_private : (p : ℕ) → is_in left p ≡ true → is_private_in v p ≡ true
    left_private p h = behind_private p (left_in p h)

    pub here_private : is_private_in v (point_at v.points k) ≡ true
    here_private = behind_private (point_at v.points k) (is_in-first (point_at v.points k) left)

    pub none_left : NoNegative (is_in left) (arcs_in v)
    none_left = none_among left (λ p h. behind_in_order p (left_in p h))

    -- what comes before it and a point that is done or not private
    module _ (m : ℕ) (lm : m < length v.points) (other : m ≢ k) (done : is_in left (point_at v.points m) ≡ false) where
      before_out : before_both (reverse order) (point_at v.points k) (point_at v.points m) ≡ left
      before_out =
          ap (λ es. before_both es (point_at v.points k) (point_at v.points m)) cut
          ∙ before-at (reverse (drop (n + 1) order)) (point_at v.points k) left (point_at v.points m) fresh done

      -- its cells with that point, and whether they are joined
      pub cell_out : weight_at (f k m) ≡ cell_of (arcs_in v) left (point_at v.points k) (point_at v.points m)
      cell_out = t.cells.cells k m lk lm (λ e. other (sym e)) ∙ ap (λ es. cell_of (arcs_in v) es (point_at v.points k) (point_at v.points m)) before_out

      pub cell_back : weight_at (f m k) ≡ cell_of (arcs_in v) left (point_at v.points m) (point_at v.points k)
      cell_back =
          t.cells.cells m k lm lk other
          ∙ ap (λ es. cell_of (arcs_in v) es (point_at v.points m) (point_at v.points k))
          (before-turned (reverse order) (point_at v.points m) (point_at v.points k) ∙ before_out)

      pub join_out : joined k m ≡ joined_of (arcs_in v) left (point_at v.points k) (point_at v.points m)
      join_out = t.joins k m lk lm (λ e. other (sym e)) ∙ ap (λ es. joined_of (arcs_in v) es (point_at v.points k) (point_at v.points m)) before_out

      -- where they are not joined there are none
      pub cells_apart : joined k m ≡ false → (weight_at (f k m) ≡ None) × (weight_at (f m k) ≡ None)
      cells_apart away =
          let apart : joined_of (arcs_in v) left (point_at v.points k) (point_at v.points m) ≡ false = sym join_out ∙ away in (
            cell_out ∙ cell-apart (arcs_in v) left none_left (point_at v.points k) (point_at v.points m) apart,
            cell_back
                ∙ cell-apart (arcs_in v) left none_left (point_at v.points m) (point_at v.points k)
                (joined-symmetric (arcs_in v) left (point_at v.points m) (point_at v.points k) ∙ apart),
          )
