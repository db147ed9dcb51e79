-- A walk is cut at its points outside a set. Where each piece, whose inner points are in the set, weighs at least the difference of the times of
-- its ends, no closed walk is negative: none_negative.
use Rattle.std.proofs.Common.{◌≡◌, ℕ, List, [], ◌∷◌, ◌++◌, Bool, true, false, ap, ◌∙◌, refl, arith, subst}
use Rattle.std.specs.Prelude.{ℤ, pos, ◌+ℤ◌, ◌-ℤ◌, ◌≤ℤ◌, Contains}
use Rattle.std.proofs.lemmas.Int.{ints}
use Rattle.stn_model.specs.declared.ids.Constraint.{Constraint}
use Rattle.stn_model.specs.ArcWalks.{arcs_weight, GoesOn, IsInner, NoNegative}
use Rattle.stn_model.specs.Inner.{NoNegativeWithin}
use Rattle.stn_model.proofs.Bridges.{IsArcWalk-from_inner}
use Rattle.stn_walk.proofs.ArcWalks.{arcs_weight-append, GoesOn-append}
use Rattle.stn_walk.proofs.Visits.{inner_joined}
use Rattle.stn_walk.proofs.Exits.{every}

module _ (inner : ℕ → Bool) (arcs : List Constraint) (value : ℕ → ℤ)
    (pieces : (i j : ℕ) (w : List Constraint) → inner i ≡ false → inner j ≡ false → IsInner inner arcs i j w → (value j -ℤ value i) ≤ℤ arcs_weight w)
    (inside : NoNegativeWithin inner arcs) where
  -- a piece goes one arc further where it came to a point in the set
  further : (i m : ℕ) (u : List Constraint) (a : Constraint) → IsInner inner arcs i m u → inner m ≡ true → Contains arcs a → a.from.0 ≡ m
      → IsInner inner arcs i a.to.0 (u ++ a ∷ [])
  further i m u a h here c from = inner_joined inner arcs i m a.to.0 u (a ∷ []) here h (c, from, refl)

  -- the piece that is under way, and the walk on from there
  on : (i m j : ℕ) (u w : List Constraint) → inner i ≡ false → inner j ≡ false → IsInner inner arcs i m u → GoesOn every arcs m j w
      → (value j -ℤ value i) ≤ℤ (arcs_weight u +ℤ arcs_weight w)
  on i m j u [] out_i out_j h g =
      let p = pieces i m u out_i (ap inner g ∙ out_j) h in
      let v : value m ≡ value j = ap value g in
      omega (arith, ints)
  on i m j u (a ∷ w) out_i out_j h g =
      elim (inner m) as (λ b. inner m ≡ b → (value j -ℤ value i) ≤ℤ (arcs_weight u +ℤ arcs_weight (a ∷ w))) [
        | true ↦ λ t.
            let rest = on i a.to.0 j (u ++ a ∷ []) w out_i out_j (further i m u a h t g.1 g.2) g.3 in
            let sum = arcs_weight-append u (a ∷ []) in
            omega (arith, ints)
        | false ↦ λ t.
            let p = pieces i m u out_i t h in
            let rest = on m a.to.0 j (a ∷ []) w t out_j (g.1, g.2, refl) g.3 in
            omega (arith, ints)
      ] refl

  -- the same of a closed walk begun in the set: it stays there, or is turned to begin at the first point outside
  round : (p m : ℕ) (u w : List Constraint) → inner p ≡ true → IsInner inner arcs p m u → GoesOn every arcs m p w → pos 0 ≤ℤ (arcs_weight u +ℤ arcs_weight w)
  round p m u [] in_p h g =
      let c = inside p u in_p (subst (λ (x : ℕ). IsInner inner arcs p x u) g h) in
      omega (arith, ints)
  round p m u (a ∷ w) in_p h g =
      elim (inner m) as (λ b. inner m ≡ b → pos 0 ≤ℤ (arcs_weight u +ℤ arcs_weight (a ∷ w))) [
        | true ↦ λ t.
            let rest = round p a.to.0 (u ++ a ∷ []) w in_p (further p m u a h t g.1 g.2) g.3 in
            let sum = arcs_weight-append u (a ∷ []) in
            omega (arith, ints)
        | false ↦ λ t.
            let turned = GoesOn-append every arcs a.to.0 p m w u g.3 (IsArcWalk-from_inner arcs inner p m u h) in
            let whole = on m a.to.0 m (a ∷ []) (w ++ u) t t (g.1, g.2, refl) turned in
            let sum = arcs_weight-append w u in
            omega (arith, ints)
      ] refl

  pub none_negative : NoNegative every arcs
  none_negative p [] h = absurd h
  none_negative p (a ∷ w) h =
      elim (inner p) as (λ b. inner p ≡ b → pos 0 ≤ℤ arcs_weight (a ∷ w)) [
        | true ↦ λ t. let l = round p a.to.0 (a ∷ []) w t (h.0, h.1, refl) h.2 in omega (arith, ints)
        | false ↦ λ t. let l = on p a.to.0 p (a ∷ []) w t t (h.0, h.1, refl) h.2 in omega (arith, ints)
      ] refl
