-- Where each walk through hidden points alone has a walk that is no heavier over another list, so has each walk between two points that are
-- not hidden: walk_contracts, closed_contracts, none_contracts, least_contracts, least_expands.
use Rattle.std.proofs.Common.{zero, suc, ◌≡◌, ◌≢◌, ℕ, ◌≤◌, ℤ, pos, ◌≤ℤ◌, ◌<ℤ◌, List, [], ◌∷◌, ◌++◌, Bool, true, false, Option, Some, None, length}
use Rattle.std.proofs.Common.{length-append, refl, sym, ap, ◌∙◌, arith, ◌⊎◌, inl, inr}
use Rattle.std.proofs.lemmas.Int.{ints}
use Rattle.std.proofs.lemmas.Bool.{false≢true}
use Rattle.stn_model.specs.declared.ids.Constraint.{Constraint}
use Rattle.stn_model.specs.ArcWalks.{GoesOn, IsArcWalk, IsInner, IsInnerLeast, NoNegative, arcs_weight}
use Rattle.stn_model.specs.Inner.{NoNegativeWithin}
use Rattle.stn_model.proofs.Bridges.{IsArcWalk-from_inner}
use Rattle.stn_walk.proofs.ArcWalks.{GoesOn-append, arcs_weight-append}
use Rattle.stn_walk.proofs.Visits.{inner_joined}
use Rattle.stn_walk.proofs.Exits.{every, Exit, inner_exit}
use Rattle.stn_walk.proofs.Finals.{inner_every}
use Rattle.meeting_arcs.specs.Sides.{HasLightWalk, Expands, Contracts, NegativeClosed}
use Rattle.meeting_arcs.proofs.Expansions.{walk_expands, closed_light}

shorter : (inner : ℕ → Bool) (arcs : List Constraint) (i m : ℕ) (w front rest : List Constraint) (n : ℕ) → w ≡ front ++ rest → IsInner inner arcs i m front
    → length w ≤ suc n → length rest ≤ n
shorter inner arcs i m w [] rest n e h short = absurd h
shorter inner arcs i m w (a ∷ front) rest n e h short = let l = ap length e in omega (arith, l, length-append front rest)

-- between two different points no walk is empty
inner_from_walk : (arcs : List Constraint) (i j : ℕ) (w : List Constraint) → i ≢ j → IsArcWalk arcs i j w → IsInner every arcs i j w
inner_from_walk arcs i j [] ne h = absurd (ne h)
inner_from_walk arcs i j (a ∷ w) ne h = (h.1, h.2, h.3)

module _ (hidden : ℕ → Bool) (arcs : List Constraint) where
  -- a walk whose points are all hidden, but perhaps the last, or cut where it first comes to one that is not
  goes_leaves : (m j : ℕ) (w : List Constraint) → GoesOn every arcs m j w → GoesOn hidden arcs m j w ⊎ Exit hidden arcs (GoesOn hidden arcs m) j w
  goes_leaves m j [] h = inl h
  goes_leaves m j (a ∷ w) h =
      elim (hidden m) as (λ b. hidden m ≡ b → GoesOn hidden arcs m j (a ∷ w) ⊎ Exit hidden arcs (GoesOn hidden arcs m) j (a ∷ w)) [
        | true ↦ λ t. elim (goes_leaves a.to.0 j w h.3) [
          | inl g ↦ inl (t, h.1, h.2, g)
          | inr e ↦ inr (record {
            at = e.at;
            front = a ∷ e.front;
            rest = e.rest;
            whole = ap (λ x. a ∷ x) e.whole;
            to = (t, h.1, h.2, e.to);
            outside =
                e.outside;
            from = e.from;
          })
        ]
        | false ↦ λ t. inr (record { at = m; front = []; rest = a ∷ w; whole = refl; to = refl; outside = t; from = inr (h.1, h.2, h.3) })
      ] refl

  inner_leaves : (i j : ℕ) (w : List Constraint) → IsInner every arcs i j w → IsInner hidden arcs i j w ⊎ Exit hidden arcs (λ m. IsInner hidden arcs i m) j w
  inner_leaves i j [] h = absurd h
  inner_leaves i j (a ∷ w) h =
      elim (goes_leaves a.to.0 j w h.2) [
        | inl g ↦ inl (h.0, h.1, g)
        | inr e ↦ inr (record {
          at = e.at;
          front = a ∷ e.front;
          rest = e.rest;
          whole = ap (λ x. a ∷ x) e.whole;
          to = (h.0, h.1, e.to);
          outside =
              e.outside;
          from = e.from;
        })
      ]

module _ (hidden : ℕ → Bool) (arcs more : List Constraint) (each : Contracts hidden arcs more) where
  -- The walk is cut at the first point that is not hidden; the piece up to there has a walk that is no heavier, and the rest is shorter.
  pub walk_contracts : (n i j : ℕ) (w : List Constraint) → length w ≤ n → hidden i ≡ false → hidden j ≡ false → IsInner every arcs i j w
      → HasLightWalk more i j (arcs_weight w)
  walk_contracts n i j [] short start end h = absurd h
  walk_contracts zero i j (a ∷ w) short start end h = absurd (omega arith)
  walk_contracts (suc n) i j (a ∷ w) short start end h =
      let e = inner_exit hidden arcs i j (a ∷ w) end h in
      let first = each i e.at e.front start e.outside e.to in
      let rest : HasLightWalk more e.at j (arcs_weight e.rest) = elim e.from [
        | inl done ↦ ([], done.1, (let none = ap arcs_weight done.0 in omega (arith, ints)))
        | inr on ↦ walk_contracts n e.at j e.rest (shorter hidden arcs i e.at (a ∷ w) e.front e.rest n e.whole e.to short) e.outside end on
      ] in
      let whole : arcs_weight (a ∷ w) ≡ arcs_weight (e.front ++ e.rest) = ap arcs_weight e.whole in
      let was = arcs_weight-append e.front e.rest in
      let sum = arcs_weight-append first.0 rest.0 in
      let one = first.2 in
      let others = rest.2 in
      (first.0 ++ rest.0, GoesOn-append every more i e.at j first.0 rest.0 first.1 rest.1, omega (arith, ints))

  -- Each closed walk is not negative, or has one over the other list that is no heavier: it begins at a point that is not hidden, or is begun
  -- at one, or has none; then it is not negative by the last premise.
  pub closed_contracts : NoNegativeWithin hidden arcs → (p : ℕ) (w : List Constraint) → IsInner every arcs p p w
      → (pos 0 ≤ℤ arcs_weight w) ⊎ ((q : ℕ) × HasLightWalk more q q (arcs_weight w))
  closed_contracts within p w h =
      elim (hidden p) as (λ b. hidden p ≡ b → (pos 0 ≤ℤ arcs_weight w) ⊎ ((q : ℕ) × HasLightWalk more q q (arcs_weight w))) [
        | false ↦ λ t. (let v = walk_contracts (length w) p p w (omega arith) t t h in inr (p, v))
        | true ↦ λ t. elim (inner_leaves hidden arcs p p w h) [
          | inl g ↦ inl (within p w t g)
          | inr e ↦ elim e.from [
            | inl done ↦ absurd (false≢true (sym e.outside ∙ ap hidden done.1 ∙ t))
            | inr on ↦
                (let turned = inner_joined every arcs e.at p e.at e.rest e.front refl on (inner_every hidden arcs p e.at e.front e.to) in
                let v = walk_contracts (length (e.rest ++ e.front)) e.at e.at (e.rest ++ e.front) (omega arith) e.outside e.outside turned in
                let whole : arcs_weight w ≡ arcs_weight (e.front ++ e.rest) = ap arcs_weight e.whole in
                let was = arcs_weight-append e.front e.rest in
                let now = arcs_weight-append e.rest e.front in
                let light = v.2 in
                inr (e.at, (v.0, v.1, omega (arith, ints))))
          ]
        ]
      ] refl

  -- a negative closed walk gives one over the other list
  pub negative_contracts : NoNegativeWithin hidden arcs → NegativeClosed arcs → NegativeClosed more
  negative_contracts within n = of_walk n.start n.walk n.closed n.negative where
    of_walk : (p : ℕ) (w : List Constraint) → IsArcWalk arcs p p w → arcs_weight w <ℤ pos 0 → NegativeClosed more
    of_walk p [] h low = absurd (omega (arith, ints))
    of_walk p (a ∷ w) h low =
        elim (closed_contracts within p (a ∷ w) (h.1, h.2, h.3)) [
          | inl light ↦ absurd (omega (arith, ints))
          | inr v ↦ (let light = v.1.2 in record { start = v.0; walk = v.1.0; closed = v.1.1; negative = omega (arith, ints) })
        ]

  -- so none is negative where none is over the other list
  pub none_contracts : NoNegativeWithin hidden arcs → NoNegative every more → NoNegative every arcs
  none_contracts within none_below = λ p w h.
      elim (closed_contracts within p w h) [
        | inl light ↦ light
        | inr v ↦ (let closed = closed_light more none_below v.0 v.1.0 v.1.1 in let light = v.1.2 in omega (arith, ints))
      ]

  -- least weights between two points that are not hidden are the same over both lists
  module _ (expands : Expands more arcs) (i j : ℕ) (start : hidden i ≡ false) (end : hidden j ≡ false) (apart : i ≢ j) where
    pub least_contracts : (o : Option ℤ) → IsInnerLeast every more i j o → IsInnerLeast every arcs i j o
    least_contracts None least = λ w h.
        let v = walk_contracts (length w) i j w (omega arith) start end h in
        least v.0 (inner_from_walk more i j v.0 apart v.1)
    least_contracts (Some b) least =
        let v = walk_expands more arcs expands i j least.0.0 (IsArcWalk-from_inner more every i j least.0.0 least.0.1) in (
          (v.0, inner_from_walk arcs i j v.0 apart v.1, v.2 ∙ least.0.2),
          λ w h.
              let u = walk_contracts (length w) i j w (omega arith) start end h in
              let low = least.1 u.0 (inner_from_walk more i j u.0 apart u.1) in
              let light = u.2 in
              omega (arith, ints),
        )

    pub least_expands : (o : Option ℤ) → IsInnerLeast every arcs i j o → IsInnerLeast every more i j o
    least_expands None least = λ w h.
        let v = walk_expands more arcs expands i j w (IsArcWalk-from_inner more every i j w h) in
        least v.0 (inner_from_walk arcs i j v.0 apart v.1)
    least_expands (Some b) least =
        let u = walk_contracts (length least.0.0) i j least.0.0 (omega arith) start end least.0.1 in
        let back = walk_expands more arcs expands i j u.0 u.1 in
        let low = least.1 back.0 (inner_from_walk arcs i j back.0 apart back.1) in
        let light = u.2 in
        let is = least.0.2 in
        let same = back.2 in (
          (u.0, inner_from_walk more i j u.0 apart u.1, omega (arith, ints)),
          λ w h.
              let v = walk_expands more arcs expands i j w (IsArcWalk-from_inner more every i j w h) in
              let l = least.1 v.0 (inner_from_walk arcs i j v.0 apart v.1) in
              let e = v.2 in
              omega (arith, ints),
        )
