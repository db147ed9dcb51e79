-- Walks over all points are cut where they leave a set.
use Rattle.std.proofs.Common.{zero, suc, ◌≡◌, ◌≢◌, ℕ, ◌≤◌, List, [], ◌∷◌, ◌++◌, Bool, true, false, ap, sym, ◌∙◌, refl, arith, length, length-append, inl, inr, ◌⊎◌}
use Rattle.std.specs.Prelude.{ℤ, pos, ◌+ℤ◌, ◌≤ℤ◌, Contains, ◌==◌}
use Rattle.std.proofs.lemmas.Bool.Decides.{nat_tests}
use Rattle.std.proofs.lemmas.Int.{ints}
use Rattle.stn_model.specs.declared.ids.Constraint.{Constraint}
use Rattle.stn_model.specs.ArcWalks.{arcs_weight, GoesOn, IsInner}
use Rattle.stn_walk.proofs.ArcWalks.{arcs_weight-append}

abbrev pub every : ℕ → Bool
every p = true

-- what is left of a walk to j, which may be nothing
abbrev pub Rest : List Constraint → ℕ → ℕ → List Constraint → Type 0
Rest arcs m j w = ((w ≡ []) × (m ≡ j)) ⊎ IsInner every arcs m j w

-- a walk to j is cut where it first leaves the set
pub record Exit (inner : ℕ → Bool) (arcs : List Constraint) (goes : ℕ → List Constraint → Type 0) (j : ℕ) (w : List Constraint) : Type 0 where
  pub at : ℕ
  pub front : List Constraint
  pub rest : List Constraint
  pub whole : w ≡ front ++ rest
  pub to : goes at front
  pub outside : inner at ≡ false
  pub from : Rest arcs at j rest

pub goes_exit : (inner : ℕ → Bool) (arcs : List Constraint) (m j : ℕ) (w : List Constraint) → inner j ≡ false → GoesOn every arcs m j w → Exit inner arcs (GoesOn inner arcs m) j w
goes_exit inner arcs m j [] out h = record { at = m; front = []; rest = []; whole = refl; to = refl; outside = ap inner h ∙ out; from = inl (refl, h) }
goes_exit inner arcs m j (a ∷ w) out h =
    elim (inner m) as (λ b. inner m ≡ b → Exit inner arcs (GoesOn inner arcs m) j (a ∷ w)) [
      | true ↦ λ t. let e = goes_exit inner arcs a.to.0 j w out h.3 in
          record { at = e.at; front = a ∷ e.front; rest = e.rest; whole = ap (λ x. a ∷ x) e.whole; to = (t, h.1, h.2, e.to); outside = e.outside; from = e.from }
      | false ↦ λ t. record { at = m; front = []; rest = a ∷ w; whole = refl; to = refl; outside = t; from = inr (h.1, h.2, h.3) }
    ] refl

pub inner_exit : (inner : ℕ → Bool) (arcs : List Constraint) (i j : ℕ) (w : List Constraint)
    → inner j ≡ false → IsInner every arcs i j w → Exit inner arcs (λ m. IsInner inner arcs i m) j w
inner_exit inner arcs i j [] out h = absurd h
inner_exit inner arcs i j (a ∷ w) out h =
    let e = goes_exit inner arcs a.to.0 j w out h.2 in
    record { at = e.at; front = a ∷ e.front; rest = e.rest; whole = ap (λ x. a ∷ x) e.whole; to = (h.0, h.1, e.to); outside = e.outside; from = e.from }

shorter : (inner : ℕ → Bool) (arcs : List Constraint) (i m : ℕ) (w front rest : List Constraint) (n : ℕ)
    → w ≡ front ++ rest → IsInner inner arcs i m front → length w ≤ suc n → length rest ≤ n
shorter inner arcs i m w [] rest n e h short = absurd h
shorter inner arcs i m w (a ∷ front) rest n e h short = let l = ap length e in omega (arith, l, length-append front rest)

-- all walks from k to j are at least b heavy, if all are that go over the set to a later point and on from there
pub all_from : (inner : ℕ → Bool) (arcs : List Constraint) (k j : ℕ) (b : ℤ) → inner j ≡ false → k ≢ j
    → ((w : List Constraint) → IsInner inner arcs k k w → pos 0 ≤ℤ arcs_weight w)
    → ((m : ℕ) (front rest : List Constraint) → inner m ≡ false → m ≢ k → IsInner inner arcs k m front → Rest arcs m j rest → b ≤ℤ (arcs_weight front +ℤ arcs_weight rest))
    → (n : ℕ) (w : List Constraint) → length w ≤ n → IsInner every arcs k j w → b ≤ℤ arcs_weight w
all_from inner arcs k j b out apart closed least n [] short h = absurd h
all_from inner arcs k j b out apart closed least zero (a ∷ w) short h = absurd (omega arith)
all_from inner arcs k j b out apart closed least (suc n) (a ∷ w) short h =
    let e = inner_exit inner arcs k j (a ∷ w) out h in
    let s = arcs_weight-append e.front e.rest in
    let whole : arcs_weight (a ∷ w) ≡ arcs_weight e.front +ℤ arcs_weight e.rest = ap arcs_weight e.whole ∙ s in
    elim (e.at == k) as (λ t. (e.at == k) ≡ t → b ≤ℤ arcs_weight (a ∷ w)) [
      | true ↦ λ t.
          let back : e.at ≡ k = grind (arith, nat_tests) in
          elim e.from [
            | inl done ↦ absurd (apart (sym back ∙ done.1))
            | inr on ↦
                (let c = closed e.front (rw back at e.to) in
                let r = all_from inner arcs k j b out apart closed least n e.rest (shorter inner arcs k e.at (a ∷ w) e.front e.rest n e.whole e.to short) (rw back at on) in
                rw whole (omega (arith, ints)))
          ]
      | false ↦ λ t. let later : e.at ≢ k = grind (arith, nat_tests) in rw whole (least e.at e.front e.rest e.outside later e.to e.from)
    ] refl

-- a walk from i is cut where it last enters the set on its way to k
pub record Entry (inner : ℕ → Bool) (arcs : List Constraint) (i k : ℕ) (w : List Constraint) : Type 0 where
  pub at : ℕ
  pub front : List Constraint
  pub rest : List Constraint
  pub whole : w ≡ front ++ rest
  pub to : Rest arcs i at front
  pub outside : inner at ≡ false
  pub from : IsInner inner arcs at k rest

on_one : (arcs : List Constraint) (i m : ℕ) (a : Constraint) (v : List Constraint) → Contains arcs a → a.from.0 ≡ i → Rest arcs a.to.0 m v → IsInner every arcs i m (a ∷ v)
on_one arcs i m a v c f (inl d) = rw d.0 (c, f, d.1)
on_one arcs i m a [] c f (inr g) = absurd g
on_one arcs i m a (b ∷ v) c f (inr g) = (c, f, (refl, g.0, g.1, g.2))

-- a walk whose inner points are in the set, or its last entry
inner_entry : (inner : ℕ → Bool) (arcs : List Constraint) (i k : ℕ) (w : List Constraint) → IsInner every arcs i k w → IsInner inner arcs i k w ⊎ Entry inner arcs i k w
inner_entry inner arcs i k [] h = absurd h
inner_entry inner arcs i k (a ∷ []) h = inl (h.0, h.1, h.2)
inner_entry inner arcs i k (a ∷ b ∷ w) h =
    let next : IsInner every arcs a.to.0 k (b ∷ w) = (h.2.1, h.2.2, h.2.3) in
    elim (inner_entry inner arcs a.to.0 k (b ∷ w) next) [
      | inl g ↦ elim (inner a.to.0) as (λ t. inner a.to.0 ≡ t → IsInner inner arcs i k (a ∷ b ∷ w) ⊎ Entry inner arcs i k (a ∷ b ∷ w)) [
        | true ↦ λ t. inl (h.0, h.1, (t, g.0, g.1, g.2))
        | false ↦ λ t. inr (record { at = a.to.0; front = a ∷ []; rest = b ∷ w; whole = refl; to = inr (h.0, h.1, refl); outside = t; from = g })
      ] refl
      | inr e ↦ inr (record {
        at = e.at;
        front = a ∷ e.front;
        rest = e.rest;
        whole = ap (λ x. a ∷ x) e.whole;
        to = inr (on_one arcs i e.at a e.front h.0 h.1 e.to);
        outside = e.outside;
        from = e.from;
      })
    ]

pub entry_of : (inner : ℕ → Bool) (arcs : List Constraint) (i k : ℕ) (w : List Constraint) → inner i ≡ false → IsInner every arcs i k w → Entry inner arcs i k w
entry_of inner arcs i k w out h =
    elim (inner_entry inner arcs i k w h) [
      | inl g ↦ record { at = i; front = []; rest = w; whole = refl; to = inl (refl, refl); outside = out; from = g }
      | inr e ↦ e
    ]

shorter_front : (inner : ℕ → Bool) (arcs : List Constraint) (i m : ℕ) (w front rest : List Constraint) (n : ℕ)
    → w ≡ front ++ rest → IsInner inner arcs i m rest → length w ≤ suc n → length front ≤ n
shorter_front inner arcs i m w front [] n e h short = absurd h
shorter_front inner arcs i m w front (a ∷ rest) n e h short = let l = ap length e in omega (arith, l, length-append front (a ∷ rest))

-- all walks from j to k are at least b heavy, if all are that go to a later point and on from there over the set
pub all_to : (inner : ℕ → Bool) (arcs : List Constraint) (j k : ℕ) (b : ℤ) → inner j ≡ false → j ≢ k
    → ((w : List Constraint) → IsInner inner arcs k k w → pos 0 ≤ℤ arcs_weight w)
    → ((m : ℕ) (front rest : List Constraint) → inner m ≡ false → m ≢ k → Rest arcs j m front → IsInner inner arcs m k rest → b ≤ℤ (arcs_weight front +ℤ arcs_weight rest))
    → (n : ℕ) (w : List Constraint) → length w ≤ n → IsInner every arcs j k w → b ≤ℤ arcs_weight w
all_to inner arcs j k b out apart closed least n [] short h = absurd h
all_to inner arcs j k b out apart closed least zero (a ∷ w) short h = absurd (omega arith)
all_to inner arcs j k b out apart closed least (suc n) (a ∷ w) short h =
    let e = entry_of inner arcs j k (a ∷ w) out h in
    let s = arcs_weight-append e.front e.rest in
    let whole : arcs_weight (a ∷ w) ≡ arcs_weight e.front +ℤ arcs_weight e.rest = ap arcs_weight e.whole ∙ s in
    elim (e.at == k) as (λ t. (e.at == k) ≡ t → b ≤ℤ arcs_weight (a ∷ w)) [
      | true ↦ λ t.
          let back : e.at ≡ k = grind (arith, nat_tests) in
          elim e.to [
            | inl done ↦ absurd (apart (done.1 ∙ back))
            | inr on ↦
                (let c = closed e.rest (rw back at e.from) in
                let r = all_to inner arcs j k b out apart closed least n e.front (shorter_front inner arcs e.at k (a ∷ w) e.front e.rest n e.whole e.from short) (rw back at on) in
                rw whole (omega (arith, ints)))
          ]
      | false ↦ λ t. let later : e.at ≢ k = grind (arith, nat_tests) in rw whole (least e.at e.front e.rest e.outside later e.to e.from)
    ] refl
