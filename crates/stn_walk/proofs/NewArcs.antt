-- Arcs that are added, none of which has an end in the set.
use Rattle.std.proofs.Common.{◌≡◌, ◌≢◌, ℕ, List, [], ◌∷◌, ◌++◌, Bool, true, false, Option, Some, None, ap, sym, ◌∙◌, refl, arith, inl, inr, ◌⊎◌}
use Rattle.std.specs.Prelude.{ℤ, ◌≤ℤ◌, ◌<ℤ◌, Contains, int_lt, if◌then◌else◌}
use Rattle.std.proofs.lemmas.List.Elements.{Contains-append_left, Contains-append_right, Contains-append_cases}
use Rattle.std.proofs.lemmas.Int.{ints}
use Rattle.stn_model.specs.declared.ids.Constraint.{Constraint}
use Rattle.stn_model.specs.ArcWalks.{GoesOn, IsInner, IsInnerLeast, NoNegative}
use Rattle.stn_walk.specs.Eliminations.{lesser}
use Rattle.stn_walk.proofs.Eliminations.{LeastArc}

-- no arc has an end in the set
abbrev pub IsOutside : (ℕ → Bool) → List Constraint → Type 0
IsOutside inner new = (a : Constraint) → Contains new a → (inner a.from.0 ≡ false) × (inner a.to.0 ≡ false)

goes_old : (inner : ℕ → Bool) (arcs new : List Constraint) (m j : ℕ) (w : List Constraint) → IsOutside inner new → GoesOn inner (arcs ++ new) m j w → GoesOn inner arcs m j w
goes_old inner arcs new m j [] out h = h
goes_old inner arcs new m j (a ∷ w) out h =
    elim (Contains-append_cases arcs new a h.1) [
      | inl c ↦ (h.0, c, h.2, goes_old inner arcs new a.to.0 j w out h.3)
      | inr c ↦ absurd (let e : inner a.from.0 ≡ true = ap inner h.2 ∙ h.0 in let f = (out a c).0 in cc)
    ]

goes_more : (inner : ℕ → Bool) (arcs new : List Constraint) (m j : ℕ) (w : List Constraint) → GoesOn inner arcs m j w → GoesOn inner (arcs ++ new) m j w
goes_more inner arcs new m j [] h = h
goes_more inner arcs new m j (a ∷ w) h = (h.0, Contains-append_left arcs new a h.1, h.2, goes_more inner arcs new a.to.0 j w h.3)

inner_more : (inner : ℕ → Bool) (arcs new : List Constraint) (i j : ℕ) (w : List Constraint) → IsInner inner arcs i j w → IsInner inner (arcs ++ new) i j w
inner_more inner arcs new i j [] h = h
inner_more inner arcs new i j (a ∷ w) h = (Contains-append_left arcs new a h.0, h.1, goes_more inner arcs new a.to.0 j w h.2)

-- a walk is a walk of the old arcs, or one new arc
pub old_or_new : (inner : ℕ → Bool) (arcs new : List Constraint) (i j : ℕ) (w : List Constraint) → IsOutside inner new → IsInner inner (arcs ++ new) i j w
    → IsInner inner arcs i j w ⊎ ((a : Constraint) × Contains new a × (a.from.0 ≡ i) × (a.to.0 ≡ j) × (w ≡ a ∷ []))
old_or_new inner arcs new i j [] out h = absurd h
old_or_new inner arcs new i j (a ∷ []) out h =
    elim (Contains-append_cases arcs new a h.0) [ inl c ↦ inl (c, h.1, h.2) | inr c ↦ inr (a, c, h.1, h.2, refl) ]
old_or_new inner arcs new i j (a ∷ b ∷ w) out h =
    elim (Contains-append_cases arcs new a h.0) [
      | inl c ↦ inl (c, h.1, goes_old inner arcs new a.to.0 j (b ∷ w) out h.2)
      | inr c ↦ absurd (let e : inner a.to.0 ≡ true = h.2.0 in let f = (out a c).1 in cc)
    ]

-- where an arc is the least of the new ones, the lesser of the cell and its bound is the cell
pub publishes : (inner : ℕ → Bool) (arcs new : List Constraint) (i j : ℕ) (c o : Option ℤ) → IsOutside inner new
    → IsInnerLeast inner arcs i j c → LeastArc new i j o → IsInnerLeast inner (arcs ++ new) i j (lesser c o)
unfolding LeastArc
publishes inner arcs new i j None None out is_c is_o = λ w h. elim (old_or_new inner arcs new i j w out h) [ inl g ↦ is_c w g | inr n ↦ is_o n.0 n.1 n.2 n.3 ]
publishes inner arcs new i j (Some b) None out is_c is_o = (
  (is_c.0.0, inner_more inner arcs new i j is_c.0.0 is_c.0.1, is_c.0.2),
  λ w h. elim (old_or_new inner arcs new i j w out h) [ inl g ↦ is_c.1 w g | inr n ↦ absurd (is_o n.0 n.1 n.2 n.3) ],
)
publishes inner arcs new i j None (Some d) out is_c is_o = (
  (is_o.0.0 ∷ [], (Contains-append_right arcs new is_o.0.0 is_o.0.1, is_o.0.2, is_o.0.3), (let e = is_o.0.4 in omega (arith, ints))),
  λ w h. elim (old_or_new inner arcs new i j w out h) [ inl g ↦ absurd (is_c w g) | inr n ↦ (let l = is_o.1 n.0 n.1 n.2 n.3 in rw n.4 (omega (arith, ints))) ],
)
publishes inner arcs new i j (Some b) (Some d) out is_c is_o =
    elim (int_lt d b) as (λ t. int_lt d b ≡ t → IsInnerLeast inner (arcs ++ new) i j (if t then Some d else Some b)) [
      | true ↦ λ t. let lt : d <ℤ b = grind (arith, ints) in (
        (is_o.0.0 ∷ [], (Contains-append_right arcs new is_o.0.0 is_o.0.1, is_o.0.2, is_o.0.3), (let e = is_o.0.4 in omega (arith, ints))),
        λ w h. elim (old_or_new inner arcs new i j w out h) [ inl g ↦ (let l = is_c.1 w g in omega (arith, ints)) | inr n ↦ (let l = is_o.1 n.0 n.1 n.2 n.3 in rw n.4 (omega (arith, ints))) ],
      )
      | false ↦ λ t. let le : b ≤ℤ d = grind (arith, ints) in (
        (is_c.0.0, inner_more inner arcs new i j is_c.0.0 is_c.0.1, is_c.0.2),
        λ w h. elim (old_or_new inner arcs new i j w out h) [ inl g ↦ is_c.1 w g | inr n ↦ (let l = is_o.1 n.0 n.1 n.2 n.3 in rw n.4 (omega (arith, ints))) ],
      )
    ] refl

-- no closed walk becomes negative where no new arc is a loop
pub publishes_nonnegative : (inner : ℕ → Bool) (arcs new : List Constraint) → IsOutside inner new
    → ((a : Constraint) → Contains new a → a.from.0 ≢ a.to.0) → NoNegative inner arcs → NoNegative inner (arcs ++ new)
publishes_nonnegative inner arcs new out loops none_below p w h =
    elim (old_or_new inner arcs new p p w out h) [ inl g ↦ none_below p w g | inr n ↦ absurd (loops n.0 n.1 (n.2 ∙ sym n.3)) ]
