-- Parts in turn: each is reduced, and their private points stand one after the other: AreKnownBelow, known_none, known_more, known_all, numbers, orders,
-- AreLaid, laid_none, laid_more, laid_all.
use Rattle.std.proofs.Common.{◌≡◌, ℕ, ◌+◌, ◌<◌, ◌≤◌, List, [], ◌∷◌, ◌++◌, length, drop, map, get_or, Some, ap, sym, ◌∙◌, refl, arith, subst}
use Rattle.std.proofs.Common.{inl, inr, append_assoc}
use Rattle.std.specs.Prelude.{slice_get}
use Rattle.std.proofs.lemmas.Bool.{cases_lt}
use Rattle.std.proofs.lemmas.List.{drop_more, drop_all, map-append}
use Rattle.std.proofs.lemmas.Option.{slice_get-get_or, slice_get_within}
use Rattle.stn_model.specs.declared.ids.PointId.{PointId}
use Rattle.stn_model.specs.Joined.{joined_order}
use Rattle.private_elim.specs.ReducedViews.{ReducedView, IsReduced}
use Rattle.conflict_cycle.specs.PartOrders.{AreReduced}

-- the first n are reduced
abbrev pub AreKnownBelow : List ReducedView → ℕ → Type 0
AreKnownBelow reduced n = (a : ℕ) (r : ReducedView) → a < n → slice_get reduced a ≡ Some r → IsReduced r.local r.order r.summary

pub known_none : (reduced : List ReducedView) → AreKnownBelow reduced 0
known_none reduced a r low there = absurd (omega arith)

pub known_more : (reduced : List ReducedView) (n : ℕ) (r : ReducedView) → n < length reduced → r ≡ get_or reduced n r
    → AreKnownBelow reduced n → IsReduced r.local r.order r.summary → AreKnownBelow reduced (n + 1)
known_more reduced n r low is h known a q less there = elim (cases_lt a n) [
  | inl before ↦ h a q before there
  | inr after ↦
      (let e : a ≡ n = omega arith in
      let both : Some r ≡ Some q = sym (slice_get-get_or reduced n r low ∙ ap (λ x. Some x) (sym is)) ∙ ap (slice_get reduced) (sym e) ∙ there in
      let same : r ≡ q = cc in
      subst (λ (x : ReducedView). IsReduced x.local x.order x.summary) same known)
]

pub known_all : (reduced : List ReducedView) (n : ℕ) → length reduced ≤ n → AreKnownBelow reduced n → AreReduced reduced
known_all reduced n past h a r there = (let low = slice_get_within reduced a r there in h a r (omega arith) there)

-- the numbers of points
abbrev pub numbers : List PointId → List ℕ
numbers ps = map (λ p. p.0) ps

-- the private orders of parts
abbrev pub orders : List ReducedView → List (List ℕ)
orders reduced = map (λ r. r.order) reduced

-- the list has the private points of the first n, and with those of the others and the shared points it is the joined order
abbrev pub AreLaid : List ReducedView → List ℕ → ℕ → List PointId → Type 0
AreLaid reduced shared n list = numbers list ++ joined_order (orders (drop n reduced)) shared ≡ joined_order (orders reduced) shared

pub laid_none : (reduced : List ReducedView) (shared : List ℕ) → AreLaid reduced shared 0 []
laid_none reduced shared = refl

pub laid_more : (reduced : List ReducedView) (shared : List ℕ) (n : ℕ) (r : ReducedView) (old new own : List PointId) → n < length reduced
    → r ≡ get_or reduced n r → AreLaid reduced shared n old → new ≡ old ++ own → numbers own ≡ r.order → AreLaid reduced shared (n + 1) new
laid_more reduced shared n r old new own low is h grown order =
    ap (λ ps. numbers ps ++ rest) grown
    ∙ ap (λ (xs : List ℕ). xs ++ rest) (map-append (λ (p : PointId). p.0) old own)
    ∙ append_assoc (numbers old) (numbers own) rest
    ∙ ap (λ (xs : List ℕ). numbers old ++ (xs ++ rest)) order
    ∙ ap (λ rs. numbers old ++ joined_order (orders rs) shared) (sym here) ∙ h where
      rest : List ℕ
      rest = joined_order (orders (drop (n + 1) reduced)) shared

      here : drop n reduced ≡ r ∷ drop (n + 1) reduced
      here = drop_more reduced n r low ∙ ap (λ q. q ∷ drop (n + 1) reduced) (sym is)

-- all of them, the shared points and z
pub laid_all : (reduced : List ReducedView) (shared : List ℕ) (n : ℕ) (list more whole : List PointId) (z : PointId) → length reduced ≤ n
    → AreLaid reduced shared n list → numbers more ≡ shared → z.0 ≡ 0 → whole ≡ (list ++ more) ++ z ∷ []
    → numbers whole ≡ joined_order (orders reduced) shared
laid_all reduced shared n list more whole z past h is zeroth grown =
    ap numbers grown ∙ map-append (λ (p : PointId). p.0) (list ++ more) (z ∷ [])
    ∙ ap (λ (xs : List ℕ). xs ++ z.0 ∷ []) (map-append (λ (p : PointId). p.0) list more)
    ∙ ap (λ k. (numbers list ++ numbers more) ++ k ∷ []) zeroth
    ∙ ap (λ (xs : List ℕ). (numbers list ++ xs) ++ 0 ∷ []) is
    ∙ append_assoc (numbers list) shared (0 ∷ [])
    ∙ ap (λ rs. numbers list ++ joined_order (orders rs) shared) (sym (drop_all n reduced past)) ∙ h
