-- The least point that passes a test, where several tests are met one after another.
--   next_either     the lesser of two such points is the least that passes one of the tests
--   next_same       tests that pass the same points
--   HasPrivateBelow, next_none, next_more, next_all   the back sweeps in turn
--   next_told, told_some, told_least, told_none, next_bound   a next point as a call tells it
--   next_joined, next_whole   the least joined point is one with a bound of a back sweep or a final bound
use Rattle.std.proofs.Common.{◌≡◌, ◌⊎◌, ⊎_elim, ℕ, ◌+◌, ◌<◌, ◌≤◌, List, Bool, true, false, Option}
use Rattle.std.proofs.Common.{Some, None, length, get_or, ap, sym, ◌∙◌, refl, arith, subst, inl, inr, if◌then◌else◌}
use Rattle.std.specs.Prelude.{ℤ, nat_lt, slice_get, is_some, IfSome, IfNone}
use Rattle.std.specs.Option.{option_map}
use Rattle.std.proofs.lemmas.Bool.{cases_lt, false≢true}
use Rattle.std.proofs.lemmas.Bool.Decides.{nat_tests}
use Rattle.std.proofs.lemmas.Option.{slice_get-get_or, slice_get_within}
use Rattle.stn_model.specs.declared.ids.PointId.{PointId}
use Rattle.dist_rows.specs.Cells.{IsAbove}
use Rattle.private_elim.specs.Backs.{BoundsView, bound_between}
use Rattle.stn_model.specs.Joined.{IsJoined}
use Rattle.stn_model.specs.Net.{Net, arcs_of}
use Rattle.shared_graph.specs.Histories.{SharedView}
use Rattle.shared_graph.specs.Together.{HoldsTogether}
use Rattle.shared_graph.specs.Weights.{final}
use Rattle.conflict_cycle.specs.Nexts.{IsNext, lesser_of, HasPrivate}
use Rattle.conflict_cycle.specs.PartOrders.{order_of}
use Rattle.conflict_cycle.specs.Parts.{PartsView, BelongsTo, IsParts}
use Rattle.conflict_cycle.proofs.PartBounds.{bound_joined, final_joined, joined_either}

module _ (P Q : ℕ → Type 0) (after : Option ℕ) where
  -- the least that passes one of two tests
  pub next_either : (o r : Option ℕ) → IsNext P after o → IsNext Q after r → IsNext (λ q. P q ⊎ Q q) after (lesser_of o r)
  next_either None None h g = λ q above either. elim either [ inl p ↦ h q above p | inr s ↦ g q above s ]
  next_either None (Some n) h g = (g.0, inr g.1, λ q low above either. elim either [ inl p ↦ h q above p | inr s ↦ g.2 q low above s ])
  next_either (Some m) None h g = (h.0, inl h.1, λ q low above either. elim either [ inl p ↦ h.2 q low above p | inr s ↦ g q above s ])
  next_either (Some m) (Some n) h g = go (nat_lt n m) refl where
    go : (b : Bool) → nat_lt n m ≡ b → IsNext (λ q. P q ⊎ Q q) after (if b then Some n else Some m)
    go true t =
        let less : n < m = grind (arith, nat_tests) in
        (g.0, inr g.1, λ q low above either. elim either [ inl p ↦ h.2 q (omega arith) above p | inr s ↦ g.2 q low above s ])
    go false t =
        let most : m ≤ n = grind (arith, nat_tests) in
        (h.0, inl h.1, λ q low above either. elim either [ inl p ↦ h.2 q low above p | inr s ↦ g.2 q (omega arith) above s ])

  pub next_same : (o : Option ℕ) → ((q : ℕ) → P q → Q q) → ((q : ℕ) → Q q → P q) → IsNext P after o → IsNext Q after o
  next_same None up back h = λ q above p. h q above (back q p)
  next_same (Some m) up back h = (h.0, up m h.1, λ q low above p. h.2 q low above (back q p))

-- what a call tells of the least point that passes
pub next_told : (P : ℕ → Type 0) (after o : Option PointId) → IfSome o (λ p. IsAbove p.0 (option_map (λ p. p.0) after) × P p.0)
    → IfSome o (λ p. (q : ℕ) → q < p.0 → IsAbove q (option_map (λ p. p.0) after) → P q → ⊥)
    → IfNone o ((q : ℕ) → IsAbove q (option_map (λ p. p.0) after) → P q → ⊥) → IsNext P (option_map (λ p. p.0) after) (option_map (λ p. p.0) o)
next_told P after None some least none = none
next_told P after (Some p) some least none = (some.0, some.1, least)

-- and back
module _ (P : ℕ → Type 0) (after o : Option PointId) where
  pub told_some : IsNext P (option_map (λ p. p.0) after) (option_map (λ p. p.0) o) → IfSome o (λ p. IsAbove p.0 (option_map (λ p. p.0) after) × P p.0)
  told_some h = go o h where
    go : (o : Option PointId) → IsNext P (option_map (λ p. p.0) after) (option_map (λ p. p.0) o)
        → IfSome o (λ p. IsAbove p.0 (option_map (λ p. p.0) after) × P p.0)
    go None h = tt
    go (Some p) h = (h.0, h.1)

  pub told_least : IsNext P (option_map (λ p. p.0) after) (option_map (λ p. p.0) o)
      → IfSome o (λ p. (q : ℕ) → q < p.0 → IsAbove q (option_map (λ p. p.0) after) → P q → ⊥)
  told_least h = go o h where
    go : (o : Option PointId) → IsNext P (option_map (λ p. p.0) after) (option_map (λ p. p.0) o)
        → IfSome o (λ p. (q : ℕ) → q < p.0 → IsAbove q (option_map (λ p. p.0) after) → P q → ⊥)
    go None h = tt
    go (Some p) h = h.2

  pub told_none : IsNext P (option_map (λ p. p.0) after) (option_map (λ p. p.0) o) → IfNone o ((q : ℕ) → IsAbove q (option_map (λ p. p.0) after) → P q → ⊥)
  told_none h = go o h where
    go : (o : Option PointId) → IsNext P (option_map (λ p. p.0) after) (option_map (λ p. p.0) o)
        → IfNone o ((q : ℕ) → IsAbove q (option_map (λ p. p.0) after) → P q → ⊥)
    go None h = h
    go (Some p) h = tt

-- a bound is there, or none is
some_or_none : (o : Option ℤ) → is_some o ≡ true → o ≡ None → ⊥
some_or_none None some none = false≢true some
some_or_none (Some b) some none = absurd (cc)

pub next_bound : (at : ℕ → Option ℤ) (after o : Option PointId) → IfSome o (λ p. IsAbove p.0 (option_map (λ p. p.0) after) × (is_some (at p.0) ≡ true))
    → IfSome o (λ p. (q : ℕ) → q < p.0 → IsAbove q (option_map (λ p. p.0) after) → at q ≡ None)
    → IfNone o ((q : ℕ) → IsAbove q (option_map (λ p. p.0) after) → at q ≡ None)
    → IsNext (λ q. is_some (at q) ≡ true) (option_map (λ p. p.0) after) (option_map (λ p. p.0) o)
next_bound at after None some least none = λ q above there. some_or_none (at q) there (none q above)
next_bound at after (Some p) some least none = (some.0, some.1, λ q low above there. some_or_none (at q) there (least q low above))

-- one of the first back sweeps has a bound from i to a point
abbrev pub HasPrivateBelow : List BoundsView → ℕ → ℕ → ℕ → Type 0
HasPrivateBelow bounds n i q = (a : ℕ) × (v : BoundsView) × (a < n) × (slice_get bounds a ≡ Some v) × (is_some (bound_between v i q) ≡ true)

module _ (bounds : List BoundsView) (i : ℕ) (after : Option ℕ) where
  pub next_none : IsNext (HasPrivateBelow bounds 0 i) after None
  next_none q above h = absurd (let low = h.2 in omega arith)

  pub next_more : (n : ℕ) (v : BoundsView) (o r : Option ℕ) → n < length bounds → v ≡ get_or bounds n v → IsNext (HasPrivateBelow bounds n i) after o
      → IsNext (λ q. is_some (bound_between v i q) ≡ true) after r → IsNext (HasPrivateBelow bounds (n + 1) i) after (lesser_of o r)
  next_more n v o r lt is h g =
      next_same (λ q. HasPrivateBelow bounds n i q ⊎ (is_some (bound_between v i q) ≡ true)) (HasPrivateBelow bounds (n + 1) i) after (lesser_of o r)
      up back (next_either (HasPrivateBelow bounds n i) (λ q. is_some (bound_between v i q) ≡ true) after o r h g) where
        there : slice_get bounds n ≡ Some v
        there = slice_get-get_or bounds n v lt ∙ ap (λ x. Some x) (sym is)

        up : (q : ℕ) → HasPrivateBelow bounds n i q ⊎ (is_some (bound_between v i q) ≡ true) → HasPrivateBelow bounds (n + 1) i q
        up q (inl f) = (f.0, f.1, (let low = f.2 in omega arith), f.3, f.4)
        up q (inr f) = (n, v, omega arith, there, f)

        same : (a : ℕ) (w : BoundsView) → a ≡ n → slice_get bounds a ≡ Some w → v ≡ w
        same a w e here = (let both : Some v ≡ Some w = sym there ∙ ap (slice_get bounds) (sym e) ∙ here in cc)

        back : (q : ℕ) → HasPrivateBelow bounds (n + 1) i q → HasPrivateBelow bounds n i q ⊎ (is_some (bound_between v i q) ≡ true)
        back q f =
            ⊎_elim
            (λ (low : f.0 < n). inl (f.0, f.1, low, f.3, f.4))
            (λ (high : n ≤ f.0).
            let low = f.2 in
            inr (ap (λ (x : BoundsView). is_some (bound_between x i q)) (same f.0 f.1 (omega arith) f.3) ∙ f.4))
            (cases_lt f.0 n)

  pub next_all : (n : ℕ) (o : Option ℕ) → length bounds ≤ n → IsNext (HasPrivateBelow bounds n i) after o → IsNext (HasPrivate bounds i) after o
  next_all n o past h =
      next_same (HasPrivateBelow bounds n i) (HasPrivate bounds i) after o (λ q f. (f.0, f.1, f.3, f.4))
      (λ q f. (f.0, f.1, (let low = slice_get_within bounds f.0 f.1 f.2 in omega arith), f.2, f.3)) h

module _ (parts : PartsView) (known : IsParts parts)
    (together : HoldsTogether parts.shared.face parts.shared.state) (net : Net) (belongs : BelongsTo net parts) where
  -- the bound of a back sweep, or the final bound, is that of a joined pair
  with_bound : (i q : ℕ) → HasPrivate parts.bounds i q ⊎ (is_some (final parts.shared.face parts.shared.state i q) ≡ true)
      → IsJoined (arcs_of net) (order_of parts.reduced parts.shared.state) i q
  with_bound i q (inl f) = go (bound_between f.1 i q) refl f.3 where
    go : (o : Option ℤ) → bound_between f.1 i q ≡ o → is_some o ≡ true → IsJoined (arcs_of net) (order_of parts.reduced parts.shared.state) i q
    go None is some = absurd (false≢true some)
    go (Some b) is some = (bound_joined parts known together net belongs f.0 f.1 i q b f.2 is).0
  with_bound i q (inr some) = go (final parts.shared.face parts.shared.state i q) refl some where
    go : (o : Option ℤ) → final parts.shared.face parts.shared.state i q ≡ o → is_some o ≡ true
        → IsJoined (arcs_of net) (order_of parts.reduced parts.shared.state) i q
    go None is some = absurd (false≢true some)
    go (Some b) is some = final_joined parts known together net belongs i q b is

  pub next_joined : (i : ℕ) (after o r : Option ℕ) → IsNext (HasPrivate parts.bounds i) after o
      → IsNext (λ q. is_some (final parts.shared.face parts.shared.state i q) ≡ true) after r
      → IsNext (IsJoined (arcs_of net) (order_of parts.reduced parts.shared.state) i) after (lesser_of o r)
  next_joined i after o r h g =
      next_same (λ q. HasPrivate parts.bounds i q ⊎ (is_some (final parts.shared.face parts.shared.state i q) ≡ true))
      (IsJoined (arcs_of net) (order_of parts.reduced parts.shared.state) i) after (lesser_of o r) (with_bound i)
      (joined_either parts known together net belongs i)
      (next_either (HasPrivate parts.bounds i) (λ q. is_some (final parts.shared.face parts.shared.state i q) ≡ true) after o r h g)

  -- as calls tell it
  pub next_whole : (v : SharedView) → v ≡ parts.shared → (i : ℕ) (after private shared whole : Option PointId)
      → IsNext (HasPrivate parts.bounds i) (option_map (λ p. p.0) after) (option_map (λ p. p.0) private)
      → IsNext (λ q. is_some (final v.face v.state i q) ≡ true) (option_map (λ p. p.0) after) (option_map (λ p. p.0) shared)
      → option_map (λ p. p.0) whole ≡ lesser_of (option_map (λ p. p.0) private) (option_map (λ p. p.0) shared)
      → IsNext (IsJoined (arcs_of net) (order_of parts.reduced parts.shared.state) i) (option_map (λ p. p.0) after) (option_map (λ p. p.0) whole)
  next_whole v same i after private shared whole h g is =
      subst (IsNext (IsJoined (arcs_of net) (order_of parts.reduced parts.shared.state) i) (option_map (λ p. p.0) after)) (sym is)
      (next_joined i (option_map (λ p. p.0) after) (option_map (λ p. p.0) private) (option_map (λ p. p.0) shared) h
      (subst (λ (w : SharedView). IsNext (λ q. is_some (final w.face w.state i q) ≡ true) (option_map (λ p. p.0) after) (option_map (λ p. p.0) shared)) same g))
