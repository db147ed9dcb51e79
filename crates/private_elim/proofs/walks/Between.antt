-- The weight between two points of a reduced local problem, by their places: view_of.
use Rattle.std.proofs.Common.{◌≡◌, ◌≢◌, ℕ, ◌<◌, true, false, ◌&&◌, not, List, length, map, reverse, Option, Some, None, if◌then◌else◌, inl, inr, ◌⊎◌}
use Rattle.std.proofs.Common.{Bool, refl, sym, ap, subst, ◌∙◌, arith}
use Rattle.std.specs.Prelude.{ℤ, ◌==◌, is_some, cond}
use Rattle.std.proofs.lemmas.Bool.{cases_eq, false≢true, and_parts}
use Rattle.std.proofs.lemmas.Bool.Decides.{nat_tests}
use Rattle.stn_model.specs.ArcWalks.{IsInnerLeast}
use Rattle.stn_model.specs.Net.{Net}
use Rattle.stn_model.specs.Summaries.{Entry, IsSeenPair, IsEntryWeight, IsSummary, entry_weight, is_seen}
use Rattle.stn_model.specs.Inner.{IsInnerWeight}
use Rattle.stn_walk.specs.Eliminations.{is_in, before_both}
use Rattle.stn_walk.proofs.Visits.{least_unique}
use Rattle.elim_step.specs.declared.summary.SummaryEntry.{SummaryEntry}
use Rattle.elim_step.specs.Eliminated.{forward_of, point_at}
use Rattle.private_elim.specs.Locals.{local_of, arcs_in, place_in, private_at, passes_at, horizon_in}
use Rattle.elim_step.specs.Summaries.{entry_of}
use Rattle.elim_step.specs.Summaries.{entry_in}
use Rattle.private_elim.specs.ReducedViews.{ReducedView, IsReduced, first_there, weight_between, IsWeightBetween}
use Rattle.private_elim.specs.Taken.{TakenView, HasTaken}
use Rattle.private_elim.specs.SummaryRows.{is_pair_at, forward_at, entry_at, is_over}
use Rattle.private_elim.proofs.locals.LocalFacts.{numbered-is, seen_of_net}
use Rattle.private_elim.proofs.taking.TakenFacts.{forward_least, inner_weight, none_from_strange, none_to_strange}
use Rattle.private_elim.specs.Parts.{HasPart}
use Rattle.private_elim.proofs.locals.PartNetworks.{has_part}
use Rattle.private_elim.proofs.summary.SumsUp.{points_apart, pair_is, pair_passes, seen_pair, entry_is, places_of_pair}
use Rattle.private_elim.proofs.summary.EntryLookups.{found_holds, found_some, entry_unique}

-- what is true of each entry
abbrev HoldsOf : Net → ℕ → Entry → Type 0
HoldsOf net agent e = IsSeenPair net agent e.from e.to × IsEntryWeight net agent e.from e.to e.weight

-- where a forward weight is missing or above the horizon, the entry's weight is the horizon, and else the forward weight
over_weight : (h : ℤ) (o : Option ℤ) → is_over h o ≡ true → entry_weight h o ≡ h
over_weight h None over = refl
over_weight h (Some w) over = ap (λ b. cond b h w) over

under_weight : (h : ℤ) (o : Option ℤ) → is_over h o ≡ false → Some (entry_weight h o) ≡ o
under_weight h None under = absurd (false≢true (sym under))
under_weight h (Some w) under = ap (λ b. Some (cond b h w)) under

-- the view of the fields
abbrev pub view_of : TakenView → List SummaryEntry → ReducedView
view_of t summary = record { local = t.local; order = t.order; summary = summary }

module _ (t : TakenView) (h : HasTaken t) (summary : List SummaryEntry) (r : IsReduced t.local t.order summary) where
  is_local : t.local ≡ local_of h.known.net t.local.agent
  is_local = numbered-is t.local h.known h.numbered

  part_is : HasPart h.known.net t.local
  part_is = has_part t.local h.known.net is_local

  sums : IsSummary h.known.net t.local.agent (map entry_of summary)
  sums = r.sums_up h.known.net h.known.valid is_local

  found_entry : (i j : ℕ) (w : ℤ) → entry_in summary i j ≡ Some w → HoldsOf h.known.net t.local.agent (record { from = i; to = j; weight = w })
  found_entry i j w = found_holds (HoldsOf h.known.net t.local.agent) summary i j w sums.weights

  -- a pair of places has an entry
  pair_entry : (a b : ℕ) → a < length t.local.points → b < length t.local.points → is_pair_at t a b ≡ true
      → entry_in summary (point_at t.local.points a) (point_at t.local.points b) ≡ Some (entry_at t a b).weight
  pair_entry a b la lb is =
      let x = point_at t.local.points a in
      let y = point_at t.local.points b in
      let pair = pair_is t h a b la lb is in
      let seen = seen_pair t h r.whole h.known.net part_is a b la lb pair in
      let there = sums.whole x y seen in
      elim (entry_in summary x y) as (λ o. entry_in summary x y ≡ o → o ≡ Some (entry_at t a b).weight) [
        | None ↦ λ none. absurd (false≢true (ap is_some (sym none) ∙ found_some summary x y there.0 there.1))
        | Some w ↦ λ found.
            ap Some (entry_unique h.known.net t.local.agent x y w (entry_at t a b).weight (found_entry x y w found).1
            (entry_is t h r.whole h.known.net part_is a b la lb pair))
      ] refl

  -- the place of a point is unique
  same_place : (a b : ℕ) → a < length t.local.points → b < length t.local.points → point_at t.local.points a ≡ point_at t.local.points b → a ≡ b
  same_place a b la lb same = elim (cases_eq a b) [ inl e ↦ e | inr apart ↦ absurd (points_apart t h a b la lb apart same) ]

  -- and other places have none
  no_entry : (a b : ℕ) → a < length t.local.points → b < length t.local.points → is_pair_at t a b ≡ false
      → entry_in summary (point_at t.local.points a) (point_at t.local.points b) ≡ None
  no_entry a b la lb other =
      let x = point_at t.local.points a in
      let y = point_at t.local.points b in
      elim (entry_in summary x y) as (λ o. entry_in summary x y ≡ o → o ≡ None) [
        | None ↦ λ none. refl
        | Some w ↦ λ found.
            let at = places_of_pair t h r.whole h.known.net part_is x y (found_entry x y w found).0 in
            let start = same_place at.start a at.start_in la at.is_start in
            let end = same_place at.end b at.end_in lb at.is_end in
            absurd (false≢true (sym other ∙ (λ k. is_pair_at t (sym start k) (sym end k)) ∙ pair_passes t h at.start at.end at.start_in at.end_in at.pair))
      ] refl

  -- the weight between two places
  pub between_over : (a b : ℕ) → a < length t.local.points → b < length t.local.points
      → (is_pair_at t a b && is_over (horizon_in t.local) (forward_at t a b)) ≡ true
      → weight_between (view_of t summary) (point_at t.local.points a) (point_at t.local.points b) ≡ Some (horizon_in t.local)
  between_over a b la lb is =
      let parts = and_parts (is_pair_at t a b) (is_over (horizon_in t.local) (forward_at t a b)) is in
      let x = point_at t.local.points a in
      let y = point_at t.local.points b in
      ap (λ o. first_there o (if x == y then None else forward_of (arcs_in t.local) (reverse t.order) x y)) (pair_entry a b la lb parts.0)
      ∙ ap Some (over_weight (horizon_in t.local) (forward_at t a b) parts.1)

  under_there : (x y : Option ℤ) (w : ℤ) → Some w ≡ x → first_there (Some w) y ≡ x
  under_there x y w is = is

  pub between_under : (a b : ℕ) → a < length t.local.points → b < length t.local.points → a ≢ b
      → (is_pair_at t a b && is_over (horizon_in t.local) (forward_at t a b)) ≡ false
      → weight_between (view_of t summary) (point_at t.local.points a) (point_at t.local.points b) ≡ forward_at t a b
  between_under a b la lb apart other =
      let x = point_at t.local.points a in
      let y = point_at t.local.points b in
      let differ = points_apart t h a b la lb apart in
      let test : (x == y) ≡ false = grind (arith, nat_tests) in
      let rest : Option ℤ = if x == y then None else forward_of (arcs_in t.local) (reverse t.order) x y in
      elim (is_pair_at t a b) as (λ p. is_pair_at t a b ≡ p → first_there (entry_in summary x y) rest ≡ forward_at t a b) [
        | true ↦ λ pair.
            ap (λ o. first_there o rest) (pair_entry a b la lb pair)
            ∙ under_weight (horizon_in t.local) (forward_at t a b) (sym (ap (λ p. p && is_over (horizon_in t.local) (forward_at t a b)) pair) ∙ other)
        | false ↦ λ pair.
            ap (λ o. first_there o rest) (no_entry a b la lb pair) ∙ ap (λ p. if p then None else forward_of (arcs_in t.local) (reverse t.order) x y) test
      ] refl

  -- where there is one, the points are different points of the local problem
  seen_known : (p : ℕ) → is_seen h.known.net t.local.agent p ≡ true → place_in t.local.points p ≡ None → ⊥
  seen_known p seen missing =
      false≢true (ap (passes_at (λ k. not (private_at t.local k))) (sym missing) ∙ seen_of_net t.local h.known.net is_local p ∙ seen)

  forward_known : (i j : ℕ) (o : Option ℤ) → IsInnerLeast (is_in (before_both (reverse t.order) i j)) (arcs_in t.local) i j o → is_some o ≡ true
      → (place_in t.local.points i ≢ None) × (place_in t.local.points j ≢ None)
  forward_known i j None least there = absurd (false≢true there)
  forward_known i j (Some w) least there = (
    λ missing. none_from_strange t.local h.known (is_in (before_both (reverse t.order) i j)) i j missing least.0.0 least.0.1,
    λ missing. none_to_strange t.local h.known (is_in (before_both (reverse t.order) i j)) i j missing least.0.0 least.0.1,
  )

  -- different points of the local problem
  record IsKnown (i j : ℕ) : Type 0 where
    apart : i ≢ j
    from : place_in t.local.points i ≢ None
    to : place_in t.local.points j ≢ None

  between_known : (i j : ℕ) → is_some (weight_between (view_of t summary) i j) ≡ true → IsKnown i j
  between_known i j there =
      let forward : Option ℤ = forward_of (arcs_in t.local) (reverse t.order) i j in
      let rest : Option ℤ = if i == j then None else forward in
      elim (entry_in summary i j) as (λ o. entry_in summary i j ≡ o → IsKnown i j) [
        | Some w ↦ λ found.
            let seen = (found_entry i j w found).0 in
            record { apart = seen.different; from = seen_known i seen.from; to = seen_known j seen.to }
        | None ↦ λ none.
            let left : is_some rest ≡ true = ap (λ o. is_some (first_there o rest)) (sym none) ∙ there in
            elim (i == j) as (λ b. (i == j) ≡ b → IsKnown i j) [
              | true ↦ λ same. absurd (false≢true (ap (λ b. is_some (if b then None else forward)) (sym same) ∙ left))
              | false ↦ λ other.
                  let known = forward_known i j forward (forward_least t h i j) (ap (λ b. is_some (if b then None else forward)) (sym other) ∙ left) in
                  record { apart = λ same. (let e : i ≡ j = same in grind (arith, nat_tests)); from = known.0; to = known.1 }
            ] refl
      ] refl

  pub between_apart : (i j : ℕ) → is_some (weight_between (view_of t summary) i j) ≡ true → i ≢ j
  between_apart i j there = (between_known i j there).apart

  pub between_starts : (i j : ℕ) → is_some (weight_between (view_of t summary) i j) ≡ true → place_in t.local.points i ≢ None
  between_starts i j there = (between_known i j there).from

  pub between_ends : (i j : ℕ) → is_some (weight_between (view_of t summary) i j) ≡ true → place_in t.local.points j ≢ None
  between_ends i j there = (between_known i j there).to

module _ (t : TakenView) (h : HasTaken t) (summary : List SummaryEntry) (i j : ℕ) (w : ℤ) where
  apart_or : (b : Bool) → (i == j) ≡ b → i ≢ j
      → (if b then None else forward_of (arcs_in t.local) (reverse t.order) i j) ≡ forward_of (arcs_in t.local) (reverse t.order) i j
  apart_or true e apart = absurd (apart (let f = e in grind (arith, nat_tests)))
  apart_or false e apart = refl

  -- the weight between two points, in the terms of walks and of elimination
  pub between_from : IsWeightBetween (view_of t summary) i j w → weight_between (view_of t summary) i j ≡ Some w
  between_from (inl entry) = ap (λ o. first_there o (if i == j then None else forward_of (arcs_in t.local) (reverse t.order) i j)) entry
  between_from (inr none) =
      ap (λ o. first_there o (if i == j then None else forward_of (arcs_in t.local) (reverse t.order) i j)) none.0
      ∙ apart_or (i == j) refl none.1
      ∙ least_unique (is_in (before_both (reverse t.order) i j)) (arcs_in t.local) i j (forward_of (arcs_in t.local) (reverse t.order) i j) (Some w)
      (forward_least t h i j) none.2.least

  pub between_to : Some w ≡ weight_between (view_of t summary) i j → IsWeightBetween (view_of t summary) i j w
  between_to is = by_entry (entry_in summary i j) refl (sym is) where
    by_test : (b : Bool) → (i == j) ≡ b → (if b then None else forward_of (arcs_in t.local) (reverse t.order) i j) ≡ Some w
        → (i ≢ j) × IsInnerWeight (is_in (before_both (reverse t.order) i j)) (arcs_in t.local) i j (Some w)
    by_test true e same = absurd (cc)
    by_test false e same = (
      grind (arith, nat_tests),
      inner_weight t h i j (Some w)
          (subst (IsInnerLeast (is_in (before_both (reverse t.order) i j)) (arcs_in t.local) i j) same (forward_least t h i j)),
    )

    by_entry : (o : Option ℤ) → entry_in summary i j ≡ o
        → first_there o (if i == j then None else forward_of (arcs_in t.local) (reverse t.order) i j) ≡ Some w
        → (entry_in summary i j ≡ Some w)
        ⊎ ((entry_in summary i j ≡ None) × (i ≢ j) × IsInnerWeight (is_in (before_both (reverse t.order) i j)) (arcs_in t.local) i j (Some w))
    by_entry None e same = let b = by_test (i == j) refl same in inr (e, b.0, b.1)
    by_entry (Some v) e same = inl (e ∙ same)
