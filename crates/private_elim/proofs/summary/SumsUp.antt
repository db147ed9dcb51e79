-- Once all private points are taken, the entries of the pairs are the agent's summary in its network: Pair, PlacesOf.
use Rattle.std.proofs.Common.{◌≡◌, ◌≢◌, ℕ, ◌<◌, ◌≤◌, Bool, true, false, ◌&&◌, not, List, [], ◌∷◌, length, map, get_or, nat_le, Option, Some, None}
use Rattle.std.proofs.Common.{inl, inr, refl, sym, ap, subst, ◌∙◌, arith, reverse}
use Rattle.std.specs.Prelude.{ℤ, pos, ◌≤ℤ◌, ◌==◌, int_lt, IfSome, nat_abs}
use Rattle.std.specs.List.{AllByRecursion, AllPairs, Contains}
use Rattle.std.proofs.lemmas.Bool.{cases_lt, false_from_ne_true, false≢true}
use Rattle.std.proofs.lemmas.Bool.Decides.{nat_tests}
use Rattle.std.proofs.lemmas.Int.{ints}
use Rattle.std.proofs.lemmas.List.{get_or-map, length-map}
use Rattle.std.proofs.lemmas.List.Elements.{All-map, All-weaker, recursion_from_All}
use Rattle.stn_model.specs.Limits.{greatest_bound, greatest_walk}
use Rattle.stn_model.specs.ArcWalks.{NoNegative, IsInnerLeast}
use Rattle.stn_model.specs.Inner.{IsInnerWeight}
use Rattle.stn_model.specs.Joined.{IsPath}
use Rattle.stn_model.specs.Net.{Net}
use Rattle.stn_model.specs.Kinds.{is_private_of}
use Rattle.stn_model.specs.Conflicts.{own_arcs}
use Rattle.stn_model.specs.Summaries.{Entry, IsSeenPair, IsEntryWeight, IsSummary, entry_weight, is_seen}
use Rattle.stn_walk.specs.Eliminations.{is_in, before_both}
use Rattle.stn_walk.specs.Joins.{joined_of, HasPath}
use Rattle.stn_walk.proofs.Eliminations.{cell-least, before-whole}
use Rattle.stn_walk.proofs.Joins.{path-from_joined, joined-from_path}
use Rattle.elim_step.specs.declared.summary.SummaryEntry.{SummaryEntry}
use Rattle.elim_step.specs.Summaries.{is_valid, is_summary}
use Rattle.elim_step.proofs.Weights.{forward-whole}
use Rattle.elim_step.specs.Eliminated.{point_at}
use Rattle.private_elim.specs.Locals.{arcs_in, place_in, private_at, passes_at, is_private_in, is_seen_in, horizon_in}
use Rattle.elim_step.specs.Summaries.{entry_of}
use Rattle.private_elim.specs.Parts.{HasPart}
use Rattle.private_elim.specs.ReducedViews.{IsReduced}
use Rattle.private_elim.specs.Taken.{TakenView, HasTaken}
use Rattle.private_elim.specs.SummaryRows.{is_pair_at, joined_at, forward_at, entry_at, rows_below}
use Rattle.private_elim.proofs.locals.Places.{place_found}
use Rattle.private_elim.proofs.locals.Parts.{Contains-map}
use Rattle.private_elim.proofs.locals.LocalFacts.{rises, place_of_point_at, horizon_is}
use Rattle.private_elim.proofs.locals.PartNetworks.{private_of_part, seen_of_part, horizon_of_part, has_part}
use Rattle.private_elim.proofs.taking.Takes.{none_fails}
use Rattle.private_elim.proofs.walks.NoConflicts.{no_own_conflict}
use Rattle.private_elim.proofs.taking.TakenFacts.{taken_private, forward_light, least_through, none_below_through, none_below_within}
use Rattle.private_elim.proofs.summary.RowFacts.{IsLess, IsEntry, HasEntries, all_entries, is_summary-from_rising}

-- two tests with the same answer
same_answer : (a b : Bool) → (a ≡ true → b ≡ true) → (b ≡ true → a ≡ true) → a ≡ b
same_answer true true h g = refl
same_answer true false h g = sym (h refl)
same_answer false true h g = g refl
same_answer false false h g = refl

-- the parts of a pair's test
pub pair_parts : (a b c d : Bool) → (not a && not b && not c && d) ≡ true → (a ≡ false) × (b ≡ false) × (c ≡ false) × (d ≡ true)
pair_parts true b c d h = absurd (false≢true h)
pair_parts false true c d h = absurd (false≢true h)
pair_parts false false true d h = absurd (false≢true h)
pair_parts false false false d h = (refl, refl, refl, h)

-- an entry's weight is light
light_entry : (h : ℤ) (o : Option ℤ) → pos 0 ≤ℤ h → h ≤ℤ pos greatest_bound → IfSome o (λ w. nat_abs w ≤ greatest_walk)
    → nat_abs (entry_weight h o) ≤ greatest_walk
light_entry h None low high light = omega (arith, ints)
light_entry h (Some w) low high light =
    elim (int_lt h w) as (λ b. int_lt h w ≡ b → nat_abs (entry_weight h (Some w)) ≤ greatest_walk) [
      | true ↦ λ t. rw t (omega (arith, ints))
      | false ↦ λ t. rw t (omega (arith, ints))
    ] refl

valid_at : (p q n : ℕ) → p ≢ q → n ≤ greatest_walk → (not (p == q) && nat_le n greatest_walk) ≡ true
valid_at p q n apart low = grind (arith, nat_tests)

-- a list with two places has more than one
pub at_least_two : (i j n : ℕ) → i < n → j < n → i ≢ j → 1 < n
at_least_two i j n li lj apart = elim (cases_lt i j) [ inl less ↦ omega arith | inr more ↦ omega arith ]

-- the pairs of a list that rises are different
once_apart : (a b : SummaryEntry) → IsLess a b → a.from.0 ≡ b.from.0 → a.to.0 ≡ b.to.0 → ⊥
once_apart a b less from to = grind (arith, nat_tests)

no_entry : SummaryEntry
no_entry = record { from = record { 0 = 0 }; to = record { 0 = 0 }; weight = pos 0 }

once_all : (entries : List SummaryEntry) → AllPairs IsLess entries → AllPairs (λ e f. e.from ≡ f.from → e.to ≡ f.to → ⊥) (map entry_of entries)
once_all entries rising i j d lt within =
    let few : j < length entries = omega (arith, within, length-map entries entry_of) in
    rw (get_or-map entry_of entries i no_entry d (omega arith), get_or-map entry_of entries j no_entry d few)
    (once_apart (get_or entries i no_entry) (get_or entries j no_entry) (rising i j no_entry lt few))

module _ (t : TakenView) (h : HasTaken t) where
  -- what stands at a place is private where the place is
  pub private_here : (i : ℕ) → i < length t.local.points → is_private_in t.local (point_at t.local.points i) ≡ private_at t.local i
  private_here i lt = ap (passes_at (private_at t.local)) (place_of_point_at t.local h.known i lt)

  pub seen_here : (i : ℕ) → i < length t.local.points → is_seen_in t.local (point_at t.local.points i) ≡ not (private_at t.local i)
  seen_here i lt = ap (passes_at (λ k. not (private_at t.local k))) (place_of_point_at t.local h.known i lt)

  -- and then it may be taken; else it is left
  pub left_here : (i : ℕ) → i < length t.local.points → private_at t.local i ≡ false → is_in (reverse t.order) (point_at t.local.points i) ≡ false
  left_here i lt other =
      false_from_ne_true (is_in (reverse t.order) (point_at t.local.points i))
      (λ taken. false≢true (sym other ∙ sym (private_here i lt) ∙ taken_private t h (point_at t.local.points i) taken))

  -- different places have different points
  pub points_apart : (i j : ℕ) → i < length t.local.points → j < length t.local.points → i ≢ j → point_at t.local.points i ≢ point_at t.local.points j
  points_apart i j li lj apart same = elim (cases_lt i j) [
    | inl less ↦ (let below = rises t.local h.known i j less lj in omega arith)
    | inr more ↦ (let below = rises t.local h.known j i (omega arith) li in omega arith)
  ]

  -- a pair's places, of which none is private, are joined through all taken points
  pub record Pair (i j : ℕ) : Type 0 where
    pub apart : i ≢ j
    pub start_seen : private_at t.local i ≡ false
    pub end_seen : private_at t.local j ≡ false
    pub joined : joined_of (arcs_in t.local) (reverse t.order) (point_at t.local.points i) (point_at t.local.points j) ≡ true

  pub between_whole : (i j : ℕ) → i < length t.local.points → j < length t.local.points → private_at t.local i ≡ false → private_at t.local j ≡ false
      → before_both (reverse t.order) (point_at t.local.points i) (point_at t.local.points j) ≡ reverse t.order
  between_whole i j li lj si sj =
      before-whole (reverse t.order) (point_at t.local.points i) (point_at t.local.points j) (left_here i li si) (left_here j lj sj)

  pub pair_is : (i j : ℕ) → i < length t.local.points → j < length t.local.points → is_pair_at t i j ≡ true → Pair i j
  pair_is i j li lj is =
      let parts = pair_parts (i == j) (private_at t.local i) (private_at t.local j) (joined_at t i j) is in
      let other = parts.0 in
      record {
        apart = λ same. (let e : i ≡ j = same in grind (arith, nat_tests));
        start_seen = parts.1;
        end_seen = parts.2;
        joined =
            ap (λ es. joined_of (arcs_in t.local) es (point_at t.local.points i) (point_at t.local.points j)) (sym (between_whole i j li lj parts.1 parts.2))
            ∙ parts.3;
      }

  pub pair_passes : (i j : ℕ) → i < length t.local.points → j < length t.local.points → Pair i j → is_pair_at t i j ≡ true
  pair_passes i j li lj p =
      let ne = p.apart in
      let other : (i == j) ≡ false = grind (arith, nat_tests) in
      let joined : joined_at t i j ≡ true =
      ap (λ es. joined_of (arcs_in t.local) es (point_at t.local.points i) (point_at t.local.points j)) (between_whole i j li lj p.start_seen p.end_seen)
      ∙ p.joined in
      (λ k. not (other k) && not (p.start_seen k) && not (p.end_seen k) && joined k)

  -- the entries are a summary
  valid_entry : (e : SummaryEntry) → IsEntry t (length t.local.points) 0 e → is_valid e ≡ true
  valid_entry e g =
      let p = pair_is g.start g.end g.start_in g.end_in g.pair in
      let ends = points_apart g.start g.end g.start_in g.end_in p.apart in
      let some : 1 < length t.local.points = at_least_two g.start g.end (length t.local.points) g.start_in g.end_in p.apart in
      let horizon = horizon_is t.local h.known some in
      let low : pos 0 ≤ℤ horizon_in t.local = subst (λ z. pos 0 ≤ℤ z) (sym horizon) h.known.valid.horizon_low in
      let high : horizon_in t.local ≤ℤ pos greatest_bound = subst (λ z. z ≤ℤ pos greatest_bound) (sym horizon) h.known.valid.horizon_high in
      let light =
      light_entry (horizon_in t.local) (forward_at t g.start g.end) low high
      (forward_light t h (point_at t.local.points g.start) (point_at t.local.points g.end)) in
      subst (λ x. is_valid x ≡ true) (sym g.is)
      (valid_at (point_at t.local.points g.start) (point_at t.local.points g.end) (nat_abs (entry_at t g.start g.end).weight) ends light)

  entries : HasEntries t (length t.local.points) 0 (rows_below t (length t.local.points))
  entries = all_entries t (rises t.local h.known)

  pub rows_are_summary : is_summary (rows_below t (length t.local.points)) ≡ true
  rows_are_summary =
      is_summary-from_rising (rows_below t (length t.local.points))
      (All-weaker (IsEntry t (length t.local.points) 0) (λ e. is_valid e ≡ true) valid_entry (rows_below t (length t.local.points)) entries.each)
      entries.rising

  -- of a network in which the agent has this part, once all private points are taken
  module _ (whole : (p : ℕ) → is_private_in t.local p ≡ true → is_in (reverse t.order) p ≡ true) (net : Net) (part : HasPart net t.local) where
    -- the taken points are the private points of the agent
    taken_is : (p : ℕ) → is_in (reverse t.order) p ≡ is_private_of net t.local.agent p
    taken_is p =
        same_answer (is_in (reverse t.order) p) (is_private_in t.local p) (taken_private t h p) (whole p) ∙ private_of_part t.local net part p

    pub none_below_private : NoNegative (is_private_of net t.local.agent) (own_arcs net t.local.agent)
    none_below_private =
        subst (NoNegative (is_private_of net t.local.agent)) part.arcs
        (none_below_through (is_in (reverse t.order)) (is_private_of net t.local.agent) taken_is (arcs_in t.local) h.none_below)

    -- the weight between two places of which none is private is an inner weight through private points
    weight_is : (i j : ℕ) → i < length t.local.points → j < length t.local.points → private_at t.local i ≡ false → private_at t.local j ≡ false
        → IsInnerWeight (is_private_of net t.local.agent) (own_arcs net t.local.agent) (point_at t.local.points i) (point_at t.local.points j)
        (forward_at t i j)
    weight_is i j li lj si sj =
        let p = point_at t.local.points i in
        let q = point_at t.local.points j in
        let cell : IsInnerLeast (is_in (reverse t.order)) (arcs_in t.local) p q (forward_at t i j) =
        subst (IsInnerLeast (is_in (reverse t.order)) (arcs_in t.local) p q)
        (sym (forward-whole (arcs_in t.local) (reverse t.order) p q (left_here i li si) (left_here j lj sj)))
        (cell-least (arcs_in t.local) (reverse t.order) h.none_below p q) in
        record {
          sound = none_below_within (is_private_of net t.local.agent) (own_arcs net t.local.agent) none_below_private;
          least = subst (λ arcs. IsInnerLeast (is_private_of net t.local.agent) arcs p q (forward_at t i j)) part.arcs
              (least_through (is_in (reverse t.order)) (is_private_of net t.local.agent) taken_is (arcs_in t.local) p q (forward_at t i j) cell);
        }

    -- a place is seen by others where it is not private
    seen_is : (i : ℕ) → i < length t.local.points → private_at t.local i ≡ false → is_seen net t.local.agent (point_at t.local.points i) ≡ true
    seen_is i li other = sym (seen_of_part t.local net part (point_at t.local.points i)) ∙ seen_here i li ∙ ap not other

    -- a path through taken points is one through private points
    privately : (ps : List ℕ) → AllByRecursion (λ p. is_in (reverse t.order) p ≡ true) ps → AllByRecursion (λ p. is_private_of net t.local.agent p ≡ true) ps
    privately [] all = tt
    privately (p ∷ ps) all = (sym (taken_is p) ∙ all.0, privately ps all.1)

    through_taken : (ps : List ℕ) → AllByRecursion (λ p. is_private_of net t.local.agent p ≡ true) ps
        → AllByRecursion (λ p. is_in (reverse t.order) p ≡ true) ps
    through_taken [] all = tt
    through_taken (p ∷ ps) all = (taken_is p ∙ all.0, through_taken ps all.1)

    -- each pair of places is a seen pair
    pub seen_pair : (i j : ℕ) → i < length t.local.points → j < length t.local.points → Pair i j
        → IsSeenPair net t.local.agent (point_at t.local.points i) (point_at t.local.points j)
    seen_pair i j li lj p =
        let x = point_at t.local.points i in
        let y = point_at t.local.points j in
        let path = path-from_joined (arcs_in t.local) (reverse t.order) x y p.joined in
        record {
          different = points_apart i j li lj p.apart;
          from = seen_is i li p.start_seen;
          to = seen_is j lj p.end_seen;
          inner = path.0;
          path = subst (λ arcs. IsPath arcs x y path.0) part.arcs path.1;
          privately = privately path.0 path.2;
        }

    -- and has its weight
    pub entry_is : (i j : ℕ) → i < length t.local.points → j < length t.local.points → Pair i j
        → IsEntryWeight net t.local.agent (point_at t.local.points i) (point_at t.local.points j) (entry_at t i j).weight
    entry_is i j li lj p = (
      forward_at t i j,
      weight_is i j li lj p.start_seen p.end_seen,
      ap (λ z. entry_weight z (forward_at t i j)) (horizon_of_part t.local net part (at_least_two i j (length t.local.points) li lj p.apart)),
    )

    -- a place of a point that others see
    record Seen (p : ℕ) : Type 0 where
      place : ℕ
      within : place < length t.local.points
      point : point_at t.local.points place ≡ p
      other : private_at t.local place ≡ false

    not_back : (b : Bool) → not b ≡ true → b ≡ false
    not_back true is = sym is
    not_back false is = refl

    place_of_seen : (p : ℕ) → is_seen net t.local.agent p ≡ true → Seen p
    place_of_seen p is =
        elim (place_in t.local.points p) as (λ o. place_in t.local.points p ≡ o → Seen p) [
          | None ↦ λ missing.
              absurd (false≢true (ap (passes_at (λ k. not (private_at t.local k))) (sym missing) ∙ seen_of_part t.local net part p ∙ is))
          | Some k ↦ λ found.
              let there = place_found t.local.points p k found in
              let other = ap (passes_at (λ m. not (private_at t.local m))) (sym found) ∙ seen_of_part t.local net part p ∙ is in
              record { place = k; within = there.0; point = there.1; other = not_back (private_at t.local k) other }
        ] refl

    -- each seen pair is one of places
    pub record PlacesOf (p q : ℕ) : Type 0 where
      pub start : ℕ
      pub end : ℕ
      pub start_in : start < length t.local.points
      pub end_in : end < length t.local.points
      pub is_start : point_at t.local.points start ≡ p
      pub is_end : point_at t.local.points end ≡ q
      pub pair : Pair start end

    pub places_of_pair : (p q : ℕ) → IsSeenPair net t.local.agent p q → PlacesOf p q
    places_of_pair p q g =
        let x = place_of_seen p g.from in
        let y = place_of_seen q g.to in
        let path : HasPath (is_in (reverse t.order)) (arcs_in t.local) p q =
        (g.inner, subst (λ arcs. IsPath arcs p q g.inner) (sym part.arcs) g.path, through_taken g.inner g.privately) in
        record {
          start = x.place;
          end = y.place;
          start_in = x.within;
          end_in = y.within;
          is_start = x.point;
          is_end = y.point;
          pair = record {
            apart = λ same. g.different (sym x.point ∙ ap (point_at t.local.points) same ∙ y.point);
            start_seen = x.other;
            end_seen = y.other;
            joined =
                (λ k. joined_of (arcs_in t.local) (reverse t.order) (x.point k) (y.point k)) ∙ joined-from_path (arcs_in t.local) (reverse t.order) p q path;
          };
        }

    -- what is true of each entry
    entry_holds : (x : SummaryEntry) → IsEntry t (length t.local.points) 0 x
        → IsSeenPair net t.local.agent x.from.0 x.to.0 × IsEntryWeight net t.local.agent x.from.0 x.to.0 x.weight
    entry_holds x g =
        let p = pair_is g.start g.end g.start_in g.end_in g.pair in
        subst (λ (y : SummaryEntry). IsSeenPair net t.local.agent y.from.0 y.to.0 × IsEntryWeight net t.local.agent y.from.0 y.to.0 y.weight) (sym g.is)
        (seen_pair g.start g.end g.start_in g.end_in p, entry_is g.start g.end g.start_in g.end_in p)

    -- and each seen pair has one
    has_entry : (p q : ℕ) → IsSeenPair net t.local.agent p q
        → (w : ℤ) × Contains (map entry_of (rows_below t (length t.local.points))) (record { from = p; to = q; weight = w })
    has_entry p q g =
        let x = places_of_pair p q g in
        let rows = rows_below t (length t.local.points) in
        let there = entries.whole x.start x.end x.start_in x.end_in (inl x.start_in) (pair_passes x.start x.end x.start_in x.end_in x.pair) in
        let weight = (entry_at t x.start x.end).weight in (
          weight,
          subst (Contains (map entry_of rows)) (λ k. record { from = x.is_start k; to = x.is_end k; weight = weight })
              (Contains-map entry_of rows (entry_at t x.start x.end) there),
        )

    pub rows_sum_up : IsSummary net t.local.agent (map entry_of (rows_below t (length t.local.points)))
    rows_sum_up =
        let rows = rows_below t (length t.local.points) in
        let holds = λ (x : Entry). IsSeenPair net t.local.agent x.from x.to × IsEntryWeight net t.local.agent x.from x.to x.weight in
        record {
          sound = no_own_conflict net t.local.agent none_below_private;
          weights = recursion_from_All holds (map entry_of rows)
              (All-map holds entry_of rows (All-weaker (IsEntry t (length t.local.points) 0) (λ x. holds (entry_of x)) entry_holds rows entries.each));
          whole = has_entry;
          once = once_all rows entries.rising;
        }

  -- so the local problem is reduced
  pub rows_reduce : ((p : ℕ) → is_private_in t.local p ≡ true → is_in (reverse t.order) p ≡ true)
      → IsReduced t.local t.order (rows_below t (length t.local.points))
  rows_reduce whole = record {
    known = h.known;
    numbered = h.numbered;
    private = h.private;
    once = h.once;
    whole = whole;
    clear = none_fails t.local (reverse t.order) h.none_below;
    none_below = none_below_through (is_in (reverse t.order)) (is_private_in t.local)
        (λ p. same_answer (is_in (reverse t.order) p) (is_private_in t.local p) (taken_private t h p) (whole p)) (arcs_in t.local) h.none_below;
    part_sums_up = λ net valid part. rows_sum_up whole net part;
    sums_up = λ net valid e. rows_sum_up whole net (has_part t.local net e);
  }
