-- Summaries of one part of a network are equal: equal_lists, summaries_same.
use Rattle.std.proofs.Common.{◌≡◌, ℕ, Bool, true, false, ◌&&◌, ◌||◌, List, [], ◌∷◌, map, Option, Some, None, if◌then◌else◌, refl, sym, ap, ◌∙◌}
use Rattle.std.proofs.Common.{arith, subst}
use Rattle.std.specs.Prelude.{ℤ, ◌==◌, nat_lt, is_some}
use Rattle.std.specs.List.{AllByRecursion}
use Rattle.std.proofs.lemmas.Bool.{and_parts, false≢true}
use Rattle.std.proofs.lemmas.Bool.Decides.{nat_tests}
use Rattle.stn_model.specs.Net.{Net}
use Rattle.stn_model.specs.Valid.{IsNetwork}
use Rattle.stn_model.specs.Kinds.{is_shared}
use Rattle.stn_model.specs.Conflicts.{own_arcs}
use Rattle.stn_model.specs.Summaries.{Entry, IsSeenPair, IsEntryWeight, IsSummary}
use Rattle.elim_step.specs.declared.summary.SummaryEntry.{SummaryEntry}
use Rattle.elim_step.specs.Summaries.{entry_of, entry_in, is_less, is_valid, may_follow, may_all_follow, is_summary}
use Rattle.private_elim.specs.Locals.{LocalView, points_of}
use Rattle.private_elim.specs.Parts.{HasPart, OfPart}
use Rattle.private_elim.specs.Laws.{HasSameArcs}
use Rattle.private_elim.proofs.summary.EntryLookups.{found_holds, found_some, entry_unique}

-- entries that come after a pair
abbrev is_after : ℕ → ℕ → SummaryEntry → Bool
is_after a b x = nat_lt a x.from.0 || ((a == x.from.0) && nat_lt b x.to.0)

-- the pair has none of them
none_after : (a b : ℕ) (es : List SummaryEntry) → AllByRecursion (λ x. is_after a b x ≡ true) es → entry_in es a b ≡ None
none_after a b [] h = refl
none_after a b (x ∷ es) h =
    let here = h.0 in
    let other : ((x.from.0 == a) && (x.to.0 == b)) ≡ false = grind (arith, nat_tests) in
    ap (λ t. if t then Some x.weight else entry_in es a b) other ∙ none_after a b es h.1

wider : (a b : ℕ) (x : SummaryEntry) (es : List SummaryEntry) → is_after a b x ≡ true → AllByRecursion (λ y. is_less x y ≡ true) es
    → AllByRecursion (λ y. is_after a b y ≡ true) es
wider a b x [] first h = tt
wider a b x (y ∷ es) first h = (let second = h.0 in grind (arith, nat_tests), wider a b x es first h.1)

-- each entry comes before those that follow it
all_after : (x : SummaryEntry) (es : List SummaryEntry) → may_all_follow (Some x) es ≡ true → AllByRecursion (λ y. is_less x y ≡ true) es
all_after x [] h = tt
all_after x (y ∷ es) h =
    let both = and_parts (may_follow (Some x) y) (may_all_follow (Some y) es) h in
    let first = (and_parts (is_less x y) (is_valid y) both.0).0 in
    (first, wider x.from.0 x.to.0 y es first (all_after y es both.1))

following : (last : Option SummaryEntry) (x : SummaryEntry) (es : List SummaryEntry) → may_all_follow last (x ∷ es) ≡ true → may_all_follow (Some x) es ≡ true
following last x es h = (and_parts (may_follow last x) (may_all_follow (Some x) es) h).1

found_first : (x : SummaryEntry) (es : List SummaryEntry) → entry_in (x ∷ es) x.from.0 x.to.0 ≡ Some x.weight
found_first x es =
    let here : ((x.from.0 == x.from.0) && (x.to.0 == x.to.0)) ≡ true = grind (arith, nat_tests) in
    ap (λ t. if t then Some x.weight else entry_in es x.from.0 x.to.0) here

-- a pair that comes before the first entry has none
none_before : (a b : ℕ) (last : Option SummaryEntry) (x : SummaryEntry) (es : List SummaryEntry) → may_all_follow last (x ∷ es) ≡ true
    → is_after a b x ≡ true → entry_in (x ∷ es) a b ≡ None
none_before a b last x es h before = none_after a b (x ∷ es) (before, wider a b x es before (all_after x es (following last x es h)))

some-none : (w : ℤ) (o : Option ℤ) → o ≡ Some w → o ≡ None → ⊥
some-none w o is none = false≢true (ap is_some (sym none ∙ is))

module _ (x y : SummaryEntry) (xs ys : List SummaryEntry) (after_x : AllByRecursion (λ z. is_less x z ≡ true) xs)
    (after_y : AllByRecursion (λ z. is_less y z ≡ true) ys) (same : (i j : ℕ) → entry_in (x ∷ xs) i j ≡ entry_in (y ∷ ys) i j)
    (f : is_less x y ≡ false) (g : is_less y x ≡ false) where
  same_from : x.from.0 ≡ y.from.0
  same_from = grind (arith, nat_tests)

  same_to : x.to.0 ≡ y.to.0
  same_to = grind (arith, nat_tests)

  -- the first entries are one
  same_first : x ≡ y
  same_first =
      let found : Some x.weight ≡ Some y.weight =
      sym (found_first x xs) ∙ same x.from.0 x.to.0 ∙ (λ k. entry_in (y ∷ ys) (same_from k) (same_to k)) ∙ found_first y ys in
      let weight : x.weight ≡ y.weight = cc in
      (λ k. record { from = record { 0 = same_from k }; to = record { 0 = same_to k }; weight = weight k })

  -- and the others have the same weights
  same_rest : (i j : ℕ) → entry_in xs i j ≡ entry_in ys i j
  same_rest i j =
      elim ((x.from.0 == i) && (x.to.0 == j)) as (λ b. ((x.from.0 == i) && (x.to.0 == j)) ≡ b → entry_in xs i j ≡ entry_in ys i j) [
        | true ↦ λ t.
            let ei : x.from.0 ≡ i = grind (arith, nat_tests) in
            let ej : x.to.0 ≡ j = grind (arith, nat_tests) in
            (λ k. entry_in xs (sym ei k) (sym ej k)) ∙ none_after x.from.0 x.to.0 xs after_x
            ∙ sym (none_after y.from.0 y.to.0 ys after_y) ∙ (λ k. entry_in ys ((sym same_from ∙ ei) k) ((sym same_to ∙ ej) k))
        | false ↦ λ t.
            let off : ((y.from.0 == i) && (y.to.0 == j)) ≡ false = (λ k. (sym same_from k == i) && (sym same_to k == j)) ∙ t in
            sym (ap (λ b. if b then Some x.weight else entry_in xs i j) t) ∙ same i j ∙ ap (λ b. if b then Some y.weight else entry_in ys i j) off
      ] refl

-- lists of rising pairs in which each pair has the same weight
equal_lists : (lx ly : Option SummaryEntry) (xs ys : List SummaryEntry) → may_all_follow lx xs ≡ true → may_all_follow ly ys ≡ true
    → ((i j : ℕ) → entry_in xs i j ≡ entry_in ys i j) → xs ≡ ys
equal_lists lx ly [] [] hx hy same = refl
equal_lists lx ly [] (y ∷ ys) hx hy same = absurd (some-none y.weight None (same y.from.0 y.to.0 ∙ found_first y ys) refl)
equal_lists lx ly (x ∷ xs) [] hx hy same = absurd (some-none x.weight None (sym (same x.from.0 x.to.0) ∙ found_first x xs) refl)
equal_lists lx ly (x ∷ xs) (y ∷ ys) hx hy same =
    let after_x = all_after x xs (following lx x xs hx) in
    let after_y = all_after y ys (following ly y ys hy) in
    elim (is_less x y) as (λ b. is_less x y ≡ b → x ∷ xs ≡ y ∷ ys) [
      | true ↦ λ t. absurd (some-none x.weight (entry_in (y ∷ ys) x.from.0 x.to.0) (sym (same x.from.0 x.to.0) ∙ found_first x xs)
          (none_before x.from.0 x.to.0 ly y ys hy t))
      | false ↦ λ f. elim (is_less y x) as (λ b. is_less y x ≡ b → x ∷ xs ≡ y ∷ ys) [
        | true ↦ λ t. absurd (some-none y.weight (entry_in (x ∷ xs) y.from.0 y.to.0) (same y.from.0 y.to.0 ∙ found_first y ys)
            (none_before y.from.0 y.to.0 lx x xs hx t))
        | false ↦ λ g.
            let rest = equal_lists (Some x) (Some y) xs ys (following lx x xs hx) (following ly y ys hy) (same_rest x y xs ys after_x after_y same f g) in
            let first = same_first x y xs ys after_x after_y same f g in
            (λ k. first k ∷ rest k)
      ] refl
    ] refl

module _ (net : Net) (agent : ℕ) (first second : List SummaryEntry) (one : IsSummary net agent (map entry_of first))
    (other : IsSummary net agent (map entry_of second)) where
  abbrev Holds : Entry → Type 0
  Holds x = IsSeenPair net agent x.from x.to × IsEntryWeight net agent x.from x.to x.weight

  -- where a pair has an entry of one, it has the same of the other
  same_entry : (i j : ℕ) (w : ℤ) → entry_in first i j ≡ Some w → (o : Option ℤ) → entry_in second i j ≡ o → Some w ≡ o
  same_entry i j w found None is =
      let seen = found_holds Holds first i j w one.weights found in
      let there = other.whole i j seen.0 in
      absurd (false≢true (ap is_some (sym is) ∙ found_some second i j there.0 there.1))
  same_entry i j w found (Some v) is =
      ap (λ (w : ℤ). Some w) (entry_unique net agent i j w v (found_holds Holds first i j w one.weights found).1 (found_holds Holds second i j v other.weights is).1)

-- the entries of each pair are the same
same_entries : (net : Net) (agent : ℕ) (first second : List SummaryEntry) → IsSummary net agent (map entry_of first)
    → IsSummary net agent (map entry_of second) → (i j : ℕ) → entry_in first i j ≡ entry_in second i j
same_entries net agent first second one other i j = by (entry_in first i j) refl where
  by : (o : Option ℤ) → entry_in first i j ≡ o → entry_in first i j ≡ entry_in second i j
  by (Some w) is = is ∙ same_entry net agent first second one other i j w is (entry_in second i j) refl
  by None is = is ∙ back (entry_in second i j) refl where
    back : (o : Option ℤ) → entry_in second i j ≡ o → None ≡ o
    back None found = refl
    back (Some w) found = absurd (some-none w (entry_in first i j) (sym (same_entry net agent second first other one i j w found (entry_in first i j) refl)) is)

-- the same part in a network
part_same : (v w : LocalView) (net : Net) → HasSameArcs v w → HasPart net v → HasPart net w
part_same v w net same part = record {
  points = sym same.points ∙ part.points ∙ ap (λ a. points_of net a) same.agent;
  shared = sym same.shared ∙ part.shared ∙ ap (λ a. map (is_shared net) (points_of net a)) same.agent;
  arcs = sym same.arcs ∙ part.arcs ∙ ap (own_arcs net) same.agent;
}

pub summaries_same : (v w : LocalView) (first second : List SummaryEntry) → HasSameArcs v w → is_summary first ≡ true → is_summary second ≡ true
    → OfPart v (λ net. IsSummary net v.agent (map entry_of first)) → OfPart w (λ net. IsSummary net w.agent (map entry_of second))
    → (net : Net) → IsNetwork net → HasPart net v → first ≡ second
summaries_same v w first second same rising rising' one other net valid part =
    equal_lists None None first second rising rising'
    (same_entries net v.agent first second (one net valid part)
    (subst (λ a. IsSummary net a (map entry_of second)) (sym same.agent) (other net valid (part_same v w net same part))))
