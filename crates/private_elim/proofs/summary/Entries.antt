-- Entries of a summary, found by their points.
--   entry_in-push     one entry more
--   entry_light       the weights have magnitude at most 2^53
--   valid_at, entry_fresh  each entry is valid, and none before it has its points
--   given_same, given_more   the cells of the first entries between places that are not private
use Rattle.std.proofs.Common.{zero, suc, ◌≡◌, ◌≢◌, ℕ, ◌+◌, ◌<◌, ◌≤◌, List, [], ◌∷◌, ◌++◌, true, false, ◌&&◌, ◌||◌, not, Option, Some, None, length}
use Rattle.std.proofs.Common.{take, get_or, refl, sym, ap, subst, ◌∙◌, arith}
use Rattle.std.specs.Prelude.{ℤ, ◌==◌, nat_lt, nat_le, nat_abs, is_some, IfSome, if◌then◌else◌}
use Rattle.std.proofs.lemmas.Bool.{false≢true, eqb-true, eq-eqb, and_parts}
use Rattle.std.proofs.lemmas.Bool.Decides.{nat_tests}
use Rattle.std.proofs.lemmas.List.{take_more}
use Rattle.stn_model.specs.Limits.{greatest_walk}
use Rattle.dist_rows.specs.declared.cell.Cell.{Cell}
use Rattle.dist_rows.specs.Cells.{lesser, lowered}
use Rattle.elim_step.specs.declared.summary.SummaryEntry.{SummaryEntry}
use Rattle.elim_step.specs.Summaries.{is_valid, is_less, may_follow, may_all_follow, is_summary}
use Rattle.elim_step.specs.Eliminated.{weight_at, point_at}
use Rattle.elim_step.proofs.FinalWeights.{IsApart}
use Rattle.private_elim.specs.Locals.{LocalView, IsLocal}
use Rattle.elim_step.specs.Summaries.{entry_in}
use Rattle.private_elim.specs.ReducedViews.{first_there}
use Rattle.private_elim.specs.Sweeps.{IsSeenPlaces, HasGiven}
use Rattle.private_elim.proofs.taking.Takes.{local_ground}

-- one entry more
pub entry_in-push : (xs : List SummaryEntry) (e : SummaryEntry) (i j : ℕ)
    → entry_in (xs ++ e ∷ []) i j ≡ first_there (entry_in xs i j) (entry_in (e ∷ []) i j)
entry_in-push [] e i j = refl
entry_in-push (x ∷ xs) e i j =
    elim ((x.from.0 == i) && (x.to.0 == j)) as
    (λ b. (if b then Some x.weight else entry_in (xs ++ e ∷ []) i j)
    ≡ first_there (if b then Some x.weight else entry_in xs i j) (entry_in (e ∷ []) i j)) [
      | true ↦ refl
      | false ↦ entry_in-push xs e i j
    ]

-- an entry that may follow is valid
valid_next : (last : Option SummaryEntry) (e : SummaryEntry) → may_follow last e ≡ true → is_valid e ≡ true
valid_next None e h = h
valid_next (Some last) e h = (and_parts (is_less last e) (is_valid e) h).1

-- the weight of a valid entry has magnitude at most 2^53, and its ends differ
pub valid_light : (e : SummaryEntry) → is_valid e ≡ true → nat_abs e.weight ≤ greatest_walk
valid_light e h = (let light = (and_parts (not (e.from.0 == e.to.0)) (nat_le (nat_abs e.weight) greatest_walk) h).1 in grind (arith, nat_tests))

pub valid_differ : (e : SummaryEntry) → is_valid e ≡ true → e.from.0 ≢ e.to.0
valid_differ e h same =
    let off : not (e.from.0 == e.to.0) ≡ true = (and_parts (not (e.from.0 == e.to.0)) (nat_le (nat_abs e.weight) greatest_walk) h).0 in
    false≢true (ap not (sym (eq-eqb e.from.0 e.to.0 same)) ∙ off)

-- so the weight of a pair has
light_after : (last : Option SummaryEntry) (es : List SummaryEntry) → may_all_follow last es ≡ true → (i j : ℕ)
    → IfSome (entry_in es i j) (λ w. nat_abs w ≤ greatest_walk)
light_after last [] h i j = tt
light_after last (e ∷ es) h i j =
    let both = and_parts (may_follow last e) (may_all_follow (Some e) es) h in
    elim ((e.from.0 == i) && (e.to.0 == j)) as (λ b. IfSome (if b then Some e.weight else entry_in es i j) (λ w. nat_abs w ≤ greatest_walk)) [
      | true ↦ valid_light e (valid_next last e both.0)
      | false ↦ light_after (Some e) es both.1 i j
    ]

pub entry_light : (es : List SummaryEntry) → is_summary es ≡ true → (i j : ℕ) → IfSome (entry_in es i j) (λ w. nat_abs w ≤ greatest_walk)
entry_light es h = light_after None es h

-- one pair is less than a second, and the second less than a third
less_trans : (a b c d x y : ℕ) → (nat_lt a c || ((a == c) && nat_lt b d)) ≡ true → (nat_lt c x || ((c == x) && nat_lt d y)) ≡ true
    → (nat_lt a x || ((a == x) && nat_lt b y)) ≡ true
less_trans a b c d x y first second = grind (arith, nat_tests)

less_differs : (a b x y : ℕ) → (nat_lt a x || ((a == x) && nat_lt b y)) ≡ true → ((a == x) && (b == y)) ≡ false
less_differs a b x y h = grind (arith, nat_tests)

-- each entry is less than those after it
less_after : (last : SummaryEntry) (es : List SummaryEntry) (n : ℕ) (e : SummaryEntry) → may_all_follow (Some last) es ≡ true → n < length es
    → get_or es n e ≡ e → is_less last e ≡ true
less_after last [] n e h lt is = absurd (omega arith)
less_after last (x ∷ es) zero e h lt is =
    let both = and_parts (may_follow (Some last) x) (may_all_follow (Some x) es) h in
    subst (λ y. is_less last y ≡ true) is (and_parts (is_less last x) (is_valid x) both.0).0
less_after last (x ∷ es) (suc n) e h lt is =
    let both = and_parts (may_follow (Some last) x) (may_all_follow (Some x) es) h in
    let first = (and_parts (is_less last x) (is_valid x) both.0).0 in
    less_trans last.from.0 last.to.0 x.from.0 x.to.0 e.from.0 e.to.0 first (less_after x es n e both.1 (omega arith) is)

valid_after : (last : Option SummaryEntry) (es : List SummaryEntry) (n : ℕ) (e : SummaryEntry) → may_all_follow last es ≡ true → n < length es
    → get_or es n e ≡ e → is_valid e ≡ true
valid_after last [] n e h lt is = absurd (omega arith)
valid_after last (x ∷ es) zero e h lt is =
    subst (λ y. is_valid y ≡ true) is (valid_next last x (and_parts (may_follow last x) (may_all_follow (Some x) es) h).0)
valid_after last (x ∷ es) (suc n) e h lt is = valid_after (Some x) es n e (and_parts (may_follow last x) (may_all_follow (Some x) es) h).1 (omega arith) is

pub valid_at : (es : List SummaryEntry) (n : ℕ) (e : SummaryEntry) → is_summary es ≡ true → n < length es → get_or es n e ≡ e → is_valid e ≡ true
valid_at es n e h = valid_after None es n e h

-- so no entry before one has its points
fresh_after : (last : Option SummaryEntry) (es : List SummaryEntry) (n : ℕ) (e : SummaryEntry) → may_all_follow last es ≡ true → n < length es
    → get_or es n e ≡ e
    → entry_in (take n es) e.from.0 e.to.0 ≡ None
fresh_after last [] n e h lt is = absurd (omega arith)
fresh_after last (x ∷ es) zero e h lt is = refl
fresh_after last (x ∷ es) (suc n) e h lt is =
    let both = and_parts (may_follow last x) (may_all_follow (Some x) es) h in
    let less = less_after x es n e both.1 (omega arith) is in
    ap (λ b. if b then Some x.weight else entry_in (take n es) e.from.0 e.to.0) (less_differs x.from.0 x.to.0 e.from.0 e.to.0 less)
    ∙ fresh_after (Some x) es n e both.1 (omega arith) is

pub entry_fresh : (es : List SummaryEntry) (n : ℕ) (e : SummaryEntry) → is_summary es ≡ true → n < length es → get_or es n e ≡ e
    → entry_in (take n es) e.from.0 e.to.0 ≡ None
entry_fresh es n e h = fresh_after None es n e h

-- an entry between other points
other_entry : (e : SummaryEntry) (i j : ℕ) → (e.from.0 ≡ i → e.to.0 ≡ j → ⊥) → entry_in (e ∷ []) i j ≡ None
other_entry e i j differ =
    elim ((e.from.0 == i) && (e.to.0 == j)) as (λ b. ((e.from.0 == i) && (e.to.0 == j)) ≡ b → (if b then Some e.weight else None) ≡ None) [
      | true ↦ λ t.
          let both = and_parts (e.from.0 == i) (e.to.0 == j) t in
          absurd (differ (eqb-true e.from.0 i both.0) (eqb-true e.to.0 j both.1))
      | false ↦ λ t. refl
    ] refl

this_entry : (e : SummaryEntry) (i j : ℕ) → e.from.0 ≡ i → e.to.0 ≡ j → entry_in (e ∷ []) i j ≡ Some e.weight
this_entry e i j from to = (λ t. if eq-eqb e.from.0 i from t && eq-eqb e.to.0 j to t then Some e.weight else None)

first_none : (o : Option ℤ) → first_there o None ≡ o
first_none None = refl
first_none (Some w) = refl

no_cell : (o : Option Cell) → weight_at o ≡ None → o ≡ None
no_cell None h = refl
no_cell (Some c) h = cc

module _ (v : LocalView) (local : IsLocal v) (entries : List SummaryEntry) (valid : is_summary entries ≡ true) (n : ℕ) (e : SummaryEntry)
    (lt : n < length entries) (is : get_or entries n e ≡ e)
    (at : ℕ → ℕ → Option Cell) (given : HasGiven v (take n entries) at) where
  entry_more : (i j : ℕ) → entry_in (take (n + 1) entries) i j ≡ first_there (entry_in (take n entries) i j) (entry_in (e ∷ []) i j)
  entry_more i j = ap (λ es. entry_in es i j) (take_more entries n e lt ∙ ap (λ x. take n entries ++ x ∷ []) is) ∙ entry_in-push (take n entries) e i j

  -- an entry that is between no two such places
  pub given_same : ((p q : ℕ) → IsSeenPlaces v p q → point_at v.points p ≡ e.from.0 → point_at v.points q ≡ e.to.0 → ⊥) → HasGiven v (take (n + 1) entries) at
  given_same away = record {
    only = given.only;
    weights = λ p q seen.
        given.weights p q seen
        ∙ sym (entry_more (point_at v.points p) (point_at v.points q)
        ∙ ap (first_there (entry_in (take n entries) (point_at v.points p) (point_at v.points q)))
        (other_entry e (point_at v.points p) (point_at v.points q) (λ from to. away p q seen (sym from) (sym to)))
        ∙ first_none (entry_in (take n entries) (point_at v.points p) (point_at v.points q)));
  }

  -- one that is
  module _ (from to : ℕ) (seen : IsSeenPlaces v from to) (starts : point_at v.points from ≡ e.from.0) (ends : point_at v.points to ≡ e.to.0)
      (cell : Cell) (weighs : cell.weight ≡ e.weight) (after : ℕ → ℕ → Option Cell) (lower : (p q : ℕ) → after p q ≡ lowered from to cell at p q) where
    old_entry : entry_in (take n entries) (point_at v.points from) (point_at v.points to) ≡ None
    old_entry = (λ t. entry_in (take n entries) (starts t) (ends t)) ∙ entry_fresh entries n e valid lt is

    here : weight_at (lesser (at from to) cell) ≡ entry_in (take (n + 1) entries) (point_at v.points from) (point_at v.points to)
    here =
        let x = point_at v.points from in
        let y = point_at v.points to in
        let free : at from to ≡ None = no_cell (at from to) (given.weights from to seen ∙ old_entry) in
        let now : entry_in (take (n + 1) entries) x y ≡ Some e.weight =
        entry_more x y ∙ ap (λ o. first_there o (entry_in (e ∷ []) x y)) old_entry ∙ this_entry e x y (sym starts) (sym ends) in
        ap (λ o. weight_at (lesser o cell)) free ∙ ap Some weighs ∙ sym now

    points_apart : IsApart v.points
    points_apart = (local_ground v local).apart

    pub given_more : HasGiven v (take (n + 1) entries) after
    given_more = record {
      only = λ p q some.
          elim ((p == from) && (q == to)) as (λ b. ((p == from) && (q == to)) ≡ b → IsSeenPlaces v p q) [
            | true ↦ λ t.
                let both = and_parts (p == from) (q == to) t in
                subst (λ x. IsSeenPlaces v x q) (sym (eqb-true p from both.0)) (subst (λ y. IsSeenPlaces v from y) (sym (eqb-true q to both.1)) seen)
            | false ↦ λ t. given.only p q (ap is_some (sym (lower p q ∙ ap (λ b. if b then lesser (at from to) cell else at p q) t)) ∙ some)
          ] refl;
      weights = λ p q places.
          elim ((p == from) && (q == to)) as (λ b. ((p == from) && (q == to)) ≡ b
          → weight_at (after p q) ≡ entry_in (take (n + 1) entries) (point_at v.points p) (point_at v.points q)) [
            | true ↦ λ t.
                let both = and_parts (p == from) (q == to) t in
                ap weight_at (lower p q ∙ ap (λ b. if b then lesser (at from to) cell else at p q) t) ∙ here
                ∙ sym (λ s. entry_in (take (n + 1) entries) (point_at v.points (eqb-true p from both.0 s)) (point_at v.points (eqb-true q to both.1 s)))
            | false ↦ λ t.
                let x = point_at v.points p in
                let y = point_at v.points q in
                ap weight_at (lower p q ∙ ap (λ b. if b then lesser (at from to) cell else at p q) t) ∙ given.weights p q places
                ∙ sym (entry_more x y
                ∙ ap (first_there (entry_in (take n entries) x y)) (other_entry e x y (λ first second. differ p q places (starts ∙ first) (ends ∙ second) t))
                ∙ first_none (entry_in (take n entries) x y))
          ] refl;
    } where
      differ : (p q : ℕ) → IsSeenPlaces v p q → point_at v.points from ≡ point_at v.points p → point_at v.points to ≡ point_at v.points q
          → ((p == from) && (q == to)) ≡ false → ⊥
      differ p q places first second t =
          let same_from : from ≡ p = points_apart from p seen.from_within places.from_within first in
          let same_to : to ≡ q = points_apart to q seen.to_within places.to_within second in
          false≢true (sym t ∙ (λ s. eq-eqb p from (sym same_from) s && eq-eqb q to (sym same_to) s))
