-- Lists that are equal where their items are: same_lists; items whose comparison decides whether they are equal: arcs_decide, told_decide, leans_decide,
-- entries_decide; tables that list the same owners: same_tables, owners_same,
-- rows_differ, rows_agree, max_most.
use Rattle.std.proofs.Common.{zero, suc, ◌≡◌, ℕ, ◌<◌, ◌≤◌, Bool, true, false, not, ◌&&◌, IsTrue, List, [], ◌∷◌, Option, Some, None, ap, sym, ◌∙◌, refl}
use Rattle.std.proofs.Common.{subst}
use Rattle.std.proofs.Common.{arith, rules, eqb, length, get_or, inl, inr}
use Rattle.std.specs.Prelude.{ℤ, cond, nat_lt, ◌==◌}
use Rattle.std.specs.Option.{option_eq, option_map}
use Rattle.std.specs.Ordering.{int_eq, is_lt, nat_cmp, ord_max}
use Rattle.std.specs.declared.cmp.Ordering.TheVariants.{Less, Equal, Greater}
use Rattle.std.proofs.lemmas.Bool.{and_parts, cases_lt, eqb-true, eq-eqb}
use Rattle.std.proofs.lemmas.Bool.Decides.{Decides-int_eq, nat_tests}
use lib.Pointwise.{pointwise, pointwise_decides}
use denote.Enum.Bare.{sameb, same_true}
use Rattle.stn_model.specs.declared.ids.AgentId.{AgentId}
use Rattle.stn_model.specs.declared.ids.Constraint.{Constraint}
use Rattle.stn_model.specs.declared.ids.Lean.{Lean}
use Rattle.stn_model.specs.contracts.ids.Lean.{the_type}
use Rattle.elim_step.specs.declared.summary.SummaryEntry.{SummaryEntry}
use Rattle.shared_graph.specs.Interfaces.{owner_among}
use Rattle.shared_graph.specs.Views.{listed_from}
use Rattle.shared_graph.proofs.interfaces.Tables.{found_is, owner_is}
use Rattle.shared_graph.proofs.states.Passing.{not_false}

-- what a comparison of two lists answers, where that of two items decides whether they are equal
pub same_lists : {K : Type 0} {E : K → K → Bool} (r : Bool) (xs ys : List K) → r ≡ pointwise E xs ys
    → ((x y : K) → (E x y ≡ true → x ≡ y) × (x ≡ y → E x y ≡ true)) → (IsTrue r → xs ≡ ys) × (xs ≡ ys → IsTrue r)
same_lists {K} {E} r xs ys is decides =
    let both = pointwise_decides decides xs ys in
    (λ h. both.0 (sym is ∙ h), λ e. is ∙ both.1 e)

three_same : (a b c d : ℕ) (w z : ℤ) → (eqb a b && (eqb c d && int_eq w z)) ≡ true → (a ≡ b) × (c ≡ d) × (w ≡ z)
three_same a b c d w z h =
    let one = and_parts (eqb a b) (eqb c d && int_eq w z) h in
    let two = and_parts (eqb c d) (int_eq w z) one.1 in
    (eqb-true a b one.0, eqb-true c d two.0, (Decides-int_eq w z).0 two.1)

three_own : (a b : ℕ) (w : ℤ) → (eqb a a && (eqb b b && int_eq w w)) ≡ true
three_own a b w = (λ i. eq-eqb a a refl i && (eq-eqb b b refl i && (Decides-int_eq w w).1 refl i))

pub arcs_decide : (x y : Constraint) → ((eqb x.from.0 y.from.0 && (eqb x.to.0 y.to.0 && int_eq x.bound y.bound)) ≡ true → x ≡ y)
    × (x ≡ y → (eqb x.from.0 y.from.0 && (eqb x.to.0 y.to.0 && int_eq x.bound y.bound)) ≡ true)
arcs_decide x y = (
  λ h. let e = three_same x.from.0 y.from.0 x.to.0 y.to.0 x.bound y.bound h in
      (λ i. record { from = record { 0 = e.0 i }; to = record { 0 = e.1 i }; bound = e.2 i }),
  λ e. subst (λ (z : Constraint). (eqb x.from.0 z.from.0 && (eqb x.to.0 z.to.0 && int_eq x.bound z.bound)) ≡ true) e (three_own x.from.0 x.to.0 x.bound),
)

pub told_decide : (x y : SummaryEntry) → ((eqb x.from.0 y.from.0 && (eqb x.to.0 y.to.0 && int_eq x.weight y.weight)) ≡ true → x ≡ y)
    × (x ≡ y → (eqb x.from.0 y.from.0 && (eqb x.to.0 y.to.0 && int_eq x.weight y.weight)) ≡ true)
told_decide x y = (
  λ h. let e = three_same x.from.0 y.from.0 x.to.0 y.to.0 x.weight y.weight h in
      (λ i. record { from = record { 0 = e.0 i }; to = record { 0 = e.1 i }; weight = e.2 i }),
  λ e. subst (λ (z : SummaryEntry). (eqb x.from.0 z.from.0 && (eqb x.to.0 z.to.0 && int_eq x.weight z.weight)) ≡ true) e (three_own x.from.0 x.to.0 x.weight),
)

pub leans_decide : (x y : Lean) → (sameb the_type x y ≡ true → x ≡ y) × (x ≡ y → sameb the_type x y ≡ true)
leans_decide x y = (same_true the_type (search rules) x y, λ e. subst (λ (z : Lean). sameb the_type x z ≡ true) e (own x)) where
  own : (x : Lean) → sameb the_type x x ≡ true
  own x = eq-eqb _ _ refl

-- and whether two rows have the same owner
row_own : (o : Option AgentId) → option_eq (λ (a b : AgentId). eqb a.0 b.0) o o ≡ true
row_own None = refl
row_own (Some a) = eq-eqb a.0 a.0 refl

pub rows_differ : (o p : Option AgentId) → not (option_eq (λ (a b : AgentId). eqb a.0 b.0) o p) ≡ true → o ≡ p → ⊥
rows_differ o p h e =
    let own = row_own o in
    let here = ap (λ (q : Option AgentId). not (option_eq (λ (a b : AgentId). eqb a.0 b.0) o q)) (sym e) in
    absurd (let f : false ≡ true = ap not (sym own) ∙ sym here ∙ h in cc)

pub rows_agree : (o p : Option AgentId) → not (option_eq (λ (a b : AgentId). eqb a.0 b.0) o p) ≡ false → o ≡ p
rows_agree None None h = refl
rows_agree None (Some b) h = absurd (cc)
rows_agree (Some a) None h = absurd (cc)
rows_agree (Some a) (Some b) h = (let e = eqb-true a.0 b.0 (not_false (eqb a.0 b.0) h) in (λ i. Some (record { 0 = e i })))

-- tables that have the same owner in each row list the same
all_none : (n : ℕ) (ys : List (Option AgentId)) → ((k : ℕ) → get_or ys k None ≡ None) → listed_from n ys ≡ []
all_none n [] h = refl
all_none n (None ∷ ys) h = all_none (suc n) ys (λ k. h (suc k))
all_none n (Some a ∷ ys) h = absurd (let e = h 0 in cc)

rows_same : (n : ℕ) (xs ys : List (Option AgentId)) → ((k : ℕ) → get_or xs k None ≡ get_or ys k None) → listed_from n xs ≡ listed_from n ys
rows_same n [] ys h = sym (all_none n ys (λ k. sym (h k)))
rows_same n (x ∷ xs) [] h = all_none n (x ∷ xs) h
rows_same n (None ∷ xs) (None ∷ ys) h = rows_same (suc n) xs ys (λ k. h (suc k))
rows_same n (None ∷ xs) (Some b ∷ ys) h = absurd (let e = h 0 in cc)
rows_same n (Some a ∷ xs) (None ∷ ys) h = absurd (let e = h 0 in cc)
rows_same n (Some a ∷ xs) (Some b ∷ ys) h =
    let e : a ≡ b = (let same = h 0 in cc) in
    let rest = rows_same (suc n) xs ys (λ k. h (suc k)) in
    (λ i. record { point = n; owner = (e i).0 } ∷ rest i)

past_none : (xs : List (Option AgentId)) (k : ℕ) → length xs ≤ k → get_or xs k None ≡ None
past_none [] k high = refl
past_none (x ∷ xs) zero high = absurd (omega arith)
past_none (x ∷ xs) (suc k) high = past_none xs k (omega arith)

-- the greater of two numbers is no less than both
pub max_most : (m n r : ℕ) → r ≡ ord_max nat_cmp m n → (m ≤ r) × (n ≤ r)
max_most m n r is = elim (cases_lt n m) [
  | inl less ↦
      (let t : nat_lt n m ≡ true = grind (arith, nat_tests) in
      let e : r ≡ m = is ∙ ap (λ b. cond (is_lt (cond b Less (cond (n == m) Equal Greater))) m n) t in
      (omega arith, omega arith))
  | inr more ↦
      (let t : nat_lt n m ≡ false = grind (arith, nat_tests) in
      let e : r ≡ n = is ∙ ap (λ b. cond (is_lt (cond b Less (cond (n == m) Equal Greater))) m n) t ∙ later (n == m) in
      (omega arith, omega arith))
] where
  later : (b : Bool) → cond (is_lt (cond b Equal Greater)) m n ≡ n
  later true = refl
  later false = refl

pub same_tables : (xs ys : List (Option AgentId)) (n : ℕ) → length xs ≤ n → length ys ≤ n
    → ((k : ℕ) → k < n → get_or xs k None ≡ get_or ys k None) → listed_from 0 xs ≡ listed_from 0 ys
same_tables xs ys n long_x long_y h = rows_same 0 xs ys (λ k. elim (cases_lt k n) [
  | inl low ↦ h k low
  | inr high ↦ past_none xs k (omega arith) ∙ sym (past_none ys k (omega arith))
])

-- and the other way round
pub owners_same : (xs ys : List (Option AgentId)) → listed_from 0 xs ≡ listed_from 0 ys → (k : ℕ) → get_or xs k None ≡ get_or ys k None
owners_same xs ys e k = number_same (get_or xs k None) (get_or ys k None) (sym (row xs k) ∙ ap (λ qs. owner_among qs k) e ∙ row ys k) where
  number_same : (o p : Option AgentId) → option_map (λ (a : AgentId). a.0) o ≡ option_map (λ (a : AgentId). a.0) p → o ≡ p
  number_same None None h = refl
  number_same None (Some b) h = absurd (cc)
  number_same (Some a) None h = absurd (cc)
  number_same (Some a) (Some b) h = (let n : a.0 ≡ b.0 = some_is a.0 b.0 h in (λ i. Some (record { 0 = n i }))) where
    some_is : (m n : ℕ) → Some m ≡ Some n → m ≡ n
    some_is m n h = cc

  row : (xs : List (Option AgentId)) (k : ℕ) → owner_among (listed_from 0 xs) k ≡ option_map (λ (a : AgentId). a.0) (get_or xs k None)
  row xs k = owner_is xs k ∙ found_is xs k
