-- A tight end is its bound with z, or there is a first external arc that it meets, and no other: high_blocked,
-- blocker_there, blocker_unique.
use Rattle.std.proofs.Common.{◌≡◌, ◌≢◌, ℕ, ◌+◌, ◌<◌, Bool, true, false, ◌&&◌, cond, not, int_eq, List, [], ◌∷◌, length, Option, Some, None}
use Rattle.std.proofs.Common.{refl, sym, ap, ◌∙◌, arith, inl, inr}
use Rattle.std.specs.Prelude.{ℤ, neg_ℤ, ◌+ℤ◌, ◌-ℤ◌, Contains, ◌==◌}
use Rattle.std.specs.List.{position_or_len}
use Rattle.std.proofs.lemmas.Int.{ints}
use Rattle.std.proofs.lemmas.Bool.{and_parts, cases_order, false≢true}
use Rattle.std.proofs.lemmas.Bool.Decides.{nat_tests}
use Rattle.std.proofs.lemmas.List.Sums.{passes_at_first, fails_before_first}
use Rattle.stn_model.specs.declared.ids.Constraint.{Constraint}
use Rattle.stn_model.specs.Arcs.{arc_at, no_arc}
use Rattle.stn_model.specs.Net.{Net, arcs_of}
use Rattle.stn_model.specs.Kinds.{is_external}
use Rattle.stn_model.specs.Conflicts.{external_arcs}
use Rattle.stn_model.proofs.ArcKinds.{passes_of}
use Rattle.decoupling_facts.specs.Boxes.{Ends, IsTightEnd}
use Rattle.decoupling_facts.specs.Decouplings.{MeetsHigh, MeetsLow, IsFirstMet, IsBlocker}
use Rattle.decoupling_facts.proofs.Lists.{contains_cases, kept_listed}

-- where an item passes, so does a first one
some_first : (p : Constraint → Bool) (xs : List Constraint) (x : Constraint) → Contains xs x → p x ≡ true → position_or_len p xs < length xs
some_first p [] x c h = absurd (omega (arith, c.1))
some_first p (y ∷ xs) x c h =
    elim (contains_cases y x xs c) [
      | inl e ↦ first (p y) (ap p e ∙ h)
      | inr d ↦ deeper (p y) (some_first p xs x d h)
    ] where
      first : (b : Bool) → b ≡ true → cond (not b) (1 + position_or_len p xs) 0 < length (y ∷ xs)
      first true t = omega arith
      first false t = absurd (false≢true t)

      deeper : (b : Bool) → position_or_len p xs < length xs → cond (not b) (1 + position_or_len p xs) 0 < length (y ∷ xs)
      deeper true lt = omega arith
      deeper false lt = omega arith

-- the first arc of a kind that a test tells
first_at : (Met : Constraint → Type 0) (test : Constraint → Bool) → ((a : Constraint) → test a ≡ true → Met a) → ((a : Constraint) → Met a → test a ≡ true)
    → (arcs : List Constraint) → position_or_len test arcs < length arcs → IsFirstMet Met arcs (position_or_len test arcs)
first_at Met test met tested arcs lt = record {
  known = lt;
  here = met (arc_at arcs (position_or_len test arcs)) (passes_at_first test arcs no_arc lt);
  least = λ m less here. false≢true (sym (fails_before_first test arcs m no_arc less) ∙ tested (arc_at arcs m) here);
}

first_met : (Met : Constraint → Type 0) (test : Constraint → Bool) → ((a : Constraint) → test a ≡ true → Met a) → ((a : Constraint) → Met a → test a ≡ true)
    → (arcs : List Constraint) (a : Constraint) → Contains arcs a → Met a → (n : ℕ) × IsFirstMet Met arcs n
first_met Met test met tested arcs a c is = (position_or_len test arcs, first_at Met test met tested arcs (some_first test arcs a c (tested a is)))

first_unique : (Met : Constraint → Type 0) (arcs : List Constraint) (n m : ℕ) → IsFirstMet Met arcs n → IsFirstMet Met arcs m → n ≡ m
first_unique Met arcs n m p q =
    elim (cases_order n m) [
      | inl same ↦ same
      | inr (inl less) ↦ absurd (q.least n less p.here)
      | inr (inr more) ↦ absurd (p.least m more q.here)
    ]

is_int : (x y : ℤ) → int_eq x y ≡ true → x ≡ y
is_int x y t = grind (arith, ints)

same_int : (x y : ℤ) → x ≡ y → int_eq x y ≡ true
same_int x y e = grind (arith, ints)

-- an end that is its bound with z, or else meets an arc of the kind
either : (Blocks : Option ℕ → Type 0) (end bound : ℤ) → ((end ≡ bound) → Blocks None) → ((end ≢ bound) → (n : ℕ) × Blocks (Some n)) → (o : Option ℕ) × Blocks o
either Blocks end bound own other =
    elim (int_eq end bound) as (λ b. int_eq end bound ≡ b → (o : Option ℕ) × Blocks o) [
      | true ↦ λ t. (None, own (is_int end bound t))
      | false ↦ λ t. let n = other (λ e. false≢true (sym t ∙ same_int end bound e)) in (Some n.0, n.1)
    ] refl

module _ (net : Net) (e : Ends) (k : ℕ) where
  abbrev pub high_test : Constraint → Bool
  high_test a = is_external net a && (a.to.0 == k) && int_eq (e.hi k) (e.lo a.from.0 +ℤ a.bound)

  abbrev low_test : Constraint → Bool
  low_test a = is_external net a && (a.from.0 == k) && int_eq (e.lo k) (e.hi a.to.0 -ℤ a.bound)

  high_met : (a : Constraint) → high_test a ≡ true → MeetsHigh net e k a
  high_met a t =
      let outer = and_parts (is_external net a && (a.to.0 == k)) (int_eq (e.hi k) (e.lo a.from.0 +ℤ a.bound)) t in
      let parts = and_parts (is_external net a) (a.to.0 == k) outer.0 in
      let here = parts.1 in
      record { external = parts.0; at = grind (arith, nat_tests); met = is_int (e.hi k) (e.lo a.from.0 +ℤ a.bound) outer.1 }

  high_tested : (a : Constraint) → MeetsHigh net e k a → high_test a ≡ true
  high_tested a m =
      let here = m.at in
      let ends : (a.to.0 == k) ≡ true = grind (arith, nat_tests) in
      (λ t. m.external t && ends t && same_int (e.hi k) (e.lo a.from.0 +ℤ a.bound) m.met t)

  low_met : (a : Constraint) → low_test a ≡ true → MeetsLow net e k a
  low_met a t =
      let outer = and_parts (is_external net a && (a.from.0 == k)) (int_eq (e.lo k) (e.hi a.to.0 -ℤ a.bound)) t in
      let parts = and_parts (is_external net a) (a.from.0 == k) outer.0 in
      let here = parts.1 in
      record { external = parts.0; at = grind (arith, nat_tests); met = is_int (e.lo k) (e.hi a.to.0 -ℤ a.bound) outer.1 }

  low_tested : (a : Constraint) → MeetsLow net e k a → low_test a ≡ true
  low_tested a m =
      let here = m.at in
      let begins : (a.from.0 == k) ≡ true = grind (arith, nat_tests) in
      (λ t. m.external t && begins t && same_int (e.lo k) (e.hi a.to.0 -ℤ a.bound) m.met t)

module _ (net : Net) (final : ℕ → ℕ → ℤ) (e : Ends) where
  -- the first arc that passes the test, where the high end is not its bound with z
  pub high_blocked : (k : ℕ) → e.hi k ≢ final 0 k → position_or_len (high_test net e k) (arcs_of net) < length (arcs_of net)
      → IsBlocker net final e (k, true) (Some (position_or_len (high_test net e k) (arcs_of net)))
  high_blocked k apart lt = (apart, first_at (MeetsHigh net e k) (high_test net e k) (high_met net e k) (high_tested net e k) (arcs_of net) lt)

  pub blocker_there : (w : ℕ × Bool) → IsTightEnd final (external_arcs net) e w → (o : Option ℕ) × IsBlocker net final e w o
  blocker_there (k, true) (inl is) = (None, is)
  blocker_there (k, true) (inr (a, c, to, is)) =
      let first = first_met (MeetsHigh net e k) (high_test net e k) (high_met net e k) (high_tested net e k) (arcs_of net) a
      (kept_listed (is_external net) (arcs_of net) a c) (record { external = passes_of (is_external net) (arcs_of net) a c; at = to; met = is }) in
      either (IsBlocker net final e (k, true)) (e.hi k) (final 0 k) (λ own. own) (λ other. (first.0, (other, first.1)))
  blocker_there (k, false) (inl is) = (None, is)
  blocker_there (k, false) (inr (a, c, from, is)) =
      let first = first_met (MeetsLow net e k) (low_test net e k) (low_met net e k) (low_tested net e k) (arcs_of net) a
      (kept_listed (is_external net) (arcs_of net) a c) (record { external = passes_of (is_external net) (arcs_of net) a c; at = from; met = is }) in
      either (IsBlocker net final e (k, false)) (e.lo k) (neg_ℤ (final k 0)) (λ own. own) (λ other. (first.0, (other, first.1)))

  pub blocker_unique : (w : ℕ × Bool) (o r : Option ℕ) → IsBlocker net final e w o → IsBlocker net final e w r → o ≡ r
  blocker_unique w None None p q = refl
  blocker_unique (k, true) None (Some m) p q = absurd (q.0 p)
  blocker_unique (k, false) None (Some m) p q = absurd (q.0 p)
  blocker_unique (k, true) (Some n) None p q = absurd (p.0 q)
  blocker_unique (k, false) (Some n) None p q = absurd (p.0 q)
  blocker_unique (k, true) (Some n) (Some m) p q = ap (λ (x : ℕ). Some x) (first_unique (MeetsHigh net e k) (arcs_of net) n m p.1 q.1)
  blocker_unique (k, false) (Some n) (Some m) p q = ap (λ (x : ℕ). Some x) (first_unique (MeetsLow net e k) (arcs_of net) n m p.1 q.1)
