-- The tests of a cycle tell whether it is a negative cycle in normal form.
use Rattle.std.proofs.Common.{◌≡◌, ◌≢◌, ℕ, pos, ◌≤◌, ◌↔◌, Bool, true, false, not, ◌&&◌, List, [], ◌∷◌, length, nat_eq, nat_lt, nat_le, int_lt, refl, sym, ap, subst, ◌∙◌, arith}
use Rattle.std.specs.List.{AllByRecursion, list_all, list_any}
use Rattle.std.proofs.lemmas.Bool.{false≢true}
use Rattle.std.proofs.lemmas.Int.{ints}
use Rattle.stn_model.specs.declared.ids.Constraint.{Constraint}
use Rattle.stn_model.specs.Arcs.{from_at, to_at}
use Rattle.stn_model.specs.Walks.{IsWalk, weight, heads, AllDifferent, IsNegativeCycle, IsNormal}
use Rattle.cert_check.specs.Cycles.{is_walk, are_different, is_normal, is_cycle}
use Rattle.cert_check.proofs.Decided.{left_of, right_of, both, left_fails, right_fails, neither, agree, same, is_same, apart, is_apart, below, is_below, at_most, is_at_most, less, is_less}

module _ (arcs : List Constraint) where
  walk_from : (i j : ℕ) (ns : List ℕ) → is_walk arcs i j ns ≡ true → IsWalk arcs i j ns
  walk_from i j [] e = same i j e
  walk_from i j (n ∷ ns) e =
      let rest = right_of (nat_lt n (length arcs)) (nat_eq (from_at arcs n) i && is_walk arcs (to_at arcs n) j ns) e in (
        below n (length arcs) (left_of (nat_lt n (length arcs)) (nat_eq (from_at arcs n) i && is_walk arcs (to_at arcs n) j ns) e),
        same (from_at arcs n) i (left_of (nat_eq (from_at arcs n) i) (is_walk arcs (to_at arcs n) j ns) rest),
        walk_from (to_at arcs n) j ns (right_of (nat_eq (from_at arcs n) i) (is_walk arcs (to_at arcs n) j ns) rest),
      )

  is_walk_from : (i j : ℕ) (ns : List ℕ) → IsWalk arcs i j ns → is_walk arcs i j ns ≡ true
  is_walk_from i j [] w = is_same i j w
  is_walk_from i j (n ∷ ns) w =
      both (nat_lt n (length arcs)) (nat_eq (from_at arcs n) i && is_walk arcs (to_at arcs n) j ns) (is_below n (length arcs) w.0)
      (both (nat_eq (from_at arcs n) i) (is_walk arcs (to_at arcs n) j ns) (is_same (from_at arcs n) i w.1) (is_walk_from (to_at arcs n) j ns w.2))

not_false : (b : Bool) → not b ≡ true → b ≡ false
not_false true h = sym h
not_false false h = refl

none_is : (x : ℕ) (xs : List ℕ) → list_any (nat_eq x) xs ≡ false → AllByRecursion (λ y. x ≢ y) xs
none_is x [] e = tt
none_is x (y ∷ ys) e =
    (apart x y (left_fails (nat_eq x y) (list_any (nat_eq x) ys) e), none_is x ys (right_fails (nat_eq x y) (list_any (nat_eq x) ys) e))

is_none : (x : ℕ) (xs : List ℕ) → AllByRecursion (λ y. x ≢ y) xs → list_any (nat_eq x) xs ≡ false
is_none x [] h = refl
is_none x (y ∷ ys) h = neither (nat_eq x y) (list_any (nat_eq x) ys) (is_apart x y h.0) (is_none x ys h.1)

different_from : (xs : List ℕ) → are_different xs ≡ true → AllDifferent xs
different_from [] e = tt
different_from (x ∷ xs) e = (
  none_is x xs (not_false (list_any (nat_eq x) xs) (left_of (not (list_any (nat_eq x) xs)) (are_different xs) e)),
  different_from xs (right_of (not (list_any (nat_eq x) xs)) (are_different xs) e),
)

are_different_from : (xs : List ℕ) → AllDifferent xs → are_different xs ≡ true
are_different_from [] h = refl
are_different_from (x ∷ xs) h =
    both (not (list_any (nat_eq x) xs)) (are_different xs) (ap not (is_none x xs h.0)) (are_different_from xs h.1)

least_from : (n : ℕ) (ns : List ℕ) → list_all (nat_le n) ns ≡ true → AllByRecursion (λ m. n ≤ m) ns
least_from n [] e = tt
least_from n (m ∷ ms) e =
    (at_most n m (left_of (nat_le n m) (list_all (nat_le n) ms) e), least_from n ms (right_of (nat_le n m) (list_all (nat_le n) ms) e))

is_least_from : (n : ℕ) (ns : List ℕ) → AllByRecursion (λ m. n ≤ m) ns → list_all (nat_le n) ns ≡ true
is_least_from n [] h = refl
is_least_from n (m ∷ ms) h = both (nat_le n m) (list_all (nat_le n) ms) (is_at_most n m h.0) (is_least_from n ms h.1)

module _ (arcs : List Constraint) where
  pub cycle_from : (ns : List ℕ) → is_cycle arcs ns ≡ true → IsNegativeCycle arcs ns × IsNormal ns
  cycle_from [] e = absurd (false≢true e)
  cycle_from (n ∷ ns) e =
      let a : Bool = is_walk arcs (from_at arcs n) (from_at arcs n) (n ∷ ns) in
      let b : Bool = are_different (heads arcs (n ∷ ns)) in
      let c : Bool = int_lt (weight arcs (n ∷ ns)) (pos 0) in
      let d : Bool = is_normal (n ∷ ns) in
      let bcd = right_of a (b && (c && d)) e in
      let cd = right_of b (c && d) bcd in (
        record {
          start = from_at arcs n;
          walk = walk_from arcs (from_at arcs n) (from_at arcs n) (n ∷ ns) (left_of a (b && (c && d)) e);
          simple = different_from (heads arcs (n ∷ ns)) (left_of b (c && d) bcd);
          negative = less (weight arcs (n ∷ ns)) (pos 0) (left_of c d cd);
        },
        least_from n ns (right_of (nat_le n n) (list_all (nat_le n) ns) (right_of c d cd)),
      )

  is_cycle_from : (ns : List ℕ) → IsNegativeCycle arcs ns → is_normal ns ≡ true → is_cycle arcs ns ≡ true
  is_cycle_from [] c normal = let negative = c.negative in absurd (omega (arith, ints))
  is_cycle_from (n ∷ ns) c normal =
      let walk : IsWalk arcs (from_at arcs n) (from_at arcs n) (n ∷ ns) = subst (λ (s : ℕ). IsWalk arcs s s (n ∷ ns)) (sym c.walk.1) c.walk in
      both (is_walk arcs (from_at arcs n) (from_at arcs n) (n ∷ ns)) _ (is_walk_from arcs (from_at arcs n) (from_at arcs n) (n ∷ ns) walk)
      (both (are_different (heads arcs (n ∷ ns))) _ (are_different_from (heads arcs (n ∷ ns)) c.simple)
      (both (int_lt (weight arcs (n ∷ ns)) (pos 0)) (is_normal (n ∷ ns)) (is_less (weight arcs (n ∷ ns)) (pos 0) c.negative) normal))

  normal_of : (ns : List ℕ) → is_cycle arcs ns ≡ true → is_normal ns ≡ true
  normal_of [] e = refl
  normal_of (n ∷ ns) e =
      let a : Bool = is_walk arcs (from_at arcs n) (from_at arcs n) (n ∷ ns) in
      let b : Bool = are_different (heads arcs (n ∷ ns)) in
      let c : Bool = int_lt (weight arcs (n ∷ ns)) (pos 0) in
      let d : Bool = is_normal (n ∷ ns) in
      right_of c d (right_of b (c && d) (right_of a (b && (c && d)) e))

  -- where the numbers are in normal form, a test of negative cycles is a test of these
  pub cycle_tested : (ns : List ℕ) (r : Bool) → (r ≡ true ↔ IsNegativeCycle arcs ns) → is_normal ns ≡ true → r ≡ is_cycle arcs ns
  cycle_tested ns r h normal = agree r (is_cycle arcs ns) (λ e. is_cycle_from ns (h.0 e) normal) (λ e. h.1 (cycle_from ns e).0)

  -- and without it there is none
  pub cycle_refused : (ns : List ℕ) → is_normal ns ≡ false → false ≡ is_cycle arcs ns
  cycle_refused ns h = agree false (is_cycle arcs ns) (λ e. absurd (false≢true e)) (λ e. sym h ∙ normal_of ns e)
