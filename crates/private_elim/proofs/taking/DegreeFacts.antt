-- How many places remain and are joined with a place: the degree of its point, neighbour by neighbour; and where it stays.
use Rattle.std.proofs.Common.{zero, suc, ◌≡◌, ◌≢◌, ℕ, ◌+◌, ◌<◌, ◌≤◌, List, [], ◌∷◌, ◌++◌, Bool, true, false, ◌&&◌, ◌||◌, not, Option, Some, None, ap}
use Rattle.std.proofs.Common.{sym, ◌∙◌, refl, arith, subst, length, length-append, append-nil, get_or, inl, inr}
use Rattle.stn_walk.proofs.Members.{is_in-at, is_in-push, is_in-rest}
use Rattle.std.proofs.Math.Bool.{or-true}
use Rattle.std.proofs.lemmas.Bool.{and_parts, not-true, or_cases, false≢true}
use Rattle.std.specs.Prelude.{◌==◌, if◌then◌else◌, is_some, reverse}
use Rattle.std.proofs.lemmas.Bool.Decides.{nat_tests}
use Rattle.std.specs.List.{AllByRecursion}
use Rattle.stn_model.specs.Walks.{AllDifferent}
use Rattle.stn_walk.specs.Eliminations.{is_in}
use Rattle.stn_walk.specs.Joins.{joined_of, HasPath}
use Rattle.stn_walk.proofs.Different.{AllDifferent-push}
use Rattle.stn_walk.proofs.Joins.{path-from_joined, joined-from_path, joined-symmetric}
use Rattle.stn_walk.proofs.Eliminations.{before-whole}
use Rattle.dist_rows.specs.declared.cell.Cell.{Cell}
use Rattle.elim_step.specs.Eliminates.{remains, count_below}
use Rattle.elim_step.specs.Eliminated.{point_at}
use Rattle.private_elim.specs.Locals.{LocalView, arcs_in, is_point_of, place_in}
use Rattle.private_elim.specs.Taken.{IsTaken}
use Rattle.private_elim.specs.Picked.{IsNeighbour, IsDegree}
use Rattle.private_elim.proofs.locals.LocalFacts.{place_of_point_at}
use Rattle.private_elim.proofs.locals.Places.{place_found}
use Rattle.private_elim.proofs.taking.Takes.{local_ground}

-- the points of the places below n that pass
abbrev pub points_where : List ℕ → (ℕ → Bool) → ℕ → List ℕ
points_where points test zero = []
points_where points test (suc n) = points_where points test n ++ (if test n then point_at points n ∷ [] else [])

module _ (points : List ℕ) (apart : (i j : ℕ) → i < length points → j < length points → point_at points i ≡ point_at points j → i ≡ j) (test : ℕ → Bool) where
  -- each is the point of such a place
  record IsWhere (n q : ℕ) : Type 0 where
    place : ℕ
    low : place < n
    passes : test place ≡ true
    is : point_at points place ≡ q

  where_from : (n q : ℕ) → is_in (points_where points test n) q ≡ true → IsWhere n q
  where_from zero q h = absurd (cc)
  where_from (suc n) q h = by (where_from n q) (test n) refl h where
    more : IsWhere n q → IsWhere (suc n) q
    more w = let l = w.low in record { place = w.place; low = omega arith; passes = w.passes; is = w.is }

    by : (is_in (points_where points test n) q ≡ true → IsWhere n q) → (b : Bool) → test n ≡ b
        → is_in (points_where points test n ++ (if b then point_at points n ∷ [] else [])) q ≡ true → IsWhere (suc n) q
    by before true e h =
        elim (or_cases (is_in (points_where points test n) q) (q == point_at points n)
        (sym (is_in-push (points_where points test n) (point_at points n) q) ∙ h)) [
          | inl old ↦ more (before old)
          | inr new ↦ record { place = n; low = omega arith; passes = e; is = grind (arith, nat_tests) }
        ]
    by before false e h = more (before (sym (ap (λ xs. is_in xs q) (append-nil (points_where points test n))) ∙ h))

  where_to : (n place : ℕ) → place < n → test place ≡ true → is_in (points_where points test n) (point_at points place) ≡ true
  where_to zero place low passes = absurd (omega arith)
  where_to (suc n) place low passes =
      let p = point_at points place in
      elim (place == n) as (λ b. (place == n) ≡ b → is_in (points_where points test n ++ (if test n then point_at points n ∷ [] else [])) p ≡ true) [
        | true ↦ λ t.
            let e : place ≡ n = grind (arith, nat_tests) in
            let here : test n ≡ true = ap test (sym e) ∙ passes in
            let same : (p == point_at points n) ≡ true = (let f = ap (point_at points) e in grind (arith, nat_tests)) in
            ap (λ b. is_in (points_where points test n ++ (if b then point_at points n ∷ [] else [])) p) here
            ∙ is_in-push (points_where points test n) (point_at points n) p ∙ ap (λ b. is_in (points_where points test n) p || b) same
            ∙ or-true (is_in (points_where points test n) p)
        | false ↦ λ t.
            let ne : place ≢ n = grind (arith, nat_tests) in
            let old = where_to n place (omega arith) passes in
            wider (test n) old
      ] refl where
        wider : (b : Bool) → is_in (points_where points test n) (point_at points place) ≡ true
            → is_in (points_where points test n ++ (if b then point_at points n ∷ [] else [])) (point_at points place) ≡ true
        wider true old =
            is_in-push (points_where points test n) (point_at points n) (point_at points place)
            ∙ ap (λ b. b || (point_at points place == point_at points n)) old
        wider false old = ap (λ xs. is_in xs (point_at points place)) (append-nil (points_where points test n)) ∙ old

  where_once : (n : ℕ) → n ≤ length points → AllDifferent (points_where points test n)
  where_once zero le = tt
  where_once (suc n) le = by (where_once n (omega arith)) (test n) where
    by : AllDifferent (points_where points test n) → (b : Bool) → AllDifferent (points_where points test n ++ (if b then point_at points n ∷ [] else []))
    by before true = AllDifferent-push (points_where points test n) (point_at points n) before
        (λ k lk e. let w = where_from n (get_or (points_where points test n) k 0) (is_in-at (points_where points test n) k lk) in
        let low = w.low in
        let same = apart w.place n (omega arith) (omega arith) (w.is ∙ e) in
        absurd (omega arith))
    by before false = subst AllDifferent (sym (append-nil (points_where points test n))) before

  where_many : (n : ℕ) → length (points_where points test n) ≡ count_below test n
  where_many zero = refl
  where_many (suc n) = length-append (points_where points test n) (if test n then point_at points n ∷ [] else []) ∙ by (test n) (where_many n) where
    by : (b : Bool) → length (points_where points test n) ≡ count_below test n
        → length (points_where points test n) + length (if b then point_at points n ∷ [] else []) ≡ (if b then 1 else 0) + count_below test n
    by true e = omega arith
    by false e = omega arith

module _ (v : LocalView) (order : List ℕ) (at : ℕ → ℕ → Option Cell) (joined : ℕ → ℕ → Bool) (remain : List Bool) (h : IsTaken v order at joined remain)
    (k : ℕ) (lk : k < length v.points) (fresh : is_in (reverse order) (point_at v.points k) ≡ false) where
  apart : (i j : ℕ) → i < length v.points → j < length v.points → point_at v.points i ≡ point_at v.points j → i ≡ j
  apart = (local_ground v h.known).apart

  -- a place that remains and is joined with one that is not taken is that of a neighbour
  pub neighbour_from : (m : ℕ) → m < length v.points → (remains remain m && joined k m) ≡ true
      → IsNeighbour v (reverse order) (point_at v.points k) (point_at v.points m)
  neighbour_from m lm passes =
      let b = and_parts (remains remain m) (joined k m) passes in
      let left : is_in (reverse order) (point_at v.points m) ≡ false =
      not-true (is_in (reverse order) (point_at v.points m)) (sym (h.cells.remaining m lm) ∙ b.0) in
      let mk : k ≢ m = λ e. (let n = h.alone k in let y : joined k k ≡ true = ap (joined k) e ∙ b.1 in cc) in
      let path : HasPath (is_in (reverse order)) (arcs_in v) (point_at v.points k) (point_at v.points m) =
      path-from_joined (arcs_in v) (reverse order) (point_at v.points k) (point_at v.points m)
      (ap (λ es. joined_of (arcs_in v) es (point_at v.points k) (point_at v.points m))
      (sym (before-whole (reverse order) (point_at v.points k) (point_at v.points m) fresh left)) ∙ sym (h.joins k m lk lm mk) ∙ b.1) in
      record {
        point = ap is_some (place_of_point_at v h.known m lm);
        left = left;
        other = λ e. mk (apart k m lk lm (sym e));
        inner = path.0;
        path = path.1;
        through = path.2;
      }

  -- and that of a neighbour is such a place
  pub neighbour_to : (m : ℕ) → m < length v.points → IsNeighbour v (reverse order) (point_at v.points k) (point_at v.points m)
      → (remains remain m && joined k m) ≡ true
  neighbour_to m lm neighbour =
      let p = point_at v.points k in
      let q = point_at v.points m in
      let mk : k ≢ m = λ same. neighbour.other (ap (point_at v.points) (sym same)) in
      let stays : remains remain m ≡ true = h.cells.remaining m lm ∙ ap not neighbour.left in
      let join : joined_of (arcs_in v) (reverse order) p q ≡ true =
      joined-from_path (arcs_in v) (reverse order) p q (neighbour.inner, neighbour.path, neighbour.through) in
      let here : joined k m ≡ true =
      h.joins k m lk lm mk ∙ ap (λ es. joined_of (arcs_in v) es p q) (before-whole (reverse order) p q fresh neighbour.left) ∙ join in
      (λ t. stays t && here t)

  abbrev test : ℕ → Bool
  test q = remains remain q && joined k q

  -- the number of places that remain and are joined with a place that is not taken is the degree of its point
  pub degree_is : IsDegree v (reverse order) (point_at v.points k) (count_below (λ q. remains remain q && joined k q) (length v.points))
  degree_is = record {
    neighbours = points_where v.points test (length v.points);
    once = where_once v.points apart test (length v.points) (omega arith);
    each = λ q. (λ here. to_neighbour q (where_from v.points apart test (length v.points) q here), λ m. from_neighbour q m);
    many = where_many v.points apart test (length v.points);
  } where
    to_neighbour : (q : ℕ) → IsWhere v.points apart test (length v.points) q → IsNeighbour v (reverse order) (point_at v.points k) q
    to_neighbour q w = subst (IsNeighbour v (reverse order) (point_at v.points k)) w.is (neighbour_from w.place w.low w.passes)

    from_neighbour : (q : ℕ) → IsNeighbour v (reverse order) (point_at v.points k) q → is_in (points_where v.points test (length v.points)) q ≡ true
    from_neighbour q neighbours = by (place_in v.points q) refl where
      by : (o : Option ℕ) → place_in v.points q ≡ o → is_in (points_where v.points test (length v.points)) q ≡ true
      by None e = absurd (let p = neighbours.point in let n : is_point_of v q ≡ false = ap is_some e in cc)
      by (Some m) e =
          let found = place_found v.points q m e in
          subst (λ x. is_in (points_where v.points test (length v.points)) x ≡ true) found.1
          (where_to v.points apart test (length v.points) m found.0
          (neighbour_to m found.0 (subst (IsNeighbour v (reverse order) (point_at v.points k)) (sym found.1) neighbours)))

-- the degree of a point stays where a point is taken that is no neighbour of it
module _ (v : LocalView) (taken : List ℕ) (x y : ℕ) (known : is_point_of v y ≡ true) (left : is_in taken y ≡ false) (other : y ≢ x)
    (away : IsNeighbour v taken x y → ⊥) where
  no_path : HasPath (is_in taken) (arcs_in v) x y → ⊥
  no_path p = away (record { point = known; left = left; other = other; inner = p.0; path = p.1; through = p.2 })

  not_joined : (b : Bool) → joined_of (arcs_in v) taken x y ≡ b → b ≡ false
  not_joined true e = absurd (no_path (path-from_joined (arcs_in v) taken x y e))
  not_joined false e = refl

  apart_before : joined_of (arcs_in v) taken y x ≡ false
  apart_before = joined-symmetric (arcs_in v) taken y x ∙ not_joined (joined_of (arcs_in v) taken x y) refl

  still : (q : ℕ) → IsNeighbour v taken y q → IsNeighbour v (x ∷ taken) y q
  still q n = record {
    point = n.point;
    left = is_in-rest x taken q (λ e. false≢true (sym apart_before ∙ joined-from_path (arcs_in v) taken y x
        (subst (HasPath (is_in taken) (arcs_in v) y) e (n.inner, n.path, n.through)))) ∙ n.left;
    other = n.other;
    inner = n.inner;
    path = n.path;
    through = wider n.inner n.through;
  } where
    wider : (ps : List ℕ) → AllByRecursion (λ p. is_in taken p ≡ true) ps → AllByRecursion (λ p. is_in (x ∷ taken) p ≡ true) ps
    wider [] all = tt
    wider (p ∷ ps) all = (ap (λ b. b || (p == x)) all.0, wider ps all.1)

  before : (q : ℕ) → IsNeighbour v (x ∷ taken) y q → IsNeighbour v taken y q
  before q n =
      let join : joined_of (arcs_in v) (x ∷ taken) y q ≡ true = joined-from_path (arcs_in v) (x ∷ taken) y q (n.inner, n.path, n.through) in
      let path = path-from_joined (arcs_in v) taken y q (direct (joined_of (arcs_in v) taken y q) (joined_of (arcs_in v) taken x q)
      (ap (λ b. joined_of (arcs_in v) taken y q || (b && joined_of (arcs_in v) taken x q)) (sym apart_before) ∙ join)) in
      record { point = n.point; left = first (is_in taken q) n.left; other = n.other; inner = path.0; path = path.1; through = path.2 } where
        direct : (a b : Bool) → (a || (false && b)) ≡ true → a ≡ true
        direct true b e = refl
        direct false b e = absurd (false≢true e)

        first : (a : Bool) → (a || (q == x)) ≡ false → a ≡ false
        first true e = e
        first false e = refl

  pub degree_stays : (d : ℕ) → IsDegree v taken y d → IsDegree v (x ∷ taken) y d
  degree_stays d is = record {
    neighbours = is.neighbours;
    once = is.once;
    each = λ q. (λ here. still q ((is.each q).0 here), λ n. (is.each q).1 (before q n));
    many = is.many;
  }
