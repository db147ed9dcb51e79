-- Two passes give distances.
use Rattle.std.proofs.Common.{◌≡◌, ◌≢◌, ℕ, Bool, true, false, List, [], ◌∷◌, ◌++◌, Option, Some, None, ap, sym, ◌∙◌, refl, arith, inl, inr, subst}
use Rattle.std.specs.Prelude.{ℤ, pos, ◌+ℤ◌, ◌-ℤ◌, ◌≤ℤ◌, ◌==◌, Contains, reverse}
use Rattle.std.proofs.lemmas.Bool.Decides.{nat_tests}
use Rattle.std.proofs.lemmas.Int.{ints}
use Rattle.stn_model.specs.declared.ids.Constraint.{Constraint}
use Rattle.stn_model.specs.Walks.{AllDifferent}
use Rattle.stn_model.specs.ArcWalks.{IsArcWalk, arcs_weight}
use Rattle.stn_model.proofs.Bridges.{IsArcWalk-from_inner}
use Rattle.stn_walk.proofs.ArcWalks.{arcs_weight-append, GoesOn-append}
use Rattle.stn_walk.proofs.Exits.{every}
use Rattle.stn_walk.proofs.Finals.{IsLower}
use Rattle.stn_walk.proofs.Potentials.{lower_cases, lower_more}
use Rattle.tri_solve.specs.Passes.{pass, least_over, by_way_of, at_source, risen, distance}
use Rattle.tri_solve.specs.Chordal.{Follows, IsChordal, AreLeast, IsLeastFrom, IsPath, bounds_sum}
use Rattle.tri_solve.proofs.Lists.{contains_cases, contains_rest}
use Rattle.tri_solve.proofs.Orders.{follows-reverse, different-reverse, contains-reverse}
use Rattle.tri_solve.proofs.LeastWeights.{triangle, round, arc, closed}
use Rattle.tri_solve.proofs.Numbers.{over_some, way_out, is_there}
use Rattle.tri_solve.proofs.PassNumbers.{pass_at, pass_behind, pass_start, pass_way}
use Rattle.tri_solve.proofs.Paths.{paths, whole}

module _ (arcs : List Constraint) (joined : ℕ → ℕ → Bool) (bound : ℕ → ℕ → ℤ) (least : AreLeast arcs joined bound) where
  -- two later neighbours of a point are joined
  abbrev Meets : List ℕ → Type 0
  Meets xs = (p q r : ℕ) → Follows xs p q → Follows xs p r → joined p q ≡ true → joined p r ≡ true → q ≢ r → joined q r ≡ true

  module _ (start : ℕ → Option ℤ) where
    -- the numbers at the start keep the bounds from a point to its later neighbours
    abbrev KeepsUp : List ℕ → Type 0
    KeepsUp xs = (p q : ℕ) (x : ℤ) → Follows xs p q → joined p q ≡ true → IsLower x (start p) → IsLower (x +ℤ bound p q) (start q)

    -- and those of the pass the bounds both ways
    abbrev Keeps : List ℕ → Type 0
    Keeps xs = (p q : ℕ) (x : ℤ) → Contains xs p → Contains xs q → joined p q ≡ true
        → IsLower x (pass joined bound start xs p) → IsLower (x +ℤ bound p q) (pass joined bound start xs q)

    -- from the first point y to a later neighbour q
    from_first : (y : ℕ) (ys : List ℕ) → AllDifferent (y ∷ ys) → Meets (y ∷ ys) → KeepsUp (y ∷ ys) → Keeps ys
        → (q : ℕ) (x : ℤ) → Contains ys q → joined y q ≡ true → IsLower x (pass joined bound start (y ∷ ys) y) → IsLower (x +ℤ bound y q) (pass joined bound start (y ∷ ys) q)
    from_first y ys d meet up keeps q x c j h =
        elim (lower_cases x (start y) (least_over (by_way_of joined bound (pass joined bound start ys) y) ys) (subst (IsLower x) (pass_at joined bound start y ys) h)) [
          | inl s ↦ pass_start joined bound start (y ∷ ys) q (x +ℤ bound y q) (contains_rest y q ys c) (up y q x (inl (refl, c)) j s)
          | inr l ↦
              (let some = over_some (by_way_of joined bound (pass joined bound start ys) y) ys x l in
              let way = way_out joined bound (pass joined bound start ys) y some.0 x some.2 in
              subst (IsLower (x +ℤ bound y q)) (sym (pass_behind joined bound start y q ys d c)) (by some.0 some.1 way.0 way.1))
        ] where
          by : (m : ℕ) → Contains ys m → joined m y ≡ true → IsLower (x -ℤ bound m y) (pass joined bound start ys m) → IsLower (x +ℤ bound y q) (pass joined bound start ys q)
          by m cm jm h =
              elim (m == q) as (λ b. (m == q) ≡ b → IsLower (x +ℤ bound y q) (pass joined bound start ys q)) [
                | true ↦ λ t.
                    let e : m ≡ q = grind (arith, nat_tests) in
                    let r = round arcs joined bound least y q j in
                    let same : bound m y ≡ bound q y = ap (λ k. bound k y) e in
                    lower_more (x -ℤ bound m y) (x +ℤ bound y q) (pass joined bound start ys q) (omega (arith, ints))
                    (subst (λ (k : ℕ). IsLower (x -ℤ bound m y) (pass joined bound start ys k)) e h)
                | false ↦ λ t.
                    let ne : m ≢ q = grind (arith, nat_tests) in
                    let mq : joined m q ≡ true = meet y m q (inl (refl, cm)) (inl (refl, c)) (least.turned m y jm) j ne in
                    let next = keeps m q (x -ℤ bound m y) cm c mq h in
                    let low = triangle arcs joined bound least m y q mq jm j in
                    lower_more ((x -ℤ bound m y) +ℤ bound m q) (x +ℤ bound y q) (pass joined bound start ys q) (omega (arith, ints)) next
              ] refl

    -- The idea. In a chordal order a pass from the last point to the first relaxes each pair of joined points once, from the later to the earlier
    -- one, and yet no bound is broken the other way. Let y be the point that is set and q a later neighbour. Either y kept its number of
    -- the start, and the pass up has brought q down to that number and the bound from y to q before. Or y was set by way of a later neighbour m:
    -- where m is q, the two bounds between y and q do not sum below 0; where it is not, m and q are joined, were set before y and keep their bound,
    -- and since that is a least weight it is at most the bound from m to y and that from y to q.
    pub keeps_down : (xs : List ℕ) → AllDifferent xs → Meets xs → KeepsUp xs → Keeps xs
    keeps_down [] d meet up p q x cp cq j h = absurd (omega (arith, cp.1))
    keeps_down (y ∷ ys) d meet up p q x cp cq j h =
        let rest : Keeps ys = keeps_down ys d.1 (λ p q r f g. meet p q r (inr f) (inr g)) (λ p q x f. up p q x (inr f)) in
        elim (contains_cases y p ys cp) [
          | inl yp ↦ elim (contains_cases y q ys cq) [
            | inl yq ↦
                (let e : p ≡ q = sym yp ∙ yq in
                let r = round arcs joined bound least p q j in
                let one : bound p q ≡ bound q q = ap (λ k. bound k q) e in
                let two : bound q p ≡ bound q q = ap (bound q) e in
                lower_more x (x +ℤ bound p q) (pass joined bound start (y ∷ ys) q) (omega (arith, ints)) (subst (λ (k : ℕ). IsLower x (pass joined bound start (y ∷ ys) k)) e h))
            | inr cq ↦
                (let jy = subst (λ (k : ℕ). joined k q ≡ true) (sym yp) j in
                let hy = subst (λ (k : ℕ). IsLower x (pass joined bound start (y ∷ ys) k)) (sym yp) h in
                subst (λ (k : ℕ). IsLower (x +ℤ bound k q) (pass joined bound start (y ∷ ys) q)) yp (from_first y ys d meet up rest q x cq jy hy))
          ]
          | inr cp ↦ elim (contains_cases y q ys cq) [
            | inl yq ↦ pass_way joined bound start (y ∷ ys) d q p x (inl (yq, cp)) j h
            | inr cq ↦ subst (IsLower (x +ℤ bound p q)) (sym (pass_behind joined bound start y q ys d cq))
                (rest p q x cp cq j (subst (IsLower x) (pass_behind joined bound start y p ys d cp) h))
          ]
        ]

  -- a path of joined points has a walk of the same weight
  pub path_walk : (i j : ℕ) (ps : List ℕ) → IsPath (λ p q. joined p q ≡ true) i ps j → (w : List Constraint) × IsArcWalk arcs i j w × (arcs_weight w ≡ bounds_sum bound i ps)
  path_walk i j [] g = ([], g, refl)
  path_walk i j (p ∷ ps) g =
      let first = (least.least i p g.0).0 in
      let rest = path_walk p j ps g.1 in
      let sum = arcs_weight-append first.0 rest.0 in
      let a = first.2 in
      let b = rest.2 in
      (first.0 ++ rest.0, GoesOn-append every arcs i p j first.0 rest.0 (IsArcWalk-from_inner arcs every i p first.0 first.1) rest.1, omega (arith, ints))

  module _ (order : List ℕ) (chordal : IsChordal joined order) (i : ℕ) (here : Contains order i) where
    abbrev dist : ℕ → Option ℤ
    dist = distance joined bound order i

    -- the pass up relaxes each pair of joined points from the earlier to the later one
    risen_keeps : KeepsUp (risen joined bound order i) order
    risen_keeps p q x f j h = pass_way joined bound (at_source i) (reverse order) (different-reverse order chordal.once) q p x (follows-reverse order p q f) j h

    pub dist_keeps : (p q : ℕ) (x : ℤ) → joined p q ≡ true → IsLower x (dist p) → IsLower (x +ℤ bound p q) (dist q)
    dist_keeps p q x j h =
        keeps_down (risen joined bound order i) order chordal.once chordal.meet risen_keeps p q x (chordal.listed p q j) (chordal.listed q p (least.turned p q j)) j h

    pub arc_keeps : (a : Constraint) (x : ℤ) → Contains arcs a → IsLower x (dist a.from.0) → IsLower (x +ℤ a.bound) (dist a.to.0)
    arc_keeps a x c h =
        let low = arc arcs joined bound least a c in
        lower_more (x +ℤ bound a.from.0 a.to.0) (x +ℤ a.bound) (dist a.to.0) (omega (arith, ints)) (dist_keeps a.from.0 a.to.0 x (least.ends a c) h)

    walk_keeps : (m p : ℕ) (w : List Constraint) (x : ℤ) → IsArcWalk arcs m p w → IsLower x (dist m) → IsLower (x +ℤ arcs_weight w) (dist p)
    walk_keeps m p [] x g h = lower_more x (x +ℤ pos 0) (dist p) (omega (arith, ints)) (subst (λ (k : ℕ). IsLower x (dist k)) g h)
    walk_keeps m p (a ∷ w) x g h =
        let next = arc_keeps a x g.1 (subst (λ (k : ℕ). IsLower x (dist k)) (sym g.2) h) in
        lower_more ((x +ℤ a.bound) +ℤ arcs_weight w) (x +ℤ (a.bound +ℤ arcs_weight w)) (dist p) (omega (arith, ints)) (walk_keeps a.to.0 p w (x +ℤ a.bound) g.3 next)

    pub source_lower : IsLower (pos 0) (dist i)
    source_lower =
        let t : (i == i) ≡ true = grind (arith, nat_tests) in
        let low : IsLower (pos 0) (at_source i i) = rw t (omega (arith, ints)) in
        pass_start joined bound (risen joined bound order i) order i (pos 0) here (pass_start joined bound (at_source i) (reverse order) i (pos 0) (contains-reverse order i here) low)

    -- a distance is the weight of a walk
    pub dist_walk : (p : ℕ) (d : ℤ) → dist p ≡ Some d → (w : List Constraint) × IsArcWalk arcs i p w × (arcs_weight w ≡ d)
    dist_walk p d e =
        let one = whole joined bound order i p d (paths joined bound order i p d e) in
        let w = path_walk i p ((paths joined bound order i p d e).up ++ (paths joined bound order i p d e).down) one.0 in
        (w.0, w.1, w.2 ∙ one.1)

    least_of : (p : ℕ) (o : Option ℤ) → dist p ≡ o → IsLeastFrom arcs i p o
    least_of p None e = λ w g. subst (IsLower (pos 0 +ℤ arcs_weight w)) e (walk_keeps i p w (pos 0) g source_lower)
    least_of p (Some d) e = (
      dist_walk p d e,
      λ w g.
          let low = subst (IsLower (pos 0 +ℤ arcs_weight w)) e (walk_keeps i p w (pos 0) g source_lower) in
          omega (arith, ints),
    )

    pub distances_least : (p : ℕ) → IsLeastFrom arcs i p (dist p)
    distances_least p = least_of p (dist p) refl

    zero_of : (o : Option ℤ) → dist i ≡ o → o ≡ Some (pos 0)
    zero_of None e = absurd (subst (IsLower (pos 0)) e source_lower)
    zero_of (Some d) e =
        let high = subst (IsLower (pos 0)) e source_lower in
        let w = dist_walk i d e in
        let low = closed arcs joined bound least i w.0 w.1 in
        let is = w.2 in
        let z : d ≡ pos 0 = omega (arith, ints) in
        ap (λ (x : ℤ). Some x) z

    pub source_zero : dist i ≡ Some (pos 0)
    source_zero = zero_of (dist i) refl

    -- no path of joined points is lighter
    path_keeps : (m p : ℕ) (ps : List ℕ) (x : ℤ) → IsPath (λ p q. joined p q ≡ true) m ps p → IsLower x (dist m) → IsLower (x +ℤ bounds_sum bound m ps) (dist p)
    path_keeps m p [] x g h = lower_more x (x +ℤ pos 0) (dist p) (omega (arith, ints)) (subst (λ (k : ℕ). IsLower x (dist k)) g h)
    path_keeps m p (q ∷ qs) x g h =
        let next = path_keeps q p qs (x +ℤ bound m q) g.1 (dist_keeps m q x g.0 h) in
        lower_more ((x +ℤ bound m q) +ℤ bounds_sum bound q qs) (x +ℤ (bound m q +ℤ bounds_sum bound q qs)) (dist p) (omega (arith, ints)) next

    pub no_path_lighter : (p : ℕ) (ps : List ℕ) → IsPath (λ p q. joined p q ≡ true) i ps p → (d : ℤ) × (dist p ≡ Some d) × (d ≤ℤ bounds_sum bound i ps)
    no_path_lighter p ps g =
        let low = lower_more (pos 0 +ℤ bounds_sum bound i ps) (bounds_sum bound i ps) (dist p) (omega (arith, ints)) (path_keeps i p ps (pos 0) g source_lower) in
        is_there (bounds_sum bound i ps) (dist p) low

    -- where the pass down leaves a point as the pass up had it, it leaves the point that this came from too
    pub risen_stays : (p q : ℕ) (d e : ℤ) → dist p ≡ Some d → risen joined bound order i q ≡ Some e → joined q p ≡ true
        → d ≡ e +ℤ bound q p → Contains order q → dist q ≡ Some e
    risen_stays p q d e is was j sum c =
        let first : IsLower e (risen joined bound order i q) = subst (IsLower e) (sym was) (let le : e ≤ℤ e = omega (arith, ints) in le) in
        let low = pass_start joined bound (risen joined bound order i) order q e c first in
        let there = is_there e (dist q) low in
        let at : IsLower there.0 (dist q) = subst (IsLower there.0) (sym there.1) (let le : there.0 ≤ℤ there.0 = omega (arith, ints) in le) in
        let high = subst (IsLower (there.0 +ℤ bound q p)) is (dist_keeps q p there.0 j at) in
        let le = there.2 in
        let same : there.0 ≡ e = omega (arith, ints) in
        there.1 ∙ ap (λ (x : ℤ). Some x) same
