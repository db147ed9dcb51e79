-- Cells unfolded into leaves: what is true at the beginning, that the next segment has a cell, that a step keeps what is true, and that it
-- makes the segments ahead smaller: starts, there_ahead, step, falls.
use Rattle.std.proofs.Common.{◌≡◌, ℕ, ◌+◌, ◌*◌, ◌^◌, ◌<◌, ◌≤◌, zero, suc, List, [], ◌∷◌, ◌++◌, true, Option, Some, None, length, ap}
use Rattle.std.proofs.Common.{sym, ◌∙◌, refl, subst, arith, inl, inr}
use Rattle.std.specs.Prelude.{ℤ, pos, ◌+ℤ◌, is_some, IfSome}
use Rattle.std.specs.List.{AllByRecursion}
use Rattle.std.proofs.lemmas.Int.{ints}
use Rattle.std.proofs.lemmas.Nat.{pow_pos}
use Rattle.std.proofs.Math.Pow.{pow_mono}
use Rattle.std.proofs.Math.Nat.{pow-suc}
use Rattle.dist_rows.specs.declared.cell.Cell.{Cell}
use Rattle.dist_rows.specs.declared.cell.Via.{Via}
use Rattle.dist_rows.specs.declared.cell.Via.TheVariants.{Given, Published, Through}
use Rattle.elim_step.specs.Eliminated.{point_at, weight_at}
use Rattle.elim_step.specs.declared.leaves.Leaf.{Leaf}
use Rattle.elim_step.specs.declared.leaves.Segment.{Segment}
use Rattle.elim_step.specs.Origins.{rank_in, rank_of, is_leaf, IsSumOf, IsFrom}
use Rattle.elim_step.specs.Unfolds.{HasSums, IsLeafOf, LeadFrom, leaves_weight, Unfolds, IsAhead, LeadsOn, weight_in, segments_weight, size_in, segments_size}
use Rattle.elim_step.specs.Unfolds.{IsUnfolding}

-- a fact of each of a list and of one element more
each-push : {X : Type 0} (P : X → Type 0) (xs : List X) (x : X) → AllByRecursion P xs → P x → AllByRecursion P (xs ++ x ∷ [])
each-push P [] x h g = (g, tt)
each-push P (y ∷ xs) x h g = (h.0, each-push P xs x h.1 g)

-- the same the other way round
each-pushed : {X : Type 0} (P : X → Type 0) (xs : List X) (x : X) → AllByRecursion P (xs ++ x ∷ []) → AllByRecursion P xs × P x
each-pushed P [] x h = (tt, h.0)
each-pushed P (y ∷ xs) x h = let rest = each-pushed P xs x h.1 in ((h.0, rest.0), rest.1)

-- two sums that came to be before a point was eliminated are smaller together than one of its cells
power-sum : (a b r : ℕ) → a < r → b < r → 2 ^ (2 * a) + 2 ^ (2 * b) < 2 ^ (2 * r)
power-sum a b zero h g = absurd (omega arith)
power-sum a b (suc r) h g =
    let x : 2 ^ (2 * a) ≤ 2 ^ (2 * r) = pow_mono (omega arith) in
    let y : 2 ^ (2 * b) ≤ 2 ^ (2 * r) = pow_mono (omega arith) in
    let positive = pow_pos (2 * r) in
    let same : 2 * suc r ≡ suc (suc (2 * r)) = omega arith in
    let four : 2 ^ (2 * suc r) ≡ (2 ^ (2 * r) * 2) * 2 = ap (λ n. 2 ^ n) same ∙ pow-suc 2 (suc (2 * r)) ∙ ap (λ n. n * 2) (pow-suc 2 (2 * r)) in
    omega arith

-- the leaves take over what the new one weighs
leaf-weighs : (a b p q w s : ℤ) → a ≡ b +ℤ w → q ≡ p +ℤ s → s ≡ w → a +ℤ p ≡ b +ℤ q
leaf-weighs a b p q w s e f g = omega (arith, ints)

-- a sum weighs what its two segments do
through-weighs : (a p q r s t u v w : ℤ) → q ≡ p +ℤ s → r ≡ p +ℤ t → u ≡ r +ℤ v → s ≡ w → v +ℤ t ≡ w → a +ℤ u ≡ a +ℤ q
through-weighs a p q r s t u v w e f g h k = omega (arith, ints)

-- a cell that is there
some-there : (x : Option Cell) (c : Cell) → x ≡ Some c → is_some x ≡ true
some-there x c e = ap is_some e

some-of : (x : Option Cell) → is_some x ≡ true → (c : Cell) × (x ≡ Some c)
some-of None h = absurd (cc)
some-of (Some c) h = (c, refl)

-- the next segment leads from where the leaves end
leads-pushed : (ahead : List Segment) (segment : Segment) (m j : ℕ) → LeadsOn (ahead ++ segment ∷ []) m j
    → (m ≡ segment.from) × LeadsOn ahead segment.to j
leads-pushed [] segment m j h = (h.1, h.0)
leads-pushed (x ∷ ahead) segment m j h = let rest = leads-pushed ahead segment m x.from h.1 in (rest.0, (h.0, rest.1))

-- a segment that leads to where the others begin
leads-push : (ahead : List Segment) (segment : Segment) (m j : ℕ) → m ≡ segment.from → LeadsOn ahead segment.to j → LeadsOn (ahead ++ segment ∷ []) m j
leads-push [] segment m j e h = (h, e)
leads-push (x ∷ ahead) segment m j e h = (h.0, leads-push ahead segment m x.from e h.1)

-- one leaf more
lead-push : (leaves : List Leaf) (l : Leaf) (i m : ℕ) → LeadFrom leaves i m → m ≡ l.from → LeadFrom (leaves ++ l ∷ []) i l.to
lead-push [] l i m h e = (sym (h ∙ e), refl)
lead-push (x ∷ leaves) l i m h e = (h.0, lead-push leaves l x.to m h.1 e)

leaves_weight-push : (leaves : List Leaf) (l : Leaf) → leaves_weight (leaves ++ l ∷ []) ≡ leaves_weight leaves +ℤ l.weight
leaves_weight-push [] l = omega (arith, ints)
leaves_weight-push (x ∷ leaves) l = omega (arith, ints, leaves_weight-push leaves l)

module _ (points es : List ℕ) (at : ℕ → ℕ → Option Cell) where
  segments_weight-push : (ahead : List Segment) (segment : Segment)
      → segments_weight at (ahead ++ segment ∷ []) ≡ segments_weight at ahead +ℤ weight_in (at segment.from segment.to)
  segments_weight-push [] segment = omega (arith, ints)
  segments_weight-push (x ∷ ahead) segment = omega (arith, ints, segments_weight-push ahead segment)

  segments_size-push : (ahead : List Segment) (segment : Segment)
      → segments_size points es at (ahead ++ segment ∷ []) ≡ segments_size points es at ahead + size_in points es (at segment.from segment.to)
  segments_size-push [] segment = omega arith
  segments_size-push (x ∷ ahead) segment = omega (arith, segments_size-push ahead segment)

  -- the next segment has a cell
  pub there_ahead : (j : ℕ) (ahead : List Segment) (segment : Segment) → AllByRecursion (IsAhead points es at j) (ahead ++ segment ∷ [])
      → (segment.from < length points) × (segment.to < length points) × (is_some (at segment.from segment.to) ≡ true)
  there_ahead j ahead segment each = let next = (each-pushed (IsAhead points es at j) ahead segment each).1 in (next.starts, next.ends, next.there)

  -- at the beginning the whole is ahead
  pub starts : (i j : ℕ) → i < length points → j < length points → is_some (at i j) ≡ true
      → IsUnfolding points es at i j [] (record { from = i; to = j } ∷ [])
  starts i j low high there = record {
    middle = i;
    walked = refl;
    leads = (refl, refl);
    leaf = tt;
    each = (record { starts = low; ends = high; there = there; through = inr refl }, tt);
    weighs = weighs-first (at i j) there;
  } where
    weighs-first : (x : Option Cell) → is_some x ≡ true → Some (pos 0 +ℤ (weight_in x +ℤ pos 0)) ≡ weight_at x
    weighs-first None there = absurd (cc)
    weighs-first (Some c) there = (let zero_more : pos 0 +ℤ (c.weight +ℤ pos 0) ≡ c.weight = omega (arith, ints) in ap Some zero_more)

  module _ (i j : ℕ) (leaves : List Leaf) (ahead : List Segment) (segment : Segment) (c : Cell) (is : at segment.from segment.to ≡ Some c) where
    -- the cell of a segment is a leaf more
    leaf-more : (v : Via) → is_leaf v ≡ true → c.via ≡ v → IsUnfolding points es at i j leaves (ahead ++ segment ∷ [])
        → IsUnfolding points es at i j (leaves ++ record { from = segment.from; to = segment.to; weight = c.weight; via = v } ∷ []) ahead
    leaf-more v leaf via h =
        let l : Leaf = record { from = segment.from; to = segment.to; weight = c.weight; via = v } in
        let next = leads-pushed ahead segment h.middle j h.leads in
        let each = each-pushed (IsAhead points es at j) ahead segment h.each in
        let here : IsLeafOf points es at j l =
        record { cell = is ∙ ap (λ (v : Via). Some (record { weight = c.weight; via = v })) via; leaf = leaf; through = each.1.through } in
        record {
          middle = segment.to;
          walked = lead-push leaves l i h.middle h.walked next.0;
          leads = next.1;
          leaf = each-push (IsLeafOf points es at j) leaves l h.leaf here;
          each = each.0;
          weighs =
              ap Some (leaf-weighs (leaves_weight (leaves ++ l ∷ [])) (leaves_weight leaves) (segments_weight at ahead)
              (segments_weight at (ahead ++ segment ∷ [])) c.weight (weight_in (at segment.from segment.to)) (leaves_weight-push leaves l)
              (segments_weight-push ahead segment) (ap weight_in is)) ∙ h.weighs;
        }

    -- a sum is its two cells in turn
    sum-more : (k : ℕ) → IsSumOf points es at segment.from segment.to c k → IsUnfolding points es at i j leaves (ahead ++ segment ∷ [])
        → IsUnfolding points es at i j leaves (ahead ++ record { from = k; to = segment.to } ∷ [] ++ record { from = segment.from; to = k } ∷ [])
    sum-more k o h =
        let back : Segment = record { from = k; to = segment.to } in
        let front : Segment = record { from = segment.from; to = k } in
        let next = leads-pushed ahead segment h.middle j h.leads in
        let each = each-pushed (IsAhead points es at j) ahead segment h.each in
        let here = each.1 in
        let back_ahead : IsAhead points es at j back =
        record { starts = o.within; ends = here.ends; there = some-there (at k segment.to) o.back o.is_back; through = here.through } in
        let front_ahead : IsAhead points es at j front =
        record { starts = here.starts; ends = o.within; there = some-there (at segment.from k) o.front o.is_front; through = inl o.eliminated } in
        record {
          middle = h.middle;
          walked = h.walked;
          leads = leads-push (ahead ++ back ∷ []) front h.middle j next.0 (leads-push ahead back k j refl next.1);
          leaf = h.leaf;
          each = each-push (IsAhead points es at j) (ahead ++ back ∷ []) front (each-push (IsAhead points es at j) ahead back each.0 back_ahead) front_ahead;
          weighs =
              ap Some (through-weighs (leaves_weight leaves) (segments_weight at ahead) (segments_weight at (ahead ++ segment ∷ []))
              (segments_weight at (ahead ++ back ∷ []))
              (weight_in (at segment.from segment.to)) (weight_in (at k segment.to)) (segments_weight at (ahead ++ back ∷ [] ++ front ∷ []))
              (weight_in (at segment.from k)) c.weight
              (segments_weight-push ahead segment) (segments_weight-push ahead back) (segments_weight-push (ahead ++ back ∷ []) front)
              (ap weight_in is) (ap (λ x. weight_in x +ℤ weight_in (at k segment.to)) o.is_front ∙ ap (λ x. o.front.weight +ℤ weight_in x) o.is_back
              ∙ o.weighs)) ∙ h.weighs;
        }

    -- one step, by the origin of the cell
    step-by : (leaves' : List Leaf) (ahead' : List Segment) (v : Via) → c.via ≡ v
        → IsFrom (λ p q c v. Unit {0}) points es at segment.from segment.to c v
        → Unfolds segment c.weight v leaves leaves' ahead ahead' → IsUnfolding points es at i j leaves (ahead ++ segment ∷ [])
        → IsUnfolding points es at i j leaves' ahead'
    step-by leaves' ahead' (Given n) via o u h = rw (u.0, u.1) (leaf-more (Given n) refl via h)
    step-by leaves' ahead' (Published a) via o u h = rw (u.0, u.1) (leaf-more (Published a) refl via h)
    step-by leaves' ahead' (Through k) via o u h = rw (u.0, u.1) (sum-more k o h)

    -- a leaf makes the segments ahead smaller
    leaf-falls : segments_size points es at ahead < segments_size points es at (ahead ++ segment ∷ [])
    leaf-falls =
        let size : size_in points es (at segment.from segment.to) ≡ 2 ^ (2 * rank_of points es c.via) = ap (size_in points es) is in
        let positive = pow_pos (2 * rank_of points es c.via) in
        let before = segments_size-push ahead segment in
        omega arith

    -- and so does a sum
    falls-by : (leaves' : List Leaf) (ahead' : List Segment) (v : Via) → c.via ≡ v
        → IsFrom (λ p q c v. Unit {0}) points es at segment.from segment.to c v
        → Unfolds segment c.weight v leaves leaves' ahead ahead'
        → segments_size points es at ahead' < segments_size points es at (ahead ++ segment ∷ [])
    falls-by leaves' ahead' (Given n) e o u = rw u.1 leaf-falls
    falls-by leaves' ahead' (Published a) e o u = rw u.1 leaf-falls
    falls-by leaves' ahead' (Through k) e o u =
        let back : Segment = record { from = k; to = segment.to } in
        let front : Segment = record { from = segment.from; to = k } in
        let size : size_in points es (at segment.from segment.to) ≡ 2 ^ (2 * rank_in es (point_at points k)) =
        ap (size_in points es) is ∙ ap (λ w. 2 ^ (2 * rank_of points es w)) e in
        let back_size : size_in points es (at k segment.to) ≡ 2 ^ (2 * rank_of points es o.back.via) = ap (size_in points es) o.is_back in
        let front_size : size_in points es (at segment.from k) ≡ 2 ^ (2 * rank_of points es o.front.via) = ap (size_in points es) o.is_front in
        let less = power-sum (rank_of points es o.front.via) (rank_of points es o.back.via) (rank_in es (point_at points k)) o.front_before o.back_before in
        let before = segments_size-push ahead segment in
        let one_more = segments_size-push ahead back in
        let two_more = segments_size-push (ahead ++ back ∷ []) front in
        rw u.1 (omega arith)

  module _ (sums : HasSums points es at) (j : ℕ) (leaves leaves' : List Leaf) (ahead ahead' : List Segment) (segment : Segment)
      (u : IfSome (at segment.from segment.to) (λ c. Unfolds segment c.weight c.via leaves leaves' ahead ahead')) where
    origin-of : (p q : ℕ) (c : Cell) → at p q ≡ Some c → IsFrom (λ p q c v. Unit {0}) points es at p q c c.via
    origin-of p q c is = subst (λ (o : Option Cell). IfSome o (λ c. IsFrom (λ p q c v. Unit {0}) points es at p q c c.via)) is (sums p q)

    -- one step keeps what is true of the leaves and the segments ahead
    pub step : (i : ℕ) → IsUnfolding points es at i j leaves (ahead ++ segment ∷ []) → IsUnfolding points es at i j leaves' ahead'
    step i h =
        let here = (each-pushed (IsAhead points es at j) ahead segment h.each).1 in
        let c = some-of (at segment.from segment.to) here.there in
        step-by i j leaves ahead segment c.0 c.1 leaves' ahead' c.0.via refl (origin-of segment.from segment.to c.0 c.1)
        (subst (λ (o : Option Cell). IfSome o (λ c. Unfolds segment c.weight c.via leaves leaves' ahead ahead')) c.1 u) h

    -- one step makes the segments ahead smaller
    pub falls : AllByRecursion (IsAhead points es at j) (ahead ++ segment ∷ [])
        → segments_size points es at ahead' < segments_size points es at (ahead ++ segment ∷ [])
    falls each =
        let here = (each-pushed (IsAhead points es at j) ahead segment each).1 in
        let c = some-of (at segment.from segment.to) here.there in
        falls-by j j leaves ahead segment c.0 c.1 leaves' ahead' c.0.via refl (origin-of segment.from segment.to c.0 c.1)
        (subst (λ (o : Option Cell). IfSome o (λ c. Unfolds segment c.weight c.via leaves leaves' ahead ahead')) c.1 u)

-- where nothing is ahead, the leaves are the whole walk
pub whole : (points es : List ℕ) (at : ℕ → ℕ → Option Cell) (i j : ℕ) (leaves : List Leaf) → IsUnfolding points es at i j leaves []
    → LeadFrom leaves i j × (Some (leaves_weight leaves) ≡ weight_at (at i j))
whole points es at i j leaves h = (
  subst (LeadFrom leaves i) h.leads h.walked,
  (let zero_more : leaves_weight leaves +ℤ pos 0 ≡ leaves_weight leaves = omega (arith, ints) in ap Some (sym zero_more)) ∙ h.weighs,
)
