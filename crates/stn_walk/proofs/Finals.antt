-- Least sums through the later points are the least weights of all walks.
use Rattle.std.proofs.Common.{◌≡◌, ◌≢◌, ℕ, List, [], ◌∷◌, ◌++◌, Bool, true, false, Option, Some, None, ap, sym, refl, arith, length, inl, inr, subst}
use Rattle.std.specs.Prelude.{ℤ, pos, ◌+ℤ◌, ◌≤ℤ◌, ◌==◌, if◌then◌else◌}
use Rattle.std.proofs.lemmas.Bool.Decides.{nat_tests}
use Rattle.std.proofs.lemmas.Int.{ints}
use Rattle.stn_model.specs.declared.ids.Constraint.{Constraint}
use Rattle.stn_model.specs.ArcWalks.{arcs_weight, GoesOn, IsInner, IsInnerLeast, NoNegative}
use Rattle.stn_walk.specs.Eliminations.{sum_of}
use Rattle.stn_walk.proofs.ArcWalks.{arcs_weight-append}
use Rattle.stn_walk.proofs.Visits.{inner_joined}
use Rattle.stn_walk.proofs.Exits.{every, Rest, all_from, all_to}

-- the arcs_weight between two points, which is 0 from a point to itself
abbrev pub reach : (ℕ → Option ℤ) → ℕ → ℕ → Option ℤ
reach finals j m = if m == j then Some (pos 0) else finals m

-- a number is there, and is at most w
abbrev pub IsLower : ℤ → Option ℤ → Type 0
IsLower w None = ⊥
IsLower w (Some b) = b ≤ℤ w

-- where a number is there, it is at least b
abbrev pub IsUpper : ℤ → Option ℤ → Type 0
IsUpper b None = Unit {0}
IsUpper b (Some a) = b ≤ℤ a

-- the least of the sums that are there
abbrev pub IsLeastOf : (ℕ → Bool) → (ℕ → Option ℤ) → Option ℤ → Type 0
IsLeastOf among sum None = (m : ℕ) → among m ≡ true → sum m ≡ None
IsLeastOf among sum (Some b) = ((m : ℕ) × (among m ≡ true) × (sum m ≡ Some b)) × ((m : ℕ) → among m ≡ true → IsUpper b (sum m))

inner_lower : (inner : ℕ → Bool) (arcs : List Constraint) (i j : ℕ) (o : Option ℤ) (w : List Constraint)
    → IsInnerLeast inner arcs i j o → IsInner inner arcs i j w → IsLower (arcs_weight w) o
inner_lower inner arcs i j None w least h = least w h
inner_lower inner arcs i j (Some b) w least h = least.1 w h

rest_from : (arcs : List Constraint) (m j : ℕ) (finals : ℕ → Option ℤ) → NoNegative every arcs → (m ≢ j → IsInnerLeast every arcs m j (finals m))
    → (rest : List Constraint) → Rest arcs m j rest → IsLower (arcs_weight rest) (reach finals j m)
rest_from arcs m j finals none_below least rest h =
    elim (m == j) as (λ b. (m == j) ≡ b → IsLower (arcs_weight rest) (if b then Some (pos 0) else finals m)) [
      | true ↦ λ t. let e : m ≡ j = grind (arith, nat_tests) in
          elim h [ inl d ↦ (let n = ap arcs_weight d.0 in omega (arith, ints)) | inr g ↦ none_below j rest (rw e at g) ]
      | false ↦ λ t. let apart : m ≢ j = grind (arith, nat_tests) in
          elim h [ inl d ↦ absurd (apart d.1) | inr g ↦ inner_lower every arcs m j (finals m) rest (least apart) g ]
    ] refl

-- a walk to m weighs at least what lies between the points
pub rest_to : (arcs : List Constraint) (m j : ℕ) (finals : ℕ → Option ℤ) → NoNegative every arcs → (m ≢ j → IsInnerLeast every arcs j m (finals m))
    → (front : List Constraint) → Rest arcs j m front → IsLower (arcs_weight front) (reach finals j m)
rest_to arcs m j finals none_below least front h =
    elim (m == j) as (λ b. (m == j) ≡ b → IsLower (arcs_weight front) (if b then Some (pos 0) else finals m)) [
      | true ↦ λ t. let e : m ≡ j = grind (arith, nat_tests) in
          elim h [ inl d ↦ (let n = ap arcs_weight d.0 in omega (arith, ints)) | inr g ↦ none_below j front (rw e at g) ]
      | false ↦ λ t. let apart : m ≢ j = grind (arith, nat_tests) in
          elim h [ inl d ↦ absurd (apart (sym d.1)) | inr g ↦ inner_lower every arcs j m (finals m) front (least apart) g ]
    ] refl

sum_lower : (v w : ℤ) (x y : Option ℤ) → IsLower v x → IsLower w y → IsLower (v +ℤ w) (sum_of x y)
sum_lower v w None y h g = absurd h
sum_lower v w (Some a) None h g = absurd g
sum_lower v w (Some a) (Some b) h g = omega (arith, ints)

between : (b w : ℤ) (o : Option ℤ) → IsUpper b o → IsLower w o → b ≤ℤ w
between b w None h g = absurd g
between b w (Some a) h g = omega (arith, ints)

among_all : (among : Bool) (w : ℤ) (o : Option ℤ) → (among ≡ false → o ≡ None) → IsLower w o → among ≡ true
among_all true w o away h = refl
among_all false w o away h = absurd (subst (IsLower w) (away refl) h)

goes_every : (inner : ℕ → Bool) (arcs : List Constraint) (m j : ℕ) (w : List Constraint) → GoesOn inner arcs m j w → GoesOn every arcs m j w
goes_every inner arcs m j [] h = h
goes_every inner arcs m j (a ∷ w) h = (refl, h.1, h.2, goes_every inner arcs a.to.0 j w h.3)

-- a walk whose inner points are in a set is one through any points
pub inner_every : (inner : ℕ → Bool) (arcs : List Constraint) (i j : ℕ) (w : List Constraint) → IsInner inner arcs i j w → IsInner every arcs i j w
inner_every inner arcs i j [] h = absurd h
inner_every inner arcs i j (a ∷ w) h = (h.0, h.1, goes_every inner arcs a.to.0 j w h.2)

abbrev Reached : List Constraint → ℕ → ℕ → ℤ → Type 0
Reached arcs i j b = (w : List Constraint) × IsInner every arcs i j w × (arcs_weight w ≡ b)

-- the number that is there, or 0
abbrev pub value : Option ℤ → ℤ
value None = pos 0
value (Some b) = b

joined_from : (inner : ℕ → Bool) (arcs : List Constraint) (k m j : ℕ) (front rest : List Constraint)
    → IsInner inner arcs k m front → Rest arcs m j rest → Reached arcs k j (arcs_weight front +ℤ arcs_weight rest)
joined_from inner arcs k m j front rest to (inl d) = (front, subst (λ p. IsInner every arcs k p front) d.1 (inner_every inner arcs k m front to), (let n = ap arcs_weight d.0 in omega (arith, ints)))
joined_from inner arcs k m j front rest to (inr g) = (front ++ rest, inner_joined every arcs k m j front rest refl (inner_every inner arcs k m front to) g, arcs_weight-append front rest)

joined_to : (inner : ℕ → Bool) (arcs : List Constraint) (j m k : ℕ) (front rest : List Constraint)
    → Rest arcs j m front → IsInner inner arcs m k rest → Reached arcs j k (arcs_weight front +ℤ arcs_weight rest)
joined_to inner arcs j m k front rest (inl d) from = (
  rest,
  subst (λ p. IsInner every arcs p k rest) (sym d.1) (inner_every inner arcs m k rest from),
  (let n = ap arcs_weight d.0 in omega (arith, ints)),
)
joined_to inner arcs j m k front rest (inr g) from = (front ++ rest, inner_joined every arcs j m k front rest refl g (inner_every inner arcs m k rest from), arcs_weight-append front rest)

-- the walk of a arcs_weight that is reached, which may be empty
abbrev pub RestOf : List Constraint → ℕ → ℕ → Option ℤ → Type 0
RestOf arcs i j None = Unit {0}
RestOf arcs i j (Some c) = (w : List Constraint) × Rest arcs i j w × (arcs_weight w ≡ c)

rest_of : (arcs : List Constraint) (i j : ℕ) (o : Option ℤ) → IsInnerLeast every arcs i j o → RestOf arcs i j o
rest_of arcs i j None least = tt
rest_of arcs i j (Some c) least = (least.0.0, inr least.0.1, least.0.2)

rest_of_from : (arcs : List Constraint) (m j : ℕ) (finals : ℕ → Option ℤ) → (m ≢ j → IsInnerLeast every arcs m j (finals m)) → RestOf arcs m j (reach finals j m)
rest_of_from arcs m j finals least =
    elim (m == j) as (λ b. (m == j) ≡ b → RestOf arcs m j (if b then Some (pos 0) else finals m)) [
      | true ↦ λ t. let e : m ≡ j = grind (arith, nat_tests) in ([], inl (refl, e), refl)
      | false ↦ λ t. let apart : m ≢ j = grind (arith, nat_tests) in rest_of arcs m j (finals m) (least apart)
    ] refl

-- and some walk to m has that weight
pub rest_of_to : (arcs : List Constraint) (m j : ℕ) (finals : ℕ → Option ℤ) → (m ≢ j → IsInnerLeast every arcs j m (finals m)) → RestOf arcs j m (reach finals j m)
rest_of_to arcs m j finals least =
    elim (m == j) as (λ b. (m == j) ≡ b → RestOf arcs j m (if b then Some (pos 0) else finals m)) [
      | true ↦ λ t. let e : j ≡ m = grind (arith, nat_tests) in ([], inl (refl, e), refl)
      | false ↦ λ t. let apart : m ≢ j = grind (arith, nat_tests) in rest_of arcs j m (finals m) (least apart)
    ] refl

reached_from : (inner : ℕ → Bool) (arcs : List Constraint) (k m j : ℕ) (x y : Option ℤ) (b : ℤ)
    → IsInnerLeast inner arcs k m x → RestOf arcs m j y → sum_of x y ≡ Some b → Reached arcs k j b
reached_from inner arcs k m j None y b least rest h = absurd (cc)
reached_from inner arcs k m j (Some a) None b least rest h = absurd (cc)
reached_from inner arcs k m j (Some a) (Some c) b least rest h =
    let e : (a +ℤ c) ≡ b = ap value h in
    let r = joined_from inner arcs k m j least.0.0 rest.0 least.0.1 rest.1 in
    let f = least.0.2 in
    let g = rest.2 in
    let s = r.2 in
    (r.0, r.1, omega (arith, ints))

reached_to : (inner : ℕ → Bool) (arcs : List Constraint) (j m k : ℕ) (x y : Option ℤ) (b : ℤ)
    → RestOf arcs j m x → IsInnerLeast inner arcs m k y → sum_of x y ≡ Some b → Reached arcs j k b
reached_to inner arcs j m k None y b rest least h = absurd (cc)
reached_to inner arcs j m k (Some a) None b rest least h = absurd (cc)
reached_to inner arcs j m k (Some a) (Some c) b rest least h =
    let e : (a +ℤ c) ≡ b = ap value h in
    let r = joined_to inner arcs j m k rest.0 least.0.0 rest.1 least.0.1 in
    let f = least.0.2 in
    let g = rest.2 in
    let s = r.2 in
    (r.0, r.1, omega (arith, ints))

-- from k to a later point j
pub finals_from : (inner : ℕ → Bool) (arcs : List Constraint) (k j : ℕ) (among : ℕ → Bool) (forward finals : ℕ → Option ℤ) (o : Option ℤ)
    → NoNegative every arcs → inner j ≡ false → k ≢ j
    → ((m : ℕ) → inner m ≡ false → m ≢ k → IsInnerLeast inner arcs k m (forward m))
    → ((m : ℕ) → inner m ≡ false → m ≢ k → among m ≡ false → forward m ≡ None)
    → ((m : ℕ) → among m ≡ true → (inner m ≡ false) × (m ≢ k))
    → ((m : ℕ) → among m ≡ true → m ≢ j → IsInnerLeast every arcs m j (finals m))
    → IsLeastOf among (λ m. sum_of (forward m) (reach finals j m)) o → IsInnerLeast every arcs k j o
finals_from inner arcs k j among forward finals o none_below out apart is_forward joined later is_final = least o where
  closed : (w : List Constraint) → IsInner inner arcs k k w → pos 0 ≤ℤ arcs_weight w
  closed w h = none_below k w (inner_every inner arcs k k w h)

  here : (m : ℕ) (front : List Constraint) → inner m ≡ false → m ≢ k → IsInner inner arcs k m front → among m ≡ true
  here m front away other to = among_all (among m) (arcs_weight front) (forward m) (joined m away other) (inner_lower inner arcs k m (forward m) front (is_forward m away other) to)

  lower : (m : ℕ) (front rest : List Constraint) → inner m ≡ false → m ≢ k → IsInner inner arcs k m front
      → Rest arcs m j rest → IsLower (arcs_weight front +ℤ arcs_weight rest) (sum_of (forward m) (reach finals j m))
  lower m front rest away other to from =
      sum_lower (arcs_weight front) (arcs_weight rest) (forward m) (reach finals j m) (inner_lower inner arcs k m (forward m) front (is_forward m away other) to)
      (rest_from arcs m j finals none_below (is_final m (here m front away other to)) rest from)

  least : (o : Option ℤ) → IsLeastOf among (λ m. sum_of (forward m) (reach finals j m)) o → IsInnerLeast every arcs k j o
  least None sums = λ w h.
      let le = all_from inner arcs k j (arcs_weight w +ℤ pos 1) out apart closed
      (λ m front rest away other to from. absurd (subst (IsLower (arcs_weight front +ℤ arcs_weight rest)) (sums m (here m front away other to)) (lower m front rest away other to from)))
      (length w) w (omega arith) h in
      absurd (omega (arith, ints))
  least (Some b) sums = (
    reached_from inner arcs k sums.0.0 j (forward sums.0.0) (reach finals j sums.0.0) b
        (is_forward sums.0.0 (later sums.0.0 sums.0.1).0 (later sums.0.0 sums.0.1).1)
        (rest_of_from arcs sums.0.0 j finals (is_final sums.0.0 sums.0.1)) sums.0.2,
    λ w h. all_from inner arcs k j b out apart closed
        (λ m front rest away other to from. between b (arcs_weight front +ℤ arcs_weight rest) (sum_of (forward m) (reach finals j m))
        (sums.1 m (here m front away other to)) (lower m front rest away other to from))
        (length w) w (omega arith) h,
  )

-- from a later point j to k
pub finals_to : (inner : ℕ → Bool) (arcs : List Constraint) (k j : ℕ) (among : ℕ → Bool) (forward finals : ℕ → Option ℤ) (o : Option ℤ)
    → NoNegative every arcs → inner j ≡ false → j ≢ k
    → ((m : ℕ) → inner m ≡ false → m ≢ k → IsInnerLeast inner arcs m k (forward m))
    → ((m : ℕ) → inner m ≡ false → m ≢ k → among m ≡ false → forward m ≡ None)
    → ((m : ℕ) → among m ≡ true → (inner m ≡ false) × (m ≢ k))
    → ((m : ℕ) → among m ≡ true → m ≢ j → IsInnerLeast every arcs j m (finals m))
    → IsLeastOf among (λ m. sum_of (reach finals j m) (forward m)) o → IsInnerLeast every arcs j k o
finals_to inner arcs k j among forward finals o none_below out apart is_forward joined later is_final = least o where
  closed : (w : List Constraint) → IsInner inner arcs k k w → pos 0 ≤ℤ arcs_weight w
  closed w h = none_below k w (inner_every inner arcs k k w h)

  here : (m : ℕ) (rest : List Constraint) → inner m ≡ false → m ≢ k → IsInner inner arcs m k rest → among m ≡ true
  here m rest away other from = among_all (among m) (arcs_weight rest) (forward m) (joined m away other) (inner_lower inner arcs m k (forward m) rest (is_forward m away other) from)

  lower : (m : ℕ) (front rest : List Constraint) → inner m ≡ false → m ≢ k → Rest arcs j m front
      → IsInner inner arcs m k rest → IsLower (arcs_weight front +ℤ arcs_weight rest) (sum_of (reach finals j m) (forward m))
  lower m front rest away other to from =
      sum_lower (arcs_weight front) (arcs_weight rest) (reach finals j m) (forward m) (rest_to arcs m j finals none_below (is_final m (here m rest away other from)) front to)
      (inner_lower inner arcs m k (forward m) rest (is_forward m away other) from)

  least : (o : Option ℤ) → IsLeastOf among (λ m. sum_of (reach finals j m) (forward m)) o → IsInnerLeast every arcs j k o
  least None sums = λ w h.
      let le = all_to inner arcs j k (arcs_weight w +ℤ pos 1) out apart closed
      (λ m front rest away other to from. absurd (subst (IsLower (arcs_weight front +ℤ arcs_weight rest)) (sums m (here m rest away other from)) (lower m front rest away other to from)))
      (length w) w (omega arith) h in
      absurd (omega (arith, ints))
  least (Some b) sums = (
    reached_to inner arcs j sums.0.0 k (reach finals j sums.0.0) (forward sums.0.0) b (rest_of_to arcs sums.0.0 j finals (is_final sums.0.0 sums.0.1))
        (is_forward sums.0.0 (later sums.0.0 sums.0.1).0 (later sums.0.0 sums.0.1).1) sums.0.2,
    λ w h. all_to inner arcs j k b out apart closed
        (λ m front rest away other to from. between b (arcs_weight front +ℤ arcs_weight rest) (sum_of (reach finals j m) (forward m))
        (sums.1 m (here m rest away other from)) (lower m front rest away other to from))
        (length w) w (omega arith) h,
  )
