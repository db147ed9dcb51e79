-- Potentials: numbers of points that rise along each arc by at most its bound; where each point has one, they give a schedule.
use Rattle.std.proofs.Common.{◌≡◌, ℕ, zero, suc, ◌<◌, List, map, length, Option, Some, None, true, false, inl, inr, ◌⊎◌, refl, arith}
use Rattle.std.specs.Prelude.{ℤ, pos, ◌+ℤ◌, ◌-ℤ◌, ◌≤ℤ◌, ◌<ℤ◌, int_lt, if◌then◌else◌}
use Rattle.std.specs.List.{range_with_len}
use Rattle.std.proofs.lemmas.Int.{ints}
use Rattle.std.proofs.lemmas.List.FromFn.{length-map-range_with_len, get_or-map-range_with_len}
use Rattle.stn_model.specs.declared.ids.Constraint.{Constraint}
use Rattle.stn_model.specs.Arcs.{arc_at, from_at, to_at, bound_at}
use Rattle.stn_model.specs.Schedules.{KeepsArcs, Satisfies, time_at}
use Rattle.stn_model.proofs.Bridges.{arc_contained}
use Rattle.stn_walk.specs.Eliminations.{lesser}
use Rattle.stn_walk.specs.Distances.{HasEndsBelow}
use Rattle.stn_walk.proofs.Finals.{IsLower, value}

-- the end of an arc has a number where its start has one, at most its bound above that
abbrev pub IsPotential : List Constraint → (ℕ → Option ℤ) → Type 0
IsPotential arcs f = (n : ℕ) → n < length arcs → (x : ℤ) → IsLower x (f (from_at arcs n)) → IsLower (x +ℤ bound_at arcs n) (f (to_at arcs n))

-- what is at most a number is at most each greater one
pub lower_more : (x y : ℤ) (o : Option ℤ) → x ≤ℤ y → IsLower x o → IsLower y o
lower_more x y None le h = absurd h
lower_more x y (Some a) le h = omega (arith, ints)

-- what is at most some number is there, and is at most itself
pub lower_value : (x : ℤ) (o : Option ℤ) → IsLower x o → IsLower (value o) o
lower_value x None h = absurd h
lower_value x (Some a) h = omega (arith, ints)

-- and is at most that number
pub value_lower : (x : ℤ) (o : Option ℤ) → IsLower x o → value o ≤ℤ x
value_lower x None h = absurd h
value_lower x (Some a) h = h

-- it is the least number that it is at most
pub value_is : (x : ℤ) (o : Option ℤ) → IsLower x o → ((y : ℤ) → IsLower y o → x ≤ℤ y) → value o ≡ x
value_is x None h least = absurd h
value_is x (Some a) h least = let l = least a (omega (arith, ints)) in omega (arith, ints)

-- the lesser of two numbers is at most what one of them is at most
pub lower_left : (x : ℤ) (a b : Option ℤ) → IsLower x a → IsLower x (lesser a b)
lower_left x None b h = absurd h
lower_left x (Some a) None h = h
lower_left x (Some a) (Some b) h =
    elim (int_lt b a) as (λ t. int_lt b a ≡ t → IsLower x (if t then Some b else Some a)) [
      | true ↦ λ t. let lt : b <ℤ a = grind (arith, ints) in omega (arith, ints)
      | false ↦ λ t. h
    ] refl

-- or of the other
pub lower_right : (x : ℤ) (a b : Option ℤ) → IsLower x b → IsLower x (lesser a b)
lower_right x None b h = h
lower_right x (Some a) None h = absurd h
lower_right x (Some a) (Some b) h =
    elim (int_lt b a) as (λ t. int_lt b a ≡ t → IsLower x (if t then Some b else Some a)) [
      | true ↦ λ t. h
      | false ↦ λ t. let le : a ≤ℤ b = grind (arith, ints) in omega (arith, ints)
    ] refl

-- and what it is at most one of them is at most
pub lower_cases : (x : ℤ) (a b : Option ℤ) → IsLower x (lesser a b) → IsLower x a ⊎ IsLower x b
lower_cases x None b h = inr h
lower_cases x (Some a) None h = inl h
lower_cases x (Some a) (Some b) h =
    (elim (int_lt b a) as (λ t. IsLower x (if t then Some b else Some a) → IsLower x (Some a) ⊎ IsLower x (Some b)) [ true ↦ λ l. inr l | false ↦ λ l. inl l ]) h

-- of two potentials the lesser number at each point
pub potential_lesser : (arcs : List Constraint) (f g : ℕ → Option ℤ) → IsPotential arcs f → IsPotential arcs g → IsPotential arcs (λ p. lesser (f p) (g p))
potential_lesser arcs f g rises_f rises_g = λ n lt x low. elim (lower_cases x (f (from_at arcs n)) (g (from_at arcs n)) low) [
  | inl l ↦ lower_left (x +ℤ bound_at arcs n) (f (to_at arcs n)) (g (to_at arcs n)) (rises_f n lt x l)
  | inr l ↦ lower_right (x +ℤ bound_at arcs n) (f (to_at arcs n)) (g (to_at arcs n)) (rises_g n lt x l)
]

-- the times of a schedule, all moved by the same
pub potential_times : (arcs : List Constraint) (times : List ℤ) (c : ℤ) → KeepsArcs arcs times → IsPotential arcs (λ p. Some (c +ℤ time_at times p))
potential_times arcs times c keeps = λ n lt x low. let h = keeps n lt in omega (arith, ints)

-- the numbers of the first points as times, with z at 0
abbrev pub times_of : ℕ → (ℕ → Option ℤ) → List ℤ
times_of points f = map (λ p. value (f p) -ℤ value (f 0)) (range_with_len 0 points)

-- the time of a point
pub time_of : (points : ℕ) (f : ℕ → Option ℤ) (p : ℕ) → p < points → time_at (times_of points f) p ≡ value (f p) -ℤ value (f 0)
time_of points f p lt = get_or-map-range_with_len (λ p. value (f p) -ℤ value (f 0)) 0 points p p (pos 0) lt (omega arith)

-- z, or no point at all, has time 0
first_time : (points : ℕ) (f : ℕ → Option ℤ) → time_at (times_of points f) 0 ≡ pos 0
first_time zero f = refl
first_time (suc n) f = let e = time_of (suc n) f 0 (omega arith) in omega (arith, ints)

-- where each point has a number they satisfy the arcs
pub potential_satisfies : (points : ℕ) (arcs : List Constraint) (f : ℕ → Option ℤ) → HasEndsBelow points arcs → IsPotential arcs f
    → ((p : ℕ) → p < points → (x : ℤ) × IsLower x (f p)) → Satisfies points arcs (times_of points f)
potential_satisfies points arcs f below rises there = record {
  one_each = length-map-range_with_len (λ p. value (f p) -ℤ value (f 0)) 0 points;
  first = first_time points f;
  keeps = λ n lt.
      let ends = below (arc_at arcs n) (arc_contained arcs n lt) in
      let some = there (from_at arcs n) ends.0 in
      let low = lower_value some.0 (f (from_at arcs n)) some.1 in
      let high = value_lower (value (f (from_at arcs n)) +ℤ bound_at arcs n) (f (to_at arcs n)) (rises n lt (value (f (from_at arcs n))) low) in
      let u = time_of points f (from_at arcs n) ends.0 in
      let v = time_of points f (to_at arcs n) ends.1 in
      omega (arith, ints);
}
