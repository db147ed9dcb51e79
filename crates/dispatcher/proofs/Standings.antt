-- What follows from what a dispatcher keeps: windows are read from its two tables, and what a choice does to the table of latest times.
use Rattle.std.proofs.Common.{◌≡◌, ℕ, zero, suc, ◌<◌, ℤ, pos, neg_ℤ, ◌-ℤ◌, ◌≤ℤ◌, List, [], ◌∷◌, map, length, set, refl, sym, subst, arith, Option}
use Rattle.std.specs.List.{Contains}
use Rattle.std.proofs.lemmas.List.{get_or-map, length-map}
use Rattle.std.proofs.lemmas.Int.{ints}
use Rattle.stn_model.specs.declared.ids.Constraint.{Constraint}
use Rattle.stn_model.specs.Arcs.{arc_at, from_at, to_at, no_arc}
use Rattle.stn_model.specs.Schedules.{time_at}
use Rattle.dispatcher.specs.Falling.{Holds, IsSafe}
use Rattle.dispatcher.specs.Choices.{Keeps, HasWindow}
use Rattle.dispatcher.specs.Standing.{exchanged, IsStanding}
use Rattle.dispatcher.proofs.Lowerings.{lowered_safe}

-- an arc turned round, by number
pub exchanged_at : (arcs : List Constraint) (n : ℕ) → n < length arcs → arc_at (map exchanged arcs) n ≡ exchanged (arc_at arcs n)
exchanged_at arcs n lt = get_or-map exchanged arcs n no_arc no_arc lt

-- numbers at which each arc holds, with the sign changed, are such numbers of the arcs turned round, and back
pub turned_holds : (arcs : List Constraint) (f : ℕ → ℤ) → Holds arcs f → Holds (map exchanged arcs) (λ q. neg_ℤ (f q))
turned_holds arcs f h n lt =
    let short : n < length arcs = let e = length-map arcs exchanged in omega arith in
    subst (λ (a : Constraint). (neg_ℤ (f a.to.0) -ℤ neg_ℤ (f a.from.0)) ≤ℤ a.bound) (sym (exchanged_at arcs n short))
    (let k = h n short in omega (arith, ints))

pub turned_back : (arcs : List Constraint) (f : ℕ → ℤ) → Holds (map exchanged arcs) f → Holds arcs (λ q. neg_ℤ (f q))
turned_back arcs f h n lt =
    let long : n < length (map exchanged arcs) = let e = length-map arcs exchanged in omega arith in
    let k = subst (λ (a : Constraint). (f a.to.0 -ℤ f a.from.0) ≤ℤ a.bound) (exchanged_at arcs n lt) (h n long) in
    omega (arith, ints)

-- times with the sign changed
pub negated_at : (times : List ℤ) (p : ℕ) → time_at (map neg_ℤ times) p ≡ neg_ℤ (time_at times p)
negated_at [] p = refl
negated_at (t ∷ times) zero = refl
negated_at (t ∷ times) (suc p) = negated_at times p

module _ (arcs : List Constraint) (points : List ℕ) (choices : List (Option ℤ)) (latest early : List ℤ) (h : IsStanding arcs points choices latest early) where
  -- the earliest times fit the arcs
  pub early_fits : Holds arcs (λ q. neg_ℤ (time_at early q))
  early_fits = turned_back arcs (time_at early) h.turned_keep

  -- they are a schedule that keeps the choices
  pub earliest_keeps : Keeps arcs choices (map neg_ℤ early)
  earliest_keeps = record {
    schedule = (
      (let a = negated_at early 0 in let b = h.early_z in omega (arith, ints)),
      λ n lt.
          let a = negated_at early (to_at arcs n) in
          let b = negated_at early (from_at arcs n) in
          let k = early_fits n lt in
          omega (arith, ints),
    );
    chosen = λ p t e. let a = negated_at early p in let b = h.early_chosen p t e in omega (arith, ints);
  }

  -- the window of a point is read from the two tables
  pub window_of : (p : ℕ) → Contains points p → HasWindow arcs choices p (neg_ℤ (time_at early p)) (time_at latest p)
  window_of p there = record {
    least = λ times k. h.least times k p there;
    greatest = λ times k. h.greatest times k p there;
    earliest = (map neg_ℤ early, earliest_keeps, negated_at early p);
    latest = (latest, h.keeps, refl);
  }

  -- it is not empty, and begins at 0 or later
  pub window_ordered : (p : ℕ) → Contains points p → neg_ℤ (time_at early p) ≤ℤ time_at latest p
  window_ordered p there = h.least latest h.keeps p there

  pub window_low : (p : ℕ) → Contains points p → pos 0 ≤ℤ neg_ℤ (time_at early p)
  window_low p there = let l = h.early_low p there in omega (arith, ints)

  -- lowering the latest time of a point to one in its window is safe
  pub late_safe : (p : ℕ) (t : ℤ) → Contains points p → neg_ℤ (time_at early p) ≤ℤ t → t ≤ℤ time_at latest p → IsSafe arcs (set latest p t)
  late_safe p t there above below =
      lowered_safe arcs latest points h.among h.keeps.schedule.1 (λ q. neg_ℤ (time_at early q)) early_fits window_ordered
      (λ q in_it. let l = h.early_low q in_it in omega (arith, ints)) h.late_high p there (h.known p there) t above below
