-- What a raise does to labels, last arcs and stamps.
use Rattle.std.proofs.Common.{◌≡◌, ◌≢◌, ℕ, ◌+◌, ◌<◌, ◌≤◌, ℤ, pos, ◌+ℤ◌, ◌-ℤ◌, ◌≤ℤ◌, ◌<ℤ◌, List, length, get_or, set, refl, sym, ap, subst, ◌∙◌, ⊎_elim, inl, inr, arith, length-set, get_or-set_same, get_or-set_other, unsigned_abs}
use Rattle.std.proofs.lemmas.Int.{ints}
use Rattle.std.proofs.lemmas.List.Sums.{sum_by-set}
use Rattle.std.proofs.lemmas.Bool.{cases_eq}
use Rattle.stn_model.specs.Arcs.{from_at, to_at, bound_at, no_arc}
use Rattle.stn_model.specs.Schedules.{KeepsArcs, time_at}
use Rattle.plain_solve.specs.declared.graph.Graph.{Graph}
use Rattle.plain_solve.specs.Graphs.{IsGraph}
use Rattle.plain_solve.specs.LabelFacts.{IsLast, IsInside, IsForcing, room}

module _ (g : Graph) (times : List ℤ) (last : List ℕ) (raises : ℕ) (h : IsForcing g times last raises) (valid : IsGraph g)
    (n p q : ℕ) (b t : ℤ) (lt : n < length g.arcs.items) (from_is : from_at g.arcs.items n ≡ p) (to_is : to_at g.arcs.items n ≡ q) (bound_is : bound_at g.arcs.items n ≡ b)
    (is : t ≡ time_at times q -ℤ b) (more : time_at times p <ℤ t) (high : t ≤ℤ g.top) (other : p ≢ g.root) where
  p_in : p < g.points
  p_in = let w = valid.arcs n no_arc lt in let s = w.starts in omega (arith, from_is)

  q_in : q < g.points
  q_in = let w = valid.arcs n no_arc lt in let s = w.ends in omega (arith, to_is)

  apart : q ≢ p
  apart = let w = valid.arcs n no_arc lt in let s = w.different in λ e. s (from_is ∙ sym e ∙ sym to_is)

  pub here : time_at (set times p t) p ≡ t
  here = let within : p < length times = omega (arith, p_in, h.one_each) in get_or-set_same times p t (pos 0) within

  pub elsewhere : (x : ℕ) → x ≢ p → time_at (set times p t) x ≡ time_at times x
  elsewhere x e = get_or-set_other times p x t (pos 0) e

  pub rises : (x : ℕ) → time_at times x ≤ℤ time_at (set times p t) x
  rises x = ⊎_elim
      (λ (e : x ≡ p). let a = ap (time_at times) e in let c = ap (time_at (set times p t)) e in let k = here in omega (arith, ints))
      (λ (e : x ≢ p). let k = elsewhere x e in omega (arith, ints))
      (cases_eq x p)

  stamp_here : get_or (set h.stamps p h.next) p 0 ≡ h.next
  stamp_here = let within : p < length h.stamps = omega (arith, p_in, h.stamp_each) in get_or-set_same h.stamps p h.next 0 within

  stamp_elsewhere : (x : ℕ) → x ≢ p → get_or (set h.stamps p h.next) x 0 ≡ get_or h.stamps x 0
  stamp_elsewhere x e = get_or-set_other h.stamps p x h.next 0 e

  -- the raised point
  last_here : IsLast g.arcs.items (set times p t) (set h.stamps p h.next) p n
  last_here = record {
    within = lt;
    starts = from_is;
    forces =
        let k = here in
        let at_end = ap (time_at (set times p t)) to_is in
        let kept = elsewhere q apart in
        let stamp_end = ap (λ (x : ℕ). get_or (set h.stamps p h.next) x 0) to_is in
        let stamp_kept = stamp_elsewhere q apart in
        let stamp_at = stamp_here in
        let low = h.stamped q q_in in
        inl (omega (arith, ints), omega arith);
  }

  -- any other point
  last_elsewhere : (x m : ℕ) → x ≢ p → IsLast g.arcs.items times h.stamps x m → IsLast g.arcs.items (set times p t) (set h.stamps p h.next) x m
  last_elsewhere x m e l = record {
    within = l.within;
    starts = l.starts;
    forces =
        let kept = elsewhere x e in
        let up = rises (to_at g.arcs.items m) in
        let stamp_kept = stamp_elsewhere x e in
        ⊎_elim
        (λ (tight : (time_at times x ≡ time_at times (to_at g.arcs.items m) -ℤ bound_at g.arcs.items m) × (get_or h.stamps (to_at g.arcs.items m) 0 < get_or h.stamps x 0)).
        let equal = tight.0 in
        let less = tight.1 in
        ⊎_elim
        (λ (same : to_at g.arcs.items m ≡ p).
        let old = ap (time_at times) same in
        let new = ap (time_at (set times p t)) same in
        let k = here in
        inr (omega (arith, ints)))
        (λ (different : to_at g.arcs.items m ≢ p).
        let end_kept = elsewhere (to_at g.arcs.items m) different in
        let stamp_end = stamp_elsewhere (to_at g.arcs.items m) different in
        inl (omega (arith, ints), omega arith))
        (cases_eq (to_at g.arcs.items m) p))
        (λ (slack : time_at times x <ℤ (time_at times (to_at g.arcs.items m) -ℤ bound_at g.arcs.items m)). inr (omega (arith, ints)))
        l.forces;
  }

  pub raised : IsForcing g (set times p t) (set last p n) (raises + 1)
  raised = record {
    one_each = length-set times p t ∙ h.one_each;
    last_each = length-set last p n ∙ h.last_each;
    first = elsewhere g.root (λ e. other (sym e)) ∙ h.first;
    inside = λ x x_in. ⊎_elim
        (λ (e : x ≡ p).
        let c = ap (time_at (set times p t)) e in
        let k = here in
        let i = h.inside p p_in in
        let low = i.low in
        record { low = omega (arith, ints); high = omega (arith, ints) })
        (λ (e : x ≢ p). subst (IsInside g) (sym (elsewhere x e)) (h.inside x x_in))
        (cases_eq x p);
    stamps = set h.stamps p h.next;
    stamp_each = length-set h.stamps p h.next ∙ h.stamp_each;
    next = h.next + 1;
    stamped = λ x x_in. ⊎_elim
        (λ (e : x ≡ p). let c = ap (λ (y : ℕ). get_or (set h.stamps p h.next) y 0) e in let k = stamp_here in omega arith)
        (λ (e : x ≢ p). let k = stamp_elsewhere x e in let s = h.stamped x x_in in omega arith)
        (cases_eq x p);
    each = λ x away x_in. ⊎_elim
        (λ (e : x ≡ p).
        let within : p < length last = omega (arith, p_in, h.last_each) in
        subst (λ (y : ℕ). IsLast g.arcs.items (set times p t) (set h.stamps p h.next) y (get_or (set last p n) y 0)) (sym e)
        (subst (IsLast g.arcs.items (set times p t) (set h.stamps p h.next) p) (sym (get_or-set_same last p n 0 within)) last_here))
        (λ (e : x ≢ p).
        subst (IsLast g.arcs.items (set times p t) (set h.stamps p h.next) x) (sym (get_or-set_other last p x n 0 e))
        (last_elsewhere x (get_or last x 0) e (h.each x away x_in)))
        (cases_eq x p);
    below = λ later keeps x x_in. ⊎_elim
        (λ (e : x ≡ p).
        let c = ap (time_at (set times p t)) e in
        let k = here in
        let o = ap (time_at later) e in
        let here_keeps = keeps n lt in
        let f = ap (time_at later) from_is in
        let g = ap (time_at later) to_is in
        let end = h.below later keeps q q_in in
        omega (arith, ints))
        (λ (e : x ≢ p). let k = elsewhere x e in let o = h.below later keeps x x_in in omega (arith, ints))
        (cases_eq x p);
    counted =
        let within : p < length times = omega (arith, p_in, h.one_each) in
        let s = sum_by-set (λ x. unsigned_abs (g.top -ℤ x)) times p t (pos 0) within in
        let c = h.counted in
        omega (arith, ints);
  }
