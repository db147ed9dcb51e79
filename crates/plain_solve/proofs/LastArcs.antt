-- Walks along last arcs.
use Rattle.std.proofs.Common.{◌≡◌, ◌≢◌, ℕ, ◌+◌, ◌-◌, ◌<◌, ◌≤◌, ℤ, pos, ◌+ℤ◌, ◌-ℤ◌, ◌≤ℤ◌, ◌<ℤ◌, List, [], ◌∷◌, ◌++◌, length, get_or, set, drop, refl, sym, ap, subst, ◌∙◌, ⊎_elim, ◌⊎◌, inl, inr, arith, length-set, get_or-set_same, get_or-set_other}
use Rattle.std.proofs.lemmas.Int.{ints}
use Rattle.std.proofs.lemmas.List.{drop-append-le, length_push}
use Rattle.std.proofs.lemmas.List.Sums.{sum_by-set}
use Rattle.std.proofs.lemmas.Bool.{cases_eq}
use Rattle.std.specs.List.{sum_by}
use Rattle.std.proofs.Math.Seq.{drop-append_seam}
use Rattle.stn_model.specs.Arcs.{from_at, to_at, bound_at}
use Rattle.stn_model.specs.Schedules.{time_at}
use Rattle.stn_model.specs.Walks.{IsWalk, weight, IsNegativeClosed}
use Rattle.plain_solve.specs.declared.graph.Graph.{Graph}
use Rattle.plain_solve.specs.LabelFacts.{IsLast, IsForcing}
use Rattle.plain_solve.specs.TrailFacts.{IsTrail, IsFollowed}

module _ (g : Graph) (times : List ℤ) (last : List ℕ) (raises : ℕ) (h : IsForcing g times last raises) where
  last_arc : (i n : ℕ) → i ≢ g.root → i < g.points → n ≡ get_or last i 0 → IsLast g.arcs.items times h.stamps i n
  last_arc i n away within is = subst (IsLast g.arcs.items times h.stamps i) (sym is) (h.each i away within)

  pub trail_walk : (i j : ℕ) (ns : List ℕ) → IsTrail g last i j ns → IsWalk g.arcs.items i j ns
  trail_walk i j [] t = t
  trail_walk i j (n ∷ ns) t = let l = last_arc i n t.0 t.1 t.2 in (l.within, l.starts, trail_walk (to_at g.arcs.items n) j ns t.3)

  -- along last arcs the weight is at most the difference of the times; where it is equal the stamps fall
  pub trail_weighs : (i j : ℕ) (ns : List ℕ) → IsTrail g last i j ns
      → (weight g.arcs.items ns <ℤ (time_at times j -ℤ time_at times i))
      ⊎ ((weight g.arcs.items ns ≡ time_at times j -ℤ time_at times i) × (get_or h.stamps j 0 + length ns ≤ get_or h.stamps i 0))
  trail_weighs i j [] t =
      let e : time_at times i ≡ time_at times j = ap (time_at times) t in
      let s : get_or h.stamps i 0 ≡ get_or h.stamps j 0 = ap (λ (x : ℕ). get_or h.stamps x 0) t in
      inr (omega (arith, ints), omega arith)
  trail_weighs i j (n ∷ ns) t =
      let l = last_arc i n t.0 t.1 t.2 in
      ⊎_elim
      (λ (strict : weight g.arcs.items ns <ℤ (time_at times j -ℤ time_at times (to_at g.arcs.items n))).
      ⊎_elim
      (λ (tight : (time_at times i ≡ time_at times (to_at g.arcs.items n) -ℤ bound_at g.arcs.items n) × (get_or h.stamps (to_at g.arcs.items n) 0 < get_or h.stamps i 0)).
      let equal = tight.0 in inl (omega (arith, ints)))
      (λ (slack : time_at times i <ℤ (time_at times (to_at g.arcs.items n) -ℤ bound_at g.arcs.items n)). inl (omega (arith, ints)))
      l.forces)
      (λ (rest : (weight g.arcs.items ns ≡ time_at times j -ℤ time_at times (to_at g.arcs.items n)) × (get_or h.stamps j 0 + length ns ≤ get_or h.stamps (to_at g.arcs.items n) 0)).
      let same = rest.0 in
      let fall = rest.1 in
      ⊎_elim
      (λ (tight : (time_at times i ≡ time_at times (to_at g.arcs.items n) -ℤ bound_at g.arcs.items n) × (get_or h.stamps (to_at g.arcs.items n) 0 < get_or h.stamps i 0)).
      let equal = tight.0 in let less = tight.1 in inr (omega (arith, ints), omega arith))
      (λ (slack : time_at times i <ℤ (time_at times (to_at g.arcs.items n) -ℤ bound_at g.arcs.items n)). inl (omega (arith, ints)))
      l.forces)
      (trail_weighs (to_at g.arcs.items n) j ns t.3)

  pub trail_light : (i j : ℕ) (ns : List ℕ) → IsTrail g last i j ns → weight g.arcs.items ns ≤ℤ (time_at times j -ℤ time_at times i)
  trail_light i j ns t = ⊎_elim
      (λ (strict : weight g.arcs.items ns <ℤ (time_at times j -ℤ time_at times i)). omega (arith, ints))
      (λ (rest : (weight g.arcs.items ns ≡ time_at times j -ℤ time_at times i) × (get_or h.stamps j 0 + length ns ≤ get_or h.stamps i 0)). let same = rest.0 in omega (arith, ints))
      (trail_weighs i j ns t)

  -- a closed walk along last arcs is negative, since stamps cannot fall all the way round
  pub trail_closes : (i : ℕ) (ns : List ℕ) → IsTrail g last i i ns → 0 < length ns → IsNegativeClosed g.arcs.items ns
  trail_closes i ns t some = record {
    start = i;
    walk = trail_walk i i ns t;
    negative = ⊎_elim
        (λ (strict : weight g.arcs.items ns <ℤ (time_at times i -ℤ time_at times i)). omega (arith, ints))
        (λ (rest : (weight g.arcs.items ns ≡ time_at times i -ℤ time_at times i) × (get_or h.stamps i 0 + length ns ≤ get_or h.stamps i 0)). let fall = rest.1 in absurd (omega arith))
        (trail_weighs i i ns t);
  }

pub trail_push : (g : Graph) (last : List ℕ) (i j n : ℕ) (ns : List ℕ) → IsTrail g last i j ns → j ≢ g.root → j < g.points → n ≡ get_or last j 0
    → IsTrail g last i (to_at g.arcs.items n) (ns ++ n ∷ [])
trail_push g last i j n [] t away within is = subst (λ (x : ℕ). IsTrail g last x (to_at g.arcs.items n) (n ∷ [])) (sym t) (away, within, is, refl)
trail_push g last i j n (m ∷ ms) t away within is = (t.0, t.1, t.2, trail_push g last (to_at g.arcs.items m) j n ms t.3 away within is)

module _ (g : Graph) (last : List ℕ) (from now n : ℕ) (places walk : List ℕ) (f : IsFollowed g last from now places walk)
    (fresh : get_or places now 0 ≡ 0) (away : now ≢ g.root) (is : n ≡ get_or last now 0) (end_in : to_at g.arcs.items n < g.points) where
  now_in : now < length places
  now_in = omega (arith, f.within, f.marks)

  fewer : sum_by (λ c. 1 - c) (set places now (length walk + 1)) + 1 ≡ sum_by (λ c. 1 - c) places
  fewer = let s = sum_by-set (λ (c : ℕ). 1 - c) places now (length walk + 1) 0 now_in in omega arith

  pub follow_less : sum_by (λ c. 1 - c) (set places now (length walk + 1)) < sum_by (λ c. 1 - c) places
  follow_less = let s = fewer in omega arith

  met_here : (k : ℕ) → k ≡ length walk + 1 → (k ≤ length (walk ++ n ∷ [])) × IsTrail g last now (to_at g.arcs.items n) (drop (k - 1) (walk ++ n ∷ []))
  met_here k e =
      let at : length walk ≡ k - 1 = omega arith in
      let len = length_push walk n in (
        omega arith,
        subst (λ (j : ℕ). IsTrail g last now (to_at g.arcs.items n) (drop j (walk ++ n ∷ []))) at
            (subst (IsTrail g last now (to_at g.arcs.items n)) (sym (drop-append_seam walk (n ∷ []))) (away, f.within, is, refl)),
      )

  met_before : (v k : ℕ) → v < g.points → k ≡ get_or places v 0 → 0 < k → (k ≤ length (walk ++ n ∷ [])) × IsTrail g last v (to_at g.arcs.items n) (drop (k - 1) (walk ++ n ∷ []))
  met_before v k v_in e some =
      let some_place : 0 < get_or places v 0 = omega arith in
      let m = f.met v v_in some_place in
      let high = m.0 in
      let len = length_push walk n in
      let seam : k - 1 ≤ length walk = omega arith in (
        omega arith,
        subst (IsTrail g last v (to_at g.arcs.items n)) (sym (drop-append-le (k - 1) walk (n ∷ []) seam))
            (trail_push g last v now n (drop (k - 1) walk)
            (subst (λ (j : ℕ). IsTrail g last v now (drop (j - 1) walk)) (sym e) m.1) away f.within is),
      )

  pub followed : IsFollowed g last from (to_at g.arcs.items n) (set places now (length walk + 1)) (walk ++ n ∷ [])
  followed = record {
    within = end_in;
    marks = length-set places now (length walk + 1) ∙ f.marks;
    whole = trail_push g last from now n walk f.whole away f.within is;
    met = λ v v_in some. ⊎_elim
        (λ (e : v ≡ now).
        let k = ap (λ (x : ℕ). get_or (set places now (length walk + 1)) x 0) e ∙ get_or-set_same places now (length walk + 1) 0 now_in in
        let m = met_here (get_or (set places now (length walk + 1)) v 0) k in
        (m.0, subst (λ (x : ℕ). IsTrail g last x (to_at g.arcs.items n) (drop (get_or (set places now (length walk + 1)) v 0 - 1) (walk ++ n ∷ []))) (sym e) m.1))
        (λ (e : v ≢ now).
        met_before v (get_or (set places now (length walk + 1)) v 0) v_in (get_or-set_other places now v (length walk + 1) 0 e) some)
        (cases_eq v now);
    few = let s = fewer in let len = length_push walk n in let old = f.few in omega arith;
  }
