-- What lowering a label does, and what falling labels keep.
use Rattle.std.proofs.Common.{◌≡◌, ◌≢◌, ℕ, ◌<◌, ℤ, pos, neg_ℤ, ◌+ℤ◌, ◌-ℤ◌, ◌≤ℤ◌, ◌<ℤ◌, List, length, get_or, set, refl, sym, ap, ◌∙◌, ⊎_elim, arith, length-set, get_or-set_same, get_or-set_other, unsigned_abs}
use Rattle.std.proofs.lemmas.Int.{ints, by_lt_z}
use Rattle.std.proofs.lemmas.List.Sums.{sum_by-set}
use Rattle.std.proofs.lemmas.Bool.{cases_eq}
use Rattle.std.proofs.lemmas.List.{get_or_read}
use Rattle.stn_model.specs.Limits.{greatest_bound}
use Rattle.stn_model.specs.declared.ids.Constraint.{Constraint}
use Rattle.stn_model.specs.Arcs.{from_at, to_at, bound_at}
use Rattle.stn_model.specs.Schedules.{time_at}
use Rattle.dispatcher.specs.Falling.{IsSafe, Falls, IsBroken, room}

-- labels that stay fall
pub falls_not : (arcs : List Constraint) (labels : List ℤ) → Falls arcs labels labels
falls_not arcs labels = record {
  one_each = refl;
  below = λ p. omega (arith, ints);
  greatest = λ known ends f holds above p there. above p there;
  less = omega arith;
}

-- labels that fall twice fall
pub falls_on : (arcs : List Constraint) (a b c : List ℤ) → Falls arcs a b → Falls arcs b c → Falls arcs a c
falls_on arcs a b c h k = record {
  one_each = k.one_each ∙ h.one_each;
  below = λ p. let x = h.below p in let y = k.below p in omega (arith, ints);
  greatest = λ known ends f holds above. k.greatest known ends f holds (h.greatest known ends f holds above);
  less = let x = h.less in let y = k.less in omega arith;
}

-- labels that fell are as safe as before
pub safe_on : (arcs : List Constraint) (old new : List ℤ) → IsSafe arcs old → Falls arcs old new → IsSafe arcs new
safe_on arcs old new s h = record {
  known = s.known;
  among = λ n lt. let a = s.among n lt in let e = h.one_each in record {
    from_known = a.from_known;
    to_known = a.to_known;
    from_in = let x = a.from_in in omega arith;
    to_in = let x = a.to_in in omega arith;
    low = a.low;
    high = a.high;
  };
  floor = s.floor;
  holds = s.holds;
  deep = s.deep;
  above = h.greatest s.known (λ n lt. ((s.among n lt).from_known, (s.among n lt).to_known)) s.floor s.holds s.above;
  high = λ p there. let x = h.below p in let y = s.high p there in omega (arith, ints);
}

module _ (arcs : List Constraint) (labels : List ℤ) (s : IsSafe arcs labels) (n p q : ℕ) (b t : ℤ) (lt : n < length arcs)
    (from_is : from_at arcs n ≡ p) (to_is : to_at arcs n ≡ q) (bound_is : bound_at arcs n ≡ b)
    (is : t ≡ time_at labels p +ℤ b) (less : t <ℤ time_at labels q) where
  q_in : q < length labels
  q_in = let x = (s.among n lt).to_in in omega (arith, to_is)

  here : time_at (set labels q t) q ≡ t
  here = get_or-set_same labels q t (pos 0) q_in

  elsewhere : (x : ℕ) → x ≢ q → time_at (set labels q t) x ≡ time_at labels x
  elsewhere x e = get_or-set_other labels q x t (pos 0) e

  -- the lowered label is not below -2^40
  deep : neg_ℤ (pos greatest_bound) ≤ℤ t
  deep =
      let a = s.among n lt in
      let f = ap s.floor from_is in
      let g = ap s.floor to_is in
      let h = s.holds n lt in
      let low = s.deep (to_at arcs n) a.to_known in
      let above = s.above (from_at arcs n) a.from_known in
      let at = ap (time_at labels) from_is in
      omega (arith, ints)

  pub lowered_less : room (set labels q t) < room labels
  lowered_less =
      let d = deep in
      let sums = sum_by-set (λ (x : ℤ). unsigned_abs (x +ℤ pos greatest_bound)) labels q t (pos 0) q_in in
      omega (arith, ints)

  pub lowered : Falls arcs labels (set labels q t)
  lowered = record {
    one_each = length-set labels q t;
    below = λ x. ⊎_elim
        (λ (e : x ≡ q). let c = ap (time_at (set labels q t)) e in let d = ap (time_at labels) e in let k = here in omega (arith, ints))
        (λ (e : x ≢ q). let k = elsewhere x e in omega (arith, ints))
        (cases_eq x q);
    greatest = λ known ends f holds above x there. ⊎_elim
        (λ (e : x ≡ q).
        let c = ap (time_at (set labels q t)) e in
        let k = here in
        let g = ap f e in
        let i = ap f from_is in
        let j = ap f to_is in
        let h = holds n lt in
        let at = ap (time_at labels) from_is in
        let u = above (from_at arcs n) (ends n lt).0 in
        omega (arith, ints))
        (λ (e : x ≢ q). let k = elsewhere x e in let u = above x there in omega (arith, ints))
        (cases_eq x q);
    less = let l = lowered_less in omega arith;
  }

-- an arc that is not broken holds
pub holds_unless : (arcs : List Constraint) (labels : List ℤ) (n : ℕ) → (IsBroken arcs labels n → ⊥)
    → (time_at labels (to_at arcs n) -ℤ time_at labels (from_at arcs n)) ≤ℤ bound_at arcs n
holds_unless arcs labels n whole =
    by_lt_z (time_at labels (from_at arcs n) +ℤ bound_at arcs n) (time_at labels (to_at arcs n)) (λ h. absurd (whole h)) (λ h. omega (arith, ints))

-- what is read where an arc begins, and where it ends
pub record Reads (arcs : List Constraint) (labels : List ℤ) (n : ℕ) (x : ℤ) : Type 0 where
  pub label : time_at labels (from_at arcs n) ≡ x
  pub low : neg_ℤ (pos greatest_bound) ≤ℤ x
  pub high : x ≤ℤ pos greatest_bound
  pub bound_low : neg_ℤ (pos greatest_bound) ≤ℤ bound_at arcs n
  pub bound_high : bound_at arcs n ≤ℤ pos greatest_bound

pub reads_tail : (arcs : List Constraint) (labels : List ℤ) (n : ℕ) (x : ℤ) → IsSafe arcs labels → n < length arcs → x ≡ get_or labels (from_at arcs n) x
    → Reads arcs labels n x
reads_tail arcs labels n x s lt read =
    let a = s.among n lt in
    let is : time_at labels (from_at arcs n) ≡ x = sym (get_or_read labels (from_at arcs n) x a.from_in read (pos 0)) in
    let deep = s.deep (from_at arcs n) a.from_known in
    let above = s.above (from_at arcs n) a.from_known in
    let high = s.high (from_at arcs n) a.from_known in
    record {
      label = is;
      low = omega (arith, ints);
      high = omega (arith, ints);
      bound_low = a.low;
      bound_high = a.high;
    }

pub reads_head : (arcs : List Constraint) (labels : List ℤ) (n : ℕ) (x : ℤ) → IsSafe arcs labels → n < length arcs → x ≡ get_or labels (to_at arcs n) x
    → time_at labels (to_at arcs n) ≡ x
reads_head arcs labels n x s lt read = sym (get_or_read labels (to_at arcs n) x (s.among n lt).to_in read (pos 0))
