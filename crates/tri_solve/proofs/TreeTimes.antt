-- The times that a tree of distances gives, one by one.
use Rattle.std.proofs.Common.{◌≡◌, ℕ, ◌+◌, ◌<◌, ◌≤◌, List, [], ◌∷◌, ◌++◌, length, map, take, get_or, sym, ap, ◌∙◌, arith}
use Rattle.std.specs.Prelude.{ℤ, pos, ◌-ℤ◌}
use Rattle.std.specs.List.{All}
use Rattle.std.proofs.Math.ListN.{get_or-map}
use Rattle.std.proofs.lemmas.Int.{ints}
use Rattle.std.proofs.lemmas.List.{take_more, take_all, map_push, get_or_default, get_or_read}
use Rattle.std.proofs.lemmas.List.Elements.{All-from_get_or}
use Rattle.stn_model.specs.Times.{IsTime}
use Rattle.stn_model.proofs.NetLemmas.{length-map}
use Rattle.tri_solve.specs.declared.label.Label.{Label}
use Rattle.tri_solve.specs.Trees.{Tree, dist_of, times_of, IsTree}
use Rattle.tri_solve.proofs.Attained.{time_is}

-- the number of a label in a list
pub number_read : (labels : List Label) (p : ℕ) (d : Label) → p < length labels → (get_or labels p d).number ≡ get_or (map (λ l. l.number) labels) p (pos 0)
number_read labels p d lt =
    let zero : Label = record { number = pos 0; via = record { 0 = 0 } } in
    ap (λ (l : Label). l.number) (get_or_default labels p d zero lt) ∙ sym (get_or-map (λ (l : Label). l.number) labels p zero)

-- the point before it
pub via_read : (labels : List Label) (p : ℕ) (l : Label) → p < length labels → l ≡ get_or labels p l → l.via.0 ≡ get_or (map (λ k. k.via.0) labels) p 0
via_read labels p l lt is =
    let zero : Label = record { number = pos 0; via = record { 0 = 0 } } in
    ap (λ (k : Label). k.via.0) (get_or_read labels p l lt is zero) ∙ sym (get_or-map (λ (k : Label). k.via.0) labels p zero)

-- the number of a label as the distance that it is seen as
pub number_is : (labels : List Label) (t : Tree) (p : ℕ) (d : Label) → map (λ l. l.number) labels ≡ t.dists → p < length labels → (get_or labels p d).number ≡ dist_of t p
number_is labels t p d seen lt = number_read labels p d lt ∙ ap (λ (xs : List ℤ). get_or xs p (pos 0)) seen

pub first_is : (labels : List Label) (t : Tree) (l : Label) → map (λ k. k.number) labels ≡ t.dists → 0 < length labels → l ≡ get_or labels 0 l → l.number ≡ dist_of t 0
first_is labels t l seen lt is = ap (λ (k : Label). k.number) is ∙ number_is labels t 0 l seen lt

pub times_more : (dists : List ℤ) (n : ℕ) (z x : ℤ) (old new : List ℤ) → n < length dists → old ≡ map (λ d. d -ℤ z) (take n dists) → new ≡ old ++ x ∷ []
    → x ≡ get_or dists n (pos 0) -ℤ z → new ≡ map (λ d. d -ℤ z) (take (n + 1) dists)
times_more dists n z x old new lt h pushed is =
    pushed ∙ ap (λ (xs : List ℤ). xs ++ x ∷ []) h ∙ ap (λ (y : ℤ). map (λ (d : ℤ). d -ℤ z) (take n dists) ++ y ∷ []) is
    ∙ sym (map_push (λ (d : ℤ). d -ℤ z) (take n dists) (get_or dists n (pos 0))) ∙ ap (map (λ (d : ℤ). d -ℤ z)) (sym (take_more dists n (pos 0) lt))

pub times_whole : (t : Tree) (n : ℕ) (times : List ℤ) → length t.dists ≤ n → times ≡ map (λ d. d -ℤ dist_of t 0) (take n t.dists) → times ≡ times_of t
times_whole t n times end h = h ∙ ap (map (λ (d : ℤ). d -ℤ dist_of t 0)) (take_all n t.dists end)

-- they are times of a schedule
pub times_light : (t : Tree) → IsTree t → All IsTime (times_of t)
times_light t h =
    All-from_get_or IsTime (times_of t) (pos 0) (λ p lt.
    let n = length-map (λ (d : ℤ). d -ℤ dist_of t 0) t.dists in
    let within : p < length t.dists = omega arith in
    let here = h.range p within in
    let zero = h.range 0 (omega arith) in
    let e = time_is t p within in
    let a = here.0 in
    let b = here.1 in
    let x = zero.0 in
    let y = zero.1 in
    record { low = omega (arith, ints); high = omega (arith, ints) })
