-- A list of eliminated points, the last one first, cut at one of them.
--   before-at            before that point and one behind it or outside come the points that follow it in the list
--   before-behind        points of the rest come before both of two points that the rest lacks
--   before-turned        the order of the two does not matter
--   different-reverse    no number stands twice in a list turned round
--   different-behind     what stands at the cut does not follow it
use Rattle.std.proofs.Common.{◌≡◌, ◌≢◌, ℕ, ◌-◌, List, [], ◌∷◌, ◌++◌, true, false, ◌||◌, length, reverse, refl, sym, ap, ◌∙◌, arith}
use Rattle.stn_walk.proofs.Members.{is_in-first, is_in-behind}
use Rattle.std.specs.Prelude.{◌==◌, if◌then◌else◌}
use Rattle.std.specs.List.{AllByRecursion}
use Rattle.std.proofs.Math.Bool.{or_comm}
use Rattle.std.proofs.lemmas.Bool.{ne_eqb}
use Rattle.std.proofs.lemmas.List.{length-reverse, get_or-reverse}
use Rattle.stn_model.specs.Walks.{AllDifferent}
use Rattle.stn_walk.specs.Eliminations.{is_in, before_both}
use Rattle.stn_walk.proofs.Eliminations.{before-whole}
use Rattle.stn_walk.proofs.Different.{AllDifferent-from_index, different_at}

-- before k and another point, which follows k neither in the list, come those that follow k
pub before-at : (ds : List ℕ) (k : ℕ) (es : List ℕ) (j : ℕ) → is_in es k ≡ false → is_in es j ≡ false → before_both (ds ++ k ∷ es) k j ≡ es
before-at [] k es j fresh away =
    ap (λ b. if b || is_in (k ∷ es) j then before_both es k j else k ∷ es) (is_in-first k es) ∙ before-whole es k j fresh away
before-at (d ∷ ds) k es j fresh away =
    ap (λ b. if (b || (k == d)) || is_in (d ∷ (ds ++ k ∷ es)) j then before_both (ds ++ k ∷ es) k j else d ∷ (ds ++ k ∷ es))
    (is_in-behind ds (k ∷ es) k (is_in-first k es))
    ∙ before-at ds k es j fresh away

-- the order of the two does not matter
pub before-turned : (es : List ℕ) (i j : ℕ) → before_both es i j ≡ before_both es j i
before-turned [] i j = refl
before-turned (k ∷ es) i j = (λ t. if or_comm (is_in (k ∷ es) i) (is_in (k ∷ es) j) t then before-turned es i j t else k ∷ es)

-- points of the rest come before both of two points that the rest lacks
pub before-behind : (ds fs : List ℕ) (i j : ℕ) → is_in fs i ≡ false → is_in fs j ≡ false → (p : ℕ) → is_in fs p ≡ true
    → is_in (before_both (ds ++ fs) i j) p ≡ true
before-behind [] fs i j no_i no_j p h = ap (λ xs. is_in xs p) (before-whole fs i j no_i no_j) ∙ h
before-behind (d ∷ ds) fs i j no_i no_j p h =
    elim (is_in (d ∷ (ds ++ fs)) i || is_in (d ∷ (ds ++ fs)) j) as (λ b. is_in (if b then before_both (ds ++ fs) i j else d ∷ (ds ++ fs)) p ≡ true) [
      | true ↦ before-behind ds fs i j no_i no_j p h
      | false ↦ is_in-behind (d ∷ ds) fs p h
    ]

-- no number stands twice in a list turned round
pub different-reverse : (xs : List ℕ) → AllDifferent xs → AllDifferent (reverse xs)
different-reverse xs d =
    let len = length-reverse xs in
    AllDifferent-from_index (reverse xs) (λ m k lt before same.
    different_at xs d (length xs - 1 - k) (length xs - 1 - m) (omega arith) (omega arith)
    (sym (get_or-reverse xs m 0 (omega arith)) ∙ sym same ∙ get_or-reverse xs k 0 (omega arith)))

-- what stands at the cut does not follow it
pub different-behind : (ds : List ℕ) (k : ℕ) (es : List ℕ) → AllDifferent (ds ++ k ∷ es) → is_in es k ≡ false
different-behind [] k es d = away es d.0 where
  away : (xs : List ℕ) → AllByRecursion (λ y. k ≢ y) xs → is_in xs k ≡ false
  away [] h = refl
  away (x ∷ xs) h = ap (λ b. b || (k == x)) (away xs h.1) ∙ ne_eqb k x h.0
different-behind (d ∷ ds) k es h = different-behind ds k es h.1
