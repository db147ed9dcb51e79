-- Lines of a list of numbers, one after another, and three pieces, one after another.
use Rattle.std.proofs.Common.{◌≡◌, ℕ, suc, ◌+◌, ◌-◌, ◌<◌, List, ◌++◌, ap, sym, ◌∙◌, arith}
use Rattle.std.specs.List.{flat_map, range_with_len}
use Rattle.std.proofs.lemmas.List.{append_assoc}

-- the line of the next number is written, and those of the numbers after it are left
pub line_added : (f : ℕ → List ℕ) (k n : ℕ) (whole now new : List ℕ) → k < n
    → now ++ flat_map f (range_with_len k (n - k)) ≡ whole → new ≡ now ++ f k → new ++ flat_map f (range_with_len (k + 1) (n - (k + 1))) ≡ whole
line_added f k n whole now new lt before step =
    let rest : List ℕ = flat_map f (range_with_len (k + 1) (n - (k + 1))) in
    let left : n - k ≡ suc (n - (k + 1)) = omega arith in
    ap (λ (x : List ℕ). x ++ rest) step ∙ append_assoc now (f k) rest
    ∙ ap (λ (m : ℕ). now ++ flat_map f (range_with_len k m)) (sym left) ∙ before

pub three_added : (o a b c p q r : List ℕ) → a ≡ o ++ p → b ≡ a ++ q → c ≡ b ++ r → c ≡ o ++ (p ++ q ++ r)
three_added o a b c p q r first second third =
    third ∙ ap (λ x. x ++ r) (second ∙ ap (λ x. x ++ q) first) ∙ simp append_assoc
