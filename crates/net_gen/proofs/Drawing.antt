-- The sequence of draws, one after another.
use Rattle.std.proofs.Common.{◌≡◌, ℕ, ◌+◌, ◌*◌, ◌%◌, refl, sym, ap, ◌∙◌, add-one}
use Rattle.net_gen.specs.Draws.{value_after}

pub value_after-zero : (number : ℕ) → value_after number 0 ≡ number + 1
unfolding value_after
value_after-zero number = refl

pub value_after-more : (number k v : ℕ) → v ≡ value_after number k → 48271 * v % 2147483647 ≡ value_after number (k + 1)
unfolding value_after
value_after-more number k v e =
    ap (λ (x : ℕ). 48271 * x % 2147483647) e ∙ ap (value_after number) (sym (add-one k))
