-- Points named by letters, one point more: letters-next.
use Rattle.std.proofs.Common.{◌≡◌, ℕ, ◌+◌, ◌<◌, List, [], ◌∷◌, ◌++◌, length, take, get_or, refl, sym, ap, ◌∙◌, arith}
use Rattle.std.proofs.lemmas.List.{take_more, length-take-le}
use Rattle.stn_model.specs.Net.{Place}
use Rattle.sample_nets.specs.Samples.{letters}

letters-push : (c : ℕ) (xs : List ℕ) (o : ℕ) → letters c (xs ++ o ∷ []) ≡ letters c xs ++ record { name = (c + length xs) ∷ []; owner = o } ∷ []
letters-push c [] o = let e : c ≡ c + 0 = omega arith in ap (λ (n : ℕ). record { name = n ∷ []; owner = o } ∷ []) e
letters-push c (x ∷ xs) o =
    let e : c + 1 + length xs ≡ c + length (x ∷ xs) = omega arith in
    ap (λ (ps : List Place). record { name = c ∷ []; owner = x } ∷ ps)
    (letters-push (c + 1) xs o ∙ ap (λ (n : ℕ). letters (c + 1) xs ++ record { name = n ∷ []; owner = o } ∷ []) e)

-- the names of the points before one more
pub letters-next : (c : ℕ) (xs : List ℕ) (n : ℕ) → n < length xs
    → letters c (take (n + 1) xs) ≡ letters c (take n xs) ++ record { name = (c + n) ∷ []; owner = get_or xs n 0 } ∷ []
letters-next c xs n lt =
    ap (letters c) (take_more xs n 0 lt)
    ∙ letters-push c (take n xs) (get_or xs n 0)
    ∙ ap (λ (m : ℕ). letters c (take n xs) ++ record { name = (c + m) ∷ []; owner = get_or xs n 0 } ∷ []) (length-take-le n xs (omega arith))
