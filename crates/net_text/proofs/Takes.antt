-- A few fields, one by one.
use Rattle.std.proofs.Common.{◌≡◌, ℕ, ◌<◌, ◌≤◌, List, [], ◌∷◌, map, length, get_or, refl, arith}
use denote.Ref.{Bor}

-- what a read past the end gives
abbrev pub nothing : Bor (List ℕ)
nothing = record { ref_ptr = (0, 0); now = [] }

abbrev pub texts : List (Bor (List ℕ)) → List (List ℕ)
texts fields = map (λ f. f.now) fields

abbrev pub text_at : List (Bor (List ℕ)) → ℕ → List ℕ
text_at fields i = (get_or fields i nothing).now

pub one_field : (fs : List (Bor (List ℕ))) → 1 ≤ length fs → length fs < 2 → texts fs ≡ text_at fs 0 ∷ []
one_field [] low high = absurd (omega arith)
one_field (a ∷ []) low high = refl
one_field (a ∷ b ∷ fs) low high = absurd (omega arith)

pub two_fields : (fs : List (Bor (List ℕ))) → 2 ≤ length fs → length fs < 3 → texts fs ≡ text_at fs 0 ∷ text_at fs 1 ∷ []
two_fields [] low high = absurd (omega arith)
two_fields (a ∷ []) low high = absurd (omega arith)
two_fields (a ∷ b ∷ []) low high = refl
two_fields (a ∷ b ∷ c ∷ fs) low high = absurd (omega arith)

pub three_fields : (fs : List (Bor (List ℕ))) → 3 ≤ length fs → length fs < 4 → texts fs ≡ text_at fs 0 ∷ text_at fs 1 ∷ text_at fs 2 ∷ []
three_fields [] low high = absurd (omega arith)
three_fields (a ∷ []) low high = absurd (omega arith)
three_fields (a ∷ b ∷ []) low high = absurd (omega arith)
three_fields (a ∷ b ∷ c ∷ []) low high = refl
three_fields (a ∷ b ∷ c ∷ d ∷ fs) low high = absurd (omega arith)

pub four_fields : (fs : List (Bor (List ℕ))) → 4 ≤ length fs → length fs < 5 → texts fs ≡ text_at fs 0 ∷ text_at fs 1 ∷ text_at fs 2 ∷ text_at fs 3 ∷ []
four_fields [] low high = absurd (omega arith)
four_fields (a ∷ []) low high = absurd (omega arith)
four_fields (a ∷ b ∷ []) low high = absurd (omega arith)
four_fields (a ∷ b ∷ c ∷ []) low high = absurd (omega arith)
four_fields (a ∷ b ∷ c ∷ d ∷ []) low high = refl
four_fields (a ∷ b ∷ c ∷ d ∷ e ∷ fs) low high = absurd (omega arith)
