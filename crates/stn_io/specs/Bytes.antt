-- Bytes that a source has left and a sink has taken, where they are told.
--     TakesSome r bytes      an Ok counts some bytes of a piece that has some
--     TakesFront old new bs  a front of bs was taken, and not all of it
--     Loses old new n        exactly n bytes are gone, from the front of what was left
--     LosesAtMost old new n  the same of at most n bytes
use Rattle.std.specs.Prelude.{◌≡◌, ℕ, ◌≤◌, ◌<◌, List, length, take, drop, ⊤, Some, None, IfOk, Result, Option}
use Rattle.std.specs.Io.KnownBytes.{Appends}

-- some bytes of a piece that has some are taken
abbrev pub TakesSome : {E : Type 0} → Result ℕ E → List ℕ → Type 0
TakesSome r bytes = IfOk r (λ n. 0 < length bytes → 0 < n)

-- a front of the bytes was taken, and not all of them
pub record TakesFront (old new : Option (List ℕ)) (bytes : List ℕ) : Type 0 where
  pub count : ℕ
  pub within : count < length bytes
  pub taken : Appends old new (take count bytes)

-- exactly n bytes are gone, from the front of what was left
abbrev pub Loses : Option (List ℕ) → Option (List ℕ) → ℕ → Type 0
Loses None new n = ⊤
Loses (Some xs) None n = ⊥
Loses (Some xs) (Some ys) n = (n ≤ length xs) × (ys ≡ drop n xs)

-- at most n bytes are gone, from the front of what was left
pub record LosesAtMost (old new : Option (List ℕ)) (n : ℕ) : Type 0 where
  pub count : ℕ
  pub within : count ≤ n
  pub gone : Loses old new count
