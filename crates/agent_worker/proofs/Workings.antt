-- Results of workers, one for each local problem: work_of, mapped, are_works, numbered_at, all_have.
use Rattle.std.proofs.Common.{zero, suc, ◌≡◌, ℕ, ◌<◌, List, [], ◌∷◌, true, ◌&&◌, length, map, get_or, Some, ap, ◌∙◌, refl, arith, subst}
use Rattle.std.specs.Prelude.{slice_get}
use Rattle.std.proofs.lemmas.Bool.{and_parts}
use Rattle.private_elim.specs.Locals.{LocalView, all_numbered}
use Rattle.agent_worker.specs.declared.worker.WorkerResult.{WorkerResult}
use Rattle.agent_worker.specs.Works.{are_numbered, IsWork, AreWorks}

-- the same local problem
pub work_of : (answers : ℕ → ℕ → ℕ → Type 0) (v l : LocalView) (w : WorkerResult) → v ≡ l → IsWork answers v w → IsWork answers l w
work_of answers v l w is h = subst (λ u. IsWork answers u w) is h

-- what holds of a value of each item holds of the list of these values
pub mapped : {X : Type 0} (f : X → WorkerResult) (holds : ℕ → WorkerResult → Type 0) (xs : List X)
    → ((i : ℕ) (d : X) → i < length xs → holds i (f (get_or xs i d))) → (i : ℕ) (w : WorkerResult) → slice_get (map f xs) i ≡ Some w → holds i w
mapped f holds [] each i w h = absurd (cc)
mapped f holds (x ∷ xs) each zero w h = (let e : f x ≡ w = cc in subst (holds 0) e (each 0 x (omega arith)))
mapped f holds (x ∷ xs) each (suc i) w h = mapped f (λ k. holds (suc k)) xs (λ k d low. each (suc k) d (omega arith)) i w h

-- one result for each
pub are_works : (answers : ℕ → ℕ → ℕ → Type 0) (locals : List LocalView) (results : List WorkerResult) → length results ≡ length locals
    → ((a : ℕ) (w : WorkerResult) → slice_get results a ≡ Some w → (v : LocalView) → slice_get locals a ≡ Some v → IsWork answers v w)
    → AreWorks answers locals results
are_works answers locals results len each = record { one_each = len; each = λ a v w there at. each a w at v there }

-- one of local problems whose arcs all have numbers
pub numbered_at : (locals : List LocalView) (i : ℕ) (d : LocalView) → are_numbered locals ≡ true → i < length locals
    → all_numbered (get_or locals i d).arcs ≡ true
numbered_at [] i d all low = absurd (omega arith)
numbered_at (v ∷ vs) zero d all low = (and_parts (all_numbered v.arcs) (are_numbered vs) all).0
numbered_at (v ∷ vs) (suc i) d all low = numbered_at vs i d (and_parts (all_numbered v.arcs) (are_numbered vs) all).1 (omega arith)

-- all of them, where each is
pub all_have : (locals : List LocalView) → ((a : ℕ) (v : LocalView) → slice_get locals a ≡ Some v → all_numbered v.arcs ≡ true)
    → are_numbered locals ≡ true
all_have [] each = refl
all_have (v ∷ vs) each = ap (λ b. b && are_numbered vs) (each 0 v refl) ∙ all_have vs (λ a u there. each (suc a) u there)
