-- The order in which a picker takes private points: IsNeighbour, IsDegree, AreCandidates, IsPicked, ArePicked, IsStopped. The points taken are listed
-- with the last one first.
use Rattle.std.specs.Prelude.{◌≡◌, ◌≢◌, ◌↔◌, ℕ, List, [], ◌∷◌, true, false, ◌&&◌, not, Some, length, map, filter, ⊤}
use Rattle.std.specs.List.{AllByRecursion}
use Rattle.stn_model.specs.Walks.{AllDifferent}
use Rattle.stn_model.specs.Joined.{IsPath}
use Rattle.stn_walk.specs.Eliminations.{is_in}
use Rattle.elim_step.specs.declared.pick.Candidate.{Candidate}
use Rattle.elim_step.specs.Picks.{Picks, candidate_at}
use Rattle.private_elim.specs.Locals.{LocalView, arcs_in, is_private_in, is_point_of}
use Rattle.private_elim.specs.Taken.{StopsAt}

-- q is another point of the local problem that is not taken, and arcs, taken without direction, join it with p through taken points
pub record IsNeighbour (v : LocalView) (taken : List ℕ) (p q : ℕ) : Type 0 where
  pub point : is_point_of v q ≡ true
  pub left : is_in taken q ≡ false
  pub other : q ≢ p
  pub inner : List ℕ
  pub path : IsPath (arcs_in v) p q inner
  pub through : AllByRecursion (λ r. is_in taken r ≡ true) inner

-- the number of these points
pub record IsDegree (v : LocalView) (taken : List ℕ) (p degree : ℕ) : Type 0 where
  pub neighbours : List ℕ
  pub once : AllDifferent neighbours
  pub each : (q : ℕ) → is_in neighbours q ≡ true ↔ IsNeighbour v taken p q
  pub many : length neighbours ≡ degree

-- the candidates are the private points that are not taken, by number, with their degrees
pub record AreCandidates (v : LocalView) (taken : List ℕ) (candidates : List Candidate) : Type 0 where
  pub numbers : map (λ c. c.number) candidates ≡ filter (λ p. is_private_in v p && not (is_in taken p)) v.points
  pub degrees : AllByRecursion (λ c. IsDegree v taken c.number c.degree) candidates

-- p is a candidate that the picker allows
pub record IsPicked (answers : ℕ → ℕ → ℕ → Type 0) (v : LocalView) (taken : List ℕ) (p : ℕ) : Type 0 where
  pub candidates : List Candidate
  pub are : AreCandidates v taken candidates
  pub place : ℕ
  pub picks : Picks answers candidates (Some place)
  pub is : (candidate_at candidates place).number ≡ p

-- each of the points was picked among those that were left
abbrev pub ArePicked : (ℕ → ℕ → ℕ → Type 0) → LocalView → List ℕ → Type 0
ArePicked answers v [] = ⊤
ArePicked answers v (p ∷ taken) = IsPicked answers v taken p × ArePicked answers v taken

-- in some order that the picker allows, `place` points come before the first that fails, and it fails with `other` first
pub record IsStopped (answers : ℕ → ℕ → ℕ → Type 0) (v : LocalView) (place other : ℕ) : Type 0 where
  pub taken : List ℕ
  pub picked : ArePicked answers v taken
  pub many : length taken ≡ place
  pub next : ℕ
  pub next_picked : IsPicked answers v taken next
  pub stops : StopsAt v taken next other
