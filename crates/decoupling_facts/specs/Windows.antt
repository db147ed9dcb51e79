-- The window of a point: the times that keep its final bounds with the points joined with it that have their times (the greatest lower and least
-- upper bound that these allow: Dechter, Meiri and Pearl 1991). Points get their times one by one, each in its window; which time of it is this
-- project's rule. IsNear, NearPointsMeet, LeavesWindow, lean_time, IsPut, IsNextTime, and the laws WindowsAreThere, WindowsAreNotEmpty,
-- TimesKeepFinals, LeansLieWithin, TimesKeepArcs, TimesLieWithin.
use Rattle.std.specs.Prelude.{◌≡◌, ◌≢◌, ℕ, Bool, true, ℤ, pos, neg_ℤ, ◌+ℤ◌, ◌-ℤ◌, ◌≤ℤ◌, List, ◌∷◌, Contains}
use Rattle.std.specs.Int.{int_div_euclid}
use Rattle.stn_model.specs.declared.ids.Constraint.{Constraint}
use Rattle.stn_model.specs.declared.ids.Lean.{Lean}
use Rattle.stn_model.specs.declared.ids.Lean.TheVariants.{Early, Late, Middle}
use Rattle.decoupling_facts.specs.FinalBounds.{AreFinals, KeepsFinals}

-- a near point of k: it has a time and is joined with k
abbrev pub IsNear : (ℕ → ℕ → Bool) → (ℕ → Bool) → ℕ → ℕ → Type 0
IsNear joined is_set k j = (is_set j ≡ true) × (joined k j ≡ true)

-- any two near points of k are joined
abbrev pub NearPointsMeet : (ℕ → ℕ → Bool) → (ℕ → Bool) → ℕ → Type 0
NearPointsMeet joined is_set k =
    (i j : ℕ) → IsNear joined is_set k i → IsNear joined is_set k j → i ≢ j → joined i j ≡ true

-- the window that some points leave k reaches from the greatest value(j) - final(k, j) to the least value(j) + final(j, k), of these points j
pub record LeavesWindow (final : ℕ → ℕ → ℤ) (value : ℕ → ℤ) (k : ℕ) (Near : ℕ → Type 0) (low high : ℤ) : Type 0 where
  pub low_met : (j : ℕ) × Near j × (low ≡ value j -ℤ final k j)
  pub low_greatest : (j : ℕ) → Near j → (value j -ℤ final k j) ≤ℤ low
  pub high_met : (j : ℕ) × Near j × (high ≡ value j +ℤ final j k)
  pub high_least : (j : ℕ) → Near j → high ≤ℤ (value j +ℤ final j k)

-- the time that a lean takes of a window: its low end, its high end, or half of their sum, rounded down
abbrev pub lean_time : Lean → ℤ → ℤ → ℤ
lean_time Early low high = low
lean_time Late low high = high
lean_time Middle low high = int_div_euclid (low +ℤ high) (pos 2)

-- g is f but for v at k
pub record IsPut (k : ℕ) (v : ℤ) (f g : ℕ → ℤ) : Type 0 where
  pub here : g k ≡ v
  pub others : (p : ℕ) → p ≢ k → g p ≡ f p

-- k has the time v, and every other point that has one had it before
pub record IsNextTime (k : ℕ) (v : ℤ) (was_set is_set : ℕ → Bool) (before value : ℕ → ℤ) : Type 0 where
  pub put : IsPut k v before value
  pub set_before : (p : ℕ) → is_set p ≡ true → p ≢ k → was_set p ≡ true

-- finitely many points, one at least, leave a window
abbrev pub WindowsAreThere : Type 0
WindowsAreThere =
    (final : ℕ → ℕ → ℤ) (value : ℕ → ℤ) (k j : ℕ) (js : List ℕ) → (low : ℤ) × (high : ℤ) × LeavesWindow final value k (Contains (j ∷ js)) low high

-- the window that its near points leave a point is not empty, where times keep the final bounds and any two near points are joined
abbrev pub WindowsAreNotEmpty : Type 0
WindowsAreNotEmpty =
    (arcs : List Constraint) (joined : ℕ → ℕ → Bool) (final : ℕ → ℕ → ℤ) → AreFinals arcs joined final
    → (is_set : ℕ → Bool) (value : ℕ → ℤ) → KeepsFinals joined final is_set value
    → (k : ℕ) → NearPointsMeet joined is_set k
    → (low high : ℤ) → LeavesWindow final value k (IsNear joined is_set k) low high → low ≤ℤ high

-- with any time in its window for one point more the final bounds are kept
abbrev pub TimesKeepFinals : Type 0
TimesKeepFinals =
    (arcs : List Constraint) (joined : ℕ → ℕ → Bool) (final : ℕ → ℕ → ℤ) → AreFinals arcs joined final
    → (was_set is_set : ℕ → Bool) (before value : ℕ → ℤ) → KeepsFinals joined final was_set before
    → (k : ℕ) (low high : ℤ) → LeavesWindow final before k (IsNear joined was_set k) low high
    → (v : ℤ) → low ≤ℤ v → v ≤ℤ high → IsNextTime k v was_set is_set before value → KeepsFinals joined final is_set value

-- the time that a lean takes lies in the window
abbrev pub LeansLieWithin : Type 0
LeansLieWithin = (lean : Lean) (low high : ℤ) → low ≤ℤ high → (low ≤ℤ lean_time lean low high) × (lean_time lean low high ≤ℤ high)

-- times that keep the final bounds keep each arc between points that have them
abbrev pub TimesKeepArcs : Type 0
TimesKeepArcs =
    (arcs : List Constraint) (joined : ℕ → ℕ → Bool) (final : ℕ → ℕ → ℤ) → AreFinals arcs joined final
    → (is_set : ℕ → Bool) (value : ℕ → ℤ) → KeepsFinals joined final is_set value
    → (a : Constraint) → Contains arcs a → is_set a.from.0 ≡ true → is_set a.to.0 ≡ true → (value a.to.0 -ℤ value a.from.0) ≤ℤ a.bound

-- and, with z at 0, each lies within the final bounds of its point with z
abbrev pub TimesLieWithin : Type 0
TimesLieWithin =
    (arcs : List Constraint) (joined : ℕ → ℕ → Bool) (final : ℕ → ℕ → ℤ) → AreFinals arcs joined final
    → (is_set : ℕ → Bool) (value : ℕ → ℤ) → value 0 ≡ pos 0 → is_set 0 ≡ true → KeepsFinals joined final is_set value
    → (k : ℕ) → is_set k ≡ true → joined k 0 ≡ true → (neg_ℤ (final k 0) ≤ℤ value k) × (value k ≤ℤ final 0 k)
