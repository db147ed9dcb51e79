-- Boxes: for each shared point an interval of times which its agent may use without asking the others, since the boxes keep every external arc
-- whatever times are chosen in them (temporal decoupling: Boerkoel and Durfee 2013). They begin as single times, and their ends are widened one
-- by one, each as far as the other ends allow; that rule is this project's. Ends, AreBoxes, HasBoxEnds, IsMetHigh, IsMetLow, IsTightEnd,
-- IsWidestHigh, IsWidestLow, WidensHigh, WidensLow, Widens, WidensAll, and the laws TimesAreBoxes, WidestEndsAreThere, WideningsKeepBoxes,
-- TightEndsStay, WidenedBoxesAreTight, BoxesLieWithinTheHorizon.
use Rattle.std.specs.Prelude.{◌≡◌, ◌≢◌, ℕ, Bool, true, false, ◌⊎◌, ℤ, pos, neg_ℤ, ◌+ℤ◌, ◌-ℤ◌, ◌≤ℤ◌, List, [], ◌∷◌, Contains}
use Rattle.std.specs.List.{AllByRecursion}
use Rattle.stn_model.specs.declared.ids.Constraint.{Constraint}
use Rattle.decoupling_facts.specs.FinalBounds.{AreFinals, KeepsFinals}

-- the low and the high end of each point's box
pub record Ends : Type 0 where
  pub lo : ℕ → ℤ
  pub hi : ℕ → ℤ

-- the boxes of some points hold their times, lie within the final bounds with z, and keep each external arc between them
pub record AreBoxes (final : ℕ → ℕ → ℤ) (externals : List Constraint) (has_box : ℕ → Bool) (value : ℕ → ℤ) (e : Ends) : Type 0 where
  pub low : (k : ℕ) → has_box k ≡ true → neg_ℤ (final k 0) ≤ℤ e.lo k
  pub low_value : (k : ℕ) → has_box k ≡ true → e.lo k ≤ℤ value k
  pub value_high : (k : ℕ) → has_box k ≡ true → value k ≤ℤ e.hi k
  pub high : (k : ℕ) → has_box k ≡ true → e.hi k ≤ℤ final 0 k
  pub apart : (a : Constraint) → Contains externals a → has_box a.from.0 ≡ true → has_box a.to.0 ≡ true → (e.hi a.to.0 -ℤ e.lo a.from.0) ≤ℤ a.bound

-- each external arc joins two points that have boxes
abbrev pub HasBoxEnds : (ℕ → Bool) → List Constraint → Type 0
HasBoxEnds has_box externals = (a : Constraint) → Contains externals a → (has_box a.from.0 ≡ true) × (has_box a.to.0 ≡ true)

-- a high end of y that meets its final bound with z, or the bound of an external arc (x, y, c), from the low end of x
abbrev pub IsMetHigh : (ℕ → ℕ → ℤ) → List Constraint → (ℕ → ℤ) → ℕ → ℤ → Type 0
IsMetHigh final externals lo y end =
    (end ≡ final 0 y) ⊎ ((a : Constraint) × Contains externals a × (a.to.0 ≡ y) × (end ≡ lo a.from.0 +ℤ a.bound))

-- a low end of x that meets its final bound with z, or the bound of an external arc (x, y, c), from the high end of y
abbrev pub IsMetLow : (ℕ → ℕ → ℤ) → List Constraint → (ℕ → ℤ) → ℕ → ℤ → Type 0
IsMetLow final externals hi x end =
    (end ≡ neg_ℤ (final x 0)) ⊎ ((a : Constraint) × Contains externals a × (a.from.0 ≡ x) × (end ≡ hi a.to.0 -ℤ a.bound))

-- the end of a point, the high one or the low one, is tight: it cannot be moved out alone
abbrev pub IsTightEnd : (ℕ → ℕ → ℤ) → List Constraint → Ends → ℕ × Bool → Type 0
IsTightEnd final externals e (k, true) = IsMetHigh final externals e.lo k (e.hi k)
IsTightEnd final externals e (k, false) = IsMetLow final externals e.hi k (e.lo k)

-- the widest high end of y: the least of final(z, y) and lo(x) + c, of external arcs (x, y, c)
pub record IsWidestHigh (final : ℕ → ℕ → ℤ) (externals : List Constraint) (lo : ℕ → ℤ) (y : ℕ) (end : ℤ) : Type 0 where
  pub bound : end ≤ℤ final 0 y
  pub arcs : (a : Constraint) → Contains externals a → a.to.0 ≡ y → end ≤ℤ (lo a.from.0 +ℤ a.bound)
  pub met : IsMetHigh final externals lo y end

-- the widest low end of x: the greatest of -final(x, z) and hi(y) - c, of external arcs (x, y, c)
pub record IsWidestLow (final : ℕ → ℕ → ℤ) (externals : List Constraint) (hi : ℕ → ℤ) (x : ℕ) (end : ℤ) : Type 0 where
  pub bound : neg_ℤ (final x 0) ≤ℤ end
  pub arcs : (a : Constraint) → Contains externals a → a.from.0 ≡ x → (hi a.to.0 -ℤ a.bound) ≤ℤ end
  pub met : IsMetLow final externals hi x end

-- the ends f are the ends e, but that the high end of k is its widest
pub record WidensHigh (final : ℕ → ℕ → ℤ) (externals : List Constraint) (k : ℕ) (e f : Ends) : Type 0 where
  pub widest : IsWidestHigh final externals e.lo k (f.hi k)
  pub others : (p : ℕ) → p ≢ k → f.hi p ≡ e.hi p
  pub lows : (p : ℕ) → f.lo p ≡ e.lo p

-- the same of its low end
pub record WidensLow (final : ℕ → ℕ → ℤ) (externals : List Constraint) (k : ℕ) (e f : Ends) : Type 0 where
  pub widest : IsWidestLow final externals e.hi k (f.lo k)
  pub others : (p : ℕ) → p ≢ k → f.lo p ≡ e.lo p
  pub highs : (p : ℕ) → f.hi p ≡ e.hi p

-- the same of an end, by its point and whether it is the high one
abbrev pub Widens : (ℕ → ℕ → ℤ) → List Constraint → ℕ × Bool → Ends → Ends → Type 0
Widens final externals (k, true) e f = WidensHigh final externals k e f
Widens final externals (k, false) e f = WidensLow final externals k e f

-- these ends are widened, one after another
abbrev pub WidensAll : (ℕ → ℕ → ℤ) → List Constraint → List (ℕ × Bool) → Ends → Ends → Type 0
WidensAll final externals [] e f = e ≡ f
WidensAll final externals (w ∷ ws) e f = (m : Ends) × Widens final externals w e m × WidensAll final externals ws m f

-- times that keep the final bounds are boxes, of one time each
abbrev pub TimesAreBoxes : Type 0
TimesAreBoxes =
    (arcs : List Constraint) (joined : ℕ → ℕ → Bool) (final : ℕ → ℕ → ℤ) → AreFinals arcs joined final
    → (is_set : ℕ → Bool) (value : ℕ → ℤ) → value 0 ≡ pos 0 → is_set 0 ≡ true → KeepsFinals joined final is_set value
    → (externals : List Constraint) → ((a : Constraint) → Contains externals a → Contains arcs a)
    → (has_box : ℕ → Bool) → ((k : ℕ) → has_box k ≡ true → (is_set k ≡ true) × (joined k 0 ≡ true))
    → (e : Ends) → ((k : ℕ) → has_box k ≡ true → (e.lo k ≡ value k) × (e.hi k ≡ value k)) → AreBoxes final externals has_box value e

-- every end has its widest
abbrev pub WidestEndsAreThere : Type 0
WidestEndsAreThere = (final : ℕ → ℕ → ℤ) (externals : List Constraint) (w : ℕ × Bool) (e : Ends) → (f : Ends) × Widens final externals w e f

-- a widening leaves boxes, each of which has what it had
abbrev pub WideningsKeepBoxes : Type 0
WideningsKeepBoxes =
    (final : ℕ → ℕ → ℤ) (externals : List Constraint) (has_box : ℕ → Bool) (value : ℕ → ℤ) → HasBoxEnds has_box externals
    → (e f : Ends) → AreBoxes final externals has_box value e → (w : ℕ × Bool) → has_box w.0 ≡ true → Widens final externals w e f
    → AreBoxes final externals has_box value f × ((p : ℕ) → (f.lo p ≤ℤ e.lo p) × (e.hi p ≤ℤ f.hi p))

-- it makes its end tight, and every end that was tight stays so
abbrev pub TightEndsStay : Type 0
TightEndsStay =
    (final : ℕ → ℕ → ℤ) (externals : List Constraint) (has_box : ℕ → Bool) (value : ℕ → ℤ) → HasBoxEnds has_box externals
    → (e f : Ends) → AreBoxes final externals has_box value e → (w : ℕ × Bool) → has_box w.0 ≡ true → Widens final externals w e f
    → IsTightEnd final externals f w × ((v : ℕ × Bool) → IsTightEnd final externals e v → IsTightEnd final externals f v)

-- so whatever ends are widened in whatever order, boxes are left in which each of these ends is tight
abbrev pub WidenedBoxesAreTight : Type 0
WidenedBoxesAreTight =
    (final : ℕ → ℕ → ℤ) (externals : List Constraint) (has_box : ℕ → Bool) (value : ℕ → ℤ) → HasBoxEnds has_box externals
    → (e f : Ends) → AreBoxes final externals has_box value e
    → (ws : List (ℕ × Bool)) → AllByRecursion (λ w. has_box w.0 ≡ true) ws → WidensAll final externals ws e f
    → AreBoxes final externals has_box value f × AllByRecursion (IsTightEnd final externals f) ws

-- boxes lie from 0 to the horizon, where the two horizon arcs of their points are among the arcs
abbrev pub BoxesLieWithinTheHorizon : Type 0
BoxesLieWithinTheHorizon =
    (arcs : List Constraint) (joined : ℕ → ℕ → Bool) (final : ℕ → ℕ → ℤ) → AreFinals arcs joined final
    → (externals : List Constraint) (has_box : ℕ → Bool) (value : ℕ → ℤ) (e : Ends) → AreBoxes final externals has_box value e
    → (horizon : ℤ) (k : ℕ) → has_box k ≡ true
    → Contains arcs (record { from = record { 0 = 0 }; to = record { 0 = k }; bound = horizon })
    → Contains arcs (record { from = record { 0 = k }; to = record { 0 = 0 }; bound = pos 0 })
    → (pos 0 ≤ℤ e.lo k) × (e.lo k ≤ℤ e.hi k) × (e.hi k ≤ℤ horizon)
