-- What stands while shared points get their times one by one, each after its later neighbours (the order of Boerkoel and Durfee 2013), and while
-- the ends of their boxes are widened after that: Setting, IsSetting, Assignments, has_box, Stands, AreAllSet, IsAssignable, IsStart, IsAssigned,
-- IsWidened, and the laws StartStands, WindowsStayOpen, AssignedStands, WidenedStands.
use Rattle.std.specs.Prelude.{◌≡◌, ◌≢◌, ◌↔◌, ◌⊎◌, ℕ, Bool, true, false, not, ◌&&◌, ◌==◌, ℤ, pos, ◌≤ℤ◌, List, Contains}
use Rattle.stn_model.specs.declared.ids.Constraint.{Constraint}
use Rattle.stn_model.specs.Joined.{IsJoined, IsLaterNeighbour}
use Rattle.stn_walk.specs.Eliminations.{is_in}
use Rattle.decoupling_facts.specs.FinalBounds.{AreFinals, KeepsFinals}
use Rattle.decoupling_facts.specs.Windows.{LeavesWindow, IsPut}
use Rattle.decoupling_facts.specs.Boxes.{Ends, AreBoxes, IsTightEnd, Widens}

-- what does not change: arcs, an elimination order, which points it joins and their final bounds, the external arcs, and which points are shared
pub record Setting : Type 0 where
  pub arcs : List Constraint
  pub order : List ℕ
  pub joined : ℕ → ℕ → Bool
  pub final : ℕ → ℕ → ℤ
  pub externals : List Constraint
  pub shared : ℕ → Bool

-- the order has the shared points, of which z is none and a later neighbour of each; the external arcs are among the arcs and join shared points
pub record IsSetting (g : Setting) : Type 0 where
  pub finals : AreFinals g.arcs g.joined g.final
  pub tests : (i j : ℕ) → (g.joined i j ≡ true) ↔ IsJoined g.arcs g.order i j
  pub listed : (k : ℕ) → g.shared k ≡ true → is_in g.order k ≡ true
  pub zero : (k : ℕ) → g.shared k ≡ true → IsLaterNeighbour g.arcs g.order k 0
  pub zero_not : g.shared 0 ≡ false
  pub among : (a : Constraint) → Contains g.externals a → Contains g.arcs a
  pub ends : (a : Constraint) → Contains g.externals a → (g.shared a.from.0 ≡ true) × (g.shared a.to.0 ≡ true)

-- which points have times, their times, the ends of their boxes, and which ends were widened, by point and whether it is the high one
pub record Assignments : Type 0 where
  pub set : ℕ → Bool
  pub value : ℕ → ℤ
  pub ends : Ends
  pub wide : ℕ × Bool → Bool

-- a point with a time has a box, but z has none
abbrev pub has_box : Assignments → ℕ → Bool
has_box s k = s.set k && not (k == 0)

-- only z, at 0, and shared points have times, each after its later neighbours; the times keep the final bounds; the boxes are boxes; an end that was
-- not widened is the time itself; none is widened before all shared points have times; and each widened end is tight
pub record Stands (g : Setting) (s : Assignments) : Type 0 where
  pub zero_set : s.set 0 ≡ true
  pub zero_value : s.value 0 ≡ pos 0
  pub only : (k : ℕ) → s.set k ≡ true → (k ≡ 0) ⊎ (g.shared k ≡ true)
  pub upward : (i j : ℕ) → s.set i ≡ true → i ≢ 0 → IsLaterNeighbour g.arcs g.order i j → s.set j ≡ true
  pub keeps : KeepsFinals g.joined g.final s.set s.value
  pub boxes : AreBoxes g.final g.externals (has_box s) s.value s.ends
  pub plain_low : (k : ℕ) → has_box s k ≡ true → s.wide (k, false) ≡ false → s.ends.lo k ≡ s.value k
  pub plain_high : (k : ℕ) → has_box s k ≡ true → s.wide (k, true) ≡ false → s.ends.hi k ≡ s.value k
  pub whole : (w : ℕ × Bool) (k : ℕ) → s.wide w ≡ true → g.shared k ≡ true → s.set k ≡ true
  pub tight : (w : ℕ × Bool) → s.wide w ≡ true → IsTightEnd g.final g.externals s.ends w

-- every shared point has a time
abbrev pub AreAllSet : Setting → Assignments → Type 0
AreAllSet g s = (k : ℕ) → g.shared k ≡ true → s.set k ≡ true

-- k is a shared point without a time, whose later neighbours have theirs
pub record IsAssignable (g : Setting) (s : Assignments) (k : ℕ) : Type 0 where
  pub is_shared : g.shared k ≡ true
  pub unset : s.set k ≡ false
  pub neighbours : (j : ℕ) → IsLaterNeighbour g.arcs g.order k j → s.set j ≡ true

-- z alone has a time, which is 0, and no end is widened
pub record IsStart (s : Assignments) : Type 0 where
  pub set : (k : ℕ) → (s.set k ≡ true) ↔ (k ≡ 0)
  pub zero_value : s.value 0 ≡ pos 0
  pub plain : (w : ℕ × Bool) → s.wide w ≡ false

-- t is s, but that k has the time v, and its box is v alone
pub record IsAssigned (k : ℕ) (v : ℤ) (s t : Assignments) : Type 0 where
  pub set : (p : ℕ) → (t.set p ≡ true) ↔ ((p ≡ k) ⊎ (s.set p ≡ true))
  pub value : IsPut k v s.value t.value
  pub low : IsPut k v s.ends.lo t.ends.lo
  pub high : IsPut k v s.ends.hi t.ends.hi
  pub wide : (w : ℕ × Bool) → t.wide w ≡ s.wide w

-- t is s, but that this end is widened
pub record IsWidened (final : ℕ → ℕ → ℤ) (externals : List Constraint) (w : ℕ × Bool) (s t : Assignments) : Type 0 where
  pub set : (p : ℕ) → t.set p ≡ s.set p
  pub value : (p : ℕ) → t.value p ≡ s.value p
  pub ends : Widens final externals w s.ends t.ends
  pub wide : (v : ℕ × Bool) → (t.wide v ≡ true) ↔ ((v ≡ w) ⊎ (s.wide v ≡ true))

-- it stands while z alone has a time
abbrev pub StartStands : Type 0
StartStands = (g : Setting) → IsSetting g → (s : Assignments) → IsStart s → Stands g s

-- the window that its later neighbours leave a point that may get its time is not empty
abbrev pub WindowsStayOpen : Type 0
WindowsStayOpen =
    (g : Setting) → IsSetting g → (s : Assignments) → Stands g s → (k : ℕ) → IsAssignable g s k
    → (low high : ℤ) → LeavesWindow g.final s.value k (IsLaterNeighbour g.arcs g.order k) low high → low ≤ℤ high

-- with any time in it all stands as before
abbrev pub AssignedStands : Type 0
AssignedStands =
    (g : Setting) → IsSetting g → (s : Assignments) → Stands g s → (k : ℕ) → IsAssignable g s k
    → (low high : ℤ) → LeavesWindow g.final s.value k (IsLaterNeighbour g.arcs g.order k) low high
    → (v : ℤ) → low ≤ℤ v → v ≤ℤ high → (t : Assignments) → IsAssigned k v s t → Stands g t

-- and with an end of a shared point widened, once all shared points have times
abbrev pub WidenedStands : Type 0
WidenedStands =
    (g : Setting) → IsSetting g → (s : Assignments) → Stands g s → AreAllSet g s
    → (w : ℕ × Bool) → g.shared w.0 ≡ true → (t : Assignments) → IsWidened g.final g.externals w s t → Stands g t
