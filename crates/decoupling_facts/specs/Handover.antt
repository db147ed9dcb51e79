-- The boxes of the handover network, worked: ann_entries, bob_entries, meeting, is_met, joined, final, times, single, boxes, by_number, turned,
-- IsLeast, HandoverBoxes.
-- Ann hands over from a2, point 2, to Bob's b1, point 3, within 5. Least bounds put a2 from 30 to 60 and b1 from 30 to 65 after z. Both agents
-- are early. In the order a2, b1 the point b1 gets its time first: 30. Then only 30 is left for a2. Widened, b1 has room from 30 to 35.
use Rattle.std.specs.Prelude.{◌≡◌, ℕ, Bool, true, false, ℤ, pos, neg_ℤ, ◌==◌, ◌&&◌, ◌||◌, not, ◌⊎◌, List, [], ◌∷◌, Some, None, if◌then◌else◌}
use Rattle.std.specs.List.{AllByRecursion}
use Rattle.stn_model.specs.declared.ids.Constraint.{Constraint}
use Rattle.stn_model.specs.declared.ids.Lean.TheVariants.{Early}
use Rattle.stn_model.specs.Net.{arcs_of, point_count}
use Rattle.stn_model.specs.Conflicts.{external_arcs}
use Rattle.stn_model.specs.Schedules.{IsLeastBound}
use Rattle.stn_model.specs.Summaries.{Entry}
use Rattle.meeting_arcs.specs.Meeting.{meeting_arcs, IsMeeting}
use Rattle.sample_nets.specs.Samples.{handover}
use Rattle.decoupling_facts.specs.FinalBounds.{AreFinals, KeepsFinals}
use Rattle.decoupling_facts.specs.Windows.{LeavesWindow, lean_time}
use Rattle.decoupling_facts.specs.Boxes.{Ends, AreBoxes, IsTightEnd, WidensAll}
use Rattle.decoupling_facts.specs.Decouplings.{IsDecoupling, IsBlocker}

-- the summaries: a2 is at most 60 after z and at least 30, and b1 at most 90 and at least 0
abbrev pub ann_entries : List Entry
ann_entries = record { from = 0; to = 2; weight = pos 60 } ∷ record { from = 2; to = 0; weight = neg_ℤ (pos 30) } ∷ []

abbrev pub bob_entries : List Entry
bob_entries = record { from = 0; to = 3; weight = pos 90 } ∷ record { from = 3; to = 0; weight = pos 0 } ∷ []

abbrev pub meeting : List Constraint
meeting = meeting_arcs handover (ann_entries ∷ bob_entries ∷ [])

-- z, a2 and b1
abbrev pub is_met : ℕ → Bool
is_met p = (p == 0) || (p == 2) || (p == 3)

abbrev pub joined : ℕ → ℕ → Bool
joined i j = is_met i && is_met j && not (i == j)

abbrev pub final : ℕ → ℕ → ℤ
final i j =
    if i == 0 then (if j == 2 then pos 60 else pos 65)
    else (if j == 0 then neg_ℤ (pos 30) else (if i == 2 then pos 5 else pos 0))

-- the times of z and b1, and then that of a2 with them
abbrev pub times : ℕ → ℤ
times p = if p == 0 then pos 0 else pos 30

abbrev pub single : Ends
single = record { lo = times; hi = times }

-- the boxes: a2 at 30, b1 from 30 to 35
abbrev pub boxes : Ends
boxes = record { lo = times; hi = λ p. if p == 3 then pos 35 else times p }

-- the ends of all boxes, in one order and in another
abbrev pub by_number : List (ℕ × Bool)
by_number = (2, false) ∷ (2, true) ∷ (3, false) ∷ (3, true) ∷ []

abbrev pub turned : List (ℕ × Bool)
turned = (3, true) ∷ (3, false) ∷ (2, true) ∷ (2, false) ∷ []

-- the least bound from i to j
abbrev pub IsLeast : ℕ → ℕ → ℤ → Type 0
IsLeast i j b = IsLeastBound (point_count handover) (arcs_of handover) i j b

-- what the definitions say of it: arc 12 keeps the high end of a2 where it is, and arc 11 that of b1
pub record HandoverBoxes : Type 0 where
  pub a2_latest : IsLeast 0 2 (pos 60)
  pub a2_earliest : IsLeast 2 0 (neg_ℤ (pos 30))
  pub b1_latest : IsLeast 0 3 (pos 65)
  pub b1_earliest : IsLeast 3 0 (neg_ℤ (pos 30))
  pub meets : IsMeeting handover (ann_entries ∷ bob_entries ∷ []) meeting
  pub finals : AreFinals meeting joined final
  pub first_window : LeavesWindow final times 3 (λ j. j ≡ 0) (pos 30) (pos 65)
  pub first_time : lean_time Early (pos 30) (pos 65) ≡ pos 30
  pub second_window : LeavesWindow final times 2 (λ j. (j ≡ 0) ⊎ (j ≡ 3)) (pos 30) (pos 30)
  pub second_time : lean_time Early (pos 30) (pos 30) ≡ pos 30
  pub keeps : KeepsFinals joined final is_met times
  pub widened : WidensAll final (external_arcs handover) by_number single boxes
  pub widened_turned : WidensAll final (external_arcs handover) turned single boxes
  pub are_boxes : AreBoxes final (external_arcs handover) (λ p. (p == 2) || (p == 3)) times boxes
  pub tight : AllByRecursion (IsTightEnd final (external_arcs handover) boxes) by_number
  pub decoupling : IsDecoupling handover boxes
  pub a2_low_blocker : IsBlocker handover final boxes (2, false) None
  pub a2_high_blocker : IsBlocker handover final boxes (2, true) (Some 12)
  pub b1_low_blocker : IsBlocker handover final boxes (3, false) None
  pub b1_high_blocker : IsBlocker handover final boxes (3, true) (Some 11)
