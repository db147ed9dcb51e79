-- What stands stands on: at the start, with one point more in its window, and with one end more widened: start_stands, window_open,
-- assigned_stands, shared_boxed, widened_stands.
use Rattle.std.proofs.Common.{◌≡◌, ◌≢◌, ℕ, Bool, true, false, not, ◌&&◌, List, refl, sym, ap, subst, ◌∙◌, arith, inl, inr, ◌⊎◌, ⊎_elim}
use Rattle.std.specs.Prelude.{◌==◌, ◌↔◌, ℤ, pos, ◌≤ℤ◌}
use Rattle.std.proofs.lemmas.Int.{ints}
use Rattle.std.proofs.lemmas.Bool.{cases_eq, and_parts, false≢true}
use Rattle.std.proofs.lemmas.Bool.Decides.{nat_tests}
use Rattle.stn_model.specs.declared.ids.Constraint.{Constraint}
use Rattle.stn_model.specs.Joined.{IsLaterNeighbour}
use Rattle.decoupling_facts.specs.FinalBounds.{KeepsFinals}
use Rattle.decoupling_facts.specs.Windows.{IsNear, NearPointsMeet, LeavesWindow}
use Rattle.decoupling_facts.specs.Boxes.{Ends, AreBoxes, HasBoxEnds, IsTightEnd, Widens}
use Rattle.decoupling_facts.specs.Assignments.{Setting, IsSetting, Assignments, has_box, Stands, AreAllSet, IsAssignable, IsStart, IsAssigned, IsWidened}
use Rattle.decoupling_facts.proofs.FinalBounds.{finals_obey}
use Rattle.decoupling_facts.proofs.Windows.{window_same, window_not_empty, times_keep}
use Rattle.decoupling_facts.proofs.Neighbours.{neighbours_timed, near_meet}
use Rattle.decoupling_facts.proofs.Boxes.{times_boxes, widening_keeps, widening_tight, tight_stays}

-- an end that is not the widened one is where it was
low_unmoved : (final : ℕ → ℕ → ℤ) (externals : List Constraint) (w : ℕ × Bool) (e f : Ends) → Widens final externals w e f → (p : ℕ) → (p, false) ≢ w
    → f.lo p ≡ e.lo p
low_unmoved final externals (k, true) e f h p apart = h.lows p
low_unmoved final externals (k, false) e f h p apart = h.others p (λ (is : p ≡ k). apart (ap (λ (x : ℕ). (x, false)) is))

high_unmoved : (final : ℕ → ℕ → ℤ) (externals : List Constraint) (w : ℕ × Bool) (e f : Ends) → Widens final externals w e f → (p : ℕ) → (p, true) ≢ w
    → f.hi p ≡ e.hi p
high_unmoved final externals (k, true) e f h p apart = h.others p (λ (is : p ≡ k). apart (ap (λ (x : ℕ). (x, true)) is))
high_unmoved final externals (k, false) e f h p apart = h.highs p

-- boxes of the same points with the same times
boxes_same : (final : ℕ → ℕ → ℤ) (externals : List Constraint) (boxed now_boxed : ℕ → Bool) (value now : ℕ → ℤ) (e : Ends)
    → ((p : ℕ) → now_boxed p ≡ boxed p) → ((p : ℕ) → now p ≡ value p)
    → AreBoxes final externals boxed value e → AreBoxes final externals now_boxed now e
boxes_same final externals boxed now_boxed value now e same is boxes = record {
  low = λ k b. boxes.low k (sym (same k) ∙ b);
  low_value = λ k b. let v = is k in let was = boxes.low_value k (sym (same k) ∙ b) in omega (arith, ints);
  value_high = λ k b. let v = is k in let was = boxes.value_high k (sym (same k) ∙ b) in omega (arith, ints);
  high = λ k b. boxes.high k (sym (same k) ∙ b);
  apart = λ a c from to. boxes.apart a c (sym (same a.from.0) ∙ from) (sym (same a.to.0) ∙ to);
}

-- a test that is not passed
refuted : (b : Bool) → (b ≡ true → ⊥) → b ≡ false
refuted true h = absurd (h refl)
refuted false h = refl

boxed_when : (s : Assignments) (k : ℕ) → s.set k ≡ true → k ≢ 0 → has_box s k ≡ true
boxed_when s k set other = let off : (k == 0) ≡ false = grind (arith, nat_tests) in (λ t. set t && not (off t))

boxed_parts : (s : Assignments) (k : ℕ) → has_box s k ≡ true → (s.set k ≡ true) × (k ≢ 0)
boxed_parts s k h =
    let parts = and_parts (s.set k) (not (k == 0)) h in
    let off = parts.1 in
    (parts.0, (grind (arith, nat_tests)))

module _ (g : Setting) (setting : IsSetting g) where
  shared_not_zero : (k : ℕ) → g.shared k ≡ true → k ≢ 0
  shared_not_zero k h e = false≢true (sym setting.zero_not ∙ ap g.shared (sym e) ∙ h)

  pub start_stands : (s : Assignments) → IsStart s → Stands g s
  start_stands s h = record {
    zero_set = (h.set 0).1 refl;
    zero_value = h.zero_value;
    only = λ k set. inl ((h.set k).0 set);
    upward = λ i j set other n. absurd (other ((h.set i).0 set));
    keeps = keeps;
    boxes = record {
      low = λ k b. absurd (no_box k b);
      low_value = λ k b. absurd (no_box k b);
      value_high = λ k b. absurd (no_box k b);
      high = λ k b. absurd (no_box k b);
      apart = λ a c from to. absurd (no_box a.from.0 from);
    };
    plain_low = λ k b w. absurd (no_box k b);
    plain_high = λ k b w. absurd (no_box k b);
    whole = λ w k t. absurd (false≢true (sym (h.plain w) ∙ t));
    tight = λ w t. absurd (false≢true (sym (h.plain w) ∙ t));
  } where
    no_box : (k : ℕ) → has_box s k ≡ true → ⊥
    no_box k b = let parts = boxed_parts s k b in parts.1 ((h.set k).0 parts.0)

    -- z alone has a time, so the one final bound that could matter is that from z to itself
    keeps : KeepsFinals g.joined g.final s.set s.value
    keeps i j set_i set_j met =
        let r = (finals_obey g.arcs g.joined g.final setting.finals).round i j met in
        let x = (h.set i).0 set_i in
        let y = (h.set j).0 set_j in
        let v : s.value i ≡ s.value j = ap s.value (x ∙ sym y) in
        let there : g.final i j ≡ g.final 0 0 = (λ t. g.final (x t) (y t)) in
        let back : g.final j i ≡ g.final 0 0 = (λ t. g.final (y t) (x t)) in
        omega (arith, ints)

  module _ (s : Assignments) (h : Stands g s) where
    module _ (k : ℕ) (ready : IsAssignable g s k) where
      near : (j : ℕ) → IsNear g.joined s.set k j ↔ IsLaterNeighbour g.arcs g.order k j
      near = neighbours_timed g.arcs g.order g.joined setting.tests s.set h.upward k (setting.listed k ready.is_shared) ready.unset (setting.zero k ready.is_shared)
          ready.neighbours

      meet : NearPointsMeet g.joined s.set k
      meet = near_meet g.arcs g.order g.joined setting.tests s.set h.upward k (setting.listed k ready.is_shared) ready.unset (setting.zero k ready.is_shared)
          ready.neighbours

      -- no end is widened while k has no time
      none_wide : (w : ℕ × Bool) → s.wide w ≡ false
      none_wide w = refuted (s.wide w) (λ t. false≢true (sym ready.unset ∙ h.whole w k t ready.is_shared))

      module _ (low high : ℤ) (w : LeavesWindow g.final s.value k (IsLaterNeighbour g.arcs g.order k) low high) where
        near_window : LeavesWindow g.final s.value k (IsNear g.joined s.set k) low high
        near_window = window_same g.final s.value k (IsLaterNeighbour g.arcs g.order k) (IsNear g.joined s.set k) low high (λ j. ((near j).1, (near j).0)) w

        pub window_open : low ≤ℤ high
        window_open = window_not_empty g.arcs g.joined g.final setting.finals s.set s.value h.keeps k low high near_window meet

        module _ (v : ℤ) (above : low ≤ℤ v) (below : v ≤ℤ high) (t : Assignments) (put : IsAssigned k v s t) where
          set_before : (p : ℕ) → t.set p ≡ true → p ≢ k → s.set p ≡ true
          set_before p set other = elim ((put.set p).0 set) [ inl e ↦ absurd (other e) | inr was ↦ was ]

          set_on : (p : ℕ) → s.set p ≡ true → t.set p ≡ true
          set_on p was = (put.set p).1 (inr was)

          now_plain : (w : ℕ × Bool) → t.wide w ≡ false
          now_plain w = put.wide w ∙ none_wide w

          -- all ends are still at the times
          low_now : (p : ℕ) → has_box t p ≡ true → t.ends.lo p ≡ t.value p
          low_now p b =
              ⊎_elim
              (λ (e : p ≡ k). ap t.ends.lo e ∙ put.low.here ∙ sym put.value.here ∙ ap t.value (sym e))
              (λ (other : p ≢ k).
              let parts = boxed_parts t p b in
              put.low.others p other ∙ h.plain_low p (boxed_when s p (set_before p parts.0 other) parts.1) (none_wide (p, false)) ∙ sym (put.value.others p other))
              (cases_eq p k)

          high_now : (p : ℕ) → has_box t p ≡ true → t.ends.hi p ≡ t.value p
          high_now p b =
              ⊎_elim
              (λ (e : p ≡ k). ap t.ends.hi e ∙ put.high.here ∙ sym put.value.here ∙ ap t.value (sym e))
              (λ (other : p ≢ k).
              let parts = boxed_parts t p b in
              put.high.others p other ∙ h.plain_high p (boxed_when s p (set_before p parts.0 other) parts.1) (none_wide (p, true)) ∙ sym (put.value.others p other))
              (cases_eq p k)

          only_now : (p : ℕ) → t.set p ≡ true → (p ≡ 0) ⊎ (g.shared p ≡ true)
          only_now p set =
              ⊎_elim
              (λ (e : p ≡ k). inr (ap g.shared e ∙ ready.is_shared))
              (λ (other : p ≢ k). h.only p (set_before p set other))
              (cases_eq p k)

          boxed_now : (p : ℕ) → has_box t p ≡ true → (t.set p ≡ true) × (g.joined p 0 ≡ true)
          boxed_now p b =
              let parts = boxed_parts t p b in (
                parts.0,
                elim (only_now p parts.0) [
                  | inl e ↦ absurd (parts.1 e)
                  | inr is ↦ (setting.tests p 0).1 (setting.zero p is).joined
                ],
              )

          keeps_now : KeepsFinals g.joined g.final t.set t.value
          keeps_now = times_keep g.arcs g.joined g.final setting.finals s.set s.value h.keeps k low high near_window v above below t.set t.value
              (record { put = put.value; set_before = set_before })

          zero_now : t.value 0 ≡ pos 0
          zero_now = put.value.others 0 (λ e. shared_not_zero k ready.is_shared (sym e)) ∙ h.zero_value

          pub assigned_stands : Stands g t
          assigned_stands = record {
            zero_set = set_on 0 h.zero_set;
            zero_value = zero_now;
            only = only_now;
            upward = λ i j set other n.
                set_on j (⊎_elim
                (λ (e : i ≡ k). ready.neighbours j (subst (λ (p : ℕ). IsLaterNeighbour g.arcs g.order p j) e n))
                (λ (off : i ≢ k). h.upward i j (set_before i set off) other n)
                (cases_eq i k));
            keeps = keeps_now;
            boxes = times_boxes g.arcs g.joined g.final setting.finals t.set t.value zero_now (set_on 0 h.zero_set) keeps_now g.externals setting.among
                (has_box t) boxed_now t.ends (λ p b. (low_now p b, high_now p b));
            plain_low = λ p b w. low_now p b;
            plain_high = λ p b w. high_now p b;
            whole = λ w p wide. absurd (false≢true (sym (now_plain w) ∙ wide));
            tight = λ w wide. absurd (false≢true (sym (now_plain w) ∙ wide));
          }

    module _ (whole : AreAllSet g s) where
      pub shared_boxed : (k : ℕ) → g.shared k ≡ true → has_box s k ≡ true
      shared_boxed k is = boxed_when s k (whole k is) (shared_not_zero k is)

      box_ends : HasBoxEnds (has_box s) g.externals
      box_ends a c = let e = setting.ends a c in (shared_boxed a.from.0 e.0, shared_boxed a.to.0 e.1)

      module _ (w : ℕ × Bool) (is : g.shared w.0 ≡ true) (t : Assignments) (put : IsWidened g.final g.externals w s t) where
        set_was : (p : ℕ) → t.set p ≡ true → s.set p ≡ true
        set_was p set = sym (put.set p) ∙ set

        box_same : (p : ℕ) → has_box t p ≡ has_box s p
        box_same p = ap (λ b. b && not (p == 0)) (put.set p)

        -- an end that is not wide now is not the one that was widened, and was not wide before
        not_wide : (v : ℕ × Bool) → t.wide v ≡ false → (s.wide v ≡ false) × (v ≢ w)
        not_wide v off = (
          refuted (s.wide v) (λ was. false≢true (sym off ∙ (put.wide v).1 (inr was))),
          λ same. false≢true (sym off ∙ (put.wide v).1 (inl same)),
        )

        pub widened_stands : Stands g t
        widened_stands = record {
          zero_set = put.set 0 ∙ h.zero_set;
          zero_value = put.value 0 ∙ h.zero_value;
          only = λ p set. h.only p (set_was p set);
          upward = λ i j set other n. put.set j ∙ h.upward i j (set_was i set) other n;
          keeps = λ i j set_i set_j met.
              let x = put.value i in
              let y = put.value j in
              let was = h.keeps i j (set_was i set_i) (set_was j set_j) met in
              omega (arith, ints);
          boxes = boxes_same g.final g.externals (has_box s) (has_box t) s.value t.value t.ends box_same put.value
              (widening_keeps g.final g.externals (has_box s) s.value box_ends w (shared_boxed w.0 is) s.ends t.ends h.boxes put.ends);
          plain_low = λ p b off.
              let before = not_wide (p, false) off in
              low_unmoved g.final g.externals w s.ends t.ends put.ends p before.1 ∙ h.plain_low p (sym (box_same p) ∙ b) before.0 ∙ sym (put.value p);
          plain_high = λ p b off.
              let before = not_wide (p, true) off in
              high_unmoved g.final g.externals w s.ends t.ends put.ends p before.1 ∙ h.plain_high p (sym (box_same p) ∙ b) before.0 ∙ sym (put.value p);
          whole = λ v p wide shares. put.set p ∙ whole p shares;
          tight = λ v wide. elim ((put.wide v).0 wide) [
            | inl e ↦ subst (λ (x : ℕ × Bool). IsTightEnd g.final g.externals t.ends x) (sym e) (widening_tight g.final g.externals w s.ends t.ends put.ends)
            | inr was ↦ tight_stays g.final g.externals (has_box s) s.value box_ends w (shared_boxed w.0 is) s.ends t.ends h.boxes put.ends v (h.tight v was)
          ];
        }
