-- The arcs that windows add.
use Rattle.std.proofs.Common.{◌≡◌, ◌≢◌, ℕ, ◌*◌, ℤ, neg_ℤ, Bool, List, [], ◌∷◌, ◌++◌, length, None, refl, ap, ◌∙◌, arith}
use Rattle.std.specs.List.{All, Contains}
use Rattle.std.proofs.lemmas.Int.{ints}
use Rattle.std.proofs.lemmas.List.Elements.{All-nil, All-cons, All-head, All-tail, All-append}
use Rattle.std.proofs.lemmas.List.{append_assoc}
use Rattle.elim_step.specs.declared.summary.Window.{Window}
use Rattle.private_elim.specs.declared.local.LocalArc.{LocalArc}
use Rattle.private_elim.specs.Locals.{LocalView, IsLocal, numbered_own, window_arcs, IsAdded, IsWindowOf}
use Rattle.private_elim.proofs.locals.LocalFacts.{z_contained}

-- the arc from z to the point of a window
abbrev pub upper_of : Window → LocalArc
upper_of w = record { number = None; arc = record { from = record { 0 = 0 }; to = w.point; bound = w.hi } }

-- the arc from the point to z
abbrev pub lower_of : Window → LocalArc
lower_of w = record { number = None; arc = record { from = w.point; to = record { 0 = 0 }; bound = neg_ℤ w.lo } }

-- two for each window
pub length-window_arcs : (ws : List Window) → length (window_arcs ws) ≡ 2 * length ws
length-window_arcs [] = refl
length-window_arcs (w ∷ ws) = omega (arith, length-window_arcs ws)

-- the arcs after both were pushed, one after the other
pub both_pushed : (w : Window) (arcs once twice : List LocalArc) (a b : LocalArc) (hi lo : ℤ) → hi ≡ w.hi → lo ≡ neg_ℤ w.lo
    → a ≡ record (upper_of w) { arc = record { from = record { 0 = 0 }; to = w.point; bound = hi } }
    → b ≡ record (lower_of w) { arc = record { from = w.point; to = record { 0 = 0 }; bound = lo } }
    → once ≡ arcs ++ a ∷ [] → twice ≡ once ++ b ∷ [] → twice ≡ arcs ++ window_arcs (w ∷ [])
both_pushed w arcs once twice a b hi lo hi_is lo_is a_is b_is first second =
    let upper : a ≡ upper_of w = a_is ∙ ap (λ (z : ℤ). record (upper_of w) { arc = record { from = record { 0 = 0 }; to = w.point; bound = z } }) hi_is in
    let lower : b ≡ lower_of w = b_is ∙ ap (λ (z : ℤ). record (lower_of w) { arc = record { from = w.point; to = record { 0 = 0 }; bound = z } }) lo_is in
    second ∙ ap (λ xs. xs ++ b ∷ []) first ∙ append_assoc arcs (a ∷ []) (b ∷ [])
    ∙ ap (λ x. arcs ++ x ∷ b ∷ []) upper ∙ ap (λ x. arcs ++ upper_of w ∷ x ∷ []) lower

-- each of them may be added
pub windows_added : (points : List ℕ) (ws : List Window) → Contains points 0 → All (IsWindowOf points) ws → All (IsAdded points) (window_arcs ws)
windows_added points [] z h = All-nil (IsAdded points)
windows_added points (w ∷ ws) z h =
    let here = All-head (IsWindowOf points) w ws h in
    let range = here.range in
    let other : w.point.0 ≢ 0 = here.not_z in
    let upper : IsAdded points (upper_of w) =
    record { number = refl; starts = z; ends = here.known; different = omega arith; low = omega (arith, ints, range.hi_low); high = range.hi_high } in
    let lower : IsAdded points (lower_of w) =
    record {
      number = refl;
      starts = here.known;
      ends = z;
      different = other;
      low = omega (arith, ints, range.lo_high);
      high = omega (arith, ints, range.lo_low);
    } in
    All-cons (IsAdded points) (upper_of w) (lower_of w ∷ window_arcs ws) upper
    (All-cons (IsAdded points) (lower_of w) (window_arcs ws) lower (windows_added points ws z (All-tail (IsWindowOf points) w ws h)))

-- a local problem with the arcs of windows is one
pub IsLocal-narrowed : (v : LocalView) → IsLocal v → (ws : List Window) → All (IsWindowOf v.points) ws
    → IsLocal (record v { arcs = v.arcs ++ window_arcs ws })
IsLocal-narrowed v h ws known = record {
  net = h.net;
  valid = h.valid;
  known = h.known;
  added = h.added ++ window_arcs ws;
  each = All-append (IsAdded v.points) h.added (window_arcs ws) h.each (windows_added v.points ws (z_contained v h) known);
  points = h.points;
  shared = h.shared;
  arcs = ap (λ xs. xs ++ window_arcs ws) h.arcs ∙ append_assoc (numbered_own h.net v.agent) h.added (window_arcs ws);
}

-- lists that are equal are seen as one local problem
pub IsLocal-same : (agent : ℕ) (points points' : List ℕ) (shared shared' : List Bool) (arcs arcs' : List LocalArc) → points' ≡ points → shared' ≡ shared
    → arcs' ≡ arcs
    → IsLocal (record { agent = agent; points = points; shared = shared; arcs = arcs })
    → IsLocal (record { agent = agent; points = points'; shared = shared'; arcs = arcs' })
IsLocal-same agent points points' shared shared' arcs arcs' e f g h = rw (e, f, g) h
