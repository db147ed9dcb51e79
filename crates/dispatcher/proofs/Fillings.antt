-- How choices made in turn are seen, and that they are a schedule once each point has one.
use Rattle.std.proofs.Common.{◌≡◌, ◌≢◌, ℕ, ◌+◌, ◌-◌, ◌<◌, ◌≤◌, ℤ, pos, neg_ℤ, ◌-ℤ◌, ◌≤ℤ◌, Bool, true, false, List, [], ◌∷◌, map, length, drop, set, refl, sym, ap, subst, ◌∙◌, ⊎_elim, arith, get_or-set_same, get_or-set_other, Option, Some, None, is_some}
use Rattle.std.specs.Option.{unwrap_or}
use Rattle.std.specs.List.{Contains}
use Rattle.std.proofs.lemmas.List.{get_or_default, get_or-map, get_or_past, drop_more, drop_all, get_or-drop, length-drop, length-map}
use Rattle.std.proofs.lemmas.Int.{ints}
use Rattle.std.proofs.lemmas.Bool.{cases_eq, cases_lt, false≢true}
use Rattle.stn_model.specs.declared.ids.Constraint.{Constraint}
use Rattle.stn_model.specs.declared.ids.Lean.{Lean}
use Rattle.stn_model.specs.Arcs.{arc_at}
use Rattle.stn_model.specs.Schedules.{time_at}
use Rattle.elim_step.specs.Eliminated.{point_at}
use Rattle.private_elim.specs.Locals.{LocalView, arcs_in}
use Rattle.dispatcher.specs.Choices.{IsScheduleOf, Keeps, HasWindow, LiesWithin, choice_at, Takes, Sets, Completes, times_of}
use Rattle.dispatcher.specs.Standing.{IsStanding}
use Rattle.dispatcher.proofs.Standings.{window_of, earliest_keeps}

-- a window is of two numbers
pub window_is : (arcs : List Constraint) (points : List ℕ) (choices : List (Option ℤ)) (latest early : List ℤ) → IsStanding arcs points choices latest early
    → (p : ℕ) → Contains points p → (lo hi : ℤ) → HasWindow arcs choices p lo hi → (neg_ℤ (time_at early p) ≡ lo) × (time_at latest p ≡ hi)
window_is arcs points choices latest early h p there lo hi w =
    let own = window_of arcs points choices latest early h p there in
    let soonest = own.earliest in
    let first = w.earliest in
    let last = w.latest in
    let a = own.least first.0 first.1 in
    let b = w.least soonest.0 soonest.1 in
    let c = own.greatest last.0 last.1 in
    let d = w.greatest latest h.keeps in
    let first_is = first.2 in
    let last_is = last.2 in
    let soonest_is = soonest.2 in
    (omega (arith, ints), omega (arith, ints))

-- so a time in it is between what the two tables have
pub between : (arcs : List Constraint) (points : List ℕ) (choices : List (Option ℤ)) (latest early : List ℤ) → IsStanding arcs points choices latest early
    → (p : ℕ) → Contains points p → (t : ℤ) → LiesWithin arcs choices p t → (neg_ℤ (time_at early p) ≤ℤ t) × (t ≤ℤ time_at latest p)
between arcs points choices latest early h p there t w =
    let is = window_is arcs points choices latest early h p there w.0 w.1 w.2 in
    let lo_is = is.0 in
    let hi_is = is.1 in
    let above = w.3 in
    let below = w.4 in
    (omega (arith, ints), omega (arith, ints))

-- what two choices have in common: a point that is chosen stays so
pub kept_by : (answers : Lean → ℤ → ℤ → ℤ → Type 0) (arcs : List Constraint) (lean : Lean) (choices : List (Option ℤ)) (p : ℕ) (next : List (Option ℤ))
    → Sets answers arcs lean choices p next → (q : ℕ) (t : ℤ) → choice_at choices q ≡ Some t → choice_at next q ≡ Some t
kept_by answers arcs lean choices p next s q t e = ⊎_elim
    (λ (same : (is_some (choice_at choices p) ≡ true) × (next ≡ choices)). ap (λ cs. choice_at cs q) same.1 ∙ e)
    (λ (takes : Takes answers arcs lean choices p next).
    ap (λ cs. choice_at cs q) takes.now
    ∙ get_or-set_other choices p q (Some takes.time) None
    (λ (here : q ≡ p). false≢true (ap is_some (sym takes.was ∙ ap (choice_at choices) (sym here) ∙ e))) ∙ e)
    s

-- what is not some is none
pub not_some : (o : Option ℤ) → is_some o ≡ false → o ≡ None
not_some None e = refl
not_some (Some t) e = absurd (false≢true (sym e))

-- a chosen point has a time
pub time_of : (o : Option ℤ) → is_some o ≡ true → (t : ℤ) × (o ≡ Some t)
time_of None e = absurd (false≢true e)
time_of (Some t) e = (t, refl)

-- a point that was chosen is chosen after it
pub still_chosen : (answers : Lean → ℤ → ℤ → ℤ → Type 0) (arcs : List Constraint) (lean : Lean) (choices : List (Option ℤ)) (p : ℕ) (next : List (Option ℤ))
    → Sets answers arcs lean choices p next → (q : ℕ) → is_some (choice_at choices q) ≡ true → is_some (choice_at next q) ≡ true
still_chosen answers arcs lean choices p next s q e =
    let t = time_of (choice_at choices q) e in
    ap is_some (kept_by answers arcs lean choices p next s q t.0 t.1)

-- the choices so far, the first of the places that are left, the choices at the start and all points: what is made of the rest makes all of it, each
-- point before that place but z has a time, and what was chosen is
pub record IsFilling (answers : Lean → ℤ → ℤ → ℤ → Type 0) (arcs : List Constraint) (lean : Lean) (points : List ℕ) (old choices : List (Option ℤ)) (place : ℕ)
    : Type 0 where
  pub ahead : (last : List (Option ℤ)) → Completes answers arcs lean choices (drop place points) last → Completes answers arcs lean old (drop 1 points) last
  pub all : (k : ℕ) → 0 < k → k < place → is_some (choice_at choices (point_at points k)) ≡ true
  pub kept : (q : ℕ) (t : ℤ) → choice_at old q ≡ Some t → choice_at choices q ≡ Some t

pub fills_first : (answers : Lean → ℤ → ℤ → ℤ → Type 0) (arcs : List Constraint) (lean : Lean) (points : List ℕ) (old : List (Option ℤ))
    → IsFilling answers arcs lean points old old 1
fills_first answers arcs lean points old = record {
  ahead = λ last h. h;
  all = λ k above below. absurd (omega arith);
  kept = λ q t e. e;
}

pub fills_on : (answers : Lean → ℤ → ℤ → ℤ → Type 0) (arcs : List Constraint) (lean : Lean) (points : List ℕ) (old choices next : List (Option ℤ)) (place : ℕ)
    → place < length points → Sets answers arcs lean choices (point_at points place) next → is_some (choice_at next (point_at points place)) ≡ true
    → IsFilling answers arcs lean points old choices place → IsFilling answers arcs lean points old next (place + 1)
fills_on answers arcs lean points old choices next place lt s some h = record {
  ahead = λ last rest.
      h.ahead last (subst (λ (ps : List ℕ). Completes answers arcs lean choices ps last) (sym (drop_more points place 0 lt)) (next, s, rest));
  all = λ k above below. ⊎_elim
      (λ (e : k ≡ place).
      subst (λ (i : ℕ). is_some (choice_at next (point_at points i)) ≡ true) (sym e) some)
      (λ (other : k ≢ place).
      still_chosen answers arcs lean choices (point_at points place) next s (point_at points k)
      (h.all k above (⊎_elim (λ (less : k < place). less) (λ (more : place ≤ k). absurd (other (omega arith))) (cases_lt k place))))
      (cases_eq k place);
  kept = λ q t e. kept_by answers arcs lean choices (point_at points place) next s q t (h.kept q t e);
}

-- the same where the local network and the lean are known by equations
pub fills_next : (answers : Lean → ℤ → ℤ → ℤ → Type 0) (local was : LocalView) (lean first : Lean) (old choices next : List (Option ℤ)) (place : ℕ)
    → local ≡ was → lean ≡ first → place < length was.points → Sets answers (arcs_in local) lean choices (point_at local.points place) next
    → is_some (choice_at next (point_at local.points place)) ≡ true → IsFilling answers (arcs_in was) first was.points old choices place
    → IsFilling answers (arcs_in was) first was.points old next (place + 1)
fills_next answers local was lean first old choices next place same same_lean lt s some h =
    fills_on answers (arcs_in was) first was.points old choices next place lt
    (subst (λ (l : Lean). Sets answers (arcs_in was) l choices (point_at was.points place) next) same_lean
    (subst (λ (v : LocalView). Sets answers (arcs_in v) lean choices (point_at v.points place) next) same s))
    (subst (λ (v : LocalView). is_some (choice_at next (point_at v.points place)) ≡ true) same some) h

-- a point that has no time takes an answer in its window
pub takes_answer : (answers : Lean → ℤ → ℤ → ℤ → Type 0) (arcs : List Constraint) (lean : Lean) (choices : List (Option ℤ)) (p q : ℕ) (next : List (Option ℤ))
    (o : Option ℤ) (lo hi t : ℤ) → p ≡ q → o ≡ choice_at choices p → is_some o ≡ false → HasWindow arcs choices p lo hi → answers lean lo hi t
    → next ≡ set choices p (Some t) → Takes answers arcs lean choices q next
takes_answer answers arcs lean choices p q next o lo hi t same was none window answer now =
    subst (λ (x : ℕ). Takes answers arcs lean choices x next) same
    (record { was = sym was ∙ not_some o none; lo = lo; hi = hi; window = window; time = t; answer = answer; now = now })

-- at the end nothing is left
pub fills_last : (answers : Lean → ℤ → ℤ → ℤ → Type 0) (arcs : List Constraint) (lean : Lean) (points : List ℕ) (old choices : List (Option ℤ)) (place : ℕ)
    → length points ≤ place → IsFilling answers arcs lean points old choices place → Completes answers arcs lean old (drop 1 points) choices
fills_last answers arcs lean points old choices place past h =
    h.ahead choices (subst (λ (ps : List ℕ). Completes answers arcs lean choices ps choices) (sym (drop_all place points past)) refl)

pub all_filled : (answers : Lean → ℤ → ℤ → ℤ → Type 0) (arcs : List Constraint) (lean : Lean) (points : List ℕ) (old choices : List (Option ℤ)) (place : ℕ)
    → length points ≤ place → IsFilling answers arcs lean points old choices place
    → (p : ℕ) → Contains (drop 1 points) p → is_some (choice_at choices p) ≡ true
all_filled answers arcs lean points old choices place past h p there =
    let k = there.0 in
    let len = length-drop 1 points in
    let lt = there.1 in
    let at : point_at points (1 + k) ≡ p = sym (get_or-drop 1 points k 0) ∙ get_or_default (drop 1 points) k 0 p there.1 ∙ there.2 in
    subst (λ (q : ℕ). is_some (choice_at choices q) ≡ true) at (h.all (1 + k) (omega arith) (omega arith))

-- the time of a point is the one that was chosen
times_at : (choices : List (Option ℤ)) (p : ℕ) → time_at (times_of choices) p ≡ unwrap_or (choice_at choices p) (pos 0)
times_at choices p = ⊎_elim
    (λ (lt : p < length choices). get_or-map (λ o. unwrap_or o (pos 0)) choices p None (pos 0) lt)
    (λ (past : length choices ≤ p).
    get_or_past (times_of choices) p (pos 0) (let e = length-map choices (λ o. unwrap_or o (pos 0)) in omega arith)
    ∙ ap (λ o. unwrap_or o (pos 0)) (sym (get_or_past choices p None past)))
    (cases_lt p (length choices))

-- z has its time whether it is chosen or not
zero_time : (choices : List (Option ℤ)) (latest : List ℤ) → ((t : ℤ) → choice_at choices 0 ≡ Some t → time_at latest 0 ≡ t) → time_at latest 0 ≡ pos 0
    → time_at (times_of choices) 0 ≡ time_at latest 0
zero_time [] latest chosen z = sym z
zero_time (None ∷ choices) latest chosen z = sym z
zero_time (Some t ∷ choices) latest chosen z = sym (chosen t refl)

-- where each point but z is chosen, the times are those of the latest schedule
pub chosen_times : (arcs : List Constraint) (points : List ℕ) (choices : List (Option ℤ)) (latest early : List ℤ) → IsStanding arcs points choices latest early
    → point_at points 0 ≡ 0 → ((p : ℕ) → Contains (drop 1 points) p → is_some (choice_at choices p) ≡ true) → IsScheduleOf arcs (times_of choices)
chosen_times arcs points choices latest early h first all =
    let z = h.keeps.schedule.0 in
    let of_choice : (o : Option ℤ) (p : ℕ) → choice_at choices p ≡ o → (is_some o ≡ true) → time_at (times_of choices) p ≡ time_at latest p =
    λ o p e some.
    let t = time_of o some in
    times_at choices p ∙ ap (λ x. unwrap_or x (pos 0)) (e ∙ t.1) ∙ sym (h.keeps.chosen p t.0 (e ∙ t.1)) in
    let at_z : time_at (times_of choices) 0 ≡ time_at latest 0 = zero_time choices latest (h.keeps.chosen 0) z in
    let same : (p : ℕ) → Contains points p → time_at (times_of choices) p ≡ time_at latest p =
    λ p there. ⊎_elim
    (λ (above : 0 < there.0).
    let len = length-drop 1 points in
    let lt = there.1 in
    let place : 1 + (there.0 - 1) ≡ there.0 = omega arith in
    let is : point_at points there.0 ≡ p = get_or_default points there.0 0 p there.1 ∙ there.2 in
    let short : there.0 - 1 < length (drop 1 points) = omega arith in
    let at : point_at (drop 1 points) (there.0 - 1) ≡ p = get_or-drop 1 points (there.0 - 1) 0 ∙ ap (point_at points) place ∙ is in
    of_choice (choice_at choices p) p refl (all p (there.0 - 1, short, get_or_default (drop 1 points) (there.0 - 1) p 0 short ∙ at)))
    (λ (low : there.0 ≤ 0).
    let e : there.0 ≡ 0 = omega arith in
    let is : p ≡ 0 = sym (get_or_default points there.0 0 p there.1 ∙ there.2) ∙ ap (point_at points) e ∙ first in
    ap (time_at (times_of choices)) is ∙ at_z ∙ ap (time_at latest) (sym is))
    (cases_lt 0 there.0) in (
      at_z ∙ z,
      λ n lt.
          let a = h.among n lt in
          let to_same = same (arc_at arcs n).to.0 a.to_known in
          let from_same = same (arc_at arcs n).from.0 a.from_known in
          let k = h.keeps.schedule.1 n lt in
          omega (arith, ints),
    )
