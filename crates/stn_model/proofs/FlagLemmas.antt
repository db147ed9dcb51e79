-- The flags of shared points: what an arc and a point do to them, and that arcs with z leave them alone.
use Rattle.std.proofs.Common.{◌≡◌, ◌≢◌, ℕ, zero, suc, ◌+◌, ◌-◌, ◌*◌, ◌<◌, ◌≤◌, ℤ, pos, neg_ℤ, Bool, true, false, ◌&&◌, ◌||◌, not, Option, Some, None, List, [], ◌∷◌, ◌++◌, length, get_or, slice_get, set, nat_eq, refl, sym, ap, subst, ◌∙◌, arith, ⊎_elim, length-set, append_assoc, if◌then◌else◌}
use Rattle.std.proofs.lemmas.List.{get_or-set_same, get_or-set_other, get_or_append_left, get_or-append_right, length_push, get_or_read}
use Rattle.std.proofs.lemmas.List.Folds.{list_any-append}
use Rattle.std.proofs.lemmas.Bool.{cases_lt, cases_eq}
use Rattle.std.proofs.lemmas.Bool.Decides.{nat_tests}
use Rattle.std.proofs.lemmas.Bool.{false≢true}
use Rattle.std.proofs.lemmas.Option.{slice_get-get_or}
use Rattle.std.specs.List.{list_any, All}
use Rattle.std.specs.Option.{option_eq, option_map}
use Rattle.stn_model.specs.declared.ids.Constraint.{Constraint}
use Rattle.stn_model.specs.declared.ids.Act.{Act}
use Rattle.stn_model.specs.Arcs.{arc_at, no_arc}
use Rattle.stn_model.specs.Valid.{IsActWithin}
use Rattle.stn_model.specs.Net.{Net, Agent, Place, horizon_arcs, horizon_pair, act_arcs, fixed_arcs, owner_of, no_place}
use Rattle.stn_model.specs.Kinds.{same_owner, is_external, names_point, is_shared, kind_of}
use Rattle.stn_model.specs.declared.ids.Kind.TheVariants.{Reference, Private, Shared}
use Rattle.stn_model.specs.Flags.{AreFlags, AreEnds, marked}

or_false : (b : Bool) → (b || false) ≡ b
or_false true = refl
or_false false = refl

or_true : (b : Bool) → (b || true) ≡ true
or_true true = refl
or_true false = refl

-- the points of an act have one owner
one_owner : (net : Net) (a : Act) → IsActWithin net.places a → (same_owner net a.start.0 a.end.0 ≡ true) × (same_owner net a.end.0 a.start.0 ≡ true)
one_owner net a h =
    let start_in : a.start.0 - 1 < length net.places = omega (arith, h.after_z, h.next, h.there) in
    let end_in : a.end.0 - 1 < length net.places = omega (arith, h.next, h.there) in
    let start_of = owner_at net a.start.0 h.after_z start_in in
    let end_of = owner_at net a.end.0 (omega (arith, h.next)) end_in in
    let same : owner_of net a.end.0 ≡ owner_of net a.start.0 = end_of ∙ ap (λ o. Some o) h.one_owner ∙ sym start_of in
    (ap (λ o. option_eq nat_eq (owner_of net a.start.0) o) same ∙ itself (owner_of net a.start.0), ap (λ o. option_eq nat_eq o (owner_of net a.start.0)) same ∙ itself (owner_of net a.start.0))
  where
    itself : (o : Option ℕ) → option_eq nat_eq o o ≡ true
    itself None = refl
    itself (Some x) = grind (arith, nat_tests)

    owner_at : (net : Net) (p : ℕ) → 0 < p → p - 1 < length net.places → owner_of net p ≡ Some (get_or net.places (p - 1) no_place).owner
    owner_at net p low lt =
        let off : nat_eq p 0 ≡ false = grind (arith, nat_tests) in
        ap (λ b. if b then None else option_map (λ q. q.owner) (slice_get net.places (p - 1))) off
        ∙ ap (option_map (λ q. q.owner)) (slice_get-get_or net.places (p - 1) no_place lt)

-- an arc with z is not external
from_z : (net : Net) (p q : ℕ) (a : Constraint) → a.from.0 ≡ 0 → (is_external net a && names_point p a) ≡ false
from_z net p q a e = grind (arith, nat_tests)

to_z : (net : Net) (p q : ℕ) (a : Constraint) → a.to.0 ≡ 0 → (is_external net a && names_point p a) ≡ false
to_z net p q a e = grind (arith, nat_tests)

-- no arc of a point with z makes it shared
horizon_unmarked : (net : Net) (p : ℕ) (h : ℤ) (n : ℕ) → list_any (λ a. is_external net a && names_point p a) (horizon_arcs h n) ≡ false
horizon_unmarked net p h zero = refl
horizon_unmarked net p h (suc n) =
    list_any-append (λ a. is_external net a && names_point p a) (horizon_arcs h n) (horizon_pair h (suc n))
    ∙ ap (λ b. b || list_any (λ a. is_external net a && names_point p a) (horizon_pair h (suc n))) (horizon_unmarked net p h n)
    ∙ ap (λ b. b || false) (to_z net p 0 (record { from = record { 0 = suc n }; to = record { 0 = 0 }; bound = pos 0 }) refl)

-- an arc between points of one owner is not external
same_ends : (net : Net) (p : ℕ) (a : Constraint) → same_owner net a.from.0 a.to.0 ≡ true → (is_external net a && names_point p a) ≡ false
same_ends net p a e = by (nat_eq a.from.0 0) (nat_eq a.to.0 0) (same_owner net a.from.0 a.to.0) (names_point p a) e
  where
    by : (x y s n : Bool) → s ≡ true → ((not x && not y && not s) && n) ≡ false
    by true y s n h = refl
    by false true s n h = refl
    by false false true n h = refl
    by false false false n h = absurd (false≢true h)

-- the arcs of acts join points of one owner
act_unmarked : (net : Net) (p : ℕ) (acts : List Act) → All (IsActWithin net.places) acts → list_any (λ a. is_external net a && names_point p a) (act_arcs acts) ≡ false
act_unmarked net p [] h = refl
act_unmarked net p (a ∷ acts) h =
    let within : IsActWithin net.places a = h 0 a (omega arith) in
    let rest = act_unmarked net p acts (λ k d lt. h (suc k) d (omega arith)) in
    let forth = same_ends net p (record { from = a.start; to = a.end; bound = a.high }) (one_owner net a within).0 in
    let back = same_ends net p (record { from = a.end; to = a.start; bound = neg_ℤ a.low }) (one_owner net a within).1 in
    neither _ _ _ forth back rest
  where
    neither : (x y z : Bool) → x ≡ false → y ≡ false → z ≡ false → (x || (y || z)) ≡ false
    neither x y z no_x no_y no_z = ap (λ b. b || (y || z)) no_x ∙ ap (λ b. b || z) no_y ∙ no_z

-- so the given arcs alone tell
pub is_shared-given : (net : Net) (p : ℕ) → All (IsActWithin net.places) net.acts → is_shared net p ≡ list_any (λ a. is_external net a && names_point p a) net.given
is_shared-given net p acts =
    let test : Constraint → Bool = λ a. is_external net a && names_point p a in
    list_any-append test (fixed_arcs net) net.given
    ∙ ap (λ b. b || list_any test net.given)
    (list_any-append test (horizon_arcs net.horizon (length net.places)) (act_arcs net.acts)
    ∙ ap (λ b. b || list_any test (act_arcs net.acts)) (horizon_unmarked net p net.horizon (length net.places))
    ∙ act_unmarked net p net.acts acts)

-- the flag of a point is whether it is shared
pub flag_is_shared : (net : Net) (flags : List Bool) → All (IsActWithin net.places) net.acts → AreFlags net flags → (p : ℕ) → 0 < p → p ≤ length net.places
    → get_or flags (p - 1) false ≡ is_shared net p
flag_is_shared net flags acts h p low high =
    let place : p - 1 + 1 ≡ p = omega arith in
    h.each (p - 1) (omega (arith, h.one_each)) ∙ ap (λ q. list_any (λ a. is_external net a && names_point q a) net.given) place ∙ sym (is_shared-given net p acts)

-- each flag after an arc
marked_at : (external : Bool) (from to : ℕ) (flags : List Bool) (k : ℕ) → k < length flags → (external ≡ true → AreEnds (length flags) from to)
    → get_or (marked external from to flags) k false ≡ (get_or flags k false || ((external && (nat_eq from (k + 1) || nat_eq to (k + 1))) || false))
marked_at false from to flags k lt ends = sym (or_false (get_or flags k false))
marked_at true from to flags k lt ends =
    let e = ends refl in
    let len = length-set flags (from - 1) true in
    ⊎_elim
    (λ (at : k ≡ to - 1).
    let here : nat_eq to (k + 1) ≡ true = grind (arith, nat_tests, e.to_low) in
    ap (λ i. get_or (set (set flags (from - 1) true) i true) k false) (sym at) ∙ get_or-set_same (set flags (from - 1) true) k true false (omega arith)
    ∙ sym (ap (λ b. get_or flags k false || ((nat_eq from (k + 1) || b) || false)) here
    ∙ ap (λ b. get_or flags k false || (b || false)) (or_true (nat_eq from (k + 1)))
    ∙ or_true (get_or flags k false)))
    (λ (off : k ≢ to - 1).
    let there : nat_eq to (k + 1) ≡ false = grind (arith, nat_tests, e.to_low) in
    get_or-set_other (set flags (from - 1) true) (to - 1) k true false off
    ∙ ⊎_elim
    (λ (at : k ≡ from - 1).
    let here : nat_eq from (k + 1) ≡ true = grind (arith, nat_tests, e.from_low) in
    ap (λ i. get_or (set flags i true) k false) (sym at) ∙ get_or-set_same flags k true false lt
    ∙ sym (ap (λ b. get_or flags k false || ((b || nat_eq to (k + 1)) || false)) here ∙ or_true (get_or flags k false)))
    (λ (apart : k ≢ from - 1).
    let other : nat_eq from (k + 1) ≡ false = grind (arith, nat_tests, e.from_low) in
    get_or-set_other flags (from - 1) k true false apart
    ∙ sym (ap (λ b. get_or flags k false || ((b || nat_eq to (k + 1)) || false)) other ∙ ap (λ b. get_or flags k false || (b || false)) there ∙ or_false (get_or flags k false)))
    (cases_eq k (from - 1)))
    (cases_eq k (to - 1))

length-marked : (external : Bool) (from to : ℕ) (flags : List Bool) → length (marked external from to flags) ≡ length flags
length-marked false from to flags = refl
length-marked true from to flags = length-set (set flags (from - 1) true) (to - 1) true ∙ length-set flags (from - 1) true

-- an arc marks its ends, where it is external
pub AreFlags-arc : (net : Net) (arc : Constraint) (flags : List Bool) → (is_external net arc ≡ true → AreEnds (length flags) arc.from.0 arc.to.0)
    → AreFlags net flags → AreFlags (record net { given = net.given ++ arc ∷ [] }) (marked (is_external net arc) arc.from.0 arc.to.0 flags)
AreFlags-arc net arc flags ends h = record {
  one_each = length-marked (is_external net arc) arc.from.0 arc.to.0 flags ∙ h.one_each;
  each = λ k lt.
      let within : k < length flags = omega (arith, length-marked (is_external net arc) arc.from.0 arc.to.0 flags) in
      marked_at (is_external net arc) arc.from.0 arc.to.0 flags k within ends
      ∙ ap (λ b. b || ((is_external net arc && names_point (k + 1) arc) || false)) (h.each k within)
      ∙ sym (list_any-append (λ a. is_external net a && names_point (k + 1) a) net.given (arc ∷ []));
}

-- the ends of an external arc between points
pub ends_of_external : (net : Net) (arc : Constraint) (count : ℕ) → count ≡ length net.places → arc.from.0 < length net.places + 1 → arc.to.0 < length net.places + 1
    → is_external net arc ≡ true → AreEnds count arc.from.0 arc.to.0
ends_of_external net arc count len from_in to_in external = record {
  from_low = (above net arc external).0;
  from_high = omega arith;
  to_low = (above net arc external).1;
  to_high = omega arith;
}
  where
    above : (net : Net) (arc : Constraint) → is_external net arc ≡ true → (0 < arc.from.0) × (0 < arc.to.0)
    above net arc h = (grind (arith, nat_tests), grind (arith, nat_tests))

-- a new point has no arc
pub AreFlags-point : (net : Net) (place : Place) (flags : List Bool) → length net.given ≡ 0 → AreFlags net flags
    → AreFlags (record net { places = net.places ++ place ∷ [] }) (flags ++ false ∷ [])
AreFlags-point net place flags none h = record {
  one_each = omega (arith, length_push flags false, length_push net.places place, h.one_each);
  each = λ k lt. unmarked (λ a. is_external (record net { places = net.places ++ place ∷ [] }) a && names_point (k + 1) a) net.given none k lt;
}
  where
    all_false : (k : ℕ) → k < length flags → get_or flags k false ≡ false
    all_false k lt = h.each k lt ∙ nothing (λ a. is_external net a && names_point (k + 1) a) net.given none
      where
        nothing : (test : Constraint → Bool) (arcs : List Constraint) → length arcs ≡ 0 → list_any test arcs ≡ false
        nothing test [] e = refl
        nothing test (x ∷ xs) e = absurd (omega arith)

    unmarked : (test : Constraint → Bool) (arcs : List Constraint) → length arcs ≡ 0 → (k : ℕ)
        → k < length (flags ++ false ∷ []) → get_or (flags ++ false ∷ []) k false ≡ list_any test arcs
    unmarked test [] e k lt =
        ⊎_elim
        (λ (less : k < length flags). get_or_append_left flags (false ∷ []) false k less ∙ all_false k less)
        (λ (more : length flags ≤ k).
        let zeroth : k - length flags ≡ 0 = omega (arith, length_push flags false) in
        get_or-append_right flags (false ∷ []) (length flags) k false refl more ∙ ap (λ i. get_or (false ∷ []) i false) zeroth)
        (cases_lt k (length flags))
    unmarked test (x ∷ xs) e k lt = absurd (omega arith)

-- nor have the two of an act
pub AreFlags-act : (net : Net) (first second : Place) (acts : List Act) (flags : List Bool) → length net.given ≡ 0 → AreFlags net flags
    → AreFlags (record net { places = net.places ++ first ∷ second ∷ []; acts = acts }) ((flags ++ false ∷ []) ++ false ∷ [])
AreFlags-act net first second acts flags none h =
    let once = AreFlags-point net first flags none h in
    let twice = AreFlags-point (record net { places = net.places ++ first ∷ [] }) second (flags ++ false ∷ []) none once in
    let whole = subst (λ ps. AreFlags (record net { places = ps }) ((flags ++ false ∷ []) ++ false ∷ [])) (append_assoc net.places (first ∷ []) (second ∷ [])) twice in
    record { one_each = whole.one_each; each = whole.each }

-- another bound leaves the ends of an arc, so its marks
pub set_bound_any : (test : Constraint → Bool) → ((a : Constraint) (b : ℤ) → test (record a { bound = b }) ≡ test a) → (arcs : List Constraint) (i : ℕ) (b : ℤ)
    → list_any test (set arcs i (record (arc_at arcs i) { bound = b })) ≡ list_any test arcs
set_bound_any test same [] i b = refl
set_bound_any test same (a ∷ arcs) zero b = ap (λ x. x || list_any test arcs) (same a b)
set_bound_any test same (a ∷ arcs) (suc i) b = ap (λ x. test a || x) (set_bound_any test same arcs i b)

pub AreFlags-bound : (net : Net) (i : ℕ) (b : ℤ) (flags : List Bool) → AreFlags net flags
    → AreFlags (record net { given = set net.given i (record (arc_at net.given i) { bound = b }) }) flags
AreFlags-bound net i b flags h = record {
  one_each = h.one_each;
  each = λ k lt. h.each k lt ∙ sym (set_bound_any (λ a. is_external net a && names_point (k + 1) a) (λ a c. refl) net.given i b);
}

-- agents have no flags
pub AreFlags-agents : (net : Net) (agents : List Agent) (flags : List Bool) → AreFlags net flags → AreFlags (record net { agents = agents }) flags
AreFlags-agents net agents flags h = record { one_each = h.one_each; each = h.each }

-- a copy of the network has the same flags
pub AreFlags-same : (net other : Net) (flags copied : List Bool) → other ≡ net → copied ≡ flags → AreFlags net flags → AreFlags other copied
AreFlags-same net other flags copied e f h = subst (λ (w : Net). AreFlags w copied) (sym e) (subst (AreFlags net) (sym f) h)

-- the kind of a point, by its flag
pub kind_by_flag : (net : Net) (flags : List Bool) → All (IsActWithin net.places) net.acts → AreFlags net flags
    → (p : ℕ) (flag : Bool) → 0 < p → p ≤ length net.places → flag ≡ get_or flags (p - 1) flag
    → kind_of net p ≡ (if flag then Shared else Private)
kind_by_flag net flags acts h p flag low high read =
    let off : nat_eq p 0 ≡ false = grind (arith, nat_tests) in
    let known = get_or_read flags (p - 1) flag (omega (arith, h.one_each)) read false ∙ flag_is_shared net flags acts h p low high in
    ap (λ b. if b then Reference else (if is_shared net p then Shared else Private)) off ∙ ap (λ b. if b then Shared else Private) (sym known)
