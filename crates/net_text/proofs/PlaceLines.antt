-- The lines of points and acts, one after the other.
use Rattle.std.proofs.Common.{◌≡◌, ℕ, ◌+◌, ◌-◌, ◌<◌, ◌≤◌, ◌==◌, Bool, false, cond, List, [], ◌∷◌, ◌++◌, length, drop, get_or, refl, sym, ap, subst, ◌∙◌, ⊎_elim, arith}
use Rattle.std.proofs.lemmas.Bool.{cases_lt, eq-eqb, ne_eqb}
use Rattle.std.proofs.lemmas.List.{append-nil, append_assoc, drop_more, drop_all}
use Rattle.stn_model.specs.declared.ids.Act.{Act}
use Rattle.stn_model.specs.Net.{Net, Place, no_place, no_act, point_count}
use Rattle.net_text.specs.Plain.{point_line, act_line, place_lines, places_left, StartsAt}

-- no act of these starts at that point before the others
abbrev NoneFirst : ℕ → List Act → Type 0
NoneFirst n [] = Unit {0}
NoneFirst n (a ∷ acts) = (a.start.0 == n) ≡ false

point_first : (net : Net) (n : ℕ) (p : Place) (places : List Place) (acts : List Act) → NoneFirst n acts
    → place_lines net n (p ∷ places) acts ≡ point_line net p ++ place_lines net (n + 1) places acts
point_first net n p places [] none = refl
point_first net n p [] (a ∷ acts) none = sym (append-nil (point_line net p))
point_first net n p (q ∷ places) (a ∷ acts) none =
    ap (λ (t : Bool). cond t (act_line net p a ++ place_lines net (n + 2) places acts)
    (point_line net p ++ place_lines net (n + 1) (q ∷ places) (a ∷ acts))) none

act_first : (net : Net) (n : ℕ) (p q : Place) (places : List Place) (a : Act) (acts : List Act) → a.start.0 ≡ n
    → place_lines net n (p ∷ q ∷ places) (a ∷ acts) ≡ act_line net p a ++ place_lines net (n + 2) places acts
act_first net n p q places a acts here =
    ap (λ (t : Bool). cond t (act_line net p a ++ place_lines net (n + 2) places acts) (point_line net p ++ place_lines net (n + 1) (q ∷ places) (a ∷ acts)))
    (eq-eqb a.start.0 n here)

none_first : (acts : List Act) (act n : ℕ) → (StartsAt acts act n → ⊥) → NoneFirst n (drop act acts)
none_first acts act n other =
    ⊎_elim
    (λ (lt : act < length acts).
    subst (NoneFirst n) (sym (drop_more acts act no_act lt)) (ne_eqb (get_or acts act no_act).start.0 n (λ e. other (lt, e))))
    (λ (past : length acts ≤ act). subst (NoneFirst n) (sym (drop_all act acts past)) tt)
    (cases_lt act (length acts))

-- a point where no act starts has its own line
pub point_taken : (net : Net) (point act : ℕ) → 0 < point → point < point_count net → (StartsAt net.acts act point → ⊥)
    → places_left net point act ≡ point_line net (get_or net.places (point - 1) no_place) ++ places_left net (point + 1) act
point_taken net point act not_z in_net other =
    let p : Place = get_or net.places (point - 1) no_place in
    let next : point - 1 + 1 ≡ point + 1 - 1 = omega arith in
    ap (λ (ps : List Place). place_lines net point ps (drop act net.acts)) (drop_more net.places (point - 1) no_place (omega arith))
    ∙ point_first net point p (drop (point - 1 + 1) net.places) (drop act net.acts) (none_first net.acts act point other)
    ∙ ap (λ k. point_line net p ++ place_lines net (point + 1) (drop k net.places) (drop act net.acts)) next

-- an act that starts at a point stands for its two points
pub act_taken : (net : Net) (point act : ℕ) → 0 < point → point + 1 < point_count net → StartsAt net.acts act point
    → places_left net point act ≡ act_line net (get_or net.places (point - 1) no_place) (get_or net.acts act no_act) ++ places_left net (point + 2) (act + 1)
act_taken net point act not_z in_net starts =
    let p : Place = get_or net.places (point - 1) no_place in
    let q : Place = get_or net.places (point - 1 + 1) no_place in
    let a : Act = get_or net.acts act no_act in
    let next : point - 1 + 1 + 1 ≡ point + 2 - 1 = omega arith in
    ap (λ (ps : List Place). place_lines net point ps (drop act net.acts))
    (drop_more net.places (point - 1) no_place (omega arith) ∙ ap (λ (ps : List Place). p ∷ ps) (drop_more net.places (point - 1 + 1) no_place (omega arith)))
    ∙ ap (λ (acts : List Act). place_lines net point (p ∷ q ∷ drop (point - 1 + 1 + 1) net.places) acts) (drop_more net.acts act no_act starts.0)
    ∙ act_first net point p q (drop (point - 1 + 1 + 1) net.places) a (drop (act + 1) net.acts) starts.1
    ∙ ap (λ k. act_line net p a ++ place_lines net (point + 2) (drop k net.places) (drop (act + 1) net.acts)) next

-- no line is left after the last point
pub places_end : (net : Net) (point act : ℕ) → point_count net ≤ point → places_left net point act ≡ []
places_end net point act past = ap (λ (ps : List Place). place_lines net point ps (drop act net.acts)) (drop_all (point - 1) net.places (omega arith))

-- a line and what is left after it
pub appended : (out new line left all : List ℕ) → new ≡ out ++ line → all ≡ line ++ left → new ++ left ≡ out ++ all
appended out new line left all is splits =
    ap (λ (xs : List ℕ). xs ++ left) is ∙ append_assoc out line left ∙ ap (λ (xs : List ℕ). out ++ xs) (sym splits)

pub nothing_left : (out all left : List ℕ) → out ++ left ≡ all → left ≡ [] → out ≡ all
nothing_left out all left so none = sym (append-nil out) ∙ ap (λ (xs : List ℕ). out ++ xs) (sym none) ∙ so
