-- A closed walk may begin at any of its arcs.
use Rattle.std.proofs.Common.{◌≡◌, ℕ, suc, [], ◌∷◌, ◌+◌, ◌-◌, ◌<◌, ◌≤◌, List, ◌++◌, length, get_or, take, drop, sym, subst, ◌∙◌, arith, ⊎_elim}
use Rattle.std.specs.List.{All, AllByRecursion}
use Rattle.std.proofs.lemmas.Int.{ints}
use Rattle.std.proofs.lemmas.List.{take-append-drop, map-append, drop-map, take-map, drop_more, length-append, length-take, get_or_append_left, get_or-append_right, get_or-take, get_or-drop, length-drop, length-map}
use Rattle.std.proofs.lemmas.List.Elements.{All-take, All-drop, All-append, recursion_from_All, All-from_recursion}
use Rattle.std.proofs.lemmas.Bool.{cases_lt}
use Rattle.stn_model.specs.declared.ids.Constraint.{Constraint}
use Rattle.stn_model.specs.Arcs.{to_at}
use Rattle.stn_model.specs.Walks.{IsWalk, weight, end_of, heads, AllDifferent, IsNegativeClosed, IsNegativeCycle, IsNormal}
use Rattle.stn_model.proofs.WalkLemmas.{IsWalk-append, IsWalk-front, IsWalk-back, weight-append, weight_split}
use Rattle.stn_walk.proofs.Different.{AllDifferent-from_index, different_at}

-- turning a list keeps its numbers apart
module _ (xs : List ℕ) (k : ℕ) (kn : k ≤ length xs) (h : AllDifferent xs) where
  left : (p : ℕ) → p < length xs - k → get_or (drop k xs ++ take k xs) p 0 ≡ get_or xs (k + p) 0
  left p lt = get_or_append_left (drop k xs) (take k xs) 0 p (rw length-drop lt) ∙ get_or-drop k xs p 0

  right : (p : ℕ) → length xs - k ≤ p → p < length xs → get_or (drop k xs ++ take k xs) p 0 ≡ get_or xs (p - (length xs - k)) 0
  right p ge lt =
      get_or-append_right (drop k xs) (take k xs) (length xs - k) p 0 (length-drop k xs) ge
      ∙ get_or-take k xs (p - (length xs - k)) 0 (omega arith)

  pub AllDifferent-turn : AllDifferent (drop k xs ++ take k xs)
  AllDifferent-turn = AllDifferent-from_index (drop k xs ++ take k xs) (λ m l mlt lm e.
      let len : length (drop k xs ++ take k xs) ≡ length xs = simp (length-append, length-drop, length-take) (omega arith) in
      let mn : m < length xs = omega arith in
      ⊎_elim
      (λ (m_left : m < length xs - k).
      different_at xs h (k + m) (k + l) (omega arith) (omega arith) (sym (left l (omega arith)) ∙ e ∙ left m m_left))
      (λ (m_right : length xs - k ≤ m).
      ⊎_elim
      (λ (l_left : l < length xs - k).
      different_at xs h (k + l) (m - (length xs - k)) (omega arith) (omega arith) (sym (right m m_right mn) ∙ sym e ∙ left l l_left))
      (λ (l_right : length xs - k ≤ l).
      different_at xs h (m - (length xs - k)) (l - (length xs - k)) (omega arith) (omega arith) (sym (right l l_right (omega arith)) ∙ e ∙ right m m_right mn))
      (cases_lt l (length xs - k)))
      (cases_lt m (length xs - k)))

-- a list that is turned to its least number begins with it
pub IsNormal-turn : (xs : List ℕ) (k : ℕ) → k < length xs → All (λ n. get_or xs k 0 ≤ n) xs → IsNormal (drop k xs ++ take k xs)
IsNormal-turn xs k lt h =
    let P : ℕ → Type 0 = λ n. get_or xs k 0 ≤ n in
    subst (λ (ys : List ℕ). IsNormal (ys ++ take k xs)) (sym (drop_more xs k 0 lt))
    (recursion_from_All P _ (All-append P _ _ (All-drop P (k + 1) xs h) (All-take P k xs h)))

module _ (arcs : List Constraint) where
  pub turn_closed : (ns : List ℕ) (k : ℕ) → IsNegativeClosed arcs ns → IsNegativeClosed arcs (drop k ns ++ take k ns)
  turn_closed ns k c =
      let whole = subst (IsWalk arcs c.start c.start) (sym (take-append-drop k ns)) c.walk in
      let front = IsWalk-front arcs c.start c.start (take k ns) (drop k ns) whole in
      let back = IsWalk-back arcs c.start c.start (take k ns) (drop k ns) whole in
      let n = c.negative in
      let a = weight_split arcs ns k in
      let b = weight-append arcs (drop k ns) (take k ns) in
      record { start = _; walk = IsWalk-append arcs (end_of arcs c.start (take k ns)) c.start (end_of arcs c.start (take k ns)) (drop k ns) (take k ns) back front; negative = omega (arith, ints) }

  pub heads-turn : (ns : List ℕ) (k : ℕ) → heads arcs (drop k ns ++ take k ns) ≡ drop k (heads arcs ns) ++ take k (heads arcs ns)
  heads-turn ns k = map-append (to_at arcs) (drop k ns) (take k ns) ∙ cc (drop-map (to_at arcs) k ns, take-map (to_at arcs) k ns)

  pub turn_cycle : (ns : List ℕ) (k : ℕ) → k < length ns → IsNegativeClosed arcs ns → AllDifferent (heads arcs ns) → IsNegativeCycle arcs (drop k ns ++ take k ns)
  turn_cycle ns k lt c d =
      let t = turn_closed ns k c in
      let within : k ≤ length (heads arcs ns) = rw length-map (omega arith) in
      record { start = t.start; walk = t.walk; negative = t.negative; simple = subst AllDifferent (sym (heads-turn ns k)) (AllDifferent-turn (heads arcs ns) k within d) }

  pub turn_negative_cycle : (ns : List ℕ) (k : ℕ) → k < length ns → IsNegativeCycle arcs ns → IsNegativeCycle arcs (drop k ns ++ take k ns)
  turn_negative_cycle ns k lt c = turn_cycle ns k lt (record { start = c.start; walk = c.walk; negative = c.negative }) c.simple

  pub weight-turn : (ns : List ℕ) (k : ℕ) → weight arcs (drop k ns ++ take k ns) ≡ weight arcs ns
  weight-turn ns k = let a = weight_split arcs ns k in let b = weight-append arcs (drop k ns) (take k ns) in omega (arith, ints)

-- a list that is not empty has a least number
at_least : (a b : ℕ) (xs : List ℕ) → a ≤ b → AllByRecursion (λ n. b ≤ n) xs → AllByRecursion (λ n. a ≤ n) xs
at_least a b [] ab h = tt
at_least a b (x ∷ xs) ab h = let low = h.0 in (omega arith, at_least a b xs ab h.1)

least_place : (x : ℕ) (xs : List ℕ) → (k : ℕ) × (k < suc (length xs)) × AllByRecursion (λ n. get_or (x ∷ xs) k 0 ≤ n) (x ∷ xs)
least_place x [] = (0, omega arith, (omega arith, tt))
least_place x (y ∷ ys) =
    let r = least_place y ys in
    let lt = r.1 in
    ⊎_elim
    (λ (less : get_or (y ∷ ys) r.0 0 < x). (suc r.0, omega arith, (omega arith, r.2)))
    (λ (more : x ≤ get_or (y ∷ ys) r.0 0). (0, omega arith, (omega arith, at_least x (get_or (y ∷ ys) r.0 0) (y ∷ ys) more r.2)))
    (cases_lt (get_or (y ∷ ys) r.0 0) x)

pub normal_form : (arcs : List Constraint) (ns : List ℕ) → IsNegativeCycle arcs ns
    → (k : ℕ) × (k < length ns) × IsNegativeCycle arcs (drop k ns ++ take k ns) × IsNormal (drop k ns ++ take k ns)
normal_form arcs [] c = let low = c.negative in absurd (omega (arith, ints))
normal_form arcs (n ∷ ns) c =
    let r = least_place n ns in
    let P : ℕ → Type 0 = λ m. get_or (n ∷ ns) r.0 0 ≤ m in
    (r.0, r.1, turn_negative_cycle arcs (n ∷ ns) r.0 r.1 c, IsNormal-turn (n ∷ ns) r.0 r.1 (All-from_recursion P (n ∷ ns) r.2))
