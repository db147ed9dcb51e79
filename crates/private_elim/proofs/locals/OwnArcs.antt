-- The own arcs of an agent, by number: IsNumbered.
use Rattle.std.proofs.Common.{◌≡◌, ℕ, zero, suc, ◌<◌, ◌≤◌, Bool, true, false, List, [], ◌∷◌, ◌++◌, length, map, take, Some, if◌then◌else◌, cond, refl}
use Rattle.std.proofs.Common.{sym, ap, subst, ◌∙◌, arith, ⊎_elim, add-one}
use Rattle.std.specs.List.{All, Contains, filter}
use Rattle.std.proofs.lemmas.List.{append-nil, length_push, map-append, get_or_append_left, get_or_push, take_all}
use Rattle.std.proofs.lemmas.List.Elements.{All-push, All-weaker, Contains-push, Contains-append_left, filter_more}
use Rattle.std.proofs.lemmas.Bool.{cases_lt}
use Rattle.stn_model.specs.Arcs.{arc_at, no_arc}
use Rattle.stn_model.specs.Net.{Net, arcs_of}
use Rattle.stn_model.specs.Kinds.{is_own}
use Rattle.stn_model.specs.Conflicts.{own_arcs}
use Rattle.private_elim.specs.declared.local.LocalArc.{LocalArc}
use Rattle.private_elim.specs.Locals.{own_below, numbered_own, local_arc_at, no_local_arc}

-- an own arc of the agent, with its number, which is below n
pub record IsNumbered (net : Net) (agent n : ℕ) (a : LocalArc) : Type 0 where
  pub place : ℕ
  pub below : place < n
  pub number : a.number ≡ Some place
  pub arc : a.arc ≡ arc_at (arcs_of net) place
  pub own : is_own net agent a.arc ≡ true

-- the arc of a number with its number
abbrev pub numbered_arc : Net → ℕ → LocalArc
numbered_arc net n = record { number = Some n; arc = arc_at (arcs_of net) n }

-- the number of each arc is less than that of every later one
abbrev pub NumbersRise : List LocalArc → Type 0
NumbersRise arcs =
    (i j m n : ℕ) → i < j → j < length arcs → (local_arc_at arcs i).number ≡ Some m → (local_arc_at arcs j).number ≡ Some n → m < n

module _ (net : Net) (agent : ℕ) where
  -- one number further, an own arc comes last
  pub own_more : (n : ℕ) → is_own net agent (arc_at (arcs_of net) n) ≡ true → own_below net agent (suc n) ≡ own_below net agent n ++ numbered_arc net n ∷ []
  own_more n own = ap (λ b. own_below net agent n ++ (if b then numbered_arc net n ∷ [] else [])) own

  pub own_same : (n : ℕ) → is_own net agent (arc_at (arcs_of net) n) ≡ false → own_below net agent (suc n) ≡ own_below net agent n
  own_same n own = ap (λ b. own_below net agent n ++ (if b then numbered_arc net n ∷ [] else [])) own ∙ append-nil (own_below net agent n)

  -- each of them is own and has its number
  pub own_each : (n : ℕ) → All (IsNumbered net agent n) (own_below net agent n)
  own_each zero = λ k d lt. absurd (omega arith)
  own_each (suc n) =
      let before = All-weaker (IsNumbered net agent n) (IsNumbered net agent (suc n))
      (λ a h. record { place = h.place; below = omega (arith, h.below); number = h.number; arc = h.arc; own = h.own }) (own_below net agent n) (own_each n) in
      elim (is_own net agent (arc_at (arcs_of net) n)) as
      (λ b. is_own net agent (arc_at (arcs_of net) n) ≡ b → All (IsNumbered net agent (suc n)) (own_below net agent (suc n))) [
        | true ↦ λ own. subst (All (IsNumbered net agent (suc n))) (sym (own_more n own))
            (All-push (IsNumbered net agent (suc n)) (own_below net agent n) (numbered_arc net n) before
            (record { place = n; below = omega arith; number = refl; arc = refl; own = own }))
        | false ↦ λ own. subst (All (IsNumbered net agent (suc n))) (sym (own_same n own)) before
      ] refl

  -- the numbers rise
  numbers_push : (n : ℕ) → NumbersRise (own_below net agent n) → NumbersRise (own_below net agent n ++ numbered_arc net n ∷ [])
  numbers_push n h i j m k lt within first second =
      let xs = own_below net agent n in
      let last = numbered_arc net n in
      let len = length_push xs last in
      let early : local_arc_at (xs ++ last ∷ []) i ≡ local_arc_at xs i = get_or_append_left xs (last ∷ []) no_local_arc i (omega arith) in
      let was : (local_arc_at xs i).number ≡ Some m = sym (ap (λ a. a.number) early) ∙ first in
      ⊎_elim
      (λ (inside : j < length xs).
      let same : local_arc_at (xs ++ last ∷ []) j ≡ local_arc_at xs j = get_or_append_left xs (last ∷ []) no_local_arc j inside in
      h i j m k lt inside was (sym (ap (λ a. a.number) same) ∙ second))
      (λ (past : length xs ≤ j).
      let here : local_arc_at (xs ++ last ∷ []) j ≡ last = get_or_push xs last no_local_arc j (omega arith) in
      let number : n ≡ k = (let is : Some n ≡ Some k = sym (ap (λ a. a.number) here) ∙ second in cc) in
      let known = own_each n i no_local_arc (omega arith) in
      let same : known.place ≡ m = (let is : Some known.place ≡ Some m = sym known.number ∙ was in cc) in
      omega (arith, known.below))
      (cases_lt j (length xs))

  pub numbers_rise : (n : ℕ) → NumbersRise (own_below net agent n)
  numbers_rise zero = λ i j m k lt within. absurd (omega arith)
  numbers_rise (suc n) =
      elim (is_own net agent (arc_at (arcs_of net) n)) as (λ b. is_own net agent (arc_at (arcs_of net) n) ≡ b → NumbersRise (own_below net agent (suc n))) [
        | true ↦ λ own. subst NumbersRise (sym (own_more n own)) (numbers_push n (numbers_rise n))
        | false ↦ λ own. subst NumbersRise (sym (own_same n own)) (numbers_rise n)
      ] refl

  -- each own arc of a number below n is among them
  pub own_contained : (n m : ℕ) → m < n → is_own net agent (arc_at (arcs_of net) m) ≡ true → Contains (own_below net agent n) (numbered_arc net m)
  own_contained zero m lt own = absurd (omega arith)
  own_contained (suc n) m lt own =
      ⊎_elim
      (λ (less : m < n).
      Contains-append_left (own_below net agent n) (if is_own net agent (arc_at (arcs_of net) n) then numbered_arc net n ∷ [] else []) (numbered_arc net m)
      (own_contained n m less own))
      (λ (more : n ≤ m).
      let here : m ≡ n = omega arith in
      subst (λ k. Contains (own_below net agent (suc n)) (numbered_arc net k)) (sym here)
      (subst (λ xs. Contains xs (numbered_arc net n)) (sym (own_more n (ap (λ k. is_own net agent (arc_at (arcs_of net) k)) (sym here) ∙ own)))
      (Contains-push (own_below net agent n) (numbered_arc net n))))
      (cases_lt m n)

  -- there are at most n
  pub own_few : (n : ℕ) → length (own_below net agent n) ≤ n
  own_few zero = omega arith
  own_few (suc n) =
      let before = own_few n in
      elim (is_own net agent (arc_at (arcs_of net) n)) as
      (λ b. is_own net agent (arc_at (arcs_of net) n) ≡ b → length (own_below net agent (suc n)) ≤ suc n) [
        | true ↦ λ own. omega (arith, ap length (own_more n own), length_push (own_below net agent n) (numbered_arc net n))
        | false ↦ λ own. omega (arith, ap length (own_same n own))
      ] refl

  -- without their numbers they are the own arcs among the first n
  map_if : (b : Bool) (n : ℕ) → map (λ a. a.arc) (if b then numbered_arc net n ∷ [] else []) ≡ cond b (arc_at (arcs_of net) n ∷ []) []
  map_if true n = refl
  map_if false n = refl

  pub own_plain : (n : ℕ) → n ≤ length (arcs_of net) → map (λ a. a.arc) (own_below net agent n) ≡ filter (is_own net agent) (take n (arcs_of net))
  own_plain zero few = refl
  own_plain (suc n) few =
      let arcs = arcs_of net in
      let own = is_own net agent (arc_at arcs n) in
      map-append (λ a. a.arc) (own_below net agent n) (if own then numbered_arc net n ∷ [] else [])
      ∙ ap (λ xs. xs ++ map (λ a. a.arc) (if own then numbered_arc net n ∷ [] else [])) (own_plain n (omega arith))
      ∙ ap (λ xs. filter (is_own net agent) (take n arcs) ++ xs) (map_if own n)
      ∙ sym (filter_more (is_own net agent) arcs n no_arc (omega arith))
      ∙ ap (λ k. filter (is_own net agent) (take k arcs)) (add-one n)

  pub numbered_plain : map (λ a. a.arc) (numbered_own net agent) ≡ own_arcs net agent
  numbered_plain =
      own_plain (length (arcs_of net)) (omega arith) ∙ ap (filter (is_own net agent)) (take_all (length (arcs_of net)) (arcs_of net) (omega arith))
