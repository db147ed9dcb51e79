-- Points that are picked by number come by rising number.
use Rattle.std.proofs.Common.{suc, ◌≡◌, ◌≢◌, ℕ, ◌<◌, ◌≤◌, Bool, true, false, ◌&&◌, ◌||◌, not, List, [], ◌∷◌, map, length, get_or}
use Rattle.std.proofs.Common.{refl, sym, ap, ◌∙◌, subst, arith}
use Rattle.std.proofs.Common.{inl, inr}
use Rattle.std.specs.Prelude.{◌==◌, nat_lt, reverse, slice_index_or, if◌then◌else◌}
use Rattle.std.specs.List.{AllPairs, filter}
use Rattle.std.proofs.Math.Bool.{or-true}
use Rattle.std.proofs.lemmas.Bool.{and_parts, or_cases, cases_lt, false≢true}
use Rattle.std.proofs.lemmas.Bool.Decides.{nat_tests}
use Rattle.std.proofs.lemmas.List.{length-map, get_or-map, get_or_default, reverse-append, reverse-reverse}
use Rattle.std.proofs.lemmas.List.Quantifiers.{all_pairs_push}
use Rattle.stn_walk.specs.Eliminations.{is_in}
use Rattle.stn_walk.proofs.Joins.{is_in-reverse}
use Rattle.stn_walk.proofs.Members.{is_in-at}
use Rattle.elim_step.specs.declared.pick.Candidate.{Candidate}
use Rattle.elim_step.specs.Picks.{candidate_at, comes_before}
use Rattle.private_elim.specs.Locals.{LocalView, local_of, is_private_in}
use Rattle.private_elim.specs.Picked.{AreCandidates, IsPicked, ArePicked}
use Rattle.mastn.specs.declared.words.Pick.TheVariants.{Number}
use Rattle.mastn.specs.Laws.{NumbersRise}
use Rattle.mastn.specs.Solves.{is_answer}

-- an item of a filtered list, and of a list
from_filter : (test : ℕ → Bool) (xs : List ℕ) (p : ℕ) → is_in (filter test xs) p ≡ true → (is_in xs p ≡ true) × (test p ≡ true)
from_filter test [] p h = absurd (cc)
from_filter test (x ∷ xs) p h =
    elim (test x) as (λ b. test x ≡ b → is_in (if b then x ∷ filter test xs else filter test xs) p ≡ true → (is_in (x ∷ xs) p ≡ true) × (test p ≡ true)) [
      | true ↦ λ t g. elim (or_cases (is_in (filter test xs) p) (p == x) g) [
        | inl later ↦ (let r = from_filter test xs p later in (ap (λ b. b || (p == x)) r.0, r.1))
        | inr here ↦ (let e : p ≡ x = grind (arith, nat_tests) in (ap (λ b. is_in xs p || b) here ∙ or-true (is_in xs p), ap test e ∙ t))
      ]
      | false ↦ λ t g. (let r = from_filter test xs p g in (ap (λ b. b || (p == x)) r.0, r.1))
    ] refl h

to_filter : (test : ℕ → Bool) (xs : List ℕ) (p : ℕ) → is_in xs p ≡ true → test p ≡ true → is_in (filter test xs) p ≡ true
to_filter test [] p h pass = absurd (cc)
to_filter test (x ∷ xs) p h pass =
    elim (test x) as (λ b. test x ≡ b → is_in (if b then x ∷ filter test xs else filter test xs) p ≡ true) [
      | true ↦ λ t. elim (or_cases (is_in xs p) (p == x) h) [
        | inl later ↦ ap (λ b. b || (p == x)) (to_filter test xs p later pass)
        | inr here ↦ ap (λ b. is_in (filter test xs) p || b) here ∙ or-true (is_in (filter test xs) p)
      ]
      | false ↦ λ t. elim (or_cases (is_in xs p) (p == x) h) [
        | inl later ↦ to_filter test xs p later pass
        | inr here ↦ (let e : p ≡ x = grind (arith, nat_tests) in absurd (false≢true (sym t ∙ ap test (sym e) ∙ pass)))
      ]
    ] refl

place_of : (xs : List ℕ) (p : ℕ) → is_in xs p ≡ true → (k : ℕ) × (k < length xs) × (get_or xs k 0 ≡ p)
place_of [] p h = absurd (cc)
place_of (x ∷ xs) p h =
    elim (or_cases (is_in xs p) (p == x) h) [
      | inl later ↦ (let r = place_of xs p later in (suc r.0, omega (arith, r.1), r.2))
      | inr here ↦ (let e : p ≡ x = grind (arith, nat_tests) in (0, omega arith, sym e))
    ]

neither : (a b : Bool) → (a || b) ≡ false → (a ≡ false) × (b ≡ false)
neither true b h = absurd (cc)
neither false b h = (refl, h)

both : (a b : Bool) → a ≡ true → b ≡ false → (a && not b) ≡ true
both true false h g = refl
both true true h g = absurd (cc)
both false b h g = absurd (cc)

not_before : (a m b n : ℕ) → comes_before a m b n ≡ false → b ≤ a
not_before a m b n h =
    elim (cases_lt a b) [
      | inl low ↦ (let t : nat_lt a b ≡ true = grind (arith, nat_tests) in absurd (false≢true (sym h ∙ ap (λ x. x || ((a == b) && nat_lt m n)) t)))
      | inr high ↦ omega arith
    ]

abbrev no_candidate : Candidate
no_candidate = record { degree = 0; number = 0 }

module _ (v : LocalView) where
  -- a private point that is left
  abbrev IsLeft : List ℕ → ℕ → Type 0
  IsLeft taken p = (is_in v.points p ≡ true) × (is_private_in v p ≡ true) × (is_in taken p ≡ false)

  candidate_number : (cs : List Candidate) (k : ℕ) → k < length cs → get_or (map (λ c. c.number) cs) k 0 ≡ (candidate_at cs k).number
  candidate_number cs k lt = get_or-map (λ c. c.number) cs k no_candidate 0 lt

  candidate_place : (taken : List ℕ) (cs : List Candidate) → AreCandidates v taken cs → (p : ℕ) → IsLeft taken p
      → (k : ℕ) × (k < length cs) × ((candidate_at cs k).number ≡ p)
  candidate_place taken cs are p left =
      let passes = both (is_private_in v p) (is_in taken p) left.1 left.2 in
      let there = to_filter (λ q. is_private_in v q && not (is_in taken q)) v.points p left.0 passes in
      let k = place_of (map (λ c. c.number) cs) p (subst (λ ns. is_in ns p ≡ true) (sym are.numbers) there) in
      let many : length (map (λ (c : Candidate). c.number) cs) ≡ length cs = length-map cs (λ (c : Candidate). c.number) in
      let lt : k.0 < length cs = omega (arith, k.1, many) in
      (k.0, lt, sym (candidate_number cs k.0 lt) ∙ k.2)

  -- what is picked was left
  picked_left : (answers : ℕ → ℕ → ℕ → Type 0) (taken : List ℕ) (p : ℕ) → IsPicked answers v taken p → IsLeft taken p
  picked_left answers taken p h =
      let lt = h.picks.2.within in
      let many : length (map (λ (c : Candidate). c.number) h.candidates) ≡ length h.candidates = length-map h.candidates (λ (c : Candidate). c.number) in
      let listed = is_in-at (map (λ (c : Candidate). c.number) h.candidates) h.place (omega (arith, lt, many)) in
      let there = subst (λ q. is_in (map (λ (c : Candidate). c.number) h.candidates) q ≡ true) (candidate_number h.candidates h.place lt ∙ h.is) listed in
      let kept = from_filter (λ q. is_private_in v q && not (is_in taken q)) v.points p (subst (λ ns. is_in ns p ≡ true) h.are.numbers there) in
      let parts = and_parts (is_private_in v p) (not (is_in taken p)) kept.1 in
      (kept.0, parts.0, flipped (is_in taken p) parts.1) where
        flipped : (b : Bool) → not b ≡ true → b ≡ false
        flipped true g = absurd (cc)
        flipped false g = refl

  -- none that is left has a lesser number than the one that is picked
  least_left : (taken : List ℕ) (q p : ℕ) → IsPicked (is_answer Number) v taken q → IsLeft taken p → q ≤ p
  least_left taken q p h left =
      let k = candidate_place taken h.candidates h.are p left in
      let key : slice_index_or h.picks.0 k.0 0 ≡ p = h.picks.1.each k.0 k.1 ∙ k.2 in
      let found : slice_index_or h.picks.0 h.place 0 ≡ q = h.picks.1.each h.place h.picks.2.within ∙ h.is in
      let least : slice_index_or h.picks.0 h.place 0 ≤ slice_index_or h.picks.0 k.0 0 =
      not_before (slice_index_or h.picks.0 k.0 0) (candidate_at h.candidates k.0).number (slice_index_or h.picks.0 h.place 0)
      (candidate_at h.candidates h.place).number (h.picks.2.least k.0 k.1) in
      omega (arith, key, found, least)

  -- each that was taken has a lesser number than one that is left
  taken_less : (p : ℕ) (taken : List ℕ) → IsLeft taken p → ArePicked (is_answer Number) v taken → (q : ℕ) → is_in taken q ≡ true → q < p
  taken_less p [] left h q there = absurd (cc)
  taken_less p (r ∷ taken) left h q there =
      let out = neither (is_in taken p) (p == r) left.2 in
      let before : IsLeft taken p = (left.0, left.1, out.0) in
      elim (or_cases (is_in taken q) (q == r) there) [
        | inl later ↦ taken_less p taken before h.1 q later
        | inr here ↦ (
            let e : q ≡ r = grind (arith, nat_tests) in
            let apart : p ≢ r = grind (arith, nat_tests) in
            let least = least_left taken r p h.0 before in
            omega (arith, e, apart, least))
      ]

  -- so they rise, in the order in which they were taken
  rising : (taken : List ℕ) → ArePicked (is_answer Number) v taken → AllPairs (λ p q. p < q) (reverse taken)
  rising [] h = λ i j d lt low. absurd (omega arith)
  rising (p ∷ taken) h =
      subst (AllPairs (λ q r. q < r)) (sym (reverse-append (p ∷ []) taken))
      (all_pairs_push (λ q r. q < r) (reverse taken) p (rising taken h.1)
      (λ k d lt.
      let listed = is_in-at (reverse taken) k lt in
      let there : is_in taken (get_or (reverse taken) k 0) ≡ true = sym (is_in-reverse taken (get_or (reverse taken) k 0)) ∙ listed in
      subst (λ q. q < p) (get_or_default (reverse taken) k 0 d lt)
      (taken_less p taken (picked_left (is_answer Number) taken p h.0) h.1 (get_or (reverse taken) k 0) there)))

pub numbers_rise : NumbersRise
numbers_rise net section h = record {
  orders = h.orders;
  private = h.private;
  rising = λ a lt.
      let order = slice_index_or h.orders a [] in
      subst (AllPairs (λ p q. p < q)) (reverse-reverse order) (rising (local_of net a) (reverse order) (h.picked a lt));
}
