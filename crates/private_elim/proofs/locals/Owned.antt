-- The points of an agent, by number.
use Rattle.std.proofs.Common.{◌≡◌, ◌≢◌, ℕ, zero, suc, ◌-◌, ◌<◌, ◌≤◌, true, false, List, [], ◌∷◌, ◌++◌, length, nat_eq, Option, Some, None}
use Rattle.std.proofs.Common.{if◌then◌else◌, refl, sym, ap, subst, ◌∙◌, arith, ⊎_elim, add-one}
use Rattle.std.specs.List.{All, Contains, slice_get}
use Rattle.std.specs.Option.{option_map, option_eq}
use Rattle.std.proofs.lemmas.List.{append-nil, length_push}
use Rattle.std.proofs.lemmas.List.Elements.{All-push, All-weaker, Contains-push, Contains-append_left, All-cons}
use Rattle.std.proofs.lemmas.Option.{slice_get_within}
use Rattle.std.proofs.lemmas.Bool.Decides.{nat_tests}
use Rattle.std.proofs.lemmas.Bool.{cases_lt, cases_eq, false≢true}
use Rattle.stn_model.specs.Net.{Net, Place, point_count}
use Rattle.stn_model.specs.Kinds.{is_owned_by}
use Rattle.private_elim.specs.Locals.{owned_below, points_of}
use Rattle.private_elim.proofs.locals.Places.{Rises, Rises-push, Rises-cons}

-- z is no agent's
pub z_unowned : (net : Net) (agent : ℕ) → is_owned_by net agent 0 ≡ false
z_unowned net agent = refl

-- what has an owner is in the list
listed : (places : List Place) (k agent : ℕ) (o : Option Place) → slice_get places k ≡ o → option_eq nat_eq (option_map (λ q. q.owner) o) (Some agent) ≡ true
    → k < length places
listed places k agent None e own = absurd (false≢true own)
listed places k agent (Some q) e own = slice_get_within places k q e

-- a point of an agent is not z, and is a point of the network
pub owned_in : (net : Net) (agent p : ℕ) → is_owned_by net agent p ≡ true → (0 < p) × (p < point_count net)
owned_in net agent p own =
    ⊎_elim
    (λ (here : p ≡ 0). absurd (false≢true (ap (is_owned_by net agent) (sym here) ∙ own)))
    (λ (other : p ≢ 0).
    let off : nat_eq p 0 ≡ false = grind (arith, nat_tests) in
    let there = listed net.places (p - 1) agent (slice_get net.places (p - 1)) refl
    (sym (ap (λ b. option_eq nat_eq (if b then None else option_map (λ q. q.owner) (slice_get net.places (p - 1))) (Some agent)) off) ∙ own) in
    (omega arith, omega arith))
    (cases_eq p 0)

module _ (net : Net) (agent : ℕ) where
  -- one number further, a point of the agent comes last
  owned_more : (n : ℕ) → is_owned_by net agent n ≡ true → owned_below net agent (suc n) ≡ owned_below net agent n ++ n ∷ []
  owned_more n own = ap (λ b. owned_below net agent n ++ (if b then n ∷ [] else [])) own

  owned_same : (n : ℕ) → is_owned_by net agent n ≡ false → owned_below net agent (suc n) ≡ owned_below net agent n
  owned_same n own = ap (λ b. owned_below net agent n ++ (if b then n ∷ [] else [])) own ∙ append-nil (owned_below net agent n)

  -- each of them is below n and the agent's
  pub owned_each : (n : ℕ) → All (λ p. (p < n) × (is_owned_by net agent p ≡ true)) (owned_below net agent n)
  owned_each zero = λ k d lt. absurd (omega arith)
  owned_each (suc n) =
      let before = All-weaker (λ p. (p < n) × (is_owned_by net agent p ≡ true)) (λ p. (p < suc n) × (is_owned_by net agent p ≡ true))
      (λ p h. (omega (arith, h.0), h.1)) (owned_below net agent n) (owned_each n) in
      elim (is_owned_by net agent n) as
      (λ b. is_owned_by net agent n ≡ b → All (λ p. (p < suc n) × (is_owned_by net agent p ≡ true)) (owned_below net agent (suc n))) [
        | true ↦ λ own. subst (All (λ p. (p < suc n) × (is_owned_by net agent p ≡ true))) (sym (owned_more n own))
            (All-push (λ p. (p < suc n) × (is_owned_by net agent p ≡ true)) (owned_below net agent n) n before (omega arith, own))
        | false ↦ λ own. subst (All (λ p. (p < suc n) × (is_owned_by net agent p ≡ true))) (sym (owned_same n own)) before
      ] refl

  -- they rise
  pub owned_rise : (n : ℕ) → Rises (owned_below net agent n)
  owned_rise zero = λ i j lt within. absurd (omega arith)
  owned_rise (suc n) =
      elim (is_owned_by net agent n) as (λ b. is_owned_by net agent n ≡ b → Rises (owned_below net agent (suc n))) [
        | true ↦ λ own. subst Rises (sym (owned_more n own))
            (Rises-push (owned_below net agent n) n (owned_rise n) (λ k d lt. (owned_each n k d lt).0))
        | false ↦ λ own. subst Rises (sym (owned_same n own)) (owned_rise n)
      ] refl

  -- each point of the agent below n is among them
  pub owned_contained : (n p : ℕ) → p < n → is_owned_by net agent p ≡ true → Contains (owned_below net agent n) p
  owned_contained zero p lt own = absurd (omega arith)
  owned_contained (suc n) p lt own =
      ⊎_elim
      (λ (less : p < n). Contains-append_left (owned_below net agent n) (if is_owned_by net agent n then n ∷ [] else []) p (owned_contained n p less own))
      (λ (more : n ≤ p).
      let here : p ≡ n = omega arith in
      subst (Contains (owned_below net agent (suc n))) (sym here)
      (subst (λ xs. Contains xs n) (sym (owned_more n (ap (is_owned_by net agent) (sym here) ∙ own))) (Contains-push (owned_below net agent n) n)))
      (cases_lt p n)

  -- there are fewer than n, as z is not among them
  pub owned_few : (n : ℕ) → length (owned_below net agent (suc n)) ≤ n
  owned_few zero = omega arith
  owned_few (suc n) =
      let before = owned_few n in
      elim (is_owned_by net agent (suc n)) as (λ b. is_owned_by net agent (suc n) ≡ b → length (owned_below net agent (suc (suc n))) ≤ suc n) [
        | true ↦ λ own. omega (arith, ap length (owned_more (suc n) own), length_push (owned_below net agent (suc n)) (suc n))
        | false ↦ λ own. omega (arith, ap length (owned_same (suc n) own))
      ] refl

  -- z and the agent's points rise
  pub points_rise : Rises (points_of net agent)
  points_rise =
      Rises-cons 0 (owned_below net agent (point_count net)) (owned_rise (point_count net))
      (λ k d lt. (owned_in net agent _ ((owned_each (point_count net) k d lt).1)).0)

  pub points_below : All (λ p. p < point_count net) (points_of net agent)
  points_below =
      All-cons (λ p. p < point_count net) 0 (owned_below net agent (point_count net)) (omega arith) (λ k d lt. (owned_each (point_count net) k d lt).0)

  -- there are at most as many as the network has
  pub points_few : length (points_of net agent) ≤ point_count net
  points_few = omega (arith, owned_few (length net.places), ap (λ n. length (owned_below net agent n)) (add-one (length net.places)))

  -- the points, from those below their number
  pub points_at : (n : ℕ) → n ≡ point_count net → 0 ∷ owned_below net agent n ≡ points_of net agent
  points_at n e = ap (λ k. 0 ∷ owned_below net agent k) e
