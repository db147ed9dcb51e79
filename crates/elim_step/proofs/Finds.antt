-- The least of the candidates so far.
use Rattle.std.proofs.Common.{◌≡◌, ℕ, ◌+◌, ◌<◌, List, [], ◌∷◌, ◌++◌, true, false, Option, Some, None, ap, sym, ◌∙◌, refl, arith, length, subst}
use Rattle.std.specs.Prelude.{◌==◌, if◌then◌else◌, slice_index_or}
use Rattle.std.proofs.lemmas.Bool.Decides.{nat_tests}
use Rattle.std.proofs.lemmas.List.{get_or_push, get_or_append_left, length_push}
use Rattle.elim_step.specs.declared.pick.Candidate.{Candidate}
use Rattle.elim_step.specs.declared.pick.Rank.{Rank}
use Rattle.elim_step.specs.Picks.{comes_before, comes_first, first_of, place_found, candidate_at, AreKeys, IsLeast, IsPicked, Picks, IsFound, Finds}

not_self : (a b : ℕ) → comes_before a b a b ≡ false
not_self a b = grind (arith, nat_tests)

not_before : (a b c d e f : ℕ) → comes_before c d e f ≡ true → comes_before a b e f ≡ false → comes_before a b c d ≡ false
not_before a b c d e f h g = grind (arith, nat_tests)

old_key : (keys : List ℕ) (k n q : ℕ) → length keys ≡ n → q < n → slice_index_or (keys ++ k ∷ []) q 0 ≡ slice_index_or keys q 0
old_key keys k n q len low = get_or_append_left keys (k ∷ []) 0 q (omega arith)

new_key : (keys : List ℕ) (k n : ℕ) → length keys ≡ n → slice_index_or (keys ++ k ∷ []) n 0 ≡ k
new_key keys k n len = get_or_push keys k 0 n len

-- what holds of each place so far and of the next one
each_more : (P : ℕ → Type 0) (n q : ℕ) → q < n + 1 → ((q : ℕ) → q < n → P q) → P n → P q
each_more P n q low each last =
    elim (q == n) as (λ b. (q == n) ≡ b → P q) [
      | true ↦ λ t. subst P (let e : n ≡ q = grind (arith, nat_tests) in e) last
      | false ↦ λ t. each q (grind (arith, nat_tests))
    ] refl

keys_more : (answers : ℕ → ℕ → ℕ → Type 0) (candidates : List Candidate) (keys : List ℕ) (n k : ℕ) → AreKeys answers candidates keys n
    → answers (candidate_at candidates n).degree (candidate_at candidates n).number k → AreKeys answers candidates (keys ++ k ∷ []) (n + 1)
keys_more answers candidates keys n k keyed answer = record {
  len = length_push keys k ∙ ap (λ m. m + 1) keyed.len;
  each = λ q low. each_more (λ q. answers (candidate_at candidates q).degree (candidate_at candidates q).number (slice_index_or (keys ++ k ∷ []) q 0)) n q low
      (λ q less. rw (old_key keys k n q keyed.len less) (keyed.each q less))
      (rw (new_key keys k n keyed.len) answer);
}

least_stays : (candidates : List Candidate) (keys : List ℕ) (n k place : ℕ) → length keys ≡ n → IsLeast candidates keys n place
    → comes_before k (candidate_at candidates n).number (slice_index_or keys place 0) (candidate_at candidates place).number ≡ false
    → IsLeast candidates (keys ++ k ∷ []) (n + 1) place
least_stays candidates keys n k place len least after = record {
  within = (let w = least.within in omega arith);
  least = λ q low. rw (old_key keys k n place len least.within)
      (each_more (λ q. comes_before (slice_index_or (keys ++ k ∷ []) q 0) (candidate_at candidates q).number (slice_index_or keys place 0)
      (candidate_at candidates place).number ≡ false) n q low
      (λ q less. rw (old_key keys k n q len less) (least.least q less))
      (rw (new_key keys k n len) after));
}

least_new : (candidates : List Candidate) (keys : List ℕ) (n k place : ℕ) → length keys ≡ n → IsLeast candidates keys n place
    → comes_before k (candidate_at candidates n).number (slice_index_or keys place 0) (candidate_at candidates place).number ≡ true
    → IsLeast candidates (keys ++ k ∷ []) (n + 1) n
least_new candidates keys n k place len least before = record {
  within = omega arith;
  least = λ q low. rw (new_key keys k n len)
      (each_more (λ q. comes_before (slice_index_or (keys ++ k ∷ []) q 0) (candidate_at candidates q).number k (candidate_at candidates n).number ≡ false) n
      q low
      (λ q less. rw (old_key keys k n q len less)
      (not_before (slice_index_or keys q 0) (candidate_at candidates q).number k (candidate_at candidates n).number (slice_index_or keys place 0)
      (candidate_at candidates place).number before (least.least q less)))
      (rw (new_key keys k n len) (not_self k (candidate_at candidates n).number)));
}

least_first : (candidates : List Candidate) (keys : List ℕ) (n k : ℕ) → length keys ≡ n → n ≡ 0 → IsLeast candidates (keys ++ k ∷ []) (n + 1) n
least_first candidates keys n k len none = record {
  within = omega arith;
  least = λ q low. rw (new_key keys k n len)
      (each_more (λ q. comes_before (slice_index_or (keys ++ k ∷ []) q 0) (candidate_at candidates q).number k (candidate_at candidates n).number ≡ false) n
      q low
      (λ q less. absurd (omega arith))
      (rw (new_key keys k n len) (not_self k (candidate_at candidates n).number)));
}

found_more : (candidates : List Candidate) (keys : List ℕ) (n : ℕ) (found : Option (ℕ × Rank)) (rank : Rank) → length keys ≡ n
    → IsFound candidates keys n found → rank.number ≡ (candidate_at candidates n).number
    → IsFound candidates (keys ++ rank.key ∷ []) (n + 1) (if comes_first rank found then Some (n, rank) else found)
found_more candidates keys n None rank len is number = (least_first candidates keys n rank.key len is, sym (new_key keys rank.key n len), number)
found_more candidates keys n (Some (place, other)) rank len is number =
    elim (comes_before rank.key rank.number other.key other.number) as
    (λ b. comes_before rank.key rank.number other.key other.number ≡ b
    → IsFound candidates (keys ++ rank.key ∷ []) (n + 1) (if b then Some (n, rank) else Some (place, other))) [
      | true ↦ λ t. (least_new candidates keys n rank.key place len is.0 (rw (← number, ← is.1, ← is.2) t), sym (new_key keys rank.key n len), number)
      | false ↦ λ t. (
        least_stays candidates keys n rank.key place len is.0 (rw (← number, ← is.1, ← is.2) t),
        is.1
            ∙ sym (old_key keys rank.key n place len is.0.within),
        is.2,
      )
    ] refl

-- one candidate more
pub finds_more : (answers : ℕ → ℕ → ℕ → Type 0) (candidates : List Candidate) (n : ℕ) (found next : Option (ℕ × Rank)) (rank : Rank)
    → Finds answers candidates n found
    → answers (candidate_at candidates n).degree (candidate_at candidates n).number rank.key → rank.number ≡ (candidate_at candidates n).number
    → next ≡ first_of n rank found
    → Finds answers candidates (n + 1) next
finds_more answers candidates n found next rank finds answer number is = (
  finds.0 ++ rank.key ∷ [],
  keys_more answers candidates finds.0 n rank.key finds.1 answer,
  rw is (found_more candidates finds.0 n found rank finds.1.len finds.2 number),
)

-- nothing at first
pub finds_none : (answers : ℕ → ℕ → ℕ → Type 0) (candidates : List Candidate) → Finds answers candidates 0 None
finds_none answers candidates = ([], record { len = refl; each = λ q low. absurd (omega arith) }, refl)

picked : (candidates : List Candidate) (keys : List ℕ) (n : ℕ) (found : Option (ℕ × Rank)) → IsFound candidates keys n found
    → IsPicked candidates keys n (place_found found)
picked candidates keys n None is = is
picked candidates keys n (Some (place, rank)) is = is.0

-- all of them
pub picks : (answers : ℕ → ℕ → ℕ → Type 0) (candidates : List Candidate) (n : ℕ) (found : Option (ℕ × Rank)) (result : Option ℕ) → n ≡ length candidates
    → Finds answers candidates n found → result ≡ place_found found → Picks answers candidates result
picks answers candidates n found result all finds is = rw (is, ← all) (finds.0, finds.1, picked candidates finds.0 n found finds.2)

-- answers that are answers of another kind too
pub picks_weaker : (answers other : ℕ → ℕ → ℕ → Type 0) (candidates : List Candidate) (result : Option ℕ)
    → ((q a : ℕ) → q < length candidates → answers (candidate_at candidates q).degree (candidate_at candidates q).number a
    → other (candidate_at candidates q).degree (candidate_at candidates q).number a)
    → Picks answers candidates result → Picks other candidates result
picks_weaker answers other candidates result weaker picks =
    (picks.0, record { len = picks.1.len; each = λ q low. weaker q (slice_index_or picks.0 q 0) low (picks.1.each q low) }, picks.2)
