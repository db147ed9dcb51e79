-- The later neighbours of a state are those of its order turned round: later_is.
use Rattle.std.proofs.Common.{◌≡◌, ℕ, List, true, false, not, ◌&&◌, sym, ap, ◌∙◌, arith, inl, inr}
use Rattle.std.specs.Prelude.{◌↔◌, nat_eq, reverse}
use Rattle.std.specs.List.{position_or_len}
use Rattle.std.proofs.lemmas.Bool.{and_parts, not-true, cases_order}
use Rattle.std.proofs.lemmas.List.{reverse-reverse}
use Rattle.stn_model.specs.Joined.{IsLaterNeighbour, ComesBefore}
use Rattle.stn_walk.specs.Eliminations.{is_in, before_both}
use Rattle.stn_walk.proofs.Joins.{is_in-reverse, order-from_before_both, before_both-from_order}
use Rattle.decoupling_facts.proofs.Neighbours.{place_apart}
use Rattle.shared_graph.specs.Interfaces.{InterfaceView}
use Rattle.shared_graph.specs.States.{State, meeting_of}
use Rattle.shared_graph.specs.Weights.{is_joined, is_later}
use Rattle.shared_graph.proofs.cells.Orders.{joined_is}
use Rattle.shared_graph.proofs.states.Keeps.{false_of}

module _ (face : InterfaceView) (s : State) where
  -- what stands before k in the order turned round is what was eliminated before it
  goes_before : (k p : ℕ) → is_in (before_both s.order k k) p ≡ true → ComesBefore (reverse s.order) p k
  goes_before k p h =
      (order-from_before_both (reverse s.order) k k p
      (ap (λ (es : List ℕ). is_in (before_both es k k) p) (reverse-reverse s.order) ∙ h)).0

  before_goes : (k p : ℕ) → ComesBefore (reverse s.order) p k → is_in (before_both s.order k k) p ≡ true
  before_goes k p h =
      sym (ap (λ (es : List ℕ). is_in (before_both es k k) p) (reverse-reverse s.order)) ∙ before_both-from_order (reverse s.order) k k p (h, h)

  pub later_is : (k : ℕ) → is_in s.order k ≡ true → (p : ℕ) → (is_later face s k p ≡ true) ↔ IsLaterNeighbour (meeting_of face s) (reverse s.order) k p
  later_is k there p = (
    λ h. (let parts = and_parts (is_joined face s k p) (not (is_in (before_both s.order k k) p)) h in
        let out = not-true (is_in (before_both s.order k k) p) parts.1 in
        let join = (joined_is face s k p).0 parts.0 in
        elim (cases_order (position_or_len (nat_eq p) (reverse s.order)) (position_or_len (nat_eq k) (reverse s.order))) [
          | inl same ↦ absurd (place_apart (reverse s.order) k p (is_in-reverse s.order k ∙ there) join.different same)
          | inr (inl early) ↦ absurd (let back = before_goes k p early in cc)
          | inr (inr late) ↦ record { joined = join; later = late }
        ]),
    λ n. (let joined = (joined_is face s k p).1 n.joined in
        let out : is_in (before_both s.order k k) p ≡ false =
        false_of (is_in (before_both s.order k k) p) (λ h. let a = goes_before k p h in let b = n.later in absurd (omega arith)) in
        (λ t. joined t && not (out t))),
  )
