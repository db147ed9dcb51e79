-- An elimination whose fields change in name or in room alone: still_underway. The places that are left and joined with one of it, and those of them that
-- are partial: met_within, met_back, gone_few, partial_only, partial_rest.
use Rattle.std.proofs.Common.{◌≡◌, ◌≢◌, ℕ, ◌+◌, ◌-◌, ◌<◌, ◌≤◌, true, false, ◌&&◌, not, List, Bool, Option, length, ap, sym, ◌∙◌, arith}
use Rattle.std.specs.Prelude.{slice_index_or}
use Rattle.std.proofs.lemmas.Bool.{and_parts}
use Rattle.std.proofs.lemmas.Bool.Decides.{nat_tests}
use Rattle.stn_walk.specs.Eliminations.{is_in}
use Rattle.dist_rows.specs.declared.cell.Cell.{Cell}
use Rattle.elim_step.specs.declared.joins.Joins.{Joins}
use Rattle.elim_step.specs.Eliminates.{remains, count_below}
use Rattle.elim_step.specs.JoinedPlaces.{is_joined}
use Rattle.elim_step.proofs.JoinFacts.{joined-within}
use Rattle.private_elim.specs.Degrees.{is_partial}
use Rattle.private_elim.specs.Underway.{Fields, IsUnderway}
use Rattle.private_elim.proofs.taking.Counts.{count-split}
use Rattle.private_elim.proofs.taking.Met.{whole_joined}
use Rattle.private_elim.proofs.taking.Takes.{joined_back}

pub still_underway : (e : Fields) → IsUnderway e → (order : List ℕ) (places : ℕ) (at : ℕ → ℕ → Option Cell) (joins : Joins) (room : ℕ → ℕ → Bool)
    → order ≡ e.order → places ≡ e.places → ((p q : ℕ) → at p q ≡ e.at p q) → joins.size ≡ e.joins.size
    → ((p q : ℕ) → is_joined joins p q ≡ is_joined e.joins p q) → ((p q : ℕ) → e.room p q ≡ true → room p q ≡ true)
    → IsUnderway (record { local = e.local; order = order; places = places; at = at; joins = joins; remain = e.remain; gone = e.gone; room = room })
still_underway e h order places at joins room same_order same_places cells size pairs more =
    let same_at : at ≡ e.at = (λ t p q. cells p q t) in
    let joined : is_joined joins ≡ is_joined e.joins = (λ t p q. pairs p q t) in
    record {
      square = same_places ∙ h.square;
      joins_size = size ∙ h.joins_size;
      gone_len = h.gone_len;
      gone = λ p here. h.gone p here ∙ (λ t. count_below (λ q. not (remains e.remain q) && sym joined t p q) (sym size t));
      roomy = λ p q here. more p q (h.roomy p q (sym (pairs p q) ∙ here));
      taken = rw (same_order, same_at, joined) h.taken;
    }

module _ (e : Fields) (h : IsUnderway e) where
  -- joined places are places, and joined in the other direction too
  joined_in : (p q : ℕ) → is_joined e.joins p q ≡ true → (p < length e.local.points) × (q < length e.local.points)
  joined_in p q here = let w = joined-within e.joins p q here in let size = h.joins_size in (omega (arith, w.0, size), omega (arith, w.1, size))

  pub met_back : (p q : ℕ) → is_joined e.joins p q ≡ true → is_joined e.joins q p ≡ true
  met_back = joined_back e.local e.order e.at (is_joined e.joins) e.remain h.taken joined_in

  module _ (k : ℕ) (met : List ℕ) (each : (p : ℕ) → is_in met p ≡ (remains e.remain p && is_joined e.joins k p)) where
    met_parts : (p : ℕ) → is_in met p ≡ true → (remains e.remain p ≡ true) × (is_joined e.joins k p ≡ true)
    met_parts p here = and_parts (remains e.remain p) (is_joined e.joins k p) (sym (each p) ∙ here)

    pub met_within : (p : ℕ) → is_in met p ≡ true → p < length e.local.points
    met_within p here = (joined_in k p (met_parts p here).1).1

    -- how many places are gone
    met_gone : (p : ℕ) → is_in met p ≡ true
        → slice_index_or e.gone p 0 ≡ count_below (λ q. not (remains e.remain q) && is_joined e.joins p q) (length e.local.points)
    met_gone p here =
        h.gone p (met_parts p here).0 ∙ ap (count_below (λ q. not (remains e.remain q) && is_joined e.joins p q)) h.joins_size

    pub gone_few : (p : ℕ) → is_in met p ≡ true → slice_index_or e.gone p 0 ≤ count_below (is_joined e.joins p) e.joins.size
    gone_few p here =
        let split = count-split (remains e.remain) (is_joined e.joins p) e.joins.size in
        let gone = h.gone p (met_parts p here).0 in
        omega (arith, split, gone)

    module _ (partial : List ℕ) (others : ℕ) (many : others + 1 + length e.order ≡ length e.local.points)
        (some : (p : ℕ) → is_in partial p ≡ (is_in met p && is_partial e.joins e.gone others p)) where
      pub partial_only : (p : ℕ) → is_in partial p ≡ true → is_in met p ≡ true
      partial_only p here = (and_parts (is_in met p) (is_partial e.joins e.gone others p) (sym (some p) ∙ here)).0

      -- a place that is not partial is joined with the others
      pub partial_rest : (p q : ℕ) → is_in met p ≡ true → is_in partial p ≡ false → is_in met q ≡ true → p ≢ q → is_joined e.joins p q ≡ true
      partial_rest p q at_p off at_q apart =
          let size = ap (count_below (is_joined e.joins p)) h.joins_size in
          let not_partial : is_partial e.joins e.gone others p ≡ false = ap (λ b. b && is_partial e.joins e.gone others p) (sym at_p) ∙ sym (some p) ∙ off in
          let no_fewer : others ≤ count_below (is_joined e.joins p) e.joins.size - slice_index_or e.gone p 0 = grind (arith, nat_tests) in
          whole_joined e.local e.order e.at (is_joined e.joins) e.remain h.taken p others (slice_index_or e.gone p 0) (met_within p at_p) (met_parts p at_p).0
          many (met_gone p at_p) (omega (arith, size, no_fewer)) q (met_within q at_q) (met_parts q at_q).0 apart
