-- The room of a row, once it is made for a list of places.
use Rattle.std.proofs.Common.{◌≡◌, ◌≢◌, ℕ, List, Bool, true, ◌&&◌, ◌||◌, not, ap, ◌∙◌}
use Rattle.std.specs.Prelude.{◌==◌}
use Rattle.std.proofs.Math.Bool.{or-true}
use Rattle.std.proofs.lemmas.Bool.{eq-eqb, ne_eqb}
use Rattle.dist_rows.specs.Places.{lists}
use Rattle.stn_walk.specs.Eliminations.{is_in}
use Rattle.elim_step.proofs.Parts.{lists_is}

-- room that was there
pub row_kept : (new made old : Bool) → new ≡ (made || old) → old ≡ true → new ≡ true
row_kept new made old is had = is ∙ ap (λ b. made || b) had ∙ or-true made

-- room in the row of i for a place of the list
pub row_made : (new : Bool) (p q : ℕ) (list : List ℕ) (i : ℕ) (old : Bool) → new ≡ ((not (p == q) && (p == i) && lists list q) || old) → p ≡ i → p ≢ q
    → is_in list q ≡ true → new ≡ true
row_made new p q list i old is at_i apart here =
    is ∙ (λ t. (not (ne_eqb p q apart t) && eq-eqb p i at_i t && (lists_is list q ∙ here) t) || old)

-- and among a list
pub among_made : (new : Bool) (p q : ℕ) (list : List ℕ) (old : Bool) → new ≡ ((not (p == q) && lists list p && lists list q) || old) → p ≢ q
    → is_in list p ≡ true → is_in list q ≡ true → new ≡ true
among_made new p q list old is apart at_p at_q =
    is ∙ (λ t. (not (ne_eqb p q apart t) && (lists_is list p ∙ at_p) t && (lists_is list q ∙ at_q) t) || old)
