-- A network's plain form, and two lines behind it.
use Rattle.std.proofs.Common.{◌≡◌, ℕ, List, [], ◌++◌, ap, ◌∙◌}
use Rattle.stn_model.specs.Net.{Net}
use Rattle.net_text.specs.Plain.{plain_form}

pub script_behind : (net wanted : Net) (first second none written more all : List ℕ) → net ≡ wanted → none ≡ [] → written ≡ none ++ plain_form net
    → more ≡ written ++ first → all ≡ more ++ second → all ≡ plain_form wanted ++ first ++ second
script_behind net wanted first second none written more all same empty is after last =
    last ∙ ap (λ xs. xs ++ second) (after ∙ ap (λ xs. xs ++ first) (is ∙ ap (λ xs. xs ++ plain_form net) empty ∙ ap plain_form same))
