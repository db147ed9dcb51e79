-- The local problems of all agents, listed one by one: AreLocalsBelow, no_locals, one_local, all_locals.
use Rattle.std.proofs.Common.{◌≡◌, ℕ, ◌+◌, List, [], ◌∷◌, ◌++◌, length, get_or, Some, ap, sym, ◌∙◌, refl, arith}
use Rattle.std.proofs.Common.{inl, inr}
use Rattle.std.specs.Prelude.{slice_get}
use Rattle.std.proofs.lemmas.Bool.{cases_lt}
use Rattle.std.proofs.lemmas.List.{length-append, get_or_append_left, get_or_at}
use Rattle.std.proofs.lemmas.Option.{slice_get-get_or, get_or_from_slice_get, slice_get_within}
use Rattle.stn_model.specs.Net.{Net}
use Rattle.stn_model.specs.Valid.{IsNetwork}
use Rattle.private_elim.specs.Locals.{LocalView, local_of}
use Rattle.shared_graph.specs.Interfaces.{interface_of}
use Rattle.agent_worker.specs.Forwards.{ArePartsOf}

-- the local problems of the first n agents
pub record AreLocalsBelow (net : Net) (n : ℕ) (locals : List LocalView) : Type 0 where
  pub len : length locals ≡ n
  pub each : (a : ℕ) (v : LocalView) → slice_get locals a ≡ Some v → v ≡ local_of net a

pub no_locals : (net : Net) → AreLocalsBelow net 0 []
no_locals net = record { len = refl; each = λ a v there. absurd (cc) }

pub one_local : (net : Net) (n : ℕ) (old new : List LocalView) (v : LocalView) → AreLocalsBelow net n old → new ≡ old ++ v ∷ [] → v ≡ local_of net n
    → AreLocalsBelow net (n + 1) new
one_local net n old new v h grown is = record {
  len = (let l = h.len in ap length grown ∙ length-append old (v ∷ []) ∙ omega arith);
  each = λ a u there.
      let l = h.len in
      let many : length new ≡ length old + 1 = ap length grown ∙ length-append old (v ∷ []) in
      let low = slice_get_within new a u there in
      let at : get_or new a u ≡ u = get_or_from_slice_get new a u u there in
      elim (cases_lt a (length old)) [
        | inl before ↦
            (let here : get_or old a u ≡ u = sym (get_or_append_left old (v ∷ []) u a before) ∙ sym (ap (λ xs. get_or xs a u) grown) ∙ at in
            h.each a u (slice_get-get_or old a u before ∙ ap (λ x. Some x) here))
        | inr after ↦
            (let e : a ≡ length old = omega arith in
            let here : v ≡ u = sym (get_or_at old v [] u a (sym e)) ∙ sym (ap (λ xs. get_or xs a u) grown) ∙ at in
            let k : n ≡ a = omega arith in
            sym here ∙ is ∙ ap (local_of net) k)
      ];
}

pub all_locals : (net : Net) (n : ℕ) (locals : List LocalView) → AreLocalsBelow net n locals → n ≡ length net.agents → IsNetwork net
    → ArePartsOf net (interface_of net) locals
all_locals net n locals h all valid = record { network = valid; face = refl; one_each = h.len ∙ all; each = h.each }
