-- The owner and the name of a point other than z, and the given arcs among all arcs.
use Rattle.std.proofs.Common.{◌≡◌, ℕ, ◌+◌, ◌-◌, ◌*◌, ◌<◌, ℤ, codes, List, Option, Some, None, length, get_or, slice_get, [], ◌∷◌, sym, ap, ◌∙◌, arith, if◌then◌else◌}
use Rattle.std.specs.Option.{option_map}
use Rattle.std.proofs.lemmas.Bool.{ne_eqb}
use Rattle.std.proofs.lemmas.Option.{slice_get-get_or}
use Rattle.std.specs.Fmt.{signed_decimal}
use Rattle.stn_model.specs.declared.ids.Act.{Act}
use Rattle.stn_model.specs.declared.ids.AgentId.{AgentId}
use Rattle.stn_model.specs.Arcs.{arc_at, no_arc}
use Rattle.stn_model.proofs.ArcLemmas.{arc_given}
use Rattle.stn_model.specs.Net.{arcs_of, fixed_count, Net, Place, no_place, point_count, owner_of, agent_name_of, point_name_of}
use Rattle.net_text.specs.Plain.{line, act_name, act_line}

owner_of_later : (net : Net) (p : ℕ) → 0 < p → p < point_count net → owner_of net p ≡ Some (get_or net.places (p - 1) no_place).owner
owner_of_later net p later lt =
    ap (λ b. if b then None else option_map (λ (q : Place). q.owner) (slice_get net.places (p - 1))) (ne_eqb p 0 (omega arith))
    ∙ ap (option_map (λ (q : Place). q.owner)) (slice_get-get_or net.places (p - 1) no_place (omega arith))

pub owner_is : (net : Net) (p : ℕ) (r : Option AgentId) (agent : AgentId)
    → 0 < p → p < point_count net → option_map (λ a. a.0) r ≡ owner_of net p → r ≡ Some agent
    → agent.0 ≡ (get_or net.places (p - 1) no_place).owner
owner_is net p r agent later lt given is =
    let found : Some agent.0 ≡ Some (get_or net.places (p - 1) no_place).owner = sym (ap (option_map (λ a. a.0)) is) ∙ given ∙ owner_of_later net p later lt in
    cc

pub point_name_is : (net : Net) (p : ℕ) → 0 < p → point_name_of net p ≡ (get_or net.places (p - 1) no_place).name
point_name_is net p later = ap (λ b. if b then 122 ∷ [] else (get_or net.places (p - 1) no_place).name) (ne_eqb p 0 (omega arith))

pub given_is : (net : Net) (n k : ℕ) → n ≡ 2 * length net.places + 2 * length net.acts + k → arc_at (arcs_of net) n ≡ get_or net.given k no_arc
given_is net n k e =
    let rest : n - fixed_count net ≡ k = omega arith in
    arc_given net n (omega arith) ∙ ap (arc_at net.given) rest

-- the line of an act, by what its fields are
pub act_line_is : (net : Net) (point : ℕ) (a b : Act) (owner at : ℕ) (agent start : List ℕ) (low high : ℤ) → a ≡ b → at ≡ point
    → owner ≡ (get_or net.places (at - 1) no_place).owner → agent ≡ agent_name_of net owner → start ≡ (get_or net.places (at - 1) no_place).name
    → low ≡ a.low → high ≡ a.high
    → line (codes "act") (agent ∷ act_name start ∷ signed_decimal low ∷ signed_decimal high ∷ []) ≡ act_line net (get_or net.places (point - 1) no_place) b
act_line_is net point a b owner at agent start low high same here owns named is is_low is_high =
    ap (λ (n : List ℕ). line (codes "act") (n ∷ act_name start ∷ signed_decimal low ∷ signed_decimal high ∷ [])) (named ∙ ap (agent_name_of net) owns)
    ∙ ap (λ (n : List ℕ). line (codes "act")
    (agent_name_of net (get_or net.places (at - 1) no_place).owner ∷ act_name n ∷ signed_decimal low ∷ signed_decimal high ∷ [])) is
    ∙ ap
    (λ (z : ℤ). line (codes "act")
    (agent_name_of net (get_or net.places (at - 1) no_place).owner ∷ act_name (get_or net.places (at - 1) no_place).name
    ∷ signed_decimal z ∷ signed_decimal high ∷ []))
    is_low
    ∙ ap
    (λ (z : ℤ). line (codes "act")
    (agent_name_of net (get_or net.places (at - 1) no_place).owner ∷ act_name (get_or net.places (at - 1) no_place).name
    ∷ signed_decimal a.low ∷ signed_decimal z ∷ []))
    is_high
    ∙ ap (λ (x : Act). act_line net (get_or net.places (at - 1) no_place) x) same
    ∙ ap (λ k. act_line net (get_or net.places (k - 1) no_place) b) here
