-- Each point and each agent is found by its name, and what is found has the name.
use Rattle.std.proofs.Common.{◌≡◌, ◌≢◌, ℕ, ◌+◌, ◌-◌, ◌<◌, Bool, true, false, cond, List, [], ◌∷◌, length, get_or, nat_eq, nat_lt, Option, Some, None, refl, sym, ap, subst, ◌∙◌, arith, ⊎_elim, if◌then◌else◌}
use Rattle.std.proofs.Math.ListN.{get_or-map}
use Rattle.stn_model.proofs.NetLemmas.{length-map}
use Rattle.std.proofs.lemmas.List.Sums.{position_or_len_is, passes_at_first}
use Rattle.std.proofs.lemmas.Slice.Eq.{bytes_eq-Decides}
use Rattle.std.proofs.lemmas.Bool.{cases_eq}
use Rattle.std.proofs.lemmas.Bool.Decides.{nat_tests}
use Rattle.std.specs.List.{AllPairs, position, position_or_len}
use Rattle.std.specs.Option.{option_map}
use Rattle.std.specs.Str.{bytes_eq}
use Rattle.stn_model.specs.Net.{Net, Agent, Place, no_agent, no_place, agent_names, point_names, agent_name_of, point_name_of, find_point, find_agent, point_count}
use Rattle.stn_model.specs.Valid.{IsNetwork}

unlike : (x y : List ℕ) → x ≢ y → bytes_eq x y ≡ false
unlike x y n = by (bytes_eq x y) refl
  where
    by : (b : Bool) → bytes_eq x y ≡ b → bytes_eq x y ≡ false
    by true e = absurd (n ((bytes_eq-Decides x y).0 e))
    by false e = e

-- the place of a name in a list of names that differ
position_of_name : (names : List (List ℕ)) (i : ℕ) → AllPairs (λ x y. x ≢ y) names → i < length names → position (bytes_eq (get_or names i [])) names ≡ Some i
position_of_name names i differ lt =
    let name = get_or names i [] in
    let here : nat_lt i (length names) ≡ true = grind (arith, nat_tests) in
    let at = position_or_len_is (bytes_eq name) names i [] (omega arith)
    (λ k less. unlike name (get_or names k []) (λ e. differ k i [] less lt (sym e)))
    (λ _. (bytes_eq-Decides name name).1 refl) in
    ap (λ n. cond (nat_lt n (length names)) (Some n) None) at ∙ ap (λ b. cond b (Some i) None) here

-- and the name at that place
name_at_position : (names : List (List ℕ)) (name : List ℕ) (i : ℕ) → position (bytes_eq name) names ≡ Some i → (i < length names) × (get_or names i [] ≡ name)
name_at_position names name i is = by (nat_lt (position_or_len (bytes_eq name) names) (length names)) refl is
  where
    some : (a b : ℕ) → Some a ≡ Some b → a ≡ b
    some a b e = cc

    by : (b : Bool) → nat_lt (position_or_len (bytes_eq name) names) (length names) ≡ b
        → cond b (Some (position_or_len (bytes_eq name) names)) None ≡ Some i → (i < length names) × (get_or names i [] ≡ name)
    by true e s =
        let same : position_or_len (bytes_eq name) names ≡ i = some (position_or_len (bytes_eq name) names) i s in
        let within : position_or_len (bytes_eq name) names < length names = grind (arith, nat_tests) in (
          omega (arith, same),
          ap (λ k. get_or names k []) (sym same)
              ∙ sym ((bytes_eq-Decides name (get_or names (position_or_len (bytes_eq name) names) [])).0
              (passes_at_first (bytes_eq name) names [] within)),
        )
    by false e s = absurd (cc)

module _ (net : Net) (valid : IsNetwork net) where
  pub agent_by_name : (a : ℕ) → a < length net.agents → find_agent net (agent_name_of net a) ≡ Some a
  agent_by_name a lt =
      let is : get_or (agent_names net) a [] ≡ agent_name_of net a = get_or-map (λ (x : Agent). x.name) net.agents a no_agent in
      subst (λ n. find_agent net n ≡ Some a) is (position_of_name (agent_names net) a valid.agents_differ (omega (arith, length-map (λ (x : Agent). x.name) net.agents)))

  pub point_by_name : (p : ℕ) → p < point_count net → find_point net (point_name_of net p) ≡ Some p
  point_by_name p lt =
      ⊎_elim
      (λ (at : p ≡ 0). subst (λ (q : ℕ). find_point net (point_name_of net q) ≡ Some q) (sym at) refl)
      (λ (other : p ≢ 0).
      let off : nat_eq p 0 ≡ false = grind (arith, nat_tests) in
      let name = (get_or net.places (p - 1) no_place).name in
      let is : get_or (point_names net) (p - 1) [] ≡ name = get_or-map (λ (x : Place). x.name) net.places (p - 1) no_place in
      let not_z = unlike name (122 ∷ []) (valid.not_z (p - 1) no_place (omega arith)) in
      let found : position (bytes_eq name) (point_names net) ≡ Some (p - 1) =
      subst (λ n. position (bytes_eq n) (point_names net) ≡ Some (p - 1)) is
      (position_of_name (point_names net) (p - 1) valid.points_differ (omega (arith, length-map (λ (x : Place). x.name) net.places))) in
      let back : p - 1 + 1 ≡ p = omega arith in
      subst (λ n. find_point net n ≡ Some p) (sym (ap (λ b. if b then 122 ∷ [] else name) off))
      (ap (λ b. if b then Some 0 else option_map (λ n. n + 1) (position (bytes_eq name) (point_names net))) not_z
      ∙ ap (option_map (λ n. n + 1)) found ∙ ap (λ q. Some q) back))
      (cases_eq p 0)

-- what is found is an agent of that name
pub found_agent : (net : Net) (name : List ℕ) (a : ℕ) → find_agent net name ≡ Some a → (a < length net.agents) × (agent_name_of net a ≡ name)
found_agent net name a is =
    let at = name_at_position (agent_names net) name a is in
    (omega (arith, at.0, length-map (λ (x : Agent). x.name) net.agents), sym (get_or-map (λ (x : Agent). x.name) net.agents a no_agent) ∙ at.1)

-- what is found is a point of that name
pub found_point : (net : Net) (name : List ℕ) (p : ℕ) → find_point net name ≡ Some p → (p < point_count net) × (point_name_of net p ≡ name)
found_point net name p is = by (bytes_eq name (122 ∷ [])) refl is
  where
    some : (a b : ℕ) → Some a ≡ Some b → a ≡ b
    some a b e = cc

    later : (o : Option ℕ) → position (bytes_eq name) (point_names net) ≡ o → option_map (λ n. n + 1) o ≡ Some p → (p < point_count net) × (point_name_of net p ≡ name)
    later None e s = absurd (cc)
    later (Some i) e s =
        let at = name_at_position (point_names net) name i e in
        let same : i + 1 ≡ p = some (i + 1) p s in
        let off : nat_eq p 0 ≡ false = grind (arith, nat_tests) in
        let place : p - 1 ≡ i = omega (arith, same) in (
          omega (arith, same, at.0, length-map (λ (x : Place). x.name) net.places),
          ap (λ b. if b then 122 ∷ [] else (get_or net.places (p - 1) no_place).name) off ∙ ap (λ k. (get_or net.places k no_place).name) place
              ∙ sym (get_or-map (λ (x : Place). x.name) net.places i no_place) ∙ at.1,
        )

    by : (b : Bool) → bytes_eq name (122 ∷ []) ≡ b → (if b then Some 0 else option_map (λ n. n + 1) (position (bytes_eq name) (point_names net))) ≡ Some p
        → (p < point_count net) × (point_name_of net p ≡ name)
    by true e s =
        let zeroth : 0 ≡ p = some 0 p s in
        (omega (arith, zeroth), subst (λ (q : ℕ). point_name_of net q ≡ name) zeroth (sym ((bytes_eq-Decides name (122 ∷ [])).0 e)))
    by false e s = later (position (bytes_eq name) (point_names net)) refl s
