-- What a network that is being generated does not refuse.
use Rattle.std.proofs.Common.{◌≡◌, ◌≢◌, ℕ, suc, ◌+◌, ◌*◌, ◌/◌, ◌%◌, ◌<◌, Bool, true, false, nat_le, nat_lt, List, [], ◌∷◌, length, map, get_or, None, refl, ap, ◌∙◌, arith, ℤ, pos, neg_ℤ, ◌≤ℤ◌, rules}
use Rattle.std.specs.Bool.{Decides}
use Rattle.std.specs.List.{position, position_or_len, range_with_len}
use Rattle.std.specs.Str.{bytes_eq}
use Rattle.std.proofs.lemmas.Bool.Decides.{nat_tests}
use Rattle.std.proofs.lemmas.Slice.Eq.{bytes_eq-Decides}
use Rattle.std.proofs.lemmas.List.{get_or-map, length-map}
use Rattle.std.proofs.lemmas.List.FromFn.{get_or-map-range_with_len, length-map-range_with_len}
use Rattle.std.proofs.Math.Nat.{div-le_self, mod-le}
use Rattle.stn_model.specs.Limits.{most_points, most_arcs, greatest_bound}
use Rattle.stn_model.specs.Net.{Net, Agent, Place, find_agent, find_point, point_count, no_agent, no_place}
use Rattle.stn_model.specs.Refusals.{agent_refusal, point_refusal, arc_refusal, is_name}
use Rattle.net_gen.specs.Generated.{agent_name, agent_at, point_name, place_at, width}
use Rattle.net_gen.proofs.NameForms.{is_name-agent_name, is_name-point_name, agent_names_differ, place_names_differ}

false-from_not : {P : Type 0} (b : Bool) → Decides b P → (P → ⊥) → b ≡ false
false-from_not true d n = absurd (n (d.0 refl))
false-from_not false d n = refl

never_first : (name : List ℕ) (names : List (List ℕ)) → ((k : ℕ) → k < length names → name ≡ get_or names k [] → ⊥) → position_or_len (bytes_eq name) names ≡ length names
never_first name [] h = refl
never_first name (x ∷ names) h =
    let other : bytes_eq name x ≡ false =
    false-from_not (bytes_eq name x) (bytes_eq-Decides name x) (h 0 (omega arith)) in
    let rest = never_first name names (λ k lt. h (suc k) (omega arith)) in
    rw other (omega arith)

no_position : (name : List ℕ) (names : List (List ℕ)) → ((k : ℕ) → k < length names → name ≡ get_or names k [] → ⊥) → position (bytes_eq name) names ≡ None
no_position name names h =
    let end = never_first name names h in
    let past : nat_lt (position_or_len (bytes_eq name) names) (length names) ≡ false = grind (arith, nat_tests) in
    rw past refl

no_agent_yet : (net : Net) (i : ℕ) → net.agents ≡ map agent_at (range_with_len 0 i) → i < 64 → find_agent net (agent_name i) ≡ None
no_agent_yet net i e lt =
    let names = map (λ (a : Agent). a.name) (map agent_at (range_with_len 0 i)) in
    let many : length names ≡ i =
    length-map (map agent_at (range_with_len 0 i)) (λ (a : Agent). a.name) ∙ length-map-range_with_len agent_at 0 i in
    rw e
    (no_position (agent_name i) names
    (λ k below same.
    let inner : k < i = omega arith in
    let here : get_or names k [] ≡ agent_name k =
    get_or-map (λ (a : Agent). a.name) (map agent_at (range_with_len 0 i)) k no_agent [] (rw (length-map-range_with_len agent_at 0 i) inner)
    ∙ ap (λ (a : Agent). a.name) (get_or-map-range_with_len agent_at 0 i k k no_agent inner (omega arith)) in
    let equal : i ≡ k = agent_names_differ i k (omega arith) (omega arith) (same ∙ here) in
    omega arith))

pub agent_is_free : (net : Net) (i : ℕ) → net.agents ≡ map agent_at (range_with_len 0 i) → i < 32 → agent_refusal net (agent_name i) ≡ None
agent_is_free net i e lt =
    let form : is_name (agent_name i) ≡ true = is_name-agent_name i (omega arith) in
    let new : find_agent net (agent_name i) ≡ None = no_agent_yet net i e (omega arith) in
    let many : length net.agents ≡ i = rw e (length-map-range_with_len agent_at 0 i) in
    let few : nat_le 64 (length net.agents) ≡ false = grind (arith, nat_tests) in
    rw (form, new, few) refl

no_point_yet : (net : Net) (size q : ℕ) → net.places ≡ map (place_at size) (range_with_len 0 q) → q < 4096 → find_point net (point_name (q / width size) (q % width size)) ≡ None
no_point_yet net size q e lt =
    let name = point_name (q / width size) (q % width size) in
    let names = map (λ (p : Place). p.name) (map (place_at size) (range_with_len 0 q)) in
    let many : length names ≡ q =
    length-map (map (place_at size) (range_with_len 0 q)) (λ (p : Place). p.name) ∙ length-map-range_with_len (place_at size) 0 q in
    let new : position (bytes_eq name) names ≡ None =
    no_position name names
    (λ k below same.
    let inner : k < q = omega arith in
    let here : get_or names k [] ≡ point_name (k / width size) (k % width size) =
    get_or-map (λ (p : Place). p.name) (map (place_at size) (range_with_len 0 q)) k no_place [] (rw (length-map-range_with_len (place_at size) 0 q) inner)
    ∙ ap (λ (p : Place). p.name) (get_or-map-range_with_len (place_at size) 0 q k k no_place inner (omega arith)) in
    let equal : q ≡ k = place_names_differ (width size) q k (omega arith) (omega arith) (same ∙ here) in
    omega arith) in
    rw (e, new) refl

pub point_is_free : (net : Net) (size q : ℕ) → net.places ≡ map (place_at size) (range_with_len 0 q)
    → net.given ≡ [] → q < 2048 → point_refusal net (point_name (q / width size) (q % width size)) ≡ None
point_is_free net size q e none lt =
    let i = div-le_self q (width size) in
    let k = mod-le q (width size) in
    let form = is_name-point_name (q / width size) (q % width size) (omega arith) (omega arith) in
    let new = no_point_yet net size q e (omega arith) in
    let open_yet : length net.given ≡ 0 = ap length none in
    let many : length net.places ≡ q = rw e (length-map-range_with_len (place_at size) 0 q) in
    let few : nat_le most_points (point_count net) ≡ false = grind (arith, nat_tests) in
    rw (form, new, open_yet, few) refl

pub arc_is_free : (net : Net) (from to : ℕ) (bound : ℤ) → from ≢ to → neg_ℤ (pos greatest_bound) ≤ℤ bound → bound ≤ℤ pos greatest_bound
    → 2 * length net.acts + length net.given < most_arcs → arc_refusal net from to bound ≡ None
arc_is_free net from to bound ne low high few = search rules
