-- What an act does to a network: the tests that it passed, how the fields are seen after it, and what its points are named for.
use Rattle.std.proofs.Common.{◌≡◌, ℕ, ◌+◌, ◌-◌, ◌<◌, ◌≤◌, ℤ, pos, ◌≤ℤ◌, Bool, true, false, ◌||◌, not, IsTrue, nat_eq, nat_le, int_lt, List, [], ◌∷◌, ◌++◌, map, length, take, get_or, Option, Some, None, is_some, Vec, Global, refl, sym, ap, subst, ◌∙◌, arith, length-append, if◌then◌else◌}
use Rattle.std.proofs.lemmas.List.{map-append}
use Rattle.std.proofs.Math.Seq.{take-append_seam}
use Rattle.std.proofs.lemmas.Int.{ints}
use Rattle.stn_model.specs.Valid.{IsActWithin}
use Rattle.std.proofs.lemmas.Bool.Decides.{nat_tests}
use Rattle.stn_model.specs.declared.ids.Act.{Act}
use Rattle.stn_model.specs.declared.ids.AgentId.{AgentId}
use Rattle.stn_model.specs.declared.network.Network.TheInside.{Inside}
use Rattle.stn_model.specs.Limits.{most_points}
use Rattle.stn_model.specs.Net.{Net, Place, no_place, point_name_of, find_point, point_count, act_start_name, act_end_name, with_act}
use Rattle.stn_model.specs.Refusals.{is_name, is_beyond, named_act_refusal}
use Rattle.stn_model.specs.Views.{view_of}

-- an act that is not refused passes each test
pub record Allowed (net : Net) (start end : List ℕ) (low high : ℤ) : Type 0 where
  pub form : IsTrue (is_name start)
  pub start_lacks : is_some (find_point net start) ≡ false
  pub end_lacks : is_some (find_point net end) ≡ false
  pub none_given : length net.given ≡ 0
  pub room : length net.places + 2 < most_points
  pub low_low : pos 0 ≤ℤ low
  pub high_in : is_beyond high ≡ false
  pub low_in : is_beyond low ≡ false

-- a chain of tests that answers none passes the first, and the rest answers none
passes : {X : Type 0} (test : Bool) (x : X) (rest : Option X) → (if test then Some x else rest) ≡ None → (test ≡ false) × (rest ≡ None)
passes true x rest e = absurd (cc)
passes false x rest e = (refl, e)

neither : (x y : Bool) → (x || y) ≡ false → (x ≡ false) × (y ≡ false)
neither true y e = absurd (cc)
neither false y e = (refl, e)

is_true : (b : Bool) → not b ≡ false → IsTrue b
is_true true e = refl
is_true false e = absurd (cc)

pub allowed : (net : Net) (start end : List ℕ) (low high : ℤ) → named_act_refusal net start end low high ≡ None → Allowed net start end low high
allowed net start end low high e =
    let form = passes _ _ _ e in
    let taken = passes _ _ _ form.1 in
    let closed = passes _ _ _ taken.1 in
    let many = passes _ _ _ closed.1 in
    let negative = passes _ _ _ many.1 in
    let beyond = passes _ _ _ negative.1 in
    let names = neither (is_some (find_point net start)) (is_some (find_point net end)) taken.0 in
    let bounds = neither (is_beyond high) (is_beyond low) beyond.0 in
    record {
      form = is_true (is_name start) form.0;
      start_lacks = names.0;
      end_lacks = names.1;
      none_given = no_more (length net.given) closed.0;
      room = fewer most_points (length net.places) many.0;
      low_low = not_below low negative.0;
      high_in = bounds.0;
      low_in = bounds.1;
    }
  where
    no_more : (n : ℕ) → not (nat_eq n 0) ≡ false → n ≡ 0
    no_more n e = grind (arith, nat_tests)

    fewer : (m n : ℕ) → nat_le m (n + 1 + 1) ≡ false → n + 2 < m
    fewer m n e = grind (arith, nat_tests)

    not_below : (b : ℤ) → int_lt b (pos 0) ≡ false → pos 0 ≤ℤ b
    not_below b e = grind (arith, ints)

-- the fields after an act are seen as the network with it
pub act_view : (n : Inside) (net : Net) (es : List (Vec ℕ Global × AgentId)) (start end : Vec ℕ Global) (agent : AgentId) (name : List ℕ) (acts : List Act) (p q : ℕ) (l h low high : ℤ)
    → view_of n ≡ net → es ≡ n.places.entries ++ (start, agent) ∷ (end, agent) ∷ [] → start.items ≡ act_start_name name → end.items ≡ act_end_name name
    → acts ≡ n.acts.items ++ record { start = record { 0 = p }; end = record { 0 = q }; low = l; high = h } ∷ []
    → p ≡ point_count net → q ≡ point_count net + 1 → l ≡ low → h ≡ high
    → record (view_of n) { places = map (λ e. record { name = e.0.items; owner = e.1.0 }) es; acts = acts } ≡ with_act net agent.0 name low high
act_view n net es start end agent name acts p q l h low high view put start_is end_is added p_is q_is l_is h_is =
    let place : List ℕ → Place = λ b. record { name = b; owner = agent.0 } in
    let act : ℕ → ℕ → ℤ → ℤ → Act = λ i j x y. record { start = record { 0 = i }; end = record { 0 = j }; low = x; high = y } in
    let old = (view_of n).places in
    let places : map (λ e. record { name = e.0.items; owner = e.1.0 }) es ≡ old ++ place (act_start_name name) ∷ place (act_end_name name) ∷ [] =
    ap (map (λ e. record { name = e.0.items; owner = e.1.0 })) put ∙ map-append _ n.places.entries ((start, agent) ∷ (end, agent) ∷ [])
    ∙ ap (λ b. old ++ place b ∷ place end.items ∷ []) start_is ∙ ap (λ b. old ++ place (act_start_name name) ∷ place b ∷ []) end_is in
    let acts_are : acts ≡ n.acts.items ++ act (point_count net) (point_count net + 1) low high ∷ [] =
    added ∙ ap (λ i. n.acts.items ++ act i q l h ∷ []) p_is ∙ ap (λ j. n.acts.items ++ act (point_count net) j l h ∷ []) q_is
    ∙ ap (λ x. n.acts.items ++ act (point_count net) (point_count net + 1) x h ∷ []) l_is
    ∙ ap (λ y. n.acts.items ++ act (point_count net) (point_count net + 1) low y ∷ []) h_is in
    ap (λ ps. record (view_of n) { places = ps; acts = acts }) places
    ∙ ap (λ ks. record (view_of n) { places = old ++ place (act_start_name name) ∷ place (act_end_name name) ∷ []; acts = ks }) acts_are
    ∙ ap (λ (w : Net). record w {
      places = w.places ++ place (act_start_name name) ∷ place (act_end_name name) ∷ [];
      acts = w.acts ++ act (point_count net) (point_count net + 1) low high ∷ [];
    }) view

-- what an act's points are named for
pub act_named : (net : Net) (a : Act) → IsActWithin net.places a
    → (2 ≤ length (point_name_of net a.start.0))
    × (point_name_of net a.start.0 ≡ act_start_name (take (length (point_name_of net a.start.0) - 2) (point_name_of net a.start.0)))
    × (point_name_of net a.end.0 ≡ act_end_name (take (length (point_name_of net a.start.0) - 2) (point_name_of net a.start.0)))
act_named net a h =
    let start = point_name_of net a.start.0 in
    let start_is : point_name_of net a.start.0 ≡ act_start_name h.name = placed a.start.0 h.after_z ∙ h.start_name in
    let end_is : point_name_of net a.end.0 ≡ act_end_name h.name = placed a.end.0 (omega (arith, h.next)) ∙ h.end_name in
    let len : length (point_name_of net a.start.0) ≡ length h.name + 2 = ap length start_is ∙ length-append h.name (46 ∷ 115 ∷ []) in
    let short : length (point_name_of net a.start.0) - 2 ≡ length h.name = omega (arith, len) in
    let name : take (length (point_name_of net a.start.0) - 2) (point_name_of net a.start.0) ≡ h.name =
    ap (λ k. take k (point_name_of net a.start.0)) short ∙ ap (take (length h.name)) start_is ∙ take-append_seam h.name (46 ∷ 115 ∷ []) in
    (omega (arith, len), start_is ∙ ap act_start_name (sym name), end_is ∙ ap act_end_name (sym name))
  where
    placed : (p : ℕ) → 0 < p → point_name_of net p ≡ (get_or net.places (p - 1) no_place).name
    placed p low = let off : nat_eq p 0 ≡ false = grind (arith, nat_tests) in ap (λ b. if b then 122 ∷ [] else (get_or net.places (p - 1) no_place).name) off
