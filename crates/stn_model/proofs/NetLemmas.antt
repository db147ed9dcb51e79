-- How look-ups in the maps are look-ups in the lists that contracts see.
use Rattle.std.proofs.Common.{◌≡◌, ℕ, zero, suc, nat_eq, ◌+◌, ◌-◌, ◌*◌, slice_get, get_or, ◌<◌, ℤ, Bool, true, false, cond, not, List, [], ◌∷◌, ◌++◌, map, length, nat_lt, Option, Some, None, is_some, refl, sym, ap, ◌∙◌, arith, length-append, Vec, Global, if◌then◌else◌}
use Rattle.std.proofs.lemmas.List.{map_push}
use Rattle.std.proofs.Math.ListN.{get_or-map}
use Rattle.std.proofs.lemmas.Bool.Decides.{nat_tests}
use Rattle.std.proofs.lemmas.Option.{slice_get-map, get_or_from_slice_get}
use Rattle.stn_model.specs.declared.ids.PointId.{PointId}
use Rattle.std.specs.Option.{option_map}
use Rattle.indexmap.proofs.MapLemmas.{some_index}
use Rattle.indexmap.proofs.CallerLemmas.{insert_entry-new}
use Rattle.indexmap.specs.IndexMap.{insert_entry}
use Rattle.std.specs.Map.{lookup}
use Rattle.std.specs.HashMap.{values}
use Rattle.std.specs.List.{position, position_or_len, prefix_len}
use Rattle.std.specs.Map.{keys_of}
use Rattle.std.specs.Str.{bytes_eq}
use Rattle.stn_model.specs.declared.ids.Lean.{Lean}
use Rattle.stn_model.specs.declared.ids.Act.{Act}
use Rattle.stn_model.specs.declared.ids.AgentId.{AgentId}
use Rattle.stn_model.specs.declared.network.Network.TheInside.{Inside}
use Rattle.stn_model.specs.Net.{Net, Agent, Place, lean_of, no_agent, agent_names, point_names, horizon_arcs, horizon_pair, act_arcs, act_pair, fixed_arcs, fixed_count, arcs_of, find_point, find_agent, owner_of}
use Rattle.stn_model.specs.Views.{view_of}

pub length-map : {X Y : Type 0} (f : X → Y) (xs : List X) → length (map f xs) ≡ length xs
length-map f [] = refl
length-map f (x ∷ xs) = ap suc (length-map f xs)

pub prefix_len-map : {X Y : Type 0} (p : Y → Bool) (f : X → Y) (xs : List X) → prefix_len p (map f xs) ≡ prefix_len (λ x. p (f x)) xs
prefix_len-map p f [] = refl
prefix_len-map p f (x ∷ xs) = ap (λ n. cond (p (f x)) (1 + n) 0) (prefix_len-map p f xs)

pub position-map : {X Y : Type 0} (p : Y → Bool) (f : X → Y) (xs : List X) → position p (map f xs) ≡ position (λ x. p (f x)) xs
position-map p f xs =
    ap (λ n. cond (nat_lt n (length (map f xs))) (Some n) None) (prefix_len-map (λ y. not (p y)) f xs)
    ∙ ap (λ n. cond (nat_lt (position_or_len (λ x. p (f x)) xs) n) (Some (position_or_len (λ x. p (f x)) xs)) None) (length-map f xs)

-- the number that the map of agents gives a name is the one that the list gives
pub find_agent-view : (n : Inside) (test : List ℕ → Bool) → position (λ k. test k.items) (keys_of n.agents.entries) ≡ position test (agent_names (view_of n))
find_agent-view n test =
    position-map (λ k. test k.items) (λ e. e.0) n.agents.entries
    ∙ sym (position-map test (λ a. a.name) (view_of n).agents ∙ position-map (λ a. test a.name) (λ e. record { name = e.0.items; lean = e.1 }) n.agents.entries)

pub find_point-view : (n : Inside) (test : List ℕ → Bool) → position (λ k. test k.items) (keys_of n.places.entries) ≡ position test (point_names (view_of n))
find_point-view n test =
    position-map (λ k. test k.items) (λ e. e.0) n.places.entries
    ∙ sym (position-map test (λ a. a.name) (view_of n).places ∙ position-map (λ a. test a.name) (λ e. record { name = e.0.items; owner = e.1.0 }) n.places.entries)

pub length-horizon_arcs : (h : ℤ) (n : ℕ) → length (horizon_arcs h n) ≡ 2 * n
length-horizon_arcs h zero = refl
length-horizon_arcs h (suc n) = omega (arith, length-append (horizon_arcs h n) (horizon_pair h (suc n)), length-horizon_arcs h n)

pub length-act_arcs : (acts : List Act) → length (act_arcs acts) ≡ 2 * length acts
length-act_arcs [] = refl
length-act_arcs (a ∷ acts) = omega (arith, length-act_arcs acts)

pub length-fixed_arcs : (net : Net) → length (fixed_arcs net) ≡ fixed_count net
length-fixed_arcs net =
    omega (arith, length-append (horizon_arcs net.horizon (length net.places)) (act_arcs net.acts), length-horizon_arcs net.horizon (length net.places), length-act_arcs net.acts)

pub length-arcs_of : (net : Net) → length (arcs_of net) ≡ 2 * length net.places + 2 * length net.acts + length net.given
length-arcs_of net = omega (arith, length-append (fixed_arcs net) net.given, length-fixed_arcs net)

-- what `find` answers for a name other than `z`
pub find_point_from : (n : Inside) (name : List ℕ) (r : Option ℕ) → bytes_eq name (122 ∷ []) ≡ false
    → r ≡ position (λ k. bytes_eq name k.items) (keys_of n.places.entries) → option_map (λ i. i + 1) r ≡ find_point (view_of n) name
find_point_from n name r other e =
    ap (option_map (λ i. i + 1)) (e ∙ find_point-view n (bytes_eq name))
    ∙ sym (ap (λ b. if b then Some 0 else option_map (λ i. i + 1) (position (bytes_eq name) (point_names (view_of n)))) other)

pub length-places : (n : Inside) → length (view_of n).places ≡ length n.places.entries
length-places n = length-map (λ e. record { name = e.0.items; owner = e.1.0 }) n.places.entries

-- a new key goes last in the list that contracts see
pub agents_push : (n m : Inside) (name : Vec ℕ Global) (lean : Lean) → m.agents.entries ≡ n.agents.entries ++ (name, lean) ∷ []
    → (view_of m).agents ≡ (view_of n).agents ++ record { name = name.items; lean = lean } ∷ []
agents_push n m name lean e = ap (map (λ e. record { name = e.0.items; lean = e.1 })) e ∙ map_push (λ e. record { name = e.0.items; lean = e.1 }) n.agents.entries (name, lean)

-- a name that the list lacks is in no entry
pub agent_absent : (n : Inside) (test : List ℕ → Bool) → is_some (position test (agent_names (view_of n))) ≡ false → lookup (λ k. test k.items) n.agents.entries ≡ None
agent_absent n test h = none_of _ (sym (some_index (λ k. test k.items) n.agents.entries) ∙ ap is_some (find_agent-view n test) ∙ h)
  where
    none_of : {X : Type 0} (o : Option X) → is_some o ≡ false → o ≡ None
    none_of None e = refl
    none_of (Some x) e = cc

is_some-option_map : {X Y : Type 0} (f : X → Y) (o : Option X) → is_some (option_map f o) ≡ is_some o
is_some-option_map f None = refl
is_some-option_map f (Some x) = refl

-- the agents that contracts see, after a name that `find_agent` lacks is put in
pub agents_added : (n : Inside) (net : Net) (es : List (Vec ℕ Global × Lean)) (name : Vec ℕ Global) (bytes : List ℕ) (lean : Lean) (r : Option AgentId)
    → view_of n ≡ net → name.items ≡ bytes → option_map (λ a. a.0) r ≡ find_agent net bytes → is_some r ≡ false
    → es ≡ insert_entry (λ x y. bytes_eq x.items y.items) n.agents.entries name lean
    → map (λ e. record { name = e.0.items; lean = e.1 }) es ≡ net.agents ++ record { name = bytes; lean = lean } ∷ []
agents_added n net es name bytes lean r view same found none put =
    let absent = agent_absent n (bytes_eq name.items)
    (ap (λ b. is_some (find_agent (view_of n) b)) same ∙ ap (λ w. is_some (find_agent w bytes)) view ∙ ap is_some (sym found) ∙ is_some-option_map (λ a. a.0) r ∙ none) in
    ap (map (λ e. record { name = e.0.items; lean = e.1 })) (put ∙ insert_entry-new (λ x y. bytes_eq x.items y.items) n.agents name lean absent)
    ∙ map_push (λ e. record { name = e.0.items; lean = e.1 }) n.agents.entries (name, lean)
    ∙ ap (λ b. (view_of n).agents ++ record { name = b; lean = lean } ∷ []) same
    ∙ ap (λ w. w.agents ++ record { name = bytes; lean = lean } ∷ []) view

-- the places that contracts see, after a name that `find` lacks is put in
pub point_absent : (n : Inside) (name : List ℕ) → is_some (find_point (view_of n) name) ≡ false → lookup (λ k. bytes_eq name k.items) n.places.entries ≡ None
point_absent n name h = none_of _
    (sym (some_index (λ k. bytes_eq name k.items) n.places.entries)
    ∙ ap is_some (find_point-view n (bytes_eq name))
    ∙ inner (bytes_eq name (122 ∷ [])) (position (bytes_eq name) (point_names (view_of n))) h)
  where
    none_of : {X : Type 0} (o : Option X) → is_some o ≡ false → o ≡ None
    none_of None e = refl
    none_of (Some x) e = cc

    inner : (b : Bool) (o : Option ℕ) → is_some (if b then Some 0 else option_map (λ n. n + 1) o) ≡ false → is_some o ≡ false
    inner true o e = cc
    inner false None e = refl
    inner false (Some x) e = e

pub places_added : (n : Inside) (net : Net) (es : List (Vec ℕ Global × AgentId)) (name : Vec ℕ Global) (bytes : List ℕ) (agent : AgentId) (r : Option PointId)
    → view_of n ≡ net → name.items ≡ bytes → option_map (λ a. a.0) r ≡ find_point net bytes → is_some r ≡ false
    → es ≡ insert_entry (λ x y. bytes_eq x.items y.items) n.places.entries name agent
    → map (λ e. record { name = e.0.items; owner = e.1.0 }) es ≡ net.places ++ record { name = bytes; owner = agent.0 } ∷ []
places_added n net es name bytes agent r view same found none put =
    let absent = point_absent n name.items
    (ap (λ b. is_some (find_point (view_of n) b)) same ∙ ap (λ w. is_some (find_point w bytes)) view ∙ ap is_some (sym found) ∙ is_some-option_map (λ a. a.0) r ∙ none) in
    ap (map (λ e. record { name = e.0.items; owner = e.1.0 })) (put ∙ insert_entry-new (λ x y. bytes_eq x.items y.items) n.places name agent absent)
    ∙ map_push (λ e. record { name = e.0.items; owner = e.1.0 }) n.places.entries (name, agent)
    ∙ ap (λ b. (view_of n).places ++ record { name = b; owner = agent.0 } ∷ []) same
    ∙ ap (λ w. w.places ++ record { name = bytes; owner = agent.0 } ∷ []) view

-- the network that contracts see, after a name that `find_agent` lacks is put in
pub view_with_agent : (n : Inside) (net : Net) (es : List (Vec ℕ Global × Lean)) (name : Vec ℕ Global) (bytes : List ℕ) (lean : Lean) (r : Option AgentId)
    → view_of n ≡ net → name.items ≡ bytes → option_map (λ a. a.0) r ≡ find_agent net bytes → is_some r ≡ false
    → es ≡ insert_entry (λ x y. bytes_eq x.items y.items) n.agents.entries name lean
    → record (view_of n) { agents = map (λ e. record { name = e.0.items; lean = e.1 }) es } ≡ record net { agents = net.agents ++ record { name = bytes; lean = lean } ∷ [] }
view_with_agent n net es name bytes lean r view same found none put =
    ap (λ l. record (view_of n) { agents = l }) (agents_added n net es name bytes lean r view same found none put)
    ∙ ap (λ (w : Net). record w { agents = net.agents ++ record { name = bytes; lean = lean } ∷ [] }) view

-- the network that contracts see, after a name that `find` lacks is put in
pub view_with_point : (n : Inside) (net : Net) (es : List (Vec ℕ Global × AgentId)) (name : Vec ℕ Global) (bytes : List ℕ) (agent : AgentId) (r : Option PointId)
    → view_of n ≡ net → name.items ≡ bytes → option_map (λ a. a.0) r ≡ find_point net bytes → is_some r ≡ false
    → es ≡ insert_entry (λ x y. bytes_eq x.items y.items) n.places.entries name agent
    → record (view_of n) { places = map (λ e. record { name = e.0.items; owner = e.1.0 }) es } ≡ record net { places = net.places ++ record { name = bytes; owner = agent.0 } ∷ [] }
view_with_point n net es name bytes agent r view same found none put =
    ap (λ l. record (view_of n) { places = l }) (places_added n net es name bytes agent r view same found none put)
    ∙ ap (λ (w : Net). record w { places = net.places ++ record { name = bytes; owner = agent.0 } ∷ [] }) view

-- whether a look-up answers a point, from its number
pub found_is : {X : Type 0} (f : X → ℕ) (r : Option X) (o : Option ℕ) → option_map f r ≡ o → is_some r ≡ false → is_some o ≡ false
found_is f r o e none = ap is_some (sym e) ∙ is_some-option_map f r ∙ none

-- the owner of a point, by its entry
pub owner_from : (n : Inside) (p : ℕ) (e : Vec ℕ Global × AgentId) → 0 < p → Some e ≡ slice_get n.places.entries (p - 1) → Some e.1.0 ≡ owner_of (view_of n) p
owner_from n p e pos_p is =
    let off : nat_eq p 0 ≡ false = grind (arith, nat_tests) in
    ap (option_map (λ q. q.1.0)) is
    ∙ sym (ap (λ b. if b then None else option_map (λ q. q.owner) (slice_get (view_of n).places (p - 1))) off
    ∙ ap (option_map (λ q. q.owner)) (slice_get-map (λ q. record { name = q.0.items; owner = q.1.0 }) n.places.entries (p - 1)) ∙ twice (slice_get n.places.entries (p - 1)))
  where
    twice : (o : Option (Vec ℕ Global × AgentId)) → option_map {T = Place} (λ q. q.owner) (option_map (λ q. record { name = q.0.items; owner = q.1.0 }) o) ≡ option_map (λ q. q.1.0) o
    twice None = refl
    twice (Some x) = refl

-- the lean of an agent, by its entry
pub lean_read : (n : Inside) (a : ℕ) (lean : Lean) → slice_get (values n.agents) a ≡ Some lean → lean ≡ lean_of (view_of n) a
lean_read n a lean is =
    sym (get_or_from_slice_get (values n.agents) a lean no_agent.lean is)
    ∙ ap (λ ls. get_or ls a no_agent.lean) (sym (leans n.agents.entries)) ∙ get_or-map (λ (e : Agent). e.lean) (view_of n).agents a no_agent
  where
    leans : (es : List (Vec ℕ Global × Lean)) → map {B = Lean} (λ (e : Agent). e.lean) (map (λ e. record { name = e.0.items; lean = e.1 }) es) ≡ map (λ e. e.1) es
    leans [] = refl
    leans (e ∷ es) = ap (λ ls. e.1 ∷ ls) (leans es)
