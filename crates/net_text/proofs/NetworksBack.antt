-- The plain form of a network is read as that network.
use Rattle.std.proofs.Common.{◌≡◌, ◌≢◌, ℕ, suc, ◌+◌, ◌-◌, ◌*◌, ◌<◌, ◌≤◌, ℤ, pos, neg_ℤ, ◌≤ℤ◌, Bool, true, false, not, ◌||◌, ◌&&◌, ◌==◌, nat_eq, nat_le, List, [], ◌∷◌, ◌++◌, map, length, take, get_or, codes, cond, Option, Some, None, is_some, Ok, Err, refl, sym, ap, subst, ◌∙◌, ⊎_elim, arith, length-append, if◌then◌else◌}
use Rattle.std.specs.Prelude.{int_lt}
use Rattle.std.specs.List.{All, AllPairs, AllByRecursion, flat_map, list_all, position}
use Rattle.std.specs.Option.{option_map}
use Rattle.std.specs.Str.{bytes_eq}
use Rattle.std.specs.Fmt.{signed_decimal}
use Rattle.std.proofs.lemmas.Bool.{cases_eq, eq-eqb, eqb-true, leb-true, ne_eqb, lt-leb, or_from, and_parts, false≢true}
use Rattle.std.proofs.lemmas.Bool.Decides.{nat_tests}
use Rattle.std.proofs.lemmas.Int.{ints}
use Rattle.std.proofs.lemmas.List.{append_assoc, append-nil, map-append, length-map, get_or-map, get_or_at, get_or_append_left, take_at}
use Rattle.std.proofs.lemmas.List.Folds.{list_all-append}
use Rattle.std.proofs.lemmas.List.Sums.{fails_before_first}
use Rattle.stn_model.specs.declared.ids.Act.{Act}
use Rattle.stn_model.specs.declared.ids.Constraint.{Constraint}
use Rattle.stn_model.specs.declared.ids.Lean.{Lean}
use Rattle.stn_model.specs.declared.ids.Lean.TheVariants.{Early, Late, Middle}
use Rattle.stn_model.specs.declared.error.NetError.{NetError}
use Rattle.stn_model.specs.declared.error.NetError.TheVariants as refused
use Rattle.stn_model.specs.Limits.{most_points, most_arcs, greatest_bound}
use Rattle.stn_model.specs.Net.{Net, Agent, Place, agent_names, point_names, point_count, no_agent, no_place, agent_name_of, point_name_of, find_point, act_start_name, act_end_name, with_act}
use Rattle.stn_model.specs.Refusals.{is_name, is_beyond, agent_refusal, act_refusal, arc_refusal}
use Rattle.stn_model.specs.Valid.{IsNetwork, IsArcWithin, IsActWithin}
use Rattle.net_text.specs.declared.cause.TextCause.TheVariants as cause
use Rattle.net_text.specs.declared.stage.Stage.{Stage}
use Rattle.net_text.specs.declared.stage.Stage.TheVariants.{Start, Headed, Building}
use Rattle.net_text.specs.declared.version.Version.{Version}
use Rattle.net_text.specs.declared.version.Version.TheVariants.{One, Two}
use Rattle.net_text.specs.Lines.{lines, is_skipped}
use Rattle.net_text.specs.Words.{lean_of, lean_word}
use Rattle.net_text.specs.Versions.{version_word, most_points_1, is_full_in, or_full, point_refusal_in, least_version}
use Rattle.net_text.specs.Networks.{building, given, fields_do, conclude, read_from, text_of, with_agent, with_point, with_arcs, arc_between, add_agent, add_point, add_act, add_arc, add_horizon, given_number, given_agent, given_point, goes_unless}
use Rattle.net_text.specs.Networks.Step.{Goes}
use Rattle.net_text.specs.Laws.{IsReadBackIn, PlainFormIsRead}
use Rattle.net_text.specs.Plain.{spaced, line, agent_line, point_line, act_name, act_line, place_lines, arc_line, plain_text, plain_lines}
use Rattle.net_text.proofs.FieldsOfLines.{IsField, is_solid, filled_from_length}
use Rattle.net_text.proofs.FirstFields.{none_before}
use Rattle.net_text.proofs.LinesRead.{read_line}
use Rattle.net_text.proofs.NumbersBack.{number-signed_decimal, number_is_field}
use Rattle.net_text.proofs.NamesBack.{name_is_field, position_back, position_fresh, position_none, bytes_other}

-- a line after which reading goes on
line_goes : (s t : Stage) (w : List ℕ) (fs : List (List ℕ))
    → IsField w → AllByRecursion IsField fs → is_skipped (w ++ spaced fs) ≡ false → fields_do s (w ∷ fs) ≡ Goes t
    → (n before : ℕ) (more : List ℕ) → read_from s n before (lines (line w fs ++ more)) ≡ read_from t (n + 1) (before + length (line w fs)) (lines more)
line_goes s t w fs h hs word does n before more =
    read_line s n before w fs more h hs word
    ∙ ap (λ d. conclude d n (before + length (line w fs)) (λ u. read_from u (n + 1) (before + length (line w fs)) (lines more))) does

read_at : (s : Stage) (n m b c : ℕ) (more : List ℕ) → n ≡ m → b ≡ c → read_from s n b (lines more) ≡ read_from s m c (lines more)
read_at s n m b c more e f = ap (λ k. read_from s k b (lines more)) e ∙ ap (λ k. read_from s m k (lines more)) f

-- a line for each element of a list, where each line brings its element into the stage
lines_go : {X : Type 0} (f : X → List ℕ) (stage : List X → Stage) (all : List X)
    → ((done : List X) (x : X) (todo : List X) → done ++ x ∷ todo ≡ all → (n before : ℕ) (more : List ℕ)
    → read_from (stage done) n before (lines (f x ++ more)) ≡ read_from (stage (done ++ x ∷ [])) (n + 1) (before + length (f x)) (lines more))
    → (done todo : List X) → done ++ todo ≡ all → (n before : ℕ) (more : List ℕ)
    → read_from (stage done) n before (lines (flat_map f todo ++ more))
    ≡ read_from (stage all) (n + length todo) (before + length (flat_map f todo)) (lines more)
lines_go f stage all step done [] e n before more =
    ap (λ l. read_from (stage l) n before (lines more)) (sym (append-nil done) ∙ e)
    ∙ read_at (stage all) n (n + 0) before (before + 0) more (omega arith) (omega arith)
lines_go f stage all step done (x ∷ todo) e n before more =
    ap (λ t. read_from (stage done) n before (lines t)) (append_assoc (f x) (flat_map f todo) more)
    ∙ step done x todo e n before (flat_map f todo ++ more)
    ∙ lines_go f stage all step (done ++ x ∷ []) todo (append_assoc done (x ∷ []) todo ∙ e) (n + 1) (before + length (f x)) more
    ∙ read_at (stage all) (n + 1 + length todo) (n + length (x ∷ todo))
    (before + length (f x) + length (flat_map f todo)) (before + length (flat_map f (x ∷ todo))) more
    (omega arith) (omega (arith, length-append (f x) (flat_map f todo)))

-- what holds of each element holds of the one at hand
all_at : {X : Type 0} (P : X → Type 0) (done : List X) (x : X) (todo all : List X) → done ++ x ∷ todo ≡ all → All P all → P x
all_at P done x todo all e h =
    subst P (ap (λ l. get_or l (length done) x) (sym e) ∙ get_or_at done x todo x (length done) refl)
    (h (length done) x (omega (arith, ap length e, length-append done (x ∷ todo))))

-- the name at hand is not among those before it
name_fresh : {X : Type 0} (name : X → List ℕ) (done : List X) (x : X) (todo all : List X)
    → done ++ x ∷ todo ≡ all → AllPairs (λ (a b : List ℕ). a ≢ b) (map name all)
    → position (bytes_eq (name x)) (map name done) ≡ None
name_fresh name done x todo all e differ =
    position_fresh (map name done) (name x) (map name todo)
    (subst (AllPairs (λ (a b : List ℕ). a ≢ b)) (ap (map name) (sym e) ∙ map-append name done (x ∷ todo)) differ)

-- the stages of reading a plain form
abbrev pub with_agents : Version → Net → List Agent → Stage
with_agents v net agents = Building v (record { horizon = net.horizon; agents = agents; places = []; acts = []; given = [] })

abbrev pub with_places : Version → Net → List Place → List Act → Stage
with_places v net places acts = Building v (record { horizon = net.horizon; agents = net.agents; places = places; acts = acts; given = [] })

abbrev pub with_given : Version → Net → List Constraint → Stage
with_given v net given = Building v (record { horizon = net.horizon; agents = net.agents; places = net.places; acts = net.acts; given = given })

-- the network can be written in that version
abbrev pub Serves : Version → Net → Type 0
Serves One net = (length net.acts ≡ 0) × (point_count net ≤ most_points_1)
Serves Two net = Unit {0}

lean_back : (l : Lean) → lean_of (lean_word l) ≡ Some l
lean_back Early = refl
lean_back Late = refl
lean_back Middle = refl

lean_is_field : (l : Lean) → IsField (lean_word l)
lean_is_field Early = record { filled = refl; solid = refl }
lean_is_field Late = record { filled = refl; solid = refl }
lean_is_field Middle = record { filled = refl; solid = refl }

pub not_below : (a b : ℤ) → b ≤ℤ a → int_lt a b ≡ false
not_below a b h = grind (arith, ints)

-- AGENTS. A network has names of the right form that differ pairwise, and few agents. So the name of the next agent
-- is refused for none of the reasons that there are: it is a name, no agent before it has it, and there is room.
agent_accepted : (net : Net) → IsNetwork net → (done : List Agent) (a : Agent) (todo : List Agent) → done ++ a ∷ todo ≡ net.agents
    → agent_refusal (record { horizon = net.horizon; agents = done; places = []; acts = []; given = [] }) a.name ≡ None
agent_accepted net valid done a todo e =
    let form : is_name a.name ≡ true = all_at (λ b. is_name b.name ≡ true) done a todo net.agents e valid.agent_forms in
    let fresh : position (bytes_eq a.name) (map (λ b. b.name) done) ≡ None = name_fresh (λ b. b.name) done a todo net.agents e valid.agents_differ in
    let few : length done < 64 = omega (arith, ap length e, length-append done (a ∷ todo), valid.few_agents) in
    ap (λ b. if not b then Some refused.NameBad else (if is_some (position (bytes_eq a.name) (map (λ b. b.name) done)) then Some refused.NameTaken
    else (if nat_le 64 (length done) then Some refused.TooManyAgents else None))) form
    ∙ ap (λ o. if is_some o then Some refused.NameTaken else (if nat_le 64 (length done) then Some refused.TooManyAgents else None)) fresh
    ∙ ap (λ b. if b then Some refused.TooManyAgents else None) (lt-leb 64 (length done) few)

agent_goes : (v : Version) (net : Net) → IsNetwork net → (done : List Agent) (a : Agent) (todo : List Agent) → done ++ a ∷ todo ≡ net.agents
    → fields_do (with_agents v net done) (codes "agent" ∷ a.name ∷ lean_word a.lean ∷ []) ≡ Goes (with_agents v net (done ++ a ∷ []))
agent_goes v net valid done a todo e =
    let now : Net = record { horizon = net.horizon; agents = done; places = []; acts = []; given = [] } in
    ap (λ (o : Option Lean). building v (given o cause.UnknownWord (add_agent now a.name))) (lean_back a.lean)
    ∙ ap (λ o. building v (goes_unless o (with_agent now a.name a.lean))) (agent_accepted net valid done a todo e)

agents_read : (v : Version) (net : Net) → IsNetwork net → (n before : ℕ) (more : List ℕ)
    → read_from (with_agents v net []) n before (lines (flat_map agent_line net.agents ++ more))
    ≡ read_from (with_agents v net net.agents) (n + length net.agents) (before + length (flat_map agent_line net.agents)) (lines more)
agents_read v net valid n before more =
    lines_go agent_line (with_agents v net) net.agents
    (λ done a todo e.
    line_goes (with_agents v net done) (with_agents v net (done ++ a ∷ [])) (codes "agent") (a.name ∷ lean_word a.lean ∷ [])
    (record { filled = refl; solid = refl })
    (name_is_field a.name (all_at (λ b. is_name b.name ≡ true) done a todo net.agents e valid.agent_forms), (lean_is_field a.lean, tt)) refl
    (agent_goes v net valid done a todo e))
    [] net.agents refl n before more

-- POINTS. The owner's name is read as its number, and the next point's name is refused for no reason either.
agent_name_at : (net : Net) (a : ℕ) → a < length net.agents → get_or (agent_names net) a [] ≡ agent_name_of net a
agent_name_at net a lt = get_or-map (λ (b : Agent). b.name) net.agents a no_agent [] lt

agent_back : (net : Net) → IsNetwork net → (a : ℕ) → a < length net.agents → position (bytes_eq (agent_name_of net a)) (agent_names net) ≡ Some a
agent_back net valid a lt =
    subst (λ (name : List ℕ). position (bytes_eq name) (agent_names net) ≡ Some a) (agent_name_at net a lt)
    (position_back (agent_names net) a valid.agents_differ (omega (arith, length-map net.agents (λ (b : Agent). b.name))))

agent_name_is_field : (net : Net) → IsNetwork net → (a : ℕ) → a < length net.agents → IsField (agent_name_of net a)
agent_name_is_field net valid a lt = name_is_field (agent_name_of net a) (valid.agent_forms a no_agent lt)

-- a name that no point among these has
unknown : (net : Net) (done : List Place) (acts : List Act) (p : Place)
    → p.name ≢ 122 ∷ [] → position (bytes_eq p.name) (map (λ (q : Place). q.name) done) ≡ None
    → is_some (find_point (record { horizon = net.horizon; agents = net.agents; places = done; acts = acts; given = [] }) p.name) ≡ false
unknown net done acts p other fresh =
    ap (λ b. is_some (if b then Some 0 else option_map (λ n. n + 1) (position (bytes_eq p.name) (map (λ (q : Place). q.name) done))))
    (bytes_other p.name (122 ∷ []) other)
    ∙ ap (λ o. is_some (option_map (λ n. n + 1) o)) fresh

not_full : (v : Version) (net now : Net) → Serves v net → point_count now < point_count net → is_full_in v now ≡ false
not_full One net now serves fewer = lt-leb most_points_1 (point_count now) (omega (arith, serves.1))
not_full Two net now serves fewer = refl

point_accepted : (v : Version) (net : Net) → IsNetwork net → Serves v net → (done : List Place) (acts : List Act) (p : Place) (todo : List Place)
    → done ++ p ∷ todo ≡ net.places
    → point_refusal_in v (record { horizon = net.horizon; agents = net.agents; places = done; acts = acts; given = [] }) p.name ≡ None
point_accepted v net valid serves done acts p todo e =
    let now : Net = record { horizon = net.horizon; agents = net.agents; places = done; acts = acts; given = [] } in
    let form : is_name p.name ≡ true = all_at (λ q. is_name q.name ≡ true) done p todo net.places e valid.point_forms in
    let fresh : position (bytes_eq p.name) (map (λ q. q.name) done) ≡ None = name_fresh (λ q. q.name) done p todo net.places e valid.points_differ in
    let many : length net.places ≡ length done + length (p ∷ todo) = sym (ap length e) ∙ length-append done (p ∷ todo) in
    let few : length done + 1 < most_points = omega (arith, valid.few_points) in
    ap (λ b. or_full (if not b then Some refused.NameBad
    else (if is_some (find_point now p.name) then Some refused.NameTaken
    else (if nat_le most_points (length done + 1) then Some refused.TooManyPoints else None))) (is_full_in v now)) form
    ∙ ap (λ b. or_full (if b then Some refused.NameTaken
    else (if nat_le most_points (length done + 1) then Some refused.TooManyPoints else None)) (is_full_in v now))
    (unknown net done acts p (all_at (λ q. q.name ≢ 122 ∷ []) done p todo net.places e valid.not_z) fresh)
    ∙ ap (λ b. or_full (if b then Some refused.TooManyPoints else None) (is_full_in v now)) (lt-leb most_points (length done + 1) few)
    ∙ ap (λ b. if b then Some refused.TooManyPoints else None) (not_full v net now serves (omega arith))

point_goes : (v : Version) (net : Net) → IsNetwork net → Serves v net → (done : List Place) (acts : List Act) (p : Place) (todo : List Place)
    → done ++ p ∷ todo ≡ net.places
    → fields_do (with_places v net done acts) (codes "point" ∷ agent_name_of net p.owner ∷ p.name ∷ []) ≡ Goes (with_places v net (done ++ p ∷ []) acts)
point_goes v net valid serves done acts p todo e =
    let now : Net = record { horizon = net.horizon; agents = net.agents; places = done; acts = acts; given = [] } in
    let lt : p.owner < length net.agents = all_at (λ q. q.owner < length net.agents) done p todo net.places e valid.owners in
    ap (λ (o : Option ℕ). building v (given o cause.NameUnknown (λ a. add_point v now a p.name))) (agent_back net valid p.owner lt)
    ∙ ap (λ o. building v (goes_unless o (with_point now p.owner p.name))) (point_accepted v net valid serves done acts p todo e)

point_line_goes : (v : Version) (net : Net) → IsNetwork net → Serves v net → (done : List Place) (acts : List Act) (p : Place) (todo : List Place)
    → done ++ p ∷ todo ≡ net.places → (n before : ℕ) (more : List ℕ)
    → read_from (with_places v net done acts) n before (lines (point_line net p ++ more))
    ≡ read_from (with_places v net (done ++ p ∷ []) acts) (n + 1) (before + length (point_line net p)) (lines more)
point_line_goes v net valid serves done acts p todo e =
    line_goes (with_places v net done acts) (with_places v net (done ++ p ∷ []) acts) (codes "point") (agent_name_of net p.owner ∷ p.name ∷ [])
    (record { filled = refl; solid = refl }) (
      agent_name_is_field net valid p.owner (all_at (λ q. q.owner < length net.agents) done p todo net.places e valid.owners),
      (name_is_field p.name (all_at (λ q. is_name q.name ≡ true) done p todo net.places e valid.point_forms), tt),
    )
    refl (point_goes v net valid serves done acts p todo e)

-- ACTS. An act's line names its agent and its own name, which is that of its start without the last two bytes. Its two points are the next
-- ones, so the line brings back the act with both.
act_name_back : (name : List ℕ) → act_name (act_start_name name) ≡ name
act_name_back name =
    let size : length (act_start_name name) - 2 ≡ length name = omega (arith, length-append name (46 ∷ 115 ∷ [])) in
    ap (λ k. take k (act_start_name name)) size ∙ take_at name (46 ∷ 115 ∷ []) (length name) refl

-- the act's name is a field: `.s` alone is no name, so it is not empty
own_name_field : (name : List ℕ) → is_name (act_start_name name) ≡ true → IsField name
own_name_field [] h = absurd (false≢true h)
own_name_field (b ∷ bs) h =
    let solid : list_all is_solid (act_start_name (b ∷ bs)) ≡ true = (name_is_field (act_start_name (b ∷ bs)) h).solid in
    let both : (list_all is_solid (b ∷ bs) && list_all is_solid (46 ∷ 115 ∷ [])) ≡ true = sym (list_all-append is_solid (b ∷ bs) (46 ∷ 115 ∷ [])) ∙ solid in
    record { filled = filled_from_length (b ∷ bs) (omega arith); solid = (and_parts (list_all is_solid (b ∷ bs)) (list_all is_solid (46 ∷ 115 ∷ [])) both).0 }

-- an act that is next, with its points p and q
record IsNext (net : Net) (done : List Place) (p q : Place) (a : Act) : Type 0 where
  name : List ℕ
  starts : a.start.0 ≡ length done + 1
  ends : a.end.0 ≡ length done + 1 + 1
  start_name : p.name ≡ act_start_name name
  end_name : q.name ≡ act_end_name name
  one_owner : q.owner ≡ p.owner

is_next : (net : Net) (done : List Place) (p q : Place) (todo : List Place) (a : Act) → done ++ p ∷ q ∷ todo ≡ net.places → IsActWithin net.places a
    → a.start.0 ≡ length done + 1 → IsNext net done p q a
is_next net done p q todo a e within starts =
    let at_start : get_or net.places (a.start.0 - 1) no_place ≡ p =
    ap (λ k. get_or net.places (k - 1) no_place) starts
    ∙ ap (λ (l : List Place). get_or l (length done + 1 - 1) no_place) (sym e)
    ∙ get_or_at done p (q ∷ todo) no_place (length done + 1 - 1) (omega arith) in
    let ends : a.end.0 ≡ length done + 1 + 1 = within.next ∙ ap (λ k. k + 1) starts in
    let second : (done ++ p ∷ []) ++ q ∷ todo ≡ net.places = append_assoc done (p ∷ []) (q ∷ todo) ∙ e in
    let at_end : get_or net.places (a.end.0 - 1) no_place ≡ q =
    ap (λ k. get_or net.places (k - 1) no_place) ends
    ∙ ap (λ (l : List Place). get_or l (length done + 1 + 1 - 1) no_place) (sym second)
    ∙ get_or_at (done ++ p ∷ []) q todo no_place (length done + 1 + 1 - 1) (omega (arith, length-append done (p ∷ []))) in
    record {
      name = within.name;
      starts = starts;
      ends = ends;
      start_name = sym (ap (λ (r : Place). r.name) at_start) ∙ within.start_name;
      end_name = sym (ap (λ (r : Place). r.name) at_end) ∙ within.end_name;
      one_owner = sym (ap (λ (r : Place). r.owner) at_end) ∙ within.one_owner ∙ ap (λ (r : Place). r.owner) at_start;
    }

-- a name that is not in a list is not in its prefix
position_prefix : (f : List ℕ → Bool) (xs ys : List (List ℕ)) → position f (xs ++ ys) ≡ None → position f xs ≡ None
position_prefix f xs ys none =
    let far = none_before f (xs ++ ys) none in
    let size : length (xs ++ ys) ≡ length xs + length ys = length-append xs ys in
    position_none f xs (λ k lt. sym (ap f (get_or_append_left xs ys [] k lt)) ∙ fails_before_first f (xs ++ ys) k [] (omega arith))

act_accepted : (net : Net) → IsNetwork net → (done : List Place) (acts : List Act) (p q : Place) (todo : List Place) (a : Act) (name : List ℕ)
    → done ++ p ∷ q ∷ todo ≡ net.places → p.name ≡ act_start_name name → q.name ≡ act_end_name name → IsActWithin net.places a
    → act_refusal (record { horizon = net.horizon; agents = net.agents; places = done; acts = acts; given = [] }) name a.low a.high ≡ None
act_accepted net valid done acts p q todo a name e start end within =
    let now : Net = record { horizon = net.horizon; agents = net.agents; places = done; acts = acts; given = [] } in
    let second : (done ++ p ∷ []) ++ q ∷ todo ≡ net.places = append_assoc done (p ∷ []) (q ∷ todo) ∙ e in
    let names : Place → List ℕ = λ r. r.name in
    let form : is_name p.name ≡ true = all_at (λ r. is_name r.name ≡ true) done p (q ∷ todo) net.places e valid.point_forms in
    let start_fresh : position (bytes_eq p.name) (map (λ r. r.name) done) ≡ None =
    name_fresh (λ r. r.name) done p (q ∷ todo) net.places e valid.points_differ in
    let end_fresh : position (bytes_eq q.name) (map (λ r. r.name) done) ≡ None =
    position_prefix (bytes_eq q.name) (map names done) (map names (p ∷ []))
    (ap (position (bytes_eq q.name)) (sym (map-append names done (p ∷ [])))
    ∙ name_fresh (λ r. r.name) (done ++ p ∷ []) q todo net.places second valid.points_differ) in
    let start_new : is_some (find_point now (act_start_name name)) ≡ false =
    ap (λ n. is_some (find_point now n)) (sym start)
    ∙ unknown net done acts p (all_at (λ r. r.name ≢ 122 ∷ []) done p (q ∷ todo) net.places e valid.not_z) start_fresh in
    let end_new : is_some (find_point now (act_end_name name)) ≡ false =
    ap (λ n. is_some (find_point now n)) (sym end)
    ∙ unknown net done acts q (all_at (λ r. r.name ≢ 122 ∷ []) (done ++ p ∷ []) q todo net.places second valid.not_z) end_fresh in
    let many : length net.places ≡ length done + length (p ∷ q ∷ todo) = sym (ap length e) ∙ length-append done (p ∷ q ∷ todo) in
    let few : length done + 1 + 1 < most_points = omega (arith, valid.few_points) in
    let low_far : neg_ℤ (pos greatest_bound) ≤ℤ a.low = let low = within.low_low in omega (arith, ints) in
    let last : Option NetError = None in
    let beyond : (b : ℤ) → neg_ℤ (pos greatest_bound) ≤ℤ b → b ≤ℤ pos greatest_bound → is_beyond b ≡ false = λ b low high.
    or_from (int_lt b (neg_ℤ (pos greatest_bound))) (int_lt (pos greatest_bound) b)
    (not_below b (neg_ℤ (pos greatest_bound)) low) (not_below (pos greatest_bound) b high) in
    let range : Option NetError = if is_beyond a.high || is_beyond a.low then Some refused.BoundRange else None in
    let duration : Option NetError = if int_lt a.low (pos 0) then Some refused.NegativeDuration else range in
    let points : Option NetError = if nat_le most_points (length done + 1 + 1) then Some refused.TooManyPoints else duration in
    ap (λ b. if not b then Some refused.NameBad
    else (if is_some (find_point now (act_start_name name)) || is_some (find_point now (act_end_name name)) then Some refused.NameTaken else points))
    (ap is_name (sym start) ∙ form)
    ∙ ap (λ b. if b then Some refused.NameTaken else points)
    (or_from (is_some (find_point now (act_start_name name))) (is_some (find_point now (act_end_name name))) start_new end_new)
    ∙ ap (λ b. if b then Some refused.TooManyPoints else duration) (lt-leb most_points (length done + 1 + 1) few)
    ∙ ap (λ b. if b then Some refused.NegativeDuration else range) (not_below a.low (pos 0) within.low_low)
    ∙ ap (λ b. if b then Some refused.BoundRange else last)
    (or_from (is_beyond a.high) (is_beyond a.low) (beyond a.high within.high_low within.high_high) (beyond a.low low_far within.low_high))

place_is : (p : Place) (name : List ℕ) (owner : ℕ) → p.name ≡ name → p.owner ≡ owner → record { name = name; owner = owner } ≡ p
place_is p name owner is owns = ap (λ n. record { name = n; owner = owner }) (sym is) ∙ ap (λ k. record { name = p.name; owner = k }) (sym owns)

act_is : (a : Act) (start end : ℕ) → a.start.0 ≡ start → a.end.0 ≡ end
    → record { start = record { 0 = start }; end = record { 0 = end }; low = a.low; high = a.high } ≡ a
act_is a start end starts ends =
    ap (λ k. record { start = record { 0 = k }; end = record { 0 = end }; low = a.low; high = a.high }) (sym starts)
    ∙ ap (λ k. record { start = a.start; end = record { 0 = k }; low = a.low; high = a.high }) (sym ends)

act_goes : (net : Net) → IsNetwork net → (done : List Place) (acts : List Act) (p q : Place) (todo : List Place) (a : Act)
    → done ++ p ∷ q ∷ todo ≡ net.places → IsActWithin net.places a → IsNext net done p q a
    → fields_do (with_places Two net done acts) (codes "act" ∷ agent_name_of net p.owner ∷ act_name p.name ∷ signed_decimal a.low ∷ signed_decimal a.high ∷ [])
    ≡ Goes (with_places Two net (done ++ p ∷ q ∷ []) (acts ++ a ∷ []))
act_goes net valid done acts p q todo a e within next =
    let now : Net = record { horizon = net.horizon; agents = net.agents; places = done; acts = acts; given = [] } in
    let lt : p.owner < length net.agents = all_at (λ r. r.owner < length net.agents) done p (q ∷ todo) net.places e valid.owners in
    let agent : List ℕ = agent_name_of net p.owner in
    let own : act_name p.name ≡ next.name = ap act_name next.start_name ∙ act_name_back next.name in
    let low_far : neg_ℤ (pos greatest_bound) ≤ℤ a.low = let low = within.low_low in omega (arith, ints) in
    ap (λ (n : List ℕ). fields_do (with_places Two net done acts) (codes "act" ∷ agent ∷ n ∷ signed_decimal a.low ∷ signed_decimal a.high ∷ [])) own
    ∙ ap (λ (o : Option ℤ). building Two (given o cause.NumberBad (λ l. given_number (signed_decimal a.high)
    (λ h. given_agent now agent (λ i. add_act now i next.name l h)))))
    (number-signed_decimal a.low low_far within.low_high)
    ∙ ap (λ (o : Option ℤ). building Two (given o cause.NumberBad (λ h. given_agent now agent (λ i. add_act now i next.name a.low h))))
    (number-signed_decimal a.high within.high_low within.high_high)
    ∙ ap (λ (o : Option ℕ). building Two (given o cause.NameUnknown (λ i. add_act now i next.name a.low a.high))) (agent_back net valid p.owner lt)
    ∙ ap (λ o. building Two (goes_unless o (with_act now p.owner next.name a.low a.high)))
    (act_accepted net valid done acts p q todo a next.name e next.start_name next.end_name within)
    ∙ ap (λ (r : Place). Goes (with_places Two net (done ++ r ∷ record { name = act_end_name next.name; owner = p.owner } ∷ [])
    (acts ++ record { start = record { 0 = length done + 1 }; end = record { 0 = length done + 1 + 1 }; low = a.low; high = a.high } ∷ [])))
    (place_is p (act_start_name next.name) p.owner next.start_name refl)
    ∙ ap (λ (r : Place). Goes (with_places Two net (done ++ p ∷ r ∷ [])
    (acts ++ record { start = record { 0 = length done + 1 }; end = record { 0 = length done + 1 + 1 }; low = a.low; high = a.high } ∷ [])))
    (place_is q (act_end_name next.name) p.owner next.end_name next.one_owner)
    ∙ ap (λ (b : Act). Goes (with_places Two net (done ++ p ∷ q ∷ []) (acts ++ b ∷ [])))
    (act_is a (length done + 1) (length done + 1 + 1) next.starts next.ends)

act_line_goes : (net : Net) → IsNetwork net → (done : List Place) (acts : List Act) (p q : Place) (todo : List Place) (a : Act)
    → done ++ p ∷ q ∷ todo ≡ net.places → IsActWithin net.places a → IsNext net done p q a → (n before : ℕ) (more : List ℕ)
    → read_from (with_places Two net done acts) n before (lines (act_line net p a ++ more))
    ≡ read_from (with_places Two net (done ++ p ∷ q ∷ []) (acts ++ a ∷ [])) (n + 1) (before + length (act_line net p a)) (lines more)
act_line_goes net valid done acts p q todo a e within next =
    let form : is_name p.name ≡ true = all_at (λ r. is_name r.name ≡ true) done p (q ∷ todo) net.places e valid.point_forms in
    let own : act_name p.name ≡ next.name = ap act_name next.start_name ∙ act_name_back next.name in
    let field : IsField (act_name p.name) = subst IsField (sym own) (own_name_field next.name (sym (ap is_name next.start_name) ∙ form)) in
    let low_far : neg_ℤ (pos greatest_bound) ≤ℤ a.low = let low = within.low_low in omega (arith, ints) in
    line_goes (with_places Two net done acts) (with_places Two net (done ++ p ∷ q ∷ []) (acts ++ a ∷ [])) (codes "act")
    (agent_name_of net p.owner ∷ act_name p.name ∷ signed_decimal a.low ∷ signed_decimal a.high ∷ []) (record { filled = refl; solid = refl }) (
      agent_name_is_field net valid p.owner (all_at (λ r. r.owner < length net.agents) done p (q ∷ todo) net.places e valid.owners),
      (field, (number_is_field a.low low_far within.low_high, (number_is_field a.high within.high_low within.high_high, tt))),
    )
    refl (act_goes net valid done acts p q todo a e within next)

-- the acts that are left, in the order of their points, none before point k
abbrev AreLater : Net → ℕ → List Act → Type 0
AreLater net k [] = Unit {0}
AreLater net k (a ∷ acts) = (k ≤ a.start.0) × IsActWithin net.places a × AreLater net (a.end.0 + 1) acts

are_later : (net : Net) (k : ℕ) (acts : List Act) → All (IsActWithin net.places) acts → AllPairs (λ (a b : Act). a.end.0 < b.start.0) acts
    → ((i : ℕ) (d : Act) → i < length acts → k ≤ (get_or acts i d).start.0) → AreLater net k acts
are_later net k [] within order first = tt
are_later net k (a ∷ acts) within order first = (
  first 0 a (omega arith),
  within 0 a (omega arith),
  are_later net (a.end.0 + 1) acts (λ i d lt. within (suc i) d (omega arith)) (λ i j d lt many. order (suc i) (suc j) d (omega arith) (omega arith))
      (λ i d lt. let past : a.end.0 < (get_or acts i d).start.0 = order 0 (suc i) d (omega arith) (omega arith) in omega arith),
)

-- two points for each act are left
later_few : (net : Net) (k : ℕ) (acts : List Act) → k ≤ length net.places + 1 → AreLater net k acts → k + 2 * length acts ≤ length net.places + 1
later_few net k [] room later = omega arith
later_few net k (a ∷ acts) room later =
    let few = later_few net (a.end.0 + 1) acts (omega (arith, later.1.there)) later.2 in
    let next : a.end.0 ≡ a.start.0 + 1 = later.1.next in
    let from : k ≤ a.start.0 = later.0 in omega arith

-- where no act starts at this point, the acts that are left start at the next one or later
not_yet : (net : Net) (k : ℕ) (a : Act) (acts : List Act) → (a.start.0 == k) ≡ false → AreLater net k (a ∷ acts) → AreLater net (k + 1) (a ∷ acts)
not_yet net k a acts other later =
    let past : k + 1 ≤ a.start.0 = let from : k ≤ a.start.0 = later.0 in grind (arith, nat_tests) in (past, later.1, later.2)

-- a point whose line comes next, and then the lines that are left
point_and_on : (v : Version) (net : Net) → IsNetwork net → Serves v net
    → (done : List Place) (did : List Act) (p : Place) (todo : List Place) (acts : List Act) (k : ℕ)
    → done ++ p ∷ todo ≡ net.places → length acts ≤ length todo
    → ((n before : ℕ) (more : List ℕ)
    → read_from (with_places v net (done ++ p ∷ []) did) n before (lines (place_lines net k todo acts ++ more))
    ≡ read_from (with_places v net net.places net.acts) (n + (length todo - length acts)) (before + length (place_lines net k todo acts)) (lines more))
    → (n before : ℕ) (more : List ℕ)
    → read_from (with_places v net done did) n before (lines ((point_line net p ++ place_lines net k todo acts) ++ more))
    ≡ read_from (with_places v net net.places net.acts) (n + (length (p ∷ todo) - length acts))
    (before + length (point_line net p ++ place_lines net k todo acts)) (lines more)
point_and_on v net valid serves done did p todo acts k e few on n before more =
    let left : List ℕ = place_lines net k todo acts in
    ap (λ t. read_from (with_places v net done did) n before (lines t)) (append_assoc (point_line net p) left more)
    ∙ point_line_goes v net valid serves done did p todo e n before (left ++ more)
    ∙ on (n + 1) (before + length (point_line net p)) more
    ∙ read_at (with_places v net net.places net.acts) (n + 1 + (length todo - length acts)) (n + (length (p ∷ todo) - length acts))
    (before + length (point_line net p) + length left) (before + length (point_line net p ++ left)) more
    (omega arith) (omega (arith, length-append (point_line net p) left))

act_and_on : (net : Net) → IsNetwork net → (done : List Place) (did : List Act) (p q : Place) (todo : List Place) (a : Act) (acts : List Act) (k : ℕ)
    → done ++ p ∷ q ∷ todo ≡ net.places → IsActWithin net.places a → a.start.0 ≡ length done + 1 → length acts ≤ length todo
    → ((n before : ℕ) (more : List ℕ)
    → read_from (with_places Two net (done ++ p ∷ q ∷ []) (did ++ a ∷ [])) n before (lines (place_lines net k todo acts ++ more))
    ≡ read_from (with_places Two net net.places net.acts) (n + (length todo - length acts)) (before + length (place_lines net k todo acts)) (lines more))
    → (n before : ℕ) (more : List ℕ)
    → read_from (with_places Two net done did) n before (lines ((act_line net p a ++ place_lines net k todo acts) ++ more))
    ≡ read_from (with_places Two net net.places net.acts) (n + (length (p ∷ q ∷ todo) - length (a ∷ acts)))
    (before + length (act_line net p a ++ place_lines net k todo acts)) (lines more)
act_and_on net valid done did p q todo a acts k e within starts few on n before more =
    let left : List ℕ = place_lines net k todo acts in
    ap (λ t. read_from (with_places Two net done did) n before (lines t)) (append_assoc (act_line net p a) left more)
    ∙ act_line_goes net valid done did p q todo a e within (is_next net done p q todo a e within starts) n before (left ++ more)
    ∙ on (n + 1) (before + length (act_line net p a)) more
    ∙ read_at (with_places Two net net.places net.acts) (n + 1 + (length todo - length acts)) (n + (length (p ∷ q ∷ todo) - length (a ∷ acts)))
    (before + length (act_line net p a) + length left) (before + length (act_line net p a ++ left)) more
    (omega arith) (omega (arith, length-append (act_line net p a) left))

-- version 1 has no acts
has_acts : (v : Version) (net : Net) (did : List Act) (a : Act) (acts : List Act) → Serves v net → did ++ a ∷ acts ≡ net.acts → v ≡ Two
has_acts One net did a acts serves e = absurd (omega (arith, ap length e, length-append did (a ∷ acts), serves.0))
has_acts Two net did a acts serves e = refl

places_from : (v : Version) (net : Net) → IsNetwork net → Serves v net → (done todo : List Place) (did acts : List Act) (k : ℕ) → k ≡ length done + 1
    → done ++ todo ≡ net.places → did ++ acts ≡ net.acts → AreLater net k acts → (n before : ℕ) (more : List ℕ)
    → read_from (with_places v net done did) n before (lines (place_lines net k todo acts ++ more))
    ≡ read_from (with_places v net net.places net.acts) (n + (length todo - length acts)) (before + length (place_lines net k todo acts)) (lines more)
places_from v net valid serves done [] did [] k at e f later n before more =
    ap (λ (ps : List Place). read_from (with_places v net ps did) n before (lines more)) (sym (append-nil done) ∙ e)
    ∙ ap (λ (all : List Act). read_from (with_places v net net.places all) n before (lines more)) (sym (append-nil did) ∙ f)
    ∙ read_at (with_places v net net.places net.acts) n (n + 0) before (before + 0) more (omega arith) (omega arith)
places_from v net valid serves done [] did (a ∷ acts) k at e f later n before more =
    absurd (let next : a.end.0 ≡ a.start.0 + 1 = later.1.next in let from : k ≤ a.start.0 = later.0 in let none : List Place = [] in
    omega (arith, later.1.there, ap length e, length-append done none))
places_from v net valid serves done (p ∷ todo) did [] k at e f later n before more =
    point_and_on v net valid serves done did p todo [] (k + 1) e (omega arith)
    (places_from v net valid serves (done ++ p ∷ []) todo did [] (k + 1) (omega (arith, length-append done (p ∷ [])))
    (append_assoc done (p ∷ []) todo ∙ e) f tt)
    n before more
places_from v net valid serves done (p ∷ []) did (a ∷ acts) k at e f later n before more =
    absurd (let next : a.end.0 ≡ a.start.0 + 1 = later.1.next in let from : k ≤ a.start.0 = later.0 in
    omega (arith, later.1.there, ap length e, length-append done (p ∷ [])))
places_from v net valid serves done (p ∷ q ∷ todo) did (a ∷ acts) k at e f later n before more =
    let all : length net.places ≡ length done + length (p ∷ q ∷ todo) = sym (ap length e) ∙ length-append done (p ∷ q ∷ todo) in
    let now : Bool → List ℕ = λ t. if t then act_line net p a ++ place_lines net (k + 2) todo acts
    else point_line net p ++ place_lines net (k + 1) (q ∷ todo) (a ∷ acts) in
    (elim (a.start.0 == k) as (λ t. (a.start.0 == k) ≡ t → read_from (with_places v net done did) n before (lines (now t ++ more))
    ≡ read_from (with_places v net net.places net.acts) (n + (length (p ∷ q ∷ todo) - length (a ∷ acts))) (before + length (now t)) (lines more)) [
      | true ↦ λ t.
          let starts : a.start.0 ≡ length done + 1 = eqb-true a.start.0 k t ∙ at in
          let next : a.end.0 ≡ a.start.0 + 1 = later.1.next in
          let past : AreLater net (k + 2) acts = subst (λ m. AreLater net m acts) (omega arith) later.2 in
          let few = later_few net (k + 2) acts (omega arith) past in
          subst (λ (w : Version). read_from (with_places w net done did) n before (lines (now true ++ more))
          ≡ read_from (with_places w net net.places net.acts) (n + (length (p ∷ q ∷ todo) - length (a ∷ acts))) (before + length (now true)) (lines more))
          (sym (has_acts v net did a acts serves f))
          (act_and_on net valid done did p q todo a acts (k + 2) e later.1 starts (omega arith)
          (places_from Two net valid tt (done ++ p ∷ q ∷ []) todo (did ++ a ∷ []) acts (k + 2) (omega (arith, length-append done (p ∷ q ∷ [])))
          (append_assoc done (p ∷ q ∷ []) todo ∙ e) (append_assoc did (a ∷ []) acts ∙ f) past)
          n before more)
      | false ↦ λ t.
          let past : AreLater net (k + 1) (a ∷ acts) = not_yet net k a acts t later in
          let few = later_few net (k + 1) (a ∷ acts) (omega arith) past in
          point_and_on v net valid serves done did p (q ∷ todo) (a ∷ acts) (k + 1) e (omega arith)
          (places_from v net valid serves (done ++ p ∷ []) (q ∷ todo) did (a ∷ acts) (k + 1) (omega (arith, length-append done (p ∷ [])))
          (append_assoc done (p ∷ []) (q ∷ todo) ∙ e) f past)
          n before more
    ]) refl

places_read : (v : Version) (net : Net) → IsNetwork net → Serves v net → (n before : ℕ) (more : List ℕ)
    → read_from (with_agents v net net.agents) n before (lines (place_lines net 1 net.places net.acts ++ more))
    ≡ read_from (with_given v net []) (n + (length net.places - length net.acts)) (before + length (place_lines net 1 net.places net.acts)) (lines more)
places_read v net valid serves n before more =
    places_from v net valid serves [] net.places [] net.acts 1 (omega arith) refl refl
    (are_later net 1 net.acts valid.acts valid.in_order (λ i d lt. (valid.acts i d lt).after_z)) n before more

-- ARCS. Each end's name is read as its number, and the bound as itself.
point_name_first : (net : Net) (p : ℕ) → p ≡ 0 → point_name_of net p ≡ 122 ∷ []
point_name_first net p e = ap (λ b. if b then 122 ∷ [] else (get_or net.places (p - 1) no_place).name) (eq-eqb p 0 e)

point_name_later : (net : Net) (p : ℕ) → p ≢ 0 → point_name_of net p ≡ (get_or net.places (p - 1) no_place).name
point_name_later net p ne = ap (λ b. if b then 122 ∷ [] else (get_or net.places (p - 1) no_place).name) (ne_eqb p 0 ne)

place_back : (net : Net) → IsNetwork net → (q : ℕ) → q < length net.places → find_point net (get_or net.places q no_place).name ≡ Some (q + 1)
place_back net valid q lt =
    let name : List ℕ = (get_or net.places q no_place).name in
    let is : get_or (point_names net) q [] ≡ name = get_or-map (λ (p : Place). p.name) net.places q no_place [] lt in
    ap (λ b. if b then Some 0 else option_map (λ n. n + 1) (position (bytes_eq name) (point_names net)))
    (bytes_other name (122 ∷ []) (valid.not_z q no_place lt))
    ∙ ap (option_map (λ n. n + 1))
    (subst (λ (k : List ℕ). position (bytes_eq k) (point_names net) ≡ Some q) is
    (position_back (point_names net) q valid.points_differ (omega (arith, length-map net.places (λ (p : Place). p.name)))))

pub point_back : (net : Net) → IsNetwork net → (p : ℕ) → p < point_count net → find_point net (point_name_of net p) ≡ Some p
point_back net valid p lt =
    ⊎_elim
    (λ (first : p ≡ 0). ap (find_point net) (point_name_first net p first) ∙ ap Some (sym first))
    (λ (later : p ≢ 0).
    let back : p - 1 + 1 ≡ p = omega arith in
    ap (find_point net) (point_name_later net p later) ∙ place_back net valid (p - 1) (omega arith) ∙ ap Some back)
    (cases_eq p 0)

pub point_name_is_field : (net : Net) → IsNetwork net → (p : ℕ) → p < point_count net → IsField (point_name_of net p)
point_name_is_field net valid p lt =
    ⊎_elim
    (λ (first : p ≡ 0). subst IsField (sym (point_name_first net p first)) (record { filled = refl; solid = refl }))
    (λ (later : p ≢ 0). subst IsField (sym (point_name_later net p later)) (name_is_field _ (valid.point_forms (p - 1) no_place (omega arith))))
    (cases_eq p 0)

arc_accepted : (net : Net) → IsNetwork net → (done : List Constraint) (a : Constraint) (todo : List Constraint) → done ++ a ∷ todo ≡ net.given
    → arc_refusal (record { horizon = net.horizon; agents = net.agents; places = net.places; acts = net.acts; given = done }) a.from.0 a.to.0 a.bound ≡ None
arc_accepted net valid done a todo e =
    let within : IsArcWithin (point_count net) a = all_at (IsArcWithin (point_count net)) done a todo net.given e valid.arcs in
    let few : 2 * length net.acts + length done < most_arcs = omega (arith, ap length e, length-append done (a ∷ todo), valid.few_arcs) in
    ap (λ b. if b then Some refused.SamePoint
    else (if is_beyond a.bound then Some refused.BoundRange
    else (if nat_le most_arcs (2 * length net.acts + length done) then Some refused.TooManyArcs else None))) (ne_eqb a.from.0 a.to.0 within.different)
    ∙ ap (λ b. if b then Some refused.BoundRange else (if nat_le most_arcs (2 * length net.acts + length done) then Some refused.TooManyArcs else None))
    (or_from (int_lt a.bound (neg_ℤ (pos greatest_bound))) (int_lt (pos greatest_bound) a.bound)
    (not_below a.bound (neg_ℤ (pos greatest_bound)) within.low) (not_below (pos greatest_bound) a.bound within.high))
    ∙ ap (λ b. if b then Some refused.TooManyArcs else None) (lt-leb most_arcs (2 * length net.acts + length done) few)

arc_goes : (v : Version) (net : Net) → IsNetwork net → (done : List Constraint) (a : Constraint) (todo : List Constraint) → done ++ a ∷ todo ≡ net.given
    → fields_do (with_given v net done) (codes "arc" ∷ point_name_of net a.from.0 ∷ point_name_of net a.to.0 ∷ signed_decimal a.bound ∷ [])
    ≡ Goes (with_given v net (done ++ a ∷ []))
arc_goes v net valid done a todo e =
    let now : Net = record { horizon = net.horizon; agents = net.agents; places = net.places; acts = net.acts; given = done } in
    let within : IsArcWithin (point_count net) a = all_at (IsArcWithin (point_count net)) done a todo net.given e valid.arcs in
    let from : List ℕ = point_name_of net a.from.0 in
    let to : List ℕ = point_name_of net a.to.0 in
    ap (λ (o : Option ℤ). building v (given o cause.NumberBad (λ b. given_point now from (λ i. given_point now to (λ j. add_arc now i j b)))))
    (number-signed_decimal a.bound within.low within.high)
    ∙ ap (λ (o : Option ℕ). building v (given o cause.NameUnknown (λ i. given_point now to (λ j. add_arc now i j a.bound))))
    (point_back net valid a.from.0 within.starts)
    ∙ ap (λ (o : Option ℕ). building v (given o cause.NameUnknown (λ j. add_arc now a.from.0 j a.bound))) (point_back net valid a.to.0 within.ends)
    ∙ ap (λ o. building v (goes_unless o (with_arcs now (arc_between a.from.0 a.to.0 a.bound ∷ [])))) (arc_accepted net valid done a todo e)

arcs_read : (v : Version) (net : Net) → IsNetwork net → (n before : ℕ) (more : List ℕ)
    → read_from (with_given v net []) n before (lines (flat_map (arc_line net) net.given ++ more))
    ≡ read_from (with_given v net net.given) (n + length net.given) (before + length (flat_map (arc_line net) net.given)) (lines more)
arcs_read v net valid n before more =
    lines_go (arc_line net) (with_given v net) net.given
    (λ done a todo e.
    let within : IsArcWithin (point_count net) a = all_at (IsArcWithin (point_count net)) done a todo net.given e valid.arcs in
    line_goes (with_given v net done) (with_given v net (done ++ a ∷ [])) (codes "arc")
    (point_name_of net a.from.0 ∷ point_name_of net a.to.0 ∷ signed_decimal a.bound ∷ []) (record { filled = refl; solid = refl }) (
      point_name_is_field net valid a.from.0 within.starts,
      (point_name_is_field net valid a.to.0 within.ends, (number_is_field a.bound within.low within.high, tt)),
    ) refl (arc_goes v net valid done a todo e))
    [] net.given refl n before more

horizon_goes : (v : Version) (net : Net) → IsNetwork net
    → fields_do (Headed v) (codes "horizon" ∷ signed_decimal net.horizon ∷ []) ≡ Goes (with_agents v net [])
horizon_goes v net valid =
    ap (λ (o : Option ℤ). building v (given o cause.NumberBad add_horizon))
    (number-signed_decimal net.horizon (omega (arith, ints, valid.horizon_low)) valid.horizon_high)
    ∙ ap (λ b. building v (if b then Err cause.HorizonRange else Ok (record { horizon = net.horizon; agents = []; places = []; acts = []; given = [] })))
    (or_from (int_lt net.horizon (pos 0)) (int_lt (pos greatest_bound) net.horizon) (not_below net.horizon (pos 0) valid.horizon_low)
    (not_below (pos greatest_bound) net.horizon valid.horizon_high))

header_goes : (v : Version) → fields_do Start (codes "mastn" ∷ version_word v ∷ []) ≡ Goes (Headed v)
header_goes One = refl
header_goes Two = refl

version_is_field : (v : Version) → IsField (version_word v)
version_is_field One = record { filled = refl; solid = refl }
version_is_field Two = record { filled = refl; solid = refl }

regroup : (a b c d e f g : List ℕ) → a ++ b ++ c ++ d ++ e ++ f ++ g ≡ a ++ (b ++ (c ++ (d ++ (e ++ (f ++ g)))))
regroup a b c d e f g = simp append_assoc

length_of_six : (a b c d e f : List ℕ) → 0 + length a + length b + length c + length d + length e + length f ≡ length (a ++ b ++ c ++ d ++ e ++ f)
length_of_six a b c d e f =
    omega (
      arith,
      length-append (a ++ b ++ c ++ d ++ e) f,
      length-append (a ++ b ++ c ++ d) e,
      length-append (a ++ b ++ c) d,
      length-append (a ++ b) c,
      length-append a b,
    )

-- PRINTING, THEN READING. The header and the horizon line lead to the network of no agent; then each agent line brings
-- its agent, each point line its point, each act line its act with its two points, and each arc line its arc, since a network's names have
-- the right form and differ, owners and ends are numbers of its own, bounds are in range, and the limits hold at each step. Arcs come
-- after all points, so no point is closed out. At the `end` line the stage's network is the network itself; each line
-- was counted once and each byte once, so the answer is the network with the plain form's lines and length, whatever
-- follows.
plain_read : (v : Version) (net : Net) → IsNetwork net → Serves v net → (rest : List ℕ)
    → text_of (plain_text v net ++ rest) ≡ Ok (record { net = net; used = length (plain_text v net); lines = plain_lines net })
plain_read v net valid serves rest =
    let first : List ℕ = line (codes "mastn") (version_word v ∷ []) in
    let second : List ℕ = line (codes "horizon") (signed_decimal net.horizon ∷ []) in
    let agents : List ℕ = flat_map agent_line net.agents in
    let places : List ℕ = place_lines net 1 net.places net.acts in
    let given : List ℕ = flat_map (arc_line net) net.given in
    let last : List ℕ = line (codes "end") [] in
    let many : ℕ = length net.places - length net.acts in
    let counted : 1 + 1 + 1 + length net.agents + many + length net.given ≡ plain_lines net = omega arith in
    ap text_of (regroup first second agents places given last rest)
    ∙ line_goes Start (Headed v) (codes "mastn") (version_word v ∷ []) (record { filled = refl; solid = refl }) (version_is_field v, tt) refl (header_goes v)
    1 0 (second ++ (agents ++ (places ++ (given ++ (last ++ rest)))))
    ∙ line_goes (Headed v) (with_agents v net []) (codes "horizon") (signed_decimal net.horizon ∷ []) (record { filled = refl; solid = refl })
    (number_is_field net.horizon (omega (arith, ints, valid.horizon_low)) valid.horizon_high, tt) refl (horizon_goes v net valid)
    (1 + 1) (0 + length first) (agents ++ (places ++ (given ++ (last ++ rest))))
    ∙ agents_read v net valid (1 + 1 + 1) (0 + length first + length second) (places ++ (given ++ (last ++ rest)))
    ∙ places_read v net valid serves (1 + 1 + 1 + length net.agents) (0 + length first + length second + length agents) (given ++ (last ++ rest))
    ∙ arcs_read v net valid (1 + 1 + 1 + length net.agents + many) (0 + length first + length second + length agents + length places) (last ++ rest)
    ∙ read_line (with_given v net net.given) (1 + 1 + 1 + length net.agents + many + length net.given)
    (0 + length first + length second + length agents + length places + length given) (codes "end") [] rest (record { filled = refl; solid = refl }) tt refl
    ∙ ap (λ k. Ok (record { net = net; used = k; lines = 1 + 1 + 1 + length net.agents + many + length net.given }))
    (length_of_six first second agents places given last)
    ∙ ap (λ k. Ok (record { net = net; used = length (plain_text v net); lines = k })) counted

pub plain_read_back : (v : Version) (net : Net) → IsNetwork net → Serves v net → IsReadBackIn v net
unfolding IsReadBackIn
plain_read_back v net valid serves = plain_read v net valid serves

-- the least version serves
pub least_serves : (net : Net) → Serves (least_version net) net
least_serves net =
    (elim (nat_eq (length net.acts) 0 && nat_le (point_count net) most_points_1)
    as (λ t. (nat_eq (length net.acts) 0 && nat_le (point_count net) most_points_1) ≡ t → Serves (cond t One Two) net) [
      | true ↦ λ e.
          let parts = and_parts (nat_eq (length net.acts) 0) (nat_le (point_count net) most_points_1) e in
          (eqb-true (length net.acts) 0 parts.0, leb-true (point_count net) most_points_1 parts.1)
      | false ↦ λ e. tt
    ]) refl

pub plain_forms_read : PlainFormIsRead
plain_forms_read net valid = (plain_read_back (least_version net) net valid (least_serves net), plain_read_back Two net valid tt)
