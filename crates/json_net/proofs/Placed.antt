-- The failure of a value has a place: it is never that the bytes are no JSON.
use Rattle.std.proofs.Common.{◌≡◌, ℕ, Bool, true, false, cond, ◌++◌, List, [], ◌∷◌, Option, Some, None, Result, Ok, Err, ap}
use Rattle.std.specs.Prelude.{ok_or, option_and_then, neg_ℤ, length}
use Rattle.std.proofs.Common.{arith, rules}
use Rattle.json_net.specs.declared.error.JsonCause.TheVariants.{JsonKind, JsonMissing}
use Rattle.json_net.specs.declared.path.JsonKey.TheVariants.{Mastn, Horizon, Agents, Arcs, Name, Lean, Points, Act, Low, High, From, To}
use Rattle.json_net.specs.declared.path.JsonKey.TheVariants as key
use Rattle.json_net.specs.Paths.{key_name}
use Rattle.stn_model.specs.declared.error.NetError.{NetError}
use Rattle.stn_model.specs.declared.error.NetError.TheVariants as refused
use Rattle.stn_model.specs.Net.{Net, with_act}
use Rattle.stn_model.specs.Refusals.{agent_refusal, point_refusal, act_refusal, arc_refusal}
use Rattle.net_text.specs.Networks.{with_agent, with_point, with_arcs, arc_between}
use Rattle.serde_json.specs.Data.{Data, Items, no_items, item, Members}
use Rattle.serde_json.specs.Find.{as_str, as_object, as_array, as_number, as_i64, get_member}
use Rattle.json_net.specs.declared.path.JsonKey.{JsonKey}
use Rattle.json_net.specs.declared.path.Step.{Step}
use Rattle.json_net.specs.declared.path.Step.TheVariants.{Item, Key}
use Rattle.json_net.specs.declared.error.JsonCause.{JsonCause}
use Rattle.json_net.specs.declared.error.JsonError.{JsonError}
use Rattle.json_net.specs.declared.error.JsonError.TheVariants.{JsonBad, At}
use Rattle.json_net.specs.Members.{and_then, only, object, value_at, text, number}
use Rattle.json_net.specs.Networks.{BoundShape, root_shape, agent_shape, act_shape, bound_shape, arc_shape, unless, version, opened, lean, point_at, read_each, read_array, read_act, point_or_act, read_point, read_agent, both_refusal, read_bounds, read_arc, network_of}
use Rattle.json_net.specs.Networks.BoundShape.{Bound, Between}

abbrev pub IsPlaced : {A : Type 0} → Result A JsonError → Type 0
IsPlaced {A} r = r ≡ Err JsonBad → ⊥

placed_ok : {A : Type 0} (x : A) → IsPlaced (Ok x)
placed_ok x e = cc

placed_at : (A : Type 0) (path : List Step) (cause : JsonCause) → IsPlaced {A = A} (Err (At path cause))
placed_at A path cause e = cc

placed_or : {A : Type 0} (o : Option A) (path : List Step) (cause : JsonCause) → IsPlaced (ok_or o (At path cause))
placed_or {A} None path cause = placed_at A path cause
placed_or (Some x) path cause = placed_ok x

placed_then : {A B : Type 0} (r : Result A JsonError) (next : A → Result B JsonError) → IsPlaced r → ((x : A) → IsPlaced (next x)) → IsPlaced (and_then r next)
placed_then (Ok x) next first rest = rest x
placed_then {A} (Err e) next first rest = λ bad. let same : e ≡ JsonBad = cc in first (ap (λ (f : JsonError). Err f) same)

placed_if : {A : Type 0} (b : Bool) (x y : Result A JsonError) → IsPlaced x → IsPlaced y → IsPlaced (cond b x y)
placed_if true x y h k = h
placed_if false x y h k = k

placed_only : {A : Type 0} (path : List Step) (ms : Members) (keys : List JsonKey) (x : A) → IsPlaced (only path ms keys x)
placed_only {A} path ms keys x = placed_if _ _ _ (placed_ok x) (placed_at A path _)

placed_root : (path : List Step) (d : Data) → IsPlaced (root_shape path d)
placed_root path d e = grind arith

placed_agent : (path : List Step) (d : Data) → IsPlaced (agent_shape path d)
placed_agent path d e = search rules

placed_act : (path : List Step) (d : Data) → IsPlaced (act_shape path d)
placed_act path d e = grind arith

placed_bound : (path : List Step) (ms : Members) → IsPlaced (bound_shape path ms)
placed_bound path ms e = grind arith

placed_arc : (path : List Step) (d : Data) → IsPlaced (arc_shape path d)
placed_arc path d =
    placed_then (object path d) _ (placed_or (as_object d) path JsonKind) (λ ms.
    placed_then (value_at path ms From) _ (placed_or (get_member (key_name From) ms) path JsonMissing) (λ from.
    placed_then (value_at path ms To) _ (placed_or (get_member (key_name To) ms) path JsonMissing) (λ to.
    placed_then (bound_shape path ms) _ (placed_bound path ms) (λ bounds. placed_ok _))))

placed_unless : (path : List Step) (r : Option NetError) (net : Net) → IsPlaced (unless path r net)
placed_unless path None net = placed_ok net
placed_unless path (Some refused.NameBad) net = placed_at Net path _
placed_unless path (Some refused.NameTaken) net = placed_at Net path _
placed_unless path (Some refused.TooManyAgents) net = placed_at Net path _
placed_unless path (Some refused.TooManyPoints) net = placed_at Net path _
placed_unless path (Some refused.TooManyArcs) net = placed_at Net path _
placed_unless path (Some refused.SamePoint) net = placed_at Net path _
placed_unless path (Some refused.BoundRange) net = placed_at Net path _
placed_unless path (Some refused.HorizonRange) net = placed_at Net path _
placed_unless path (Some refused.PointsClosed) net = placed_at Net path _
placed_unless path (Some refused.NegativeDuration) net = placed_at Net path _
placed_unless path (Some refused.OutOfMemory) net = λ e. cc

placed_text : (path : List Step) (d : Data) → IsPlaced (text path d)
placed_text path d = placed_or (as_str d) path JsonKind

placed_number : (path : List Step) (d : Data) → IsPlaced (number path d)
placed_number path d = placed_or (option_and_then as_i64 (as_number d)) path JsonKind

placed_version : (path : List Step) (d : Data) → IsPlaced (version path d)
placed_version path d e = grind arith

placed_opened : (path : List Step) (d : Data) → IsPlaced (opened path d)
placed_opened path d e = grind arith

placed_lean : (path : List Step) (o : Option Data) → IsPlaced (lean path o)
placed_lean path None e = cc
placed_lean path (Some d) e = grind arith

placed_point : (path : List Step) (net : Net) (d : Data) → IsPlaced (point_at path net d)
placed_point path net d e = grind arith

placed_each : (read : List Step → Net → Data → Result Net JsonError) → ((path : List Step) (net : Net) (d : Data) → IsPlaced (read path net d))
    → (path : List Step) (net : Net) (i : ℕ) (ds : Items) → IsPlaced (read_each read path net i ds)
placed_each read each path net i no_items = placed_ok net
placed_each read each path net i (item d ds) = placed_then _ _ (each (path ++ Item i ∷ []) net d) (λ grown. placed_each read each path grown _ ds)

placed_array : (read : List Step → Net → Data → Result Net JsonError) → ((path : List Step) (net : Net) (d : Data) → IsPlaced (read path net d))
    → (path : List Step) (net : Net) (d : Data) → IsPlaced (read_array read path net d)
placed_array read each path net d = placed_then _ _ (placed_or (as_array d) path JsonKind) (λ items. placed_each read each path net 0 items)

placed_read_act : (agent : ℕ) (path : List Step) (net : Net) (d : Data) → IsPlaced (read_act agent path net d)
placed_read_act agent path net d =
    placed_then _ _ (placed_act path d) (λ s. placed_then _ _ (placed_text (path ++ Key Act ∷ []) s.act) (λ name.
    placed_then _ _ (placed_number (path ++ Key Low ∷ []) s.low) (λ low. placed_then _ _ (placed_number (path ++ Key High ∷ []) s.high) (λ high.
    placed_unless path (act_refusal net name low high) (with_act net agent name low high)))))

placed_point_or_act : (o : Option (List ℕ)) (agent : ℕ) (path : List Step) (net : Net) (d : Data) → IsPlaced (point_or_act o agent path net d)
placed_point_or_act (Some name) agent path net d = placed_unless path (point_refusal net name) (with_point net agent name)
placed_point_or_act None agent path net d = placed_read_act agent path net d

placed_bounds : (path : List Step) (net : Net) (from to : ℕ) (b : BoundShape) → IsPlaced (read_bounds path net from to b)
placed_bounds path net from to (Bound d) =
    placed_then _ _ (placed_number (path ++ Key key.Bound ∷ []) d) (λ b.
    placed_unless path (arc_refusal net from to b) (with_arcs net (arc_between from to b ∷ [])))
placed_bounds path net from to (Between low high) =
    placed_then _ _ (placed_number (path ++ Key Low ∷ []) low) (λ l. placed_then _ _ (placed_number (path ++ Key High ∷ []) high) (λ h.
    placed_unless path (both_refusal net from to l h) (with_arcs net (arc_between from to h ∷ arc_between to from (neg_ℤ l) ∷ []))))

placed_read_agent : (path : List Step) (net : Net) (d : Data) → IsPlaced (read_agent path net d)
placed_read_agent path net d =
    placed_then _ _ (placed_agent path d) (λ s. placed_then _ _ (placed_text (path ++ Key Name ∷ []) s.name) (λ name.
    placed_then _ _ (placed_lean (path ++ Key Lean ∷ []) s.lean) (λ lean.
    placed_then _ _ (placed_unless (path ++ Key Name ∷ []) (agent_refusal net name) (with_agent net name lean)) (λ grown.
    placed_array (read_point (length net.agents)) (λ p n v. placed_point_or_act (as_str v) (length net.agents) p n v)
    (path ++ Key Points ∷ []) grown s.points))))

placed_read_arc : (path : List Step) (net : Net) (d : Data) → IsPlaced (read_arc path net d)
placed_read_arc path net d =
    placed_then _ _ (placed_arc path d) (λ s. placed_then _ _ (placed_point (path ++ Key From ∷ []) net s.from) (λ from.
    placed_then _ _ (placed_point (path ++ Key To ∷ []) net s.to) (λ to. placed_bounds path net from to s.bounds)))

pub never_bad : (d : Data) → IsPlaced (network_of d)
never_bad d =
    placed_then _ _ (placed_root [] d) (λ s. placed_then _ _ (placed_version (Key Mastn ∷ []) s.mastn) (λ done.
    placed_then _ _ (placed_opened (Key Horizon ∷ []) s.horizon) (λ net.
    placed_then _ _ (placed_array read_agent placed_read_agent (Key Agents ∷ []) net s.agents) (λ grown.
    placed_array read_arc placed_read_arc (Key Arcs ∷ []) grown s.arcs))))
