-- One value after another.
use Rattle.std.proofs.Common.{◌≡◌, List, [], ◌∷◌, ◌++◌, Result, Ok, Err, sym, ap, ◌∙◌}
use Rattle.stn_model.specs.Net.{Net}
use Rattle.json_net.specs.declared.error.JsonError.{JsonError}
use Rattle.json_net.specs.declared.error.JsonError.TheVariants.{JsonBad, At, OutOfMemory}
use Rattle.serde_json.specs.Data.{Data}
use Rattle.json_net.specs.declared.path.JsonKey.TheVariants.{Mastn, Horizon, Agents, Arcs}
use Rattle.json_net.specs.declared.path.Step.{Step}
use Rattle.json_net.specs.declared.path.Step.TheVariants.{Key}
use Rattle.json_net.specs.Members.{and_then}
use Rattle.json_net.specs.Networks.{RootShape, root_shape, version, opened, read_array, read_agent, read_arc, network_of}
use Rattle.json_net.specs.Reading.{IsRead, Adds}

-- what follows a value that was read
pub and_then-Ok : {A B : Type 0} (r : Result A JsonError) (x : A) (next : A → Result B JsonError) → r ≡ Ok x → and_then r next ≡ next x
and_then-Ok r x next is = ap (λ t. and_then t next) is

-- the failure of a part is that of the whole
pub failed_so : (A : Type 0) {B : Type 0} (whole : Result B JsonError) (part : Result Net JsonError) (next : Net → Result B JsonError)
    (e : JsonError) (now : Net) → whole ≡ and_then part next
    → Adds {A = A} part (Err e) now → IsRead {A = B} (Err e) whole
failed_so A whole part next JsonBad now split h = split ∙ ap (λ t. and_then t next) h
failed_so A whole part next (At path cause) now split h = split ∙ ap (λ t. and_then t next) h
failed_so A whole part next OutOfMemory now split h = tt

-- the failure of the last part is that of the whole
pub failed_last : (A : Type 0) (whole part : Result Net JsonError) (e : JsonError) (now : Net) → whole ≡ part
    → Adds {A = A} part (Err e) now → IsRead {A = Net} (Err e) whole
failed_last A whole part JsonBad now is h = is ∙ h
failed_last A whole part (At path cause) now is h = is ∙ h
failed_last A whole part OutOfMemory now is h = tt

-- a step from the root
pub at_root : (root path : List Step) (s : Step) → root ≡ [] → path ≡ root ++ s ∷ [] → path ≡ s ∷ []
at_root root path s none is = is ∙ ap (λ (r : List Step). r ++ s ∷ []) none

-- what is left to read once the horizon is
pub opened_so : (d : Data) (s : RootShape) (net : Net) (root first second : List Step) → root ≡ []
    → first ≡ root ++ Key Mastn ∷ [] → second ≡ root ++ Key Horizon ∷ []
    → Ok s ≡ root_shape root d → Ok (tt {0}) ≡ version first s.mastn → Ok net ≡ opened second s.horizon
    → network_of d ≡ and_then (read_array read_agent (Key Agents ∷ []) net s.agents) (λ grown. read_array read_arc (Key Arcs ∷ []) grown s.arcs)
opened_so d s net root first second none one two shaped versioned begun =
    and_then-Ok _ _ _ (ap (λ (p : List Step). root_shape p d) (sym none) ∙ sym shaped)
    ∙ and_then-Ok _ _ _ (ap (λ (p : List Step). version p s.mastn) (sym (at_root root first (Key Mastn) none one)) ∙ sym versioned)
    ∙ and_then-Ok _ _ _ (ap (λ (p : List Step). opened p s.horizon) (sym (at_root root second (Key Horizon) none two)) ∙ sym begun)
