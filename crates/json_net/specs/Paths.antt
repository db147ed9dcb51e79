-- The keys of JSON networks, and paths, with how error lines have them: longest_path, key_name, step_text, steps_text, path_text.
use Rattle.std.specs.Prelude.{ℕ, List, [], ◌∷◌, ◌++◌, codes}
use Rattle.std.specs.Fmt.{decimal}
use Rattle.json_net.specs.declared.path.JsonKey.{JsonKey}
use Rattle.json_net.specs.declared.path.JsonKey.TheVariants as key
use Rattle.json_net.specs.declared.path.Step.{Step}
use Rattle.json_net.specs.declared.path.Step.TheVariants.{Key, Item}

-- the most steps of a path
abbrev pub longest_path : ℕ
longest_path = 5

-- a key as it stands in a text
abbrev pub key_name : JsonKey → List ℕ
key_name key.Mastn = codes "mastn"
key_name key.Horizon = codes "horizon"
key_name key.Agents = codes "agents"
key_name key.Arcs = codes "arcs"
key_name key.Name = codes "name"
key_name key.Lean = codes "lean"
key_name key.Points = codes "points"
key_name key.Act = codes "act"
key_name key.Low = codes "low"
key_name key.High = codes "high"
key_name key.From = codes "from"
key_name key.To = codes "to"
key_name key.Bound = codes "bound"

-- a step: `/`, and the key or the item's number
abbrev pub step_text : Step → List ℕ
step_text (Key k) = 47 ∷ key_name k
step_text (Item n) = 47 ∷ decimal n

abbrev pub steps_text : List Step → List ℕ
steps_text [] = []
steps_text (s ∷ steps) = step_text s ++ steps_text steps

-- a path: `$`, and its steps
abbrev pub path_text : List Step → List ℕ
path_text steps = 36 ∷ steps_text steps
