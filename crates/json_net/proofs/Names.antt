-- Members by their names.
use Rattle.std.proofs.Common.{◌≡◌, ℕ, Bool, true, false, cond, ◌&&◌, List, [], ◌∷◌, Result, Ok, Err, String, Global, string_bytes, refl, sym, ap, ◌∙◌}
use Rattle.std.specs.List.{list_all}
use Rattle.std.specs.Map.{keys_of}
use Rattle.serde_json.specs.View.{members_view}
use Rattle.serde_json.proofs.Views.{Entry}
use Rattle.json_net.specs.declared.path.JsonKey.{JsonKey}
use Rattle.serde_json.specs.Data.{Members}
use Rattle.json_net.specs.declared.path.Step.{Step}
use Rattle.json_net.specs.declared.error.JsonError.{JsonError}
use Rattle.json_net.specs.declared.error.JsonError.TheVariants.{At}
use Rattle.json_net.specs.declared.error.JsonCause.TheVariants.{JsonExtra}
use Rattle.json_net.specs.Members.{is_among, has_only, only}

-- each of these names is one of the keys
abbrev pub are_among : List JsonKey → List (String Global) → Bool
are_among keys names = list_all (λ n. is_among keys (string_bytes n)) names

pub only_names : (keys : List JsonKey) (es : List Entry) → has_only keys (members_view es) ≡ are_among keys (keys_of es)
only_names keys [] = refl
only_names keys (e ∷ es) = ap (λ b. is_among keys (string_bytes e.0) && b) (only_names keys es)

-- what is left after a name that is a key
pub names_left : (keys : List JsonKey) (b : Bool) (before after : List (String Global)) (name : String Global)
    → b ≡ are_among keys before → before ≡ name ∷ after
    → is_among keys (string_bytes name) ≡ true → b ≡ are_among keys after
names_left keys b before after name is split among = is ∙ ap (are_among keys) split ∙ ap (λ t. t && are_among keys after) among

-- a name that is no key
pub another_name : (keys : List JsonKey) (b : Bool) (before after : List (String Global)) (name : String Global)
    → b ≡ are_among keys before → before ≡ name ∷ after
    → is_among keys (string_bytes name) ≡ false → b ≡ false
another_name keys b before after name is split other = is ∙ ap (are_among keys) split ∙ ap (λ t. t && are_among keys after) other

abbrev pub tested : List Step → Bool → Result (Unit {0}) JsonError
tested path b = cond b (Ok (tt {0})) (Err (At path JsonExtra))

pub refused_extra : (path : List Step) (ms : Members) (keys : List JsonKey) → has_only keys ms ≡ false → tested path false ≡ only path ms keys (tt {0})
refused_extra path ms keys e = sym (ap (tested path) e)

pub taken_only : (path : List Step) (ms : Members) (keys : List JsonKey) → has_only keys ms ≡ true → tested path true ≡ only path ms keys (tt {0})
taken_only path ms keys e = sym (ap (tested path) e)
