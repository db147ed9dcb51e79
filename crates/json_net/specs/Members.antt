-- Objects and the values at their keys, with the first test that fails: and_then, failed, is_key, has_only, kind_or, object, member, only,
-- text, number, array.
use Rattle.std.specs.Prelude.{ℕ, ℤ, Bool, true, ◌&&◌, List, [], ◌∷◌, Option, option_and_then, Result, Ok, Err, ok_or, if◌then◌else◌}
use Rattle.std.specs.List.{list_any}
use Rattle.std.specs.Str.{bytes_eq}
use Rattle.serde_json.specs.Data.{Data, Items, Members, no_members, member}
use Rattle.serde_json.specs.Find.{get_member, as_object, as_array, as_str, as_number, as_i64}
use Rattle.json_net.specs.declared.path.JsonKey.{JsonKey}
use Rattle.json_net.specs.declared.path.Step.{Step}
use Rattle.json_net.specs.declared.error.JsonCause.{JsonCause}
use Rattle.json_net.specs.declared.error.JsonCause.TheVariants.{JsonKind, JsonMissing, JsonExtra}
use Rattle.json_net.specs.declared.error.JsonError.{JsonError}
use Rattle.json_net.specs.declared.error.JsonError.TheVariants.{At}
use Rattle.json_net.specs.Paths.{key_name}

-- what follows once something was read, or the failure of reading it
abbrev pub and_then : {A B : Type 0} → Result A JsonError → (A → Result B JsonError) → Result B JsonError
and_then (Ok x) next = next x
and_then (Err e) next = Err e

-- the value is of this kind, or of another
abbrev pub kind_or : {A : Type 0} → List Step → Option A → Result A JsonError
kind_or path found = ok_or found (At path JsonKind)

-- the members of an object
abbrev pub object : List Step → Data → Result Members JsonError
object path d = kind_or path (as_object d)

-- the items of an array
abbrev pub array : List Step → Data → Result Items JsonError
array path d = kind_or path (as_array d)

-- the bytes of a text
abbrev pub text : List Step → Data → Result (List ℕ) JsonError
text path d = kind_or path (as_str d)

-- a whole number of 64 bits with its sign; one that is written with a point or an exponent is a float, and so is `-0`
abbrev pub number : List Step → Data → Result ℤ JsonError
number path d = kind_or path (option_and_then as_i64 (as_number d))

-- the value at a key that an object must have
abbrev pub value_at : List Step → Members → JsonKey → Result Data JsonError
value_at path ms k = ok_or (get_member (key_name k) ms) (At path JsonMissing)

-- the name is one of the keys
abbrev pub is_among : List JsonKey → List ℕ → Bool
is_among keys name = list_any (λ k. bytes_eq (key_name k) name) keys

-- each name of the members is one of the keys
abbrev pub has_only : List JsonKey → Members → Bool
has_only keys no_members = true
has_only keys (member name d ms) = is_among keys name && has_only keys ms

-- what follows where an object has no other keys than these
abbrev pub only : {A : Type 0} → List Step → Members → List JsonKey → A → Result A JsonError
only path ms keys x = if has_only keys ms then Ok x else Err (At path JsonExtra)
