-- The value of a JSON text, and the network that it says: value_of, said, SaysNetwork, FailsAt, UnlessMemory.
use Rattle.std.specs.Prelude.{◌≡◌, ℕ, List, Option, Some, None, Result, Ok, Err, if◌then◌else◌}
use Rattle.std.specs.Str.{is_utf8}
use Rattle.stn_model.specs.Net.{Net}
use Rattle.serde_json.specs.Data.{Data}
use Rattle.serde_json.specs.Read.{read}
use Rattle.json_net.specs.declared.error.JsonError.{JsonError}
use Rattle.json_net.specs.declared.error.JsonError.TheVariants.{JsonBad, At, OutOfMemory}
use Rattle.json_net.specs.declared.error.JsonCause.{JsonCause}
use Rattle.json_net.specs.declared.path.Step.{Step}
use Rattle.json_net.specs.Networks.{network_of}

-- the value that `serde_json` reads: none where the bytes are not UTF-8, where they are no JSON, where they nest deeper than 127, and where a
-- number is greater than a float can be
abbrev pub value_of : List ℕ → Option Data
value_of bytes = if is_utf8 bytes then read bytes else None

-- the network of the value, where there is one
abbrev pub said : Option Data → Result Net JsonError
said None = Err JsonBad
said (Some d) = network_of d

-- the bytes are a JSON network, this one
abbrev pub SaysNetwork : List ℕ → Net → Type 0
SaysNetwork bytes net = (d : Data) × (value_of bytes ≡ Some d) × (network_of d ≡ Ok net)

-- the bytes are JSON and no network: the value at that path is the first to fail a test, and this is the first test that it fails
abbrev pub FailsAt : List ℕ → List Step → JsonCause → Type 0
FailsAt bytes path cause = (d : Data) × (value_of bytes ≡ Some d) × (network_of d ≡ Err (At path cause))

-- the fact, but where memory ran out
abbrev pub UnlessMemory : Result Net JsonError → Type 0 → Type 0
UnlessMemory (Ok net) P = P
UnlessMemory (Err JsonBad) P = P
UnlessMemory (Err (At path cause)) P = P
UnlessMemory (Err OutOfMemory) P = Unit {0}
