-- What an answer says of the bytes.
use Rattle.std.proofs.Common.{◌≡◌, ℕ, List, Option, Some, None, Result, Ok, Err, refl, sym, ap, ◌∙◌}
use Rattle.std.specs.Prelude.{◌↔◌}
use Rattle.stn_model.specs.Net.{Net}
use Rattle.serde_json.specs.Data.{Data}
use Rattle.json_net.specs.declared.path.Step.{Step}
use Rattle.json_net.specs.declared.error.JsonCause.{JsonCause}
use Rattle.json_net.specs.declared.error.JsonError.{JsonError}
use Rattle.json_net.specs.declared.error.JsonError.TheVariants.{JsonBad, At, OutOfMemory}
use Rattle.json_net.specs.Networks.{network_of}
use Rattle.json_net.specs.Texts.{value_of, said, SaysNetwork, FailsAt, UnlessMemory}
use Rattle.json_net.specs.Reading.{IsRead}
use Rattle.json_net.proofs.Placed.{never_bad}

abbrev Answer : Type 0
Answer = Result Net JsonError

-- a fact that follows where the answer is what is said
unless_memory : (r said : Answer) (P : Type 0) → IsRead r said → (said ≡ r → P) → UnlessMemory r P
unless_memory (Ok net) said P h next = next h
unless_memory (Err JsonBad) said P h next = next h
unless_memory (Err (At path cause)) said P h next = next h
unless_memory (Err OutOfMemory) said P h next = tt

ok_value : (v : Option Data) (net : Net) → said v ≡ Ok net → (d : Data) × (v ≡ Some d) × (network_of d ≡ Ok net)
ok_value None net e = absurd (cc)
ok_value (Some d) net e = (d, refl, e)

at_value : (v : Option Data) (path : List Step) (cause : JsonCause) → said v ≡ Err (At path cause)
    → (d : Data) × (v ≡ Some d) × (network_of d ≡ Err (At path cause))
at_value None path cause e = absurd (cc)
at_value (Some d) path cause e = (d, refl, e)

bad_value : (v : Option Data) → said v ≡ Err JsonBad → v ≡ None
bad_value None e = refl
bad_value (Some d) e = absurd (never_bad d e)

pub answers_ok : (bytes : List ℕ) (r : Answer) → IsRead r (said (value_of bytes)) → UnlessMemory r ((net : Net) → (r ≡ Ok net) ↔ SaysNetwork bytes net)
answers_ok bytes r h =
    unless_memory r (said (value_of bytes)) _ h (λ same net. (λ is. ok_value (value_of bytes) net (same ∙ is), λ p. sym same ∙ ap said p.1 ∙ p.2))

pub answers_at : (bytes : List ℕ) (r : Answer) → IsRead r (said (value_of bytes))
    → UnlessMemory r ((path : List Step) (cause : JsonCause) → (r ≡ Err (At path cause)) ↔ FailsAt bytes path cause)
answers_at bytes r h =
    unless_memory r (said (value_of bytes)) _ h (λ same path cause. (λ is. at_value (value_of bytes) path cause (same ∙ is), λ p. sym same ∙ ap said p.1 ∙ p.2))

pub answers_bad : (bytes : List ℕ) (r : Answer) → IsRead r (said (value_of bytes)) → UnlessMemory r ((r ≡ Err JsonBad) ↔ (value_of bytes ≡ None))
answers_bad bytes r h = unless_memory r (said (value_of bytes)) _ h (λ same. (λ is. bad_value (value_of bytes) (same ∙ is), λ none. sym same ∙ ap said none))
