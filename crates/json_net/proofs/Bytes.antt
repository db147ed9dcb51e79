-- The value of a text, read or not.
use Rattle.std.proofs.Common.{◌≡◌, ℕ, Bool, true, false, cond, List, Option, Some, None, refl, ap, ◌∙◌}
use Rattle.std.proofs.lemmas.Str.{is_utf8-from_IsUtf8, IsUtf8-from_is_utf8}
use Rattle.std.specs.Str.{IsUtf8, is_utf8}
use Rattle.serde_json.specs.Data.{Data}
use Rattle.serde_json.specs.Read.{read}
use Rattle.json_net.specs.Texts.{value_of}

pub value_read : (bytes : List ℕ) (d : Data) → IsUtf8 bytes → read bytes ≡ Some d → value_of bytes ≡ Some d
value_read bytes d text is = ap (λ (t : Bool). cond t (read bytes) None) (is_utf8-from_IsUtf8 bytes text) ∙ is

unread_at : (bytes : List ℕ) (t : Bool) → is_utf8 bytes ≡ t → (IsUtf8 bytes → read bytes ≡ None) → cond t (read bytes) None ≡ None
unread_at bytes true is none = none (IsUtf8-from_is_utf8 bytes is)
unread_at bytes false is none = refl

pub value_unread : (bytes : List ℕ) → (IsUtf8 bytes → read bytes ≡ None) → value_of bytes ≡ None
value_unread bytes none = unread_at bytes (is_utf8 bytes) refl none
