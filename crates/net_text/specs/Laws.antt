-- The laws of printing and reading: IsReadBackIn, IsReadBack, PlainFormIsRead, NothingAfterIsRead, IsPrefixRead, PrefixIsRead, moved,
-- SkippedLineMoves, DefaultLeanIsEarly, follows, BoundIsTwoArcs.
use Rattle.std.specs.Prelude.{◌≡◌, ◌≢◌, ◌⊎◌, ℕ, neg_ℤ, ◌+◌, ◌≤◌, true, List, [], ◌∷◌, ◌++◌, codes, length, take, Result, Ok, Err}
use Rattle.std.specs.List.{All}
use Rattle.std.specs.Option.{option_map}
use Rattle.stn_model.specs.Net.{Net}
use Rattle.stn_model.specs.Valid.{IsNetwork}
use Rattle.net_text.specs.declared.cause.TextError.{TextError}
use Rattle.net_text.specs.declared.cause.TextError.TheVariants.{At, OutOfMemory}
use Rattle.net_text.specs.declared.read.NetRead.{NetRead}
use Rattle.net_text.specs.declared.stage.Stage.{Stage}
use Rattle.net_text.specs.declared.stage.Stage.TheVariants.{Building}
use Rattle.net_text.specs.declared.version.Version.{Version}
use Rattle.net_text.specs.declared.version.Version.TheVariants.{Two}
use Rattle.net_text.specs.Lines.{EndsInFeed, line_of, lines, is_skipped}
use Rattle.net_text.specs.Numbers.{number_of}
use Rattle.net_text.specs.Networks.{Step, fields_do, text_of}
use Rattle.net_text.specs.Networks.Step.{Goes, Ends, Fails}
use Rattle.net_text.specs.Plain.{plain_text, plain_lines}
use Rattle.net_text.specs.Versions.{least_version}

-- a network's text with the header of that version is read as that network, whatever follows it: all its bytes and all its lines, and no more
unfoldable pub IsReadBackIn : Version → Net → Type 0
IsReadBackIn v net =
    (rest : List ℕ) → text_of (plain_text v net ++ rest) ≡ Ok (record { net = net; used = length (plain_text v net); lines = plain_lines net })

-- so is the plain form of a network, with the least header that serves
abbrev pub IsReadBack : Net → Type 0
IsReadBack net = IsReadBackIn (least_version net) net

abbrev pub PlainFormIsRead : Type 0
PlainFormIsRead = (net : Net) → IsNetwork net → IsReadBack net × IsReadBackIn Two net

-- where the bytes that a text uses end in a line feed, what follows them is not looked at
abbrev pub NothingAfterIsRead : Type 0
NothingAfterIsRead =
    (front rest other : List ℕ) (r : NetRead) → EndsInFeed front → text_of (front ++ rest) ≡ Ok r → r.used ≡ length front → text_of (front ++ other) ≡ Ok r

-- the prefix that was read is a text by itself, with the same answer, and has so many lines; where it ends in a line feed, the answer is the
-- same whatever follows it
pub record IsPrefixRead (bytes : List ℕ) (r : NetRead) : Type 0 where
  pub fits : r.used ≤ length bytes
  pub alike : text_of (take r.used bytes) ≡ Ok r
  pub counted : length (lines (take r.used bytes)) ≡ r.lines
  pub whatever : EndsInFeed (take r.used bytes) → (other : List ℕ) → text_of (take r.used bytes ++ other) ≡ Ok r

abbrev pub PrefixIsRead : Type 0
PrefixIsRead = (bytes : List ℕ) (r : NetRead) → text_of bytes ≡ Ok r → IsPrefixRead bytes r

-- an answer of a text with a line of that size more before its end
abbrev pub moved : ℕ → Result NetRead TextError → Result NetRead TextError
moved size (Ok r) = Ok (record { net = r.net; used = r.used + size; lines = r.lines + 1 })
moved size (Err (At number c)) = Err (At (number + 1) c)
moved size (Err OutOfMemory) = Err OutOfMemory

-- a line that is skipped changes nothing but numbers: with it, the answer is the same (where the text ends or fails before the line), or the
-- same with one line more and as many bytes more
abbrev pub SkippedLineMoves : Type 0
SkippedLineMoves =
    (prefix line rest : List ℕ) → (prefix ≡ []) ⊎ EndsInFeed prefix → All (λ b. b ≢ 10) line → is_skipped (line_of line) ≡ true
    → (text_of (prefix ++ (line ++ 10 ∷ rest)) ≡ text_of (prefix ++ rest))
    ⊎ (text_of (prefix ++ (line ++ 10 ∷ rest)) ≡ moved (length line + 1) (text_of (prefix ++ rest)))

-- an agent's line without a lean does what the line with the lean `early` does
abbrev pub DefaultLeanIsEarly : Type 0
DefaultLeanIsEarly =
    (v : Version) (net : Net) (name : List ℕ)
    → fields_do (Building v net) (codes "agent" ∷ name ∷ []) ≡ fields_do (Building v net) (codes "agent" ∷ name ∷ codes "early" ∷ [])

-- what a second line does after a first one
abbrev pub follows : Step → List (List ℕ) → Step
follows (Goes s) fields = fields_do s fields
follows (Ends net) fields = Ends net
follows (Fails c) fields = Fails c

-- a `bound` line that is not refused does what the `arc` line there with HIGH and then the `arc` line back with -LOW do
abbrev pub BoundIsTwoArcs : Type 0
BoundIsTwoArcs =
    (v : Version) (net : Net) (from to low high back : List ℕ) (s : Stage)
    → fields_do (Building v net) (codes "bound" ∷ from ∷ to ∷ low ∷ high ∷ []) ≡ Goes s
    → number_of back ≡ option_map neg_ℤ (number_of low)
    → follows (fields_do (Building v net) (codes "arc" ∷ from ∷ to ∷ high ∷ [])) (codes "arc" ∷ to ∷ from ∷ back ∷ []) ≡ Goes s
