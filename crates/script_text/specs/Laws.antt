-- What holds of scripts, whatever reads them: DoneEndsTheText, IsPrefixRead, PrefixIsRead, moved, SkippedLineMoves, LinesAreTested,
-- WrittenScriptIsRead.
use Rattle.std.specs.Prelude.{ℕ, ◌+◌, ◌≡◌, ◌≢◌, ◌≤◌, ◌⊎◌, false, true, List, ◌∷◌, ◌++◌, [], length, take, Result, Ok, Err}
use Rattle.std.specs.List.{All}
use Rattle.stn_model.specs.Net.{Net}
use Rattle.stn_model.specs.Valid.{IsNetwork}
use Rattle.net_text.specs.declared.cause.TextError.{TextError}
use Rattle.net_text.specs.declared.cause.TextError.TheVariants.{At, OutOfMemory}
use Rattle.net_text.specs.Fields.{fields}
use Rattle.net_text.specs.Lines.{EndsInFeed, line_of, lines, is_skipped}
use Rattle.script_text.specs.declared.command.Command.{Command}
use Rattle.script_text.specs.declared.read.ScriptRead.{ScriptRead}
use Rattle.script_text.specs.Written.{written, script_lines}
use Rattle.script_text.specs.Possible.{IsScriptOf}
use Rattle.script_text.specs.Scripts.{Reading, line_does, script_of}
use Rattle.script_text.specs.Tests.{judged_line}
use Rattle.script_text.specs.Words.{word_of}

-- where a text that ends with a line feed has a script at its front, the same script stands there whatever follows the text
abbrev pub DoneEndsTheText : Type 0
DoneEndsTheText =
    (net : Net) (first : ℕ) (text more : List ℕ) (r : ScriptRead)
    → script_of net first (text ++ 10 ∷ []) ≡ Ok r → script_of net first (text ++ 10 ∷ more) ≡ Ok r

-- the prefix that was read is a script by itself, with the same answer, and has so many lines; where it ends in a line feed, the answer is
-- the same whatever follows it
pub record IsPrefixRead (net : Net) (first : ℕ) (bytes : List ℕ) (r : ScriptRead) : Type 0 where
  pub fits : r.used ≤ length bytes
  pub alike : script_of net first (take r.used bytes) ≡ Ok r
  pub counted : length (lines (take r.used bytes)) ≡ r.lines
  pub whatever : EndsInFeed (take r.used bytes) → (other : List ℕ) → script_of net first (take r.used bytes ++ other) ≡ Ok r

abbrev pub PrefixIsRead : Type 0
PrefixIsRead = (net : Net) (first : ℕ) (bytes : List ℕ) (r : ScriptRead) → script_of net first bytes ≡ Ok r → IsPrefixRead net first bytes r

-- an answer of a text with a line of that size more before its end
abbrev pub moved : ℕ → Result ScriptRead TextError → Result ScriptRead TextError
moved size (Ok r) = Ok (record { script = r.script; used = r.used + size; lines = r.lines + 1 })
moved size (Err (At number c)) = Err (At (number + 1) c)
moved size (Err OutOfMemory) = Err OutOfMemory

-- a line that is skipped changes nothing but numbers: with it, the answer is the same (where the text ends or fails before the line), or the
-- same with one line more and as many bytes more
abbrev pub SkippedLineMoves : Type 0
SkippedLineMoves =
    (net : Net) (first : ℕ) (prefix line rest : List ℕ)
    → (prefix ≡ []) ⊎ EndsInFeed prefix → All (λ b. b ≢ 10) line → is_skipped (line_of line) ≡ true
    → (script_of net first (prefix ++ (line ++ 10 ∷ rest)) ≡ script_of net first (prefix ++ rest))
    ⊎ (script_of net first (prefix ++ (line ++ 10 ∷ rest)) ≡ moved (length line + 1) (script_of net first (prefix ++ rest)))

-- a line that is not skipped does what its list of tests says: the cause of the first that fails, or what the line is for
abbrev pub LinesAreTested : Type 0
LinesAreTested =
    (net : Net) (r : Reading) (text first : List ℕ) (fs : List (List ℕ))
    → is_skipped text ≡ false → fields text ≡ first ∷ fs → line_does net r text ≡ judged_line net r text (word_of first) fs

-- commands that are possible in the network, written out as a script, are read as these commands, whatever follows: all bytes and all lines
-- of what was written, and no more
abbrev pub WrittenScriptIsRead : Type 0
WrittenScriptIsRead =
    (net : Net) (first : ℕ) (cs : List Command) (rest : List ℕ) → IsNetwork net → IsScriptOf net cs
    → script_of net first (written net cs ++ rest) ≡ Ok (record { script = cs; used = length (written net cs); lines = script_lines cs })
