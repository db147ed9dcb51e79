-- A line that is taken is the first of those that are left, and what it does decides what the whole text says.
use Rattle.std.proofs.Common.{◌≡◌, ℕ, ◌+◌, List, length, ap, ◌∙◌, Ok}
use Rattle.stn_model.specs.Net.{Net}
use Rattle.net_text.specs.Lines.{lines, IsTaken}
use Rattle.script_text.specs.declared.command.Command.{Command}
use Rattle.script_text.specs.Scripts.{Reading, Step, line_does, conclude, read_from, script_of}
use Rattle.script_text.specs.Scripts.Step.{Ends}

-- the text says what the lines that are left say from here on
pub record IsLeft (net : Net) (first : ℕ) (bytes : List ℕ) (r : Reading) (rest : List ℕ) (used count : ℕ) : Type 0 where
  pub said : script_of net first bytes ≡ read_from net r first count used (lines rest)
  pub room : used + length rest ≡ length bytes

turn : (net : Net) (first : ℕ) (bytes : List ℕ) (r : Reading) (rest : List ℕ) (used count : ℕ) (line left : List ℕ) (used_after count_after : ℕ)
    (step : Step)
    → IsLeft net first bytes r rest used count → IsTaken rest used count line left used_after count_after → line_does net r line ≡ step
    → script_of net first bytes ≡ conclude step (first + count) count_after used_after (λ t. read_from net t first count_after used_after (lines left))
turn net first bytes r rest used count line left used_after count_after step h taken does =
    h.said ∙ ap (read_from net r first count used) taken.first.splits ∙ rw (taken.drops, taken.uses, taken.one_more, does)

pub ends : (net : Net) (first : ℕ) (bytes : List ℕ) (r : Reading) (rest : List ℕ) (used count : ℕ) (line left : List ℕ) (used_after count_after : ℕ)
    (cs : List Command)
    → IsLeft net first bytes r rest used count → IsTaken rest used count line left used_after count_after → line_does net r line ≡ Ends cs
    → script_of net first bytes ≡ Ok (record { script = cs; used = used_after; lines = count_after })
ends net first bytes r rest used count line left used_after count_after cs h taken does =
    turn net first bytes r rest used count line left used_after count_after (Ends cs) h taken does
