-- The words of network texts, and the leans.
use Rattle.std.specs.Prelude.{ℕ, List, Option, Some, None, codes, if◌then◌else◌}
use Rattle.std.specs.Str.{bytes_eq}
use Rattle.net_text.specs.declared.words.Word.{Word}
use Rattle.net_text.specs.declared.words.Word.TheVariants.{Horizon, Agent, Point, Act, Bound, Arc, End}
use Rattle.stn_model.specs.declared.ids.Lean.{Lean}
use Rattle.stn_model.specs.declared.ids.Lean.TheVariants.{Early, Late, Middle}

-- the word of a line after the header
abbrev pub word_of : List ℕ → Option Word
word_of field =
    if bytes_eq field (codes "horizon") then Some Horizon
    else (if bytes_eq field (codes "agent") then Some Agent
    else (if bytes_eq field (codes "point") then Some Point
    else (if bytes_eq field (codes "act") then Some Act
    else (if bytes_eq field (codes "bound") then Some Bound
    else (if bytes_eq field (codes "arc") then Some Arc
    else (if bytes_eq field (codes "end") then Some End
    else None))))))

abbrev pub lean_of : List ℕ → Option Lean
lean_of field =
    if bytes_eq field (codes "early") then Some Early
    else (if bytes_eq field (codes "late") then Some Late
    else (if bytes_eq field (codes "middle") then Some Middle
    else None))

-- the word of a lean
abbrev pub lean_word : Lean → List ℕ
lean_word Early = codes "early"
lean_word Late = codes "late"
lean_word Middle = codes "middle"
