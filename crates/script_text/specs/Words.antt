-- The words of scripts.
use Rattle.std.specs.Prelude.{ℕ, List, Option, Some, None, codes, if◌then◌else◌}
use Rattle.std.specs.Str.{bytes_eq}
use Rattle.script_text.specs.declared.words.Word.{Word}
use Rattle.script_text.specs.declared.words.Word.TheVariants.{Bounds, Windows, Prove, Tighten, Batch, Arc, Close, Withdraw, Decouple, Choose, Execute, Advance, Do, Schedule, Done}

-- the word of a line's first field, if it is one
abbrev pub word_of : List ℕ → Option Word
word_of field =
    if bytes_eq field (codes "bounds") then Some Bounds
    else (if bytes_eq field (codes "windows") then Some Windows
    else (if bytes_eq field (codes "prove") then Some Prove
    else (if bytes_eq field (codes "tighten") then Some Tighten
    else (if bytes_eq field (codes "batch") then Some Batch
    else (if bytes_eq field (codes "arc") then Some Arc
    else (if bytes_eq field (codes "close") then Some Close
    else (if bytes_eq field (codes "withdraw") then Some Withdraw
    else (if bytes_eq field (codes "decouple") then Some Decouple
    else (if bytes_eq field (codes "choose") then Some Choose
    else (if bytes_eq field (codes "execute") then Some Execute
    else (if bytes_eq field (codes "advance") then Some Advance
    else (if bytes_eq field (codes "do") then Some Do
    else (if bytes_eq field (codes "schedule") then Some Schedule
    else (if bytes_eq field (codes "done") then Some Done
    else None))))))))))))))
