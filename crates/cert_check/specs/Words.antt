-- The words of certificates.
use Rattle.std.specs.Prelude.{ℕ, List, Option, Some, None, codes, if◌then◌else◌}
use Rattle.std.specs.Str.{bytes_eq}
use Rattle.cert_check.specs.declared.words.Word.{Word}
use Rattle.cert_check.specs.declared.words.Word.TheVariants.{Consistent, Inconsistent, From, To, Holds, Cycle, End}

abbrev pub word_of : List ℕ → Option Word
word_of field =
    if bytes_eq field (codes "consistent") then Some Consistent
    else (if bytes_eq field (codes "inconsistent") then Some Inconsistent
    else (if bytes_eq field (codes "from") then Some From
    else (if bytes_eq field (codes "to") then Some To
    else (if bytes_eq field (codes "holds") then Some Holds
    else (if bytes_eq field (codes "cycle") then Some Cycle
    else (if bytes_eq field (codes "end") then Some End
    else None))))))
