-- How causes are written in an error line: cause_word, cause_values, error_line.
use Rattle.std.specs.Prelude.{ℕ, List, [], ◌∷◌, codes}
use Rattle.std.specs.Fmt.{decimal, signed_decimal}
use Rattle.schedule_report.specs.Lines as report
use Rattle.cert_check.specs.declared.verdict.CertCause.{CertCause}
use Rattle.cert_check.specs.declared.verdict.CertCause.TheVariants as cause

-- the word of a cause
abbrev pub cause_word : CertCause → List ℕ
cause_word cause.NotText = codes "NotText"
cause_word cause.NoHeader = codes "NoHeader"
cause_word cause.UnknownWord = codes "UnknownWord"
cause_word cause.FieldCount = codes "FieldCount"
cause_word cause.Version = codes "Version"
cause_word cause.NumberBad = codes "NumberBad"
cause_word (cause.WrongValue kept given) = codes "WrongValue"
cause_word (cause.AgainTo j) = codes "AgainTo"
cause_word (cause.BadArc n) = codes "BadArc"
cause_word (cause.MissingTo p) = codes "MissingTo"
cause_word (cause.ArcFails n) = codes "ArcFails"
cause_word cause.BadCycle = codes "BadCycle"
cause_word cause.NoEnd = codes "NoEnd"
cause_word cause.AfterEnd = codes "AfterEnd"

-- its values in decimal
abbrev pub cause_values : CertCause → List (List ℕ)
cause_values cause.NotText = []
cause_values cause.NoHeader = []
cause_values cause.UnknownWord = []
cause_values cause.FieldCount = []
cause_values cause.Version = []
cause_values cause.NumberBad = []
cause_values (cause.WrongValue kept given) = signed_decimal kept ∷ signed_decimal given ∷ []
cause_values (cause.AgainTo j) = signed_decimal j ∷ []
cause_values (cause.BadArc n) = signed_decimal n ∷ []
cause_values (cause.MissingTo p) = decimal p ∷ []
cause_values (cause.ArcFails n) = decimal n ∷ []
cause_values cause.BadCycle = []
cause_values cause.NoEnd = []
cause_values cause.AfterEnd = []

-- the line that tells the number of a false line, and why it is false
abbrev pub error_line : ℕ → CertCause → List ℕ
error_line number c = report.error_line number (cause_word c) (cause_values c)
