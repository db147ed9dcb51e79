-- The words of causes.
use Rattle.std.specs.Prelude.{ℕ, List, codes}
use Rattle.net_text.specs.declared.cause.TextCause.{TextCause}
use Rattle.net_text.specs.declared.cause.TextCause.TheVariants as cause

-- the word of a cause in an error line
abbrev pub cause_word : TextCause → List ℕ
cause_word cause.NotText = codes "NotText"
cause_word cause.NoHeader = codes "NoHeader"
cause_word cause.Version = codes "Version"
cause_word cause.UnknownWord = codes "UnknownWord"
cause_word cause.FieldCount = codes "FieldCount"
cause_word cause.NumberBad = codes "NumberBad"
cause_word cause.NameUnknown = codes "NameUnknown"
cause_word cause.NoHorizon = codes "NoHorizon"
cause_word cause.SecondHorizon = codes "SecondHorizon"
cause_word cause.NoEnd = codes "NoEnd"
cause_word cause.NameBad = codes "NameBad"
cause_word cause.NameTaken = codes "NameTaken"
cause_word cause.TooManyAgents = codes "TooManyAgents"
cause_word cause.TooManyPoints = codes "TooManyPoints"
cause_word cause.TooManyArcs = codes "TooManyArcs"
cause_word cause.SamePoint = codes "SamePoint"
cause_word cause.BoundRange = codes "BoundRange"
cause_word cause.HorizonRange = codes "HorizonRange"
cause_word cause.PointsClosed = codes "PointsClosed"
cause_word cause.NegativeDuration = codes "NegativeDuration"
cause_word cause.BatchOpen = codes "BatchOpen"
cause_word cause.EmptyBatch = codes "EmptyBatch"
cause_word cause.AfterDecouple = codes "AfterDecouple"
cause_word cause.BeforeDecouple = codes "BeforeDecouple"
cause_word cause.AfterExecute = codes "AfterExecute"
cause_word cause.BeforeExecute = codes "BeforeExecute"
cause_word cause.ReferencePoint = codes "ReferencePoint"
cause_word cause.NoDone = codes "NoDone"
cause_word cause.AfterDone = codes "AfterDone"
cause_word cause.AfterEnd = codes "AfterEnd"
