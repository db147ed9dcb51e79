-- The words of causes: cause_word.
use Rattle.std.specs.Prelude.{ℕ, List, codes}
use Rattle.json_net.specs.declared.error.JsonCause.{JsonCause}
use Rattle.json_net.specs.declared.error.JsonCause.TheVariants as cause

-- the word of a cause in an error line
abbrev pub cause_word : JsonCause → List ℕ
cause_word cause.JsonKind = codes "JsonKind"
cause_word cause.JsonMissing = codes "JsonMissing"
cause_word cause.JsonExtra = codes "JsonExtra"
cause_word cause.Version = codes "Version"
cause_word cause.UnknownWord = codes "UnknownWord"
cause_word cause.NameUnknown = codes "NameUnknown"
cause_word cause.NameBad = codes "NameBad"
cause_word cause.NameTaken = codes "NameTaken"
cause_word cause.TooManyAgents = codes "TooManyAgents"
cause_word cause.TooManyPoints = codes "TooManyPoints"
cause_word cause.TooManyArcs = codes "TooManyArcs"
cause_word cause.SamePoint = codes "SamePoint"
cause_word cause.BoundRange = codes "BoundRange"
cause_word cause.HorizonRange = codes "HorizonRange"
cause_word cause.PointsClosed = codes "PointsClosed"
cause_word cause.NegativeDuration = codes "NegativeDuration"
