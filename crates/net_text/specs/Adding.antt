-- What is known of a line that was to add something to a network: it did what the grammar says, or memory ran out: refusal_of, Adds,
-- Finishes, TakesIn, Takes, IsGiven.
use Rattle.std.specs.Prelude.{◌≡◌, Result, Ok, Err, Option, Some, None}
use Rattle.stn_model.specs.declared.error.NetError.{NetError}
use Rattle.stn_model.specs.declared.error.NetError.TheVariants as refused
use Rattle.stn_model.specs.Net.{Net}
use Rattle.net_text.specs.declared.refusal.Refusal.{Refusal}
use Rattle.net_text.specs.declared.refusal.Refusal.TheVariants as refusal
use Rattle.net_text.specs.declared.version.Version.{Version}
use Rattle.net_text.specs.declared.stage.Stage.{Stage}
use Rattle.net_text.specs.declared.stage.Stage.TheVariants.{Building}
use Rattle.net_text.specs.declared.stage.Next.{Next}
use Rattle.net_text.specs.declared.stage.Next.TheVariants as next
use Rattle.net_text.specs.Networks.Step.{Goes, Ends, Fails}
use Rattle.net_text.specs.declared.cause.TextCause.{TextCause}
use Rattle.net_text.specs.Networks.{Step, cause_of}

-- a network's refusal: want of memory is no cause
abbrev pub refusal_of : NetError → Refusal
refusal_of refused.NameBad = refusal.Fails (cause_of refused.NameBad)
refusal_of refused.NameTaken = refusal.Fails (cause_of refused.NameTaken)
refusal_of refused.TooManyAgents = refusal.Fails (cause_of refused.TooManyAgents)
refusal_of refused.TooManyPoints = refusal.Fails (cause_of refused.TooManyPoints)
refusal_of refused.TooManyArcs = refusal.Fails (cause_of refused.TooManyArcs)
refusal_of refused.SamePoint = refusal.Fails (cause_of refused.SamePoint)
refusal_of refused.BoundRange = refusal.Fails (cause_of refused.BoundRange)
refusal_of refused.HorizonRange = refusal.Fails (cause_of refused.HorizonRange)
refusal_of refused.PointsClosed = refusal.Fails (cause_of refused.PointsClosed)
refusal_of refused.NegativeDuration = refusal.Fails (cause_of refused.NegativeDuration)
refusal_of refused.OutOfMemory = refusal.OutOfMemory

-- a line that adds this left this network, or was refused so
abbrev pub Adds : Result Net TextCause → Result (Unit {0}) Refusal → Net → Type 0
Adds r (Ok done) net = r ≡ Ok net
Adds r (Err (refusal.Fails cause)) net = r ≡ Err cause
Adds r (Err refusal.OutOfMemory) net = Unit {0}

-- what comes of a line that added something, or was refused
abbrev pub Finishes : Result (Unit {0}) Refusal → Next → Type 0
Finishes (Ok done) n = n ≡ next.Goes
Finishes (Err (refusal.Fails cause)) n = n ≡ next.Fails cause
Finishes (Err refusal.OutOfMemory) n = ⊥

-- the line of a network of that version does this, and left this network
abbrev pub TakesIn : Version → Next → Net → Step → Type 0
TakesIn v next.Goes net step = step ≡ Goes (Building v net)
TakesIn v next.Ends net step = step ≡ Ends net
TakesIn v (next.Fails c) net step = step ≡ Fails c

-- the line does this, and the text has come that far
abbrev pub Takes : Next → Stage → Step → Type 0
Takes next.Goes s step = step ≡ Goes s
Takes next.Ends (Building v net) step = step ≡ Ends net
Takes next.Ends s step = ⊥
Takes (next.Fails c) s step = step ≡ Fails c

-- what was found, or the test that fails where nothing was
abbrev pub IsGiven : {A B : Type 0} → Option A → (B → A) → TextCause → Result B Refusal → Type 0
IsGiven found value cause (Ok x) = found ≡ Some (value x)
IsGiven found value cause (Err e) = (e ≡ refusal.Fails cause) × (found ≡ None)
