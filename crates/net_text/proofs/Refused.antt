-- A network's refusal, as the answer of a line.
use Rattle.std.proofs.Common.{◌≡◌, Bool, true, false, cond, Option, Some, None, Result, Ok, Err, refl, sym, ap, subst}
use Rattle.std.specs.Option.{MatchOption}
use Rattle.std.specs.Result.{IsOkUnless, IsErrOf, IfOk}
use Rattle.stn_model.specs.declared.error.NetError.{NetError}
use Rattle.stn_model.specs.declared.error.NetError.TheVariants as refused
use Rattle.stn_model.specs.declared.error.OutOfMemory.{OutOfMemory}
use Rattle.stn_model.specs.Net.{Net}
use Rattle.net_text.specs.declared.cause.TextCause.{TextCause}
use Rattle.net_text.specs.declared.cause.TextCause.TheVariants as cause
use Rattle.net_text.specs.declared.refusal.Refusal.{Refusal}
use Rattle.net_text.specs.declared.refusal.Refusal.TheVariants as refusal
use Rattle.net_text.specs.declared.stage.Next.{Next}
use Rattle.net_text.specs.declared.version.Version.{Version}
use Rattle.net_text.specs.Versions.{or_full}
use Rattle.net_text.specs.Networks.{goes_unless, building}
use Rattle.net_text.specs.Adding.{Adds, Finishes, TakesIn, refusal_of}

same : (e : NetError) (with now : Net) → Adds (goes_unless (Some e) with) (Err (refusal_of e)) now
same refused.NameBad with now = refl
same refused.NameTaken with now = refl
same refused.TooManyAgents with now = refl
same refused.TooManyPoints with now = refl
same refused.TooManyArcs with now = refl
same refused.SamePoint with now = refl
same refused.BoundRange with now = refl
same refused.HorizonRange with now = refl
same refused.PointsClosed with now = refl
same refused.NegativeDuration with now = refl
same refused.OutOfMemory with now = tt

pub refused_so : {T : Type 0} (r : Option NetError) (result : Result T NetError) (e : NetError) (with now : Net)
    → MatchOption r (IsOkUnless result refused.OutOfMemory) (IsErrOf result) → result ≡ Err e
    → Adds (goes_unless r with) (Err (refusal_of e)) now
refused_so {T} None result e with now h is =
    let at : IsOkUnless {T = T} (Err e) refused.OutOfMemory = subst (λ t. IsOkUnless t refused.OutOfMemory) is h in
    subst (λ x. Adds (goes_unless None with) (Err (refusal_of x)) now) (sym at) tt
refused_so {T} (Some f) result e with now h is =
    let one : e ≡ f = cc in subst (λ x. Adds (goes_unless (Some x) with) (Err (refusal_of e)) now) one (same e with now)

pub accepted_so : {T : Type 0} (r : Option NetError) (result : Result T NetError) (x : T) (with now : Net)
    → MatchOption r (IsOkUnless result refused.OutOfMemory) (IsErrOf result) → result ≡ Ok x → now ≡ with → goes_unless r with ≡ Ok now
accepted_so None result x with now h is same = ap (goes_unless None) (sym same)
accepted_so (Some f) result x with now h is same = absurd (cc)

-- what comes of a line is what it adds
pub finished : (v : Version) (r : Result Net TextCause) (added : Result (Unit {0}) Refusal) (net : Net) (out : Result Next OutOfMemory) → Adds r added net
    → IfOk out (Finishes added) → IfOk out (λ n. TakesIn v n net (building v r))
finished v r (Ok done) net (Ok n) h f = subst (λ x. TakesIn v x net (building v r)) (sym f) (ap (building v) h)
finished v r (Err (refusal.Fails cause)) net (Ok n) h f = subst (λ x. TakesIn v x net (building v r)) (sym f) (ap (building v) h)
finished v r (Err refusal.OutOfMemory) net (Ok n) h f = absurd f
finished v r added net (Err e) h f = tt

-- a point that the network accepts is refused where the version's own limit is reached
pub refused_in : {T : Type 0} (r : Option NetError) (full : Bool) (result : Result T NetError) (e : NetError) (with now : Net)
    → MatchOption r (IsOkUnless result refused.OutOfMemory) (IsErrOf result) → result ≡ Err e
    → Adds (goes_unless (or_full r full) with) (Err (refusal_of e)) now
refused_in {T} None full result e with now h is =
    let at : IsOkUnless {T = T} (Err e) refused.OutOfMemory = subst (λ t. IsOkUnless t refused.OutOfMemory) is h in
    subst (λ x. Adds (goes_unless (or_full None full) with) (Err (refusal_of x)) now) (sym at) tt
refused_in {T} (Some f) full result e with now h is =
    let one : e ≡ f = cc in subst (λ x. Adds (goes_unless (Some x) with) (Err (refusal_of e)) now) one (same e with now)

pub accepted_in : {T : Type 0} (r : Option NetError) (full : Bool) (result : Result T NetError) (x : T) (with : Net)
    → MatchOption r (IsOkUnless result refused.OutOfMemory) (IsErrOf result) → result ≡ Ok x → full ≡ false → goes_unless (or_full r full) with ≡ Ok with
accepted_in None full result x with h is room = ap (λ (t : Bool). goes_unless (cond t (Some refused.TooManyPoints) None) with) room
accepted_in (Some f) full result x with h is room = absurd (cc)

pub full_in : {T : Type 0} (r : Option NetError) (full : Bool) (result : Result T NetError) (x : T) (with : Net)
    → MatchOption r (IsOkUnless result refused.OutOfMemory) (IsErrOf result) → result ≡ Ok x → full ≡ true
    → goes_unless (or_full r full) with ≡ Err cause.TooManyPoints
full_in None full result x with h is room = ap (λ (t : Bool). goes_unless (cond t (Some refused.TooManyPoints) None) with) room
full_in (Some f) full result x with h is room = absurd (cc)
