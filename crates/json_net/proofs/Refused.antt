-- A network's refusal, as the failure of a value.
use Rattle.std.proofs.Common.{◌≡◌, List, Option, Some, None, Result, Ok, Err, refl, sym, ap, subst}
use Rattle.std.specs.Option.{MatchOption}
use Rattle.std.specs.Result.{IsOkUnless, IsErrOf}
use Rattle.stn_model.specs.declared.error.NetError.{NetError}
use Rattle.stn_model.specs.declared.error.NetError.TheVariants as refused
use Rattle.stn_model.specs.Net.{Net}
use Rattle.json_net.specs.declared.path.Step.{Step}
use Rattle.json_net.specs.Networks.{unless, error_of}
use Rattle.json_net.specs.Reading.{Adds}

same : (A : Type 0) (path : List Step) (e : NetError) (with now : Net) → Adds {A = A} (unless path (Some e) with) (Err (error_of path e)) now
same A path refused.NameBad with now = refl
same A path refused.NameTaken with now = refl
same A path refused.TooManyAgents with now = refl
same A path refused.TooManyPoints with now = refl
same A path refused.TooManyArcs with now = refl
same A path refused.SamePoint with now = refl
same A path refused.BoundRange with now = refl
same A path refused.HorizonRange with now = refl
same A path refused.PointsClosed with now = refl
same A path refused.NegativeDuration with now = refl
same A path refused.OutOfMemory with now = tt

pub refused_so : {T : Type 0} (A : Type 0) (path : List Step) (r : Option NetError) (result : Result T NetError) (e : NetError) (with now : Net)
    → MatchOption r (IsOkUnless result refused.OutOfMemory) (IsErrOf result) → result ≡ Err e → Adds {A = A} (unless path r with) (Err (error_of path e)) now
refused_so {T} A path None result e with now h is =
    let at : IsOkUnless {T = T} (Err e) refused.OutOfMemory = subst (λ t. IsOkUnless t refused.OutOfMemory) is h in
    subst (λ x. Adds {A = A} (unless path None with) (Err (error_of path x)) now) (sym at) tt
refused_so {T} A path (Some f) result e with now h is =
    let one : e ≡ f = cc in subst (λ x. Adds {A = A} (unless path (Some x) with) (Err (error_of path e)) now) one (same A path e with now)

pub accepted_so : {T : Type 0} (path : List Step) (r : Option NetError) (result : Result T NetError) (x : T) (with now : Net)
    → MatchOption r (IsOkUnless result refused.OutOfMemory) (IsErrOf result) → result ≡ Ok x → now ≡ with → unless path r with ≡ Ok now
accepted_so path None result x with now h is same = ap (unless path None) (sym same)
accepted_so path (Some f) result x with now h is same = absurd (cc)
