-- How a text is read on, line by line.
use Rattle.std.proofs.Common.{◌≡◌, ℕ, ◌+◌, ◌-◌, ◌≤◌, Bool, true, cond, List, [], length, drop, Option, Some, Result, Ok, Err, refl, sym, ◌∙◌, ap, arith, length-drop}
use Rattle.stn_model.specs.Net.{Net}
use Rattle.net_text.specs.declared.cause.TextCause.{TextCause}
use Rattle.net_text.specs.declared.cause.TextError.{TextError}
use Rattle.net_text.specs.declared.cause.TextError.TheVariants.{At}
use Rattle.net_text.specs.declared.read.NetRead.{NetRead}
use Rattle.net_text.specs.declared.version.Version.{Version}
use Rattle.net_text.specs.declared.stage.Stage.{Stage}
use Rattle.net_text.specs.declared.stage.Stage.TheVariants.{Building}
use Rattle.net_text.specs.declared.stage.Next.{Next}
use Rattle.net_text.specs.declared.stage.Next.TheVariants as next
use Rattle.net_text.specs.Adding.{Takes}
use Rattle.net_text.specs.Networks.Step.{Goes, Ends, Fails}
use Rattle.net_text.specs.Lines.{lines, IsTaken, first_unskipped, is_skipped}
use Rattle.net_text.specs.Networks.{Step, line_does, conclude, read_from, missing}

-- what is said from a stage on, where so many lines and bytes were taken
abbrev pub says_from : Stage → ℕ → ℕ → List ℕ → Result NetRead TextError
says_from s count used rest = read_from s (count + 1) used (lines rest)

-- what is said once a line was taken is what its step concludes
taken : (s : Stage) (step : Step) (count used : ℕ) (rest line left : List ℕ) (used' count' : ℕ)
    → IsTaken rest used count line left used' count' → step ≡ line_does s line
    → says_from s count used rest ≡ conclude step count' used' (λ t. says_from t count' used' left)
taken s step count used rest line left used' count' h is =
    let after : Step → ℕ → ℕ → List ℕ → Result NetRead TextError = λ p n u r. conclude p n u (λ t. says_from t n u r) in
    ap (read_from s (count + 1) used) h.first.splits
    ∙ ap (λ (p : Step). after p (count + 1) (used + h.size) (drop h.size rest)) (sym is)
    ∙ ap (λ (n : ℕ). after step n (used + h.size) (drop h.size rest)) (sym h.one_more)
    ∙ ap (λ (u : ℕ). after step count' u (drop h.size rest)) (sym h.uses)
    ∙ ap (λ (r : List ℕ). after step count' used' r) (sym h.drops)

pub goes_on : (said : Result NetRead TextError) (s t : Stage) (step : Step) (count used : ℕ) (rest line left : List ℕ) (used' count' : ℕ)
    → said ≡ says_from s count used rest → IsTaken rest used count line left used' count' → step ≡ line_does s line → step ≡ Goes t
    → said ≡ says_from t count' used' left
goes_on said s t step count used rest line left used' count' so h is goes =
    so ∙ taken s step count used rest line left used' count' h is ∙ ap (λ (p : Step). conclude p count' used' (λ t. says_from t count' used' left)) goes

pub ends_there : (said : Result NetRead TextError) (s : Stage) (net : Net) (step : Step) (count used : ℕ) (rest line left : List ℕ) (used' count' : ℕ)
    → said ≡ says_from s count used rest → IsTaken rest used count line left used' count' → step ≡ line_does s line → step ≡ Ends net
    → said ≡ Ok (record { net = net; used = used'; lines = count' })
ends_there said s net step count used rest line left used' count' so h is ends =
    so ∙ taken s step count used rest line left used' count' h is ∙ ap (λ (p : Step). conclude p count' used' (λ t. says_from t count' used' left)) ends

-- the same, where the line is known by what comes of it
pub ended : {v : Version} (said : Result NetRead TextError) (s after : Stage) (net : Net) (n : Next) (count used : ℕ)
    (rest line left : List ℕ) (used' count' : ℕ)
    → said ≡ says_from s count used rest → IsTaken rest used count line left used' count' → Takes n after (line_does s line)
    → n ≡ next.Ends → after ≡ Building v net → said ≡ Ok (record { net = net; used = used'; lines = count' })
ended said s after net n count used rest line left used' count' so h does is builds =
    let step : line_does s line ≡ Ends net = (rw (is, builds) at does) in
    ends_there said s net (Ends net) count used rest line left used' count' so h (sym step) refl

pub fails_there : (said : Result NetRead TextError) (s : Stage) (c : TextCause) (step : Step) (count used : ℕ) (rest line left : List ℕ) (used' count' : ℕ)
    → said ≡ says_from s count used rest → IsTaken rest used count line left used' count' → step ≡ line_does s line → step ≡ Fails c
    → said ≡ Err (At count' c)
fails_there said s c step count used rest line left used' count' so h is fails =
    so ∙ taken s step count used rest line left used' count' h is ∙ ap (λ (p : Step). conclude p count' used' (λ t. says_from t count' used' left)) fails

pub misses : (said : Result NetRead TextError) (s : Stage) (c : TextCause) (count used : ℕ) (rest : List ℕ)
    → said ≡ says_from s count used rest → lines rest ≡ [] → c ≡ missing s → said ≡ Err (At (count + 1) c)
misses said s c count used rest so none is =
    so ∙ ap (read_from s (count + 1) used) none ∙ ap (λ (x : TextCause). Err (At (count + 1) x)) (sym is)

-- what is left after a line, with what was taken, is no more than before
pub stays_within : (most used count : ℕ) (rest line left : List ℕ) (used' count' : ℕ)
    → used + length rest ≤ most → IsTaken rest used count line left used' count' → used' + length left ≤ most
stays_within most used count rest line left used' count' within h =
    let fits : h.size ≤ length rest = h.first.fits in
    let uses : used' ≡ used + h.size = h.uses in
    let cut : length left ≡ length rest - h.size = ap length h.drops ∙ length-drop h.size rest in omega arith

pub skips_on : (first most used count : ℕ) (said : Option ℕ) (rest line left : List ℕ) (used' count' : ℕ)
    → said ≡ first_unskipped (first + count) (lines rest) → IsTaken rest used count line left used' count' → is_skipped line ≡ true
    → said ≡ first_unskipped (first + count') (lines left)
skips_on first most used count said rest line left used' count' so h skipped =
    let next : first + count + 1 ≡ first + count' = let one = h.one_more in omega arith in
    so ∙ ap (first_unskipped (first + count)) h.first.splits
    ∙ ap (λ (t : Bool). cond t (first_unskipped (first + count + 1) (lines (drop h.size rest))) (Some (first + count))) skipped
    ∙ ap (λ (n : ℕ). first_unskipped n (lines (drop h.size rest))) next
    ∙ ap (λ (r : List ℕ). first_unskipped (first + count') (lines r)) (sym h.drops)
