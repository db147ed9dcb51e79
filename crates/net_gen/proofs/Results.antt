-- What holds of a result wherever it is there.
use Rattle.std.proofs.Common.{Result, Ok, Err, IfOk, OnOk}

-- what follows from what holds where a result is there
pub on_ok : {T E P Q : Type 0} (r : Result T E) → (P → Q) → OnOk r P → OnOk r Q
on_ok (Ok x) f p = f p
on_ok (Err e) f p = p

-- what follows from what holds of a value that is there
pub if_ok : {T E : Type 0} {P Q : T → Type 0} (r : Result T E) → ((x : T) → P x → Q x) → IfOk r P → IfOk r Q
if_ok (Ok x) f p = f x p
if_ok (Err e) f p = p
