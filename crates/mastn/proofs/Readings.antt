-- What became of a source whose input was not answered.
use Rattle.std.proofs.Common.{◌≡◌, ◌≢◌, ℕ, ◌+◌, List, [], length, Option, None, Some, IfSome, refl, sym, subst, arith}
use Rattle.std.proofs.lemmas.List.{drop_all}
use Rattle.stn_io.specs.Bytes.{Loses, LosesAtMost}
use Rattle.stn_io.specs.Causes.{Rose}
use Rattle.stn_io.specs.States.{SourceState}
use Rattle.stn_io.specs.declared.whole.ReadRefusal.{ReadRefusal}
use Rattle.stn_io.specs.declared.whole.ReadRefusal.TheVariants.{ReadFault, TooLong, OutOfMemory}
use Rattle.mastn.specs.Limits.{longest_input}
use Rattle.mastn.specs.Runs.{ReadsWhole, Refuses}

-- an input that was not read whole
pub refused : (old new : SourceState) (r : ReadRefusal) → (r ≡ TooLong → Loses old.left new.left (longest_input + 1))
    → (r ≢ TooLong → LosesAtMost old.left new.left longest_input) → (r ≡ ReadFault → Rose old.faults new.faults)
    → (r ≢ ReadFault → new.faults ≡ old.faults) → Refuses r old new
refused old new ReadFault long fewer fault quiet = (fewer (λ e. cc), fault refl)
refused old new TooLong long fewer fault quiet = (long refl, quiet (λ e. cc))
refused old new OutOfMemory long fewer fault quiet = (fewer (λ e. cc), quiet (λ e. cc))

-- all bytes are gone
all_gone : (left left_after : Option (List ℕ)) (bytes : List ℕ) → IfSome left (λ xs. bytes ≡ xs) → IfSome left (λ xs. left_after ≡ Some [])
    → Loses left left_after (length bytes)
all_gone None left_after bytes told ended = tt
all_gone (Some xs) left_after bytes told ended =
    subst (λ ys. Loses (Some xs) ys (length bytes)) (sym ended)
    (subst (λ (bs : List ℕ). Loses (Some bs) (Some []) (length bytes)) told (omega arith, sym (drop_all (length bytes) bytes (omega arith))))

-- an input that was read whole, and for whose answer memory ran out
pub read_in_vain : (old new : SourceState) (bytes : List ℕ) → ReadsWhole old new bytes → Refuses OutOfMemory old new
read_in_vain old new bytes whole =
    (record { count = length bytes; within = whole.few; gone = all_gone old.left new.left bytes whole.told whole.ended }, whole.kept)
