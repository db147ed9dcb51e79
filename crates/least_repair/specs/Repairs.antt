-- What `least_repair` answers: remains, IsLoosen, IfRemains, IfLoosen.
use Rattle.std.specs.Prelude.{◌≡◌, ℕ, ℤ, Bool, true, false, List, ⊤}
use Rattle.least_repair.specs.declared.loosening.Repair.{Repair}
use Rattle.least_repair.specs.declared.loosening.Repair.TheVariants.{Remains, Loosen}

abbrev pub remains : Repair → Bool
remains (Remains walk) = true
remains (Loosen by times cycle) = false

-- there is a raise
abbrev pub IsLoosen : Repair → Type 0
IsLoosen answer = remains answer ≡ false

-- the fact holds of the walk, if the conflict remains without the arc
abbrev pub IfRemains : Repair → (List ℕ → Type 0) → Type 0
IfRemains (Remains walk) fact = fact walk
IfRemains (Loosen by times cycle) fact = ⊤

-- the fact holds of the raise, the schedule and the cycle, if there is a raise
abbrev pub IfLoosen : Repair → (ℤ → List ℤ → List ℕ → Type 0) → Type 0
IfLoosen (Remains walk) fact = ⊤
IfLoosen (Loosen by times cycle) fact = fact by times cycle
