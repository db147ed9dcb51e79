-- The answers of a solve: is_inconsistent, IfInconsistent, IfConsistent.
use Rattle.std.specs.Prelude.{ℕ, List, Bool, true, false}
use Rattle.joined_answer.specs.Joins.{JoinedView}
use Rattle.joined_answer.specs.declared.solving.Answer.{Answer}
use Rattle.joined_answer.specs.declared.solving.Answer.TheVariants.{Consistent, Inconsistent}

abbrev pub is_inconsistent : Answer → Bool
is_inconsistent (Consistent joined) = false
is_inconsistent (Inconsistent walk) = true

abbrev pub IfInconsistent : (List ℕ → Type 0) → Answer → Type 0
IfInconsistent shows (Consistent joined) = Unit {0}
IfInconsistent shows (Inconsistent walk) = shows walk

abbrev pub IfConsistent : (JoinedView → Type 0) → Answer → Type 0
IfConsistent shows (Consistent joined) = shows joined
IfConsistent shows (Inconsistent walk) = Unit {0}
