use Rattle.std.proofs.Common.{◌≡◌, ℕ, ◌<◌, None, get_or}
use Rattle.shared_graph.proofs.interface.same_owners.Given as goal

-- the rows so far have the same owners
abbrev pub invariant-loop-p : goal.invariant-loop-p
invariant-loop-p l = (k : ℕ) → k < l.p → get_or l.one k None ≡ get_or l.other k None
