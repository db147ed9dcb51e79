use Rattle.std.proofs.Common.{◌≡◌, take}
use Rattle.mastn.specs.Repairs.{AnswersWalk, Adds}
use Rattle.mastn.proofs.repair.add_answers.Given as goal

-- the first arcs have their answers, and the copy is as it was
abbrev pub invariant-loop-n : goal.invariant-loop-n
invariant-loop-n l = record { text : Adds (AnswersWalk l.net (take l.n-index l.walk)) l.fn.text.items l.text.items; other : l.other ≡ l.net }
