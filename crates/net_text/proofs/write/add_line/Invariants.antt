use Rattle.std.proofs.Common.{◌≡◌, ◌++◌, map, take}
use Rattle.net_text.specs.Plain.{spaced}
use Rattle.net_text.proofs.write.add_line.Given as goal

abbrev pub invariant-loop-field : goal.invariant-loop-field
invariant-loop-field l = l.out.items ≡ l.fn.out.items ++ (l.word ++ spaced (map (λ f. f.now) (take l.field-index l.fields)))
