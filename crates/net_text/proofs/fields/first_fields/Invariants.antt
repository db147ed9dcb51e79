-- What was put, and what is left, are the first fields of the line.
use Rattle.std.proofs.Common.{◌≡◌, ◌-◌, ◌++◌, take, length}
use Rattle.net_text.specs.Fields.{fields}
use Rattle.net_text.proofs.Takes.{texts}
use Rattle.net_text.proofs.fields.first_fields.Given as goal

abbrev pub invariant-loop-count : goal.invariant-loop-count
invariant-loop-count l = record {
  size : length l.room ≡ length l.fn.room;
  same : texts (take l.count l.room) ++ take (length l.room - l.count) (fields l.rest) ≡ take (length l.room) (fields l.line);
}
