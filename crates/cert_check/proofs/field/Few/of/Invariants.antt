-- The fields so far stand before those that are left.
use Rattle.std.proofs.Common.{◌≡◌, ◌-◌, ◌++◌, map, take, length}
use Rattle.net_text.specs.Fields.{fields}
use Rattle.cert_check.proofs.field.Few.of.Given as goal

abbrev pub invariant-loop-i : goal.invariant-loop-i
invariant-loop-i l = record {
  many : length l.found ≡ 4;
  count : l.count ≡ l.i;
  first : map (λ f. f.now) (take l.count l.found) ++ take (4 - l.count) (fields l.rest) ≡ take 4 (fields l.line);
}
