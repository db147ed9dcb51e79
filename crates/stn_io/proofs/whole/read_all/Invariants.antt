use Rattle.std.proofs.Common.{◌≡◌, ◌+◌, ◌-◌, ◌≤◌, length}
use Rattle.std.specs.Io.KnownBytes.{Consumes}
use Rattle.stn_io.proofs.whole.read_all.Given as goal

abbrev pub invariant-pieces : goal.invariant-pieces
invariant-pieces g l = record {
  short : length l.all.items ≤ l.limit;
  bytes : Consumes (g.S.Source.state l.initial.source).left (g.S.Source.state l.source).left l.all.items;
  kept : (g.S.Source.state l.source).faults ≡ (g.S.Source.state l.initial.source).faults;
}

abbrev pub decreases-pieces : goal.decreases-pieces
decreases-pieces g l = l.limit + 1 - length l.all.items
