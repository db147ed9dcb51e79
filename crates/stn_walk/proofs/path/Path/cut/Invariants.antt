use Rattle.std.proofs.Common.{◌≡◌, ◌+◌, ◌<◌, length, take}
use Rattle.stn_walk.specs.Marks.{IsMarked}
use Rattle.stn_walk.proofs.path.Path.cut.Given as goal

abbrev pub invariant-loop-self : goal.invariant-loop-self
invariant-loop-self l = record {
  marked : IsMarked l.self-inside.points.items l.self-inside.places.items;
  within : l.place < length l.self-inside.points.items;
  front : take (l.place + 1) l.self-inside.points.items ≡ take (l.place + 1) l.initial.self-inside.points.items;
  arcs : l.self-inside.arcs.items ≡ l.initial.self-inside.arcs.items;
  room : length l.self-inside.places.items ≡ length l.initial.self-inside.places.items;
}

abbrev pub decreases-loop-self : goal.decreases-loop-self
decreases-loop-self l = length l.self-inside.points.items
