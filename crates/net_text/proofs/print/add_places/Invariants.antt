-- What was written and the lines that are left are all lines.
use Rattle.std.proofs.Common.{◌≡◌, ◌+◌, ◌-◌, ◌<◌, ◌++◌, length}
use Rattle.net_text.specs.Plain.{place_lines, places_left, HasFront}
use Rattle.net_text.proofs.print.add_places.Given as goal

abbrev pub invariant-loop-place : goal.invariant-loop-place
invariant-loop-place l = record {
  same : l.out.items ++ places_left l.net l.place.point l.place.act ≡ l.fn.out.items ++ place_lines l.net 1 l.net.places l.net.acts;
  not_z : 0 < l.place.point;
  kept : HasFront l.fn.out.items l.out.items;
}

abbrev pub decreases-loop-place : goal.decreases-loop-place
decreases-loop-place l = length l.net.places + 1 - l.place.point
