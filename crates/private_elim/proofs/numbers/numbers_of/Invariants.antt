-- The numbers so far, and the room for the rest.
use Rattle.std.proofs.Common.{◌≡◌, map, take}
use Rattle.private_elim.specs.Numbers.{number_in}
use Rattle.private_elim.proofs.numbers.numbers_of.Given as goal

abbrev pub invariant-loop-place : goal.invariant-loop-place
invariant-loop-place l = l.numbers.items ≡ map (number_in l.local) (take l.place-index l.places)
