-- The numbers in the network of arcs of a local problem: number_in.
use Rattle.std.specs.Prelude.{ℕ}
use Rattle.std.specs.Option.{unwrap_or}
use Rattle.private_elim.specs.Locals.{LocalView, local_arc_at}

-- the number of the arc at a place; 0 where it has none
abbrev pub number_in : LocalView → ℕ → ℕ
number_in v k = unwrap_or (local_arc_at v.arcs k).number 0
