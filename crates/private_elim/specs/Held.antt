-- What is true of the fields of a local problem: IsHeld.
use Rattle.std.specs.Prelude.{◌<◌, length}
use Rattle.private_elim.specs.declared.local.Local.TheInside.{Inside}
use Rattle.private_elim.specs.Locals.{IsLocal}
use Rattle.private_elim.specs.Views.{local_view}

-- the fields are those of a local problem, and its arcs are counted by a u32
pub record IsHeld (l : Inside) : Type 0 where
  pub local : IsLocal (local_view l)
  pub few : length (local_view l).arcs < 4294967296
