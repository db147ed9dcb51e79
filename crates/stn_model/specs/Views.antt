-- How the fields of a network are seen, and what is true of them: view_of, IsWhole.
use Rattle.std.specs.Prelude.{map}
use Rattle.stn_model.specs.declared.network.Network.TheInside.{Inside}
use Rattle.stn_model.specs.Net.{Net}
use Rattle.stn_model.specs.Valid.{IsNetwork}
use Rattle.stn_model.specs.Flags.{AreFlags}

-- the maps as lists, by place; the flags are not seen
abbrev pub view_of : Inside → Net
view_of n = record {
  horizon = n.horizon;
  agents = map (λ e. record { name = e.0.items; lean = e.1 }) n.agents.entries;
  places = map (λ e. record { name = e.0.items; owner = e.1.0 }) n.places.entries;
  acts = n.acts.items;
  given = n.given.items;
}

-- the fields are those of a network, and the flags are its own
pub record IsWhole (n : Inside) : Type 0 where
  pub network : IsNetwork (view_of n)
  pub flags : AreFlags (view_of n) n.shared.items
