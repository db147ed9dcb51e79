-- Blocks: the places of an interval that pass a test, as a list.
use Rattle.std.specs.Prelude.{◌≡◌, ℕ, ◌+◌, ◌≤◌, List, Bool, ◌&&◌, nat_lt, nat_le, length, take}
use Rattle.dist_rows.specs.Places.{AreRisingPlaces}
use Rattle.stn_walk.specs.Eliminations.{is_in}
use Rattle.elim_step.specs.declared.block.Block.{Block}
use Rattle.elim_step.specs.Eliminates.{count_below}

-- the places of a block
abbrev pub items_of : Block → List ℕ
items_of b = take b.count b.places

-- the list holds, rising, exactly the places from a to b, without b, that pass the test
pub record IsBlock (test : ℕ → Bool) (a b : ℕ) (places : List ℕ) : Type 0 where
  pub order : a ≤ b
  pub rising : AreRisingPlaces places
  pub each : (p : ℕ) → is_in places p ≡ (nat_le a p && nat_lt p b && test p)
  pub count : length places + count_below test a ≡ count_below test b
