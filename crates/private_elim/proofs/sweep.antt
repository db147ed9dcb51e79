-- The back sweep.
pub mod Throughs
pub mod SweepParts
pub mod Sweeps
pub mod SweepEnds
pub mod SweepThroughs
pub mod Bounds
pub mod NextBounds
pub mod SweepTurns
pub mod SameParts
pub mod Rooms
