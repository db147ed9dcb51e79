-- Walks of own arcs, and the conflicts that they are.
pub mod LeafWalks
pub mod NoConflicts
pub mod NumberedWalks
pub mod Failing
pub mod FailingCycles
pub mod Between
pub mod Detours
pub mod ReducedWalks
pub mod OwnWalks
pub mod NoNegatives
