pub mod FinalBounds
pub mod Windows
pub mod Neighbours
pub mod Boxes
pub mod Assignments
pub mod LocalNetworks
pub mod Decouplings
pub mod Handover
