pub mod Works
pub mod Phases
pub mod Forwards
pub mod Backs
