pub mod Handover
pub mod Detour
pub mod Conflict
