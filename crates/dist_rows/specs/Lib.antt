pub mod Cells
pub mod Places
pub mod Turns
pub mod Slots
pub mod Matrix
