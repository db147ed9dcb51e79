pub mod Leading
pub mod Readings
pub mod Rows
pub mod Times
pub mod Told
pub mod CycleLines
pub mod Certified
