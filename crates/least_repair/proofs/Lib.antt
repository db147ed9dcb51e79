pub mod Differ
pub mod OtherBound
pub mod Back
