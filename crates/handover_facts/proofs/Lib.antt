pub mod Checked
pub mod Cells
pub mod Schedules
pub mod Summary
pub mod Facts
pub mod DetourSummary
