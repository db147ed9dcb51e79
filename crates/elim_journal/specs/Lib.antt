pub mod Sections
pub mod Belongs
pub mod Lines
pub mod Views
