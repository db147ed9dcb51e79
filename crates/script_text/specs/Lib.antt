pub mod Words
pub mod Phases
pub mod Lines
pub mod Scripts
pub mod Possible
pub mod Written
pub mod Tests
pub mod Laws
