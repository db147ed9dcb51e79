pub mod Words
pub mod Rows
pub mod Cycles
pub mod Certificates
pub mod Claims
pub mod Causes
pub mod Taken
