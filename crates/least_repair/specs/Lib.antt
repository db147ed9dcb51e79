pub mod Loosened
pub mod Repairs
