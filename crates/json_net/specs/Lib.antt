pub mod Paths
pub mod Filled
pub mod Causes
pub mod Members
pub mod Networks
pub mod Texts
pub mod Reading
