pub mod locals
pub mod taking
pub mod walks
pub mod summary
pub mod sweep
