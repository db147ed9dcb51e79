pub mod Filled
pub mod Names
pub mod Refused
pub mod Steps
pub mod Loops
pub mod Bytes
pub mod Placed
pub mod Answered
