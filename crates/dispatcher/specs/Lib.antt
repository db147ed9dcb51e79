pub mod Falling
pub mod Choices
pub mod Standing
pub mod Plans
pub mod Held
pub mod Answers
