pub mod Joins
pub mod Answers
pub mod LeastBounds
pub mod LeastProofs
pub mod Points
