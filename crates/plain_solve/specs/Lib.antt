pub mod Graphs
pub mod LabelFacts
pub mod TrailFacts
pub mod QueueFacts
pub mod Answers
pub mod LeastWalks
pub mod OrderFacts
pub mod Served
