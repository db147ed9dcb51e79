-- Taking private points one by one.
pub mod TakenFacts
pub mod Forwards
pub mod Counts
pub mod Takes
pub mod Laying
pub mod DegreeFacts
pub mod Choices
pub mod Answered
pub mod Orders
pub mod Met
pub mod Keys
pub mod Underways
