pub mod interfaces
pub mod states
pub mod cells
pub mod networks
pub mod graphs
pub mod times
