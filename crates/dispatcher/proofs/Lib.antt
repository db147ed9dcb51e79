pub mod Fallen
pub mod Lowerings
pub mod Standings
pub mod Choosing
pub mod Stands
pub mod Beginnings
pub mod Fillings
