-- Forward cells, joined pairs, and least sums of revisits.
pub mod Steps
pub mod Revisits
pub mod Neighbours
pub mod Orders
