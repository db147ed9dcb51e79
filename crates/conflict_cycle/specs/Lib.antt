pub mod Belongs
pub mod PartOrders
pub mod SharedPairs
pub mod PrivatePairs
pub mod Parts
pub mod Isolated
pub mod Edges
pub mod Nexts
