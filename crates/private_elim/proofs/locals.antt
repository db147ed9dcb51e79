-- Local problems, and the networks that they are of.
pub mod Places
pub mod Searches
pub mod Owned
pub mod SharedPoints
pub mod OwnArcs
pub mod Parts
pub mod LocalFacts
pub mod Windows
pub mod Within
pub mod PartNetworks
