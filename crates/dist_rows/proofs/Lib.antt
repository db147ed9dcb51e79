pub mod Lists
pub mod Lights
pub mod Matrices
pub mod Listings
pub mod Offers
pub mod Rooms
