pub mod Offers
pub mod Claims
