-- Times of shared points and the ends of their boxes.
pub mod Later
pub mod Settings
pub mod Assigning
pub mod Widening
pub mod Entries
pub mod Progressing
pub mod Decouplings
