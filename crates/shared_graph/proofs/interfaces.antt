-- Interfaces: the points that tables list, the interface of a network, and summaries that fit.
pub mod Tables
pub mod Fitting
pub mod SharedPoints
pub mod SameLists
pub mod OwnPoints
