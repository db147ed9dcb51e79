-- What the contracts of sources and sinks cite.
pub mod Bytes
pub mod Causes
pub mod Memory
pub mod States
