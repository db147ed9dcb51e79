-- What a state says of the networks that it stands for.
pub mod PlainEntries
pub mod LightEntries
pub mod Networks
pub mod Verdicts
pub mod Agreements
pub mod Isolation
pub mod Carried
