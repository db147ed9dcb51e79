-- What legal entries keep, and what they lead to.
pub mod Passing
pub mod ArcLists
pub mod Meetings
pub mod Keeps
pub mod Listed
pub mod Faults
pub mod Stops
pub mod Progress
pub mod Rising
pub mod Grounds
