-- Entries of a summary.
pub mod RowFacts
pub mod SumsUp
pub mod RowLists
pub mod EntryLookups
pub mod Entries
pub mod SameSummaries
