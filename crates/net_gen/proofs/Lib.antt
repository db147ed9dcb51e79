pub mod NameForms
pub mod Free
pub mod Places
pub mod Consistent
pub mod Drawing
pub mod Results
