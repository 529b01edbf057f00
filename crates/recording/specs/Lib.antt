pub mod Calls
pub mod Testers
