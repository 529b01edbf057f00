pub mod Finding
pub mod Going
pub mod Objects
pub mod Entries
pub mod Endings
pub mod Stages
pub mod Checks
