pub mod Noting
pub mod Storing
