pub mod Notes
pub mod Pass
pub mod Marking
