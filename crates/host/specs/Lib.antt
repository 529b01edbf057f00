pub mod Call
pub mod Ordered
pub mod Loads
pub mod CallMeaning
pub mod Trace
