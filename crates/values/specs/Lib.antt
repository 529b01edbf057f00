pub mod Sizes
pub mod Value
pub mod Coded
pub mod Held
pub mod Checks
pub mod Sent
pub mod SameValues
pub mod Bits
