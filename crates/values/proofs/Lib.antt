pub mod Signed
pub mod Zigzag
