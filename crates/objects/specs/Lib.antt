pub mod Register
pub mod WriteOnce
pub mod Stack
pub mod RegisterTells
pub mod OnceTells
pub mod StackTells
pub mod Storage
