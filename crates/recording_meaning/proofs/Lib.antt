-- What an event does.
pub mod NumbersExactly
pub mod Nines
pub mod TesterFeeding
pub mod Wellfed
pub mod Meant
pub mod TestersAlike
-- What the Rust does.
pub mod RustSteps
pub mod RustAgrees
pub mod Fitting
pub mod RustFeeding
