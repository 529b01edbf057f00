pub mod CallMeant
pub mod Trace
pub mod Laying
pub mod Threading
pub mod Calling
