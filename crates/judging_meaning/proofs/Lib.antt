-- The Rust's search for an order, transcribed; what an order and a verdict are there; and that the judge's answer, and its attempts, are the Rust's.
pub mod RustVerdict
pub mod RustJudge
pub mod TurnsCounted
-- That the answers mean it.
pub mod Judged
pub mod JudgedFresh
-- That verdicts only move one way.
pub mod VerdictsOneWay
pub mod Accepted
-- That the two searches agree: what remains in the Rust's maps, when an operation is in violation, a level of the search, and all of them.
pub mod Violations
pub mod SerializeLevel
pub mod SerializeAgrees
