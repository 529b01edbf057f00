-- What a judge's answers mean.
pub mod Judging
-- The Rust's search for an order, transcribed; what an order and a verdict are there; and that the judge's answer, and its attempts, are the Rust's.
pub mod Serialize
pub mod Shown
pub mod RustVerdict
pub mod RustJudge
pub mod TurnsCounted
-- That the answers mean it.
pub mod Within
-- That verdicts only move one way.
pub mod FurtherInputs
pub mod VerdictsOneWay
pub mod Accepted
-- That the two searches agree: what remains in the Rust's maps, when an operation is in violation, a level of the search, and all of them.
pub mod Remaining
pub mod Violations
pub mod Refers
pub mod SerializeLevel
pub mod Levels
pub mod SerializeAgrees
-- The operations of a tester in shape, and their notes.
pub mod RowRecord
pub mod RowNotes
