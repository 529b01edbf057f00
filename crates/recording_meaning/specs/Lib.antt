-- What recording means: the reading of a record, both testers side by side, when each number is given, feeding, and all of it in one list.
pub mod Reading
pub mod Models
pub mod AsRows
pub mod Numbers
pub mod Inputs
pub mod InputLaws
pub mod Meaning
-- The Rust, transcribed, and what a tester is there.
pub mod Rust
pub mod RustMaps
pub mod RustReading
-- Rows by thread, and what is held.
pub mod Threads
pub mod Held
pub mod Rowing
-- Shape: the test in its parts, what keeps it, and that it is what it says.
pub mod Parts
pub mod Exchanges
pub mod Keeping
pub mod Shaping
pub mod Noting
pub mod NotesKeeping
pub mod ShapeExactly
-- What an event does.
pub mod Cases
pub mod Beginning
pub mod Lawful
pub mod EventTurns
pub mod Reaching
pub mod TesterFeeding
pub mod TestersAlike
pub mod Marks
-- What the Rust does.
pub mod Tables
pub mod RustAgrees
