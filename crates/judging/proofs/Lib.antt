pub mod Noting
pub mod Indexing
pub mod Replaying
pub mod Answering
-- What a judge answers, and the search that finds it.
pub mod SearchRunning
pub mod SearchTurns
pub mod Unnoted
