-- What a reader has to believe: the object, events and the papers' definitions over them; recorded rows and the legal orders of document 01; recording.
pub mod Object
pub mod Events
pub mod Papers
pub mod Rows
pub mod Orders
pub mod Recorder
-- The search of rows, and that it answers with the first legal order.
pub mod Lists
pub mod Space
pub mod Moves
pub mod Left
pub mod Progress
pub mod Numbering
pub mod Reach
pub mod Replay
pub mod Endings
pub mod Ways
pub mod Verdict
pub mod Attempts
pub mod Budgets
-- What rows fed from fresh say of the events.
pub mod Splits
pub mod Feeding
pub mod Recorded
pub mod Feedable
pub mod Notes
pub mod Forgetting
-- Legal orders of rows fed from fresh, and the papers' definitions.
pub mod Completions
pub mod Explaining
pub mod LiteralReading
-- A legal order of rows, and of the same rows without their notes or before their last events.
pub mod Earlier
