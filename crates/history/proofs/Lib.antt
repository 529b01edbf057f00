-- The search of rows, and that it answers with the first legal order.
pub mod Left
pub mod Replay
pub mod Endings
pub mod Ways
pub mod Verdict
pub mod FirstOrder
pub mod Budgets
-- What rows fed from fresh say of the events.
pub mod Splits
pub mod Recorded
pub mod Notes
-- Legal orders of rows fed from fresh, and the papers' definitions.
pub mod Completions
pub mod Explaining
pub mod RealTime
pub mod Theorem
pub mod Precedence
pub mod LiteralReading
-- A legal order of rows, and of the same rows without their notes or before their last events.
pub mod Alike
pub mod Earlier
pub mod OneWay
