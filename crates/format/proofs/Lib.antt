-- Steps of the cursor, and of the loop that reads a start.
pub mod Reading
pub mod Starting
mod EventAnswer
