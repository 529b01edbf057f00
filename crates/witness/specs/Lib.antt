-- What a reader believes: an order as words, and the checker's answer.
pub mod Words
pub mod Checking
-- That words tell the return within a family.
pub mod WordsTell
-- That it is yes exactly for the legal orders.
pub mod WordsReplayed
pub mod Exactly
-- What the code's functions answer.
pub mod WordsPlayed
