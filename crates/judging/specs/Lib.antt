-- What a judge answers, and the search that finds it.
pub mod Answers
pub mod Places
pub mod PlacesLaws
pub mod Playing
pub mod PlayingLaws
pub mod SearchStops
pub mod Rowing
pub mod Giving
pub mod SearchMachine
pub mod Leading
pub mod SearchRunning
