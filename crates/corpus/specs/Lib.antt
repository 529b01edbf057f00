pub mod Load
pub mod LoadAnswers
pub mod LoaderTurns
pub mod Loaded
pub mod LoadsAlike
pub mod Files
pub mod FileStarts
