-- What the host call's verdict says of the capture in a file.
pub mod Telling
-- That it says so.
pub mod Whole
-- What each byte of the answer says, by its offset, and that it says so.
pub mod AnswerBytes
pub mod BytesTold
-- That verdicts on files only move one way.
pub mod FurtherBytes
pub mod FilesOneWay
