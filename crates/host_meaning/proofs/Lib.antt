-- That it says so.
pub mod Told
-- That verdicts on files only move one way.
pub mod FilesOneWay
