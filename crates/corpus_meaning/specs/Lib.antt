-- Document 01's corpus file by small files: what a file is read as, the list, and the proof.
pub mod Reading
pub mod SmallFiles
-- That 20 and 21 are given exactly when it says.
pub mod FieldReasons
pub mod FileSizes
