-- Document 01's corpus file by small files: what a file is read as, the list, and the proof.
pub mod FilesRead
-- That 20 and 21 are given exactly when it says.
pub mod FileSizes
