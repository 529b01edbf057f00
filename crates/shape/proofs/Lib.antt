pub mod NotesLaws
pub mod Looking
pub mod Passing
