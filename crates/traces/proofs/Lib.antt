-- Document 01's traces that are proved of the meanings: the list, and the proof.
pub mod Proved
-- Records out of shape, one or more for each cause: what is claimed of one, the list, and the proof.
pub mod FaultsShown
