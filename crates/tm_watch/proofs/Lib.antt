pub mod TellingLemmas
pub mod FoldedLemmas
