pub mod AppendingLemmas
pub mod TakingLemmas
