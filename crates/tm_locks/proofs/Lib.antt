pub mod RowChoices
pub mod ServedWaiters
pub mod BalanceLemmas
pub mod OpeningLemmas
pub mod ReadersLemmas
pub mod ExclusionLemmas
pub mod ReaderWriterLocksLemmas
