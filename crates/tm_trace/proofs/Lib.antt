pub mod StampSortLemmas
pub mod FindingLemmas
pub mod OfferingLemmas
pub mod MergingLemmas
pub mod ReplayingLemmas
pub mod AcceptingLemmas
pub mod JudgingLemmas
