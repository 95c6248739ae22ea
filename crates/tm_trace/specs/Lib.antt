pub mod Traces
pub mod StoredTraces
pub mod Faults
pub mod Offering
pub mod Merging
pub mod Replaying
pub mod Judging
pub mod Accepting
