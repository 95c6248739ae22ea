pub mod Faults
pub mod Taking
pub mod Appending
pub mod MemoryStates
pub mod ReadSteps
