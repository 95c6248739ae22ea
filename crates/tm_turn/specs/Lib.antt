pub mod Prefixes
pub mod LocalViews
pub mod Passes
pub mod Rule
pub mod TurnSteps
pub mod StoredPasses
