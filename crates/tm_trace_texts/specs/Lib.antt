pub mod TraceTexts
pub mod TraceFaults
pub mod PrintedTraces
pub mod Readings
