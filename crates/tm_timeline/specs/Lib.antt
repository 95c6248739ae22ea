pub mod Words
pub mod Rows
pub mod StoredRows
pub mod TraceableEvents
pub mod Summaries
