pub mod Elements
pub mod LogsLemmas
pub mod CallsOfLogs
pub mod StandingsLemmas
pub mod StepsLemmas
pub mod TurnsLemmas
pub mod RunLemmas
pub mod TestsLemmas
