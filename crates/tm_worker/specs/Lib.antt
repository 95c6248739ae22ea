pub mod Logs
pub mod Outcomes
pub mod Progresses
pub mod Standings
pub mod Turning
pub mod Workers
