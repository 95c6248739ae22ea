pub mod Watchers
pub mod WatchersFolded
