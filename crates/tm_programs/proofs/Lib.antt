pub mod Following
pub mod CallsLemmas
pub mod Spelling
pub mod Stepping
pub mod CursorsLemmas
pub mod Exits
