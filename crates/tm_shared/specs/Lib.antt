pub mod OwnEvents
pub mod Calls
pub mod Turns
pub mod Faults
