pub mod Mutexes
pub mod Ownership
pub mod Semaphores
pub mod Barriers
pub mod Balance
pub mod Opening
pub mod Exclusion
pub mod ReaderWriterLocks
