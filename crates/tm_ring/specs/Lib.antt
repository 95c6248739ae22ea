pub mod Rings
pub mod StoredRings
