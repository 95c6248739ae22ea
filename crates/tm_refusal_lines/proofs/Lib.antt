pub mod RefusedNames
pub mod HeldNames
pub mod IllegalNames
pub mod FaultNames
