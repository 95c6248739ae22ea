pub mod Programs
pub mod Instructions
pub mod Calls
pub mod BlockLaws
pub mod Running
pub mod Spelled
pub mod Codes
