pub mod EventWords
pub mod SaidWords
pub mod EventFaults
pub mod EventLines
pub mod EventTexts
