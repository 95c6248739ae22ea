pub mod RefusalTexts
pub mod KnownNames
