pub mod LegalTexts
pub mod OneText
