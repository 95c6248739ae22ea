pub mod LegalRuns
pub mod LegalTextsLemmas
