pub mod ProgramsLemmas
pub mod Owns
mod Faultless
mod SaidValues
mod SaidKnown
mod SaidNames
mod SaidObjects
mod SaidCalls
mod SaidPrograms
pub mod WellFormedTexts
pub mod ThreadCalls
pub mod ScriptsLemmas
mod ObjectsLemmas
mod OwnNumbers
mod SpelledLemmas
mod ReadingsLemmas
pub mod ThreadNumbers
mod PrinterLemmas
mod SpelledForwards
pub mod NamedNumbers
mod SaidValueLemmas
mod SaidForwards
mod SpelledBack
mod SpelledTexts
pub mod JoinedWords
pub mod WrittenValues
mod FittingValues
mod SoundLines
mod SoundValues
mod NamedBack
mod SoundPrograms
mod SoundExercises
