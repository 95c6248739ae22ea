mod FirstLemmas
mod JoinedLemmas
mod PartsLemmas
mod EventLinesLemmas
pub mod AnswersLemmas
mod ClosedLemmas
mod FaultlessLemmas
mod FirstWordLemmas
mod PrintedLemmas
