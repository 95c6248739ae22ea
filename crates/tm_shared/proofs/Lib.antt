pub mod OwnEventsLemmas
pub mod CallsLemmas
