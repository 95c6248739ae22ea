pub mod PrefixesLemmas
pub mod RuleLemmas
pub mod TurnStepsLemmas
pub mod JoinedPassesLemmas
pub mod ClosingLemmas
