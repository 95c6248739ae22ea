pub mod RowTextsLemmas
