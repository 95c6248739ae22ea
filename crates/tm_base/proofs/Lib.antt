pub mod StoredNamesLemmas
