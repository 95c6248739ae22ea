mod ChecksLemmas
mod FirstBytesLemmas
mod FirstWordsLemmas
mod LinesLemmas
pub mod NamesLemmas
mod NumeralsLemmas
mod PlacesLemmas
mod PlainLinesLemmas
mod ReadLinesLemmas
mod SpellingsLemmas
mod WordsLemmas
