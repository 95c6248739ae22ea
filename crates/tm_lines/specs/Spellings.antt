-- Laws of how first words are spelled.
use Rattle.std.specs.Prelude.{◌≡◌, Some}
use Rattle.std.specs.List.{Contains}
use Rattle.tm_lines.specs.declared.first_words.FirstWord.{FirstWord}
use Rattle.tm_lines.specs.FirstWords.{first_word_of, first_words, spelling}

-- A first word is the one that its spelling has.
abbrev pub SpellingsReadBack : Type 0
SpellingsReadBack = (f : FirstWord) → Contains first_words f → first_word_of (spelling f) ≡ Some f

-- No two first words have one spelling.
abbrev pub SpellingsAreDistinct : Type 0
SpellingsAreDistinct = (f g : FirstWord) → Contains first_words f → Contains first_words g → spelling f ≡ spelling g → f ≡ g
