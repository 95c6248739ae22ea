-- How a line is cut off the start of bytes word by word.
use Rattle.std.specs.Prelude.{◌≡◌, ◌<◌, ℕ, Bool, true, ◌&&◌, ◌||◌, ◌==◌, nat_le, if◌then◌else◌, List, [], ◌∷◌, ◌++◌, length}
use Rattle.std.specs.List.{list_all}
use Rattle.tm_lines.specs.declared.plain_lines.CutLine.{CutLine}
use Rattle.tm_lines.specs.Lines.{is_blank, is_printed, words_of}
use Rattle.tm_lines.specs.Saying.{AreFirst}
use Rattle.tm_lines.specs.TextFaults.{text_lines}

-- A byte that prints and is no blank.
abbrev pub is_plain : ℕ → Bool
is_plain b = nat_le 33 b && nat_le b 126

-- A word ends before these bytes: at their end, at a blank, or at an LF.
abbrev pub ends_word : List ℕ → Bool
ends_word [] = true
ends_word (b ∷ bs) = is_blank b || b == 10

-- The bytes before the first LF.
abbrev pub line_of : List ℕ → List ℕ
line_of [] = []
line_of (b ∷ bs) = if b == 10 then [] else b ∷ line_of bs

-- The bytes behind the first LF.
abbrev pub after_line : List ℕ → List ℕ
after_line [] = []
after_line (b ∷ bs) = if b == 10 then bs else after_line bs

-- The first line of the bytes has these words in front, and goes on as the first line of the rest. Before that it
-- has no byte that doesn't print.
pub record CutsWords (bytes : List ℕ) (ws : List (List ℕ)) (rest : List ℕ) : Type 0 where
  pub words : words_of (line_of bytes) ≡ ws ++ words_of (line_of rest)
  pub printed : list_all is_printed (line_of bytes) ≡ list_all is_printed (line_of rest)
  pub after : after_line bytes ≡ after_line rest

-- The line ends where these bytes begin, and this is the rest behind it.
pub record EndsLine (bytes rest : List ℕ) : Type 0 where
  pub line : line_of bytes ≡ []
  pub after : after_line bytes ≡ rest

-- The line was cut off the start of the bytes.
pub record IsCutOff (bytes : List ℕ) (cut : CutLine) : Type 0 where
  pub line : List ℕ
  pub lines : text_lines bytes ≡ line ∷ text_lines cut.rest.now
  pub shorter : length cut.rest.now < length bytes
  pub printed : cut.is_printed ≡ list_all is_printed line
  pub words : AreFirst cut.words (words_of line)
