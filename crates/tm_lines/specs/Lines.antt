-- How bytes are cut into lines, and lines into words.
use Rattle.std.specs.Prelude.{ℕ, Bool, true, false, ◌&&◌, ◌||◌, ◌==◌, nat_le, if◌then◌else◌, List, [], ◌∷◌}

-- A byte that ends a line.
abbrev pub is_lf : ℕ → Bool
is_lf b = b == 10

-- The lists with the byte in front of the first, or a list of the byte alone where there is none.
abbrev pub put_first : ℕ → List (List ℕ) → List (List ℕ)
put_first b [] = (b ∷ []) ∷ []
put_first b (l ∷ ls) = (b ∷ l) ∷ ls

-- The bytes cut at each LF; a last piece that is empty is no line.
abbrev pub lines_of : List ℕ → List (List ℕ)
lines_of [] = []
lines_of (b ∷ bs) = if b == 10 then [] ∷ lines_of bs else put_first b (lines_of bs)

-- A line without one CR at its end.
abbrev pub without_cr : List ℕ → List ℕ
without_cr [] = []
without_cr (b ∷ []) = if b == 13 then [] else b ∷ []
without_cr (b ∷ c ∷ bs) = b ∷ without_cr (c ∷ bs)

-- Words are separated by spaces and tabs.
abbrev pub is_blank : ℕ → Bool
is_blank b = b == 32 || b == 9

-- The words of a byte that is no blank and the rest of its line, whose words are given: the byte is
-- a word of its own before a blank or the end, and else the first byte of the first word.
abbrev pub put_word : ℕ → List ℕ → List (List ℕ) → List (List ℕ)
put_word b [] ws = (b ∷ []) ∷ ws
put_word b (c ∷ bs) ws = if is_blank c then (b ∷ []) ∷ ws else put_first b ws

-- The words of a line.
abbrev pub words_of : List ℕ → List (List ℕ)
words_of [] = []
words_of (b ∷ bs) = if is_blank b then words_of bs else put_word b bs (words_of bs)

-- A line without words is ignored, and so is one whose first word begins with `#`.
abbrev pub is_ignored : List (List ℕ) → Bool
is_ignored [] = true
is_ignored ([] ∷ ws) = false
is_ignored ((b ∷ bs) ∷ ws) = b == 35

-- A byte that may stand in a line which isn't ignored: a tab, or one that prints.
abbrev pub is_printed : ℕ → Bool
is_printed b = b == 9 || (nat_le 32 b && nat_le b 126)
