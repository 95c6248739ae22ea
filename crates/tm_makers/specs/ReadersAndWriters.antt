-- Readers and writers of one variable.
use Rattle.std.specs.Prelude.{ℕ, Bool, ◌&&◌, List, [], ◌∷◌, ◌++◌, codes, flat_map}
use Rattle.std.specs.List.{range_with_len}
use Rattle.tm_text.specs.SpelledLines.{SpelledLine}
use Rattle.tm_makers.specs.LineForms.{add_one, is_within, numbered, read, repeats, rlock, runlock, rwlock, thread, var, wlock, wunlock}

-- 1 to 30 readers and writers, each of which goes in 1 to 100 times.
abbrev pub are_readers_and_writers : ℕ → ℕ → ℕ → Bool
are_readers_and_writers readers writers rounds =
    is_within 1 30 readers && is_within 1 30 writers && is_within 1 100 rounds

abbrev pub l : List ℕ
l = codes "l"

abbrev pub x : List ℕ
x = codes "x"

abbrev pub reader : ℕ → ℕ → List SpelledLine
reader rounds i = thread (numbered (codes "R") i) (repeats rounds (rlock l ∷ read x ∷ runlock l ∷ []))

abbrev pub writer : ℕ → ℕ → List SpelledLine
writer rounds i = thread (numbered (codes "W") i) (repeats rounds (wlock l ∷ add_one x ∷ wunlock l ∷ []))

abbrev pub lines_of_readers_and_writers : ℕ → ℕ → ℕ → List SpelledLine
lines_of_readers_and_writers readers writers rounds =
    rwlock l ∷ var x 0 ∷ flat_map (reader rounds) (range_with_len 1 readers)
    ++ flat_map (writer rounds) (range_with_len 1 writers)
