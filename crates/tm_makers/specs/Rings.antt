-- A token that goes round a ring of channels.
use Rattle.std.specs.Prelude.{ℕ, ◌-◌, ◌==◌, Bool, ◌&&◌, if◌then◌else◌, List, [], ◌∷◌, ◌++◌, codes, flat_map, map}
use Rattle.std.specs.List.{range_with_len}
use Rattle.tm_text.specs.SpelledLines.{SpelledLine}
use Rattle.tm_makers.specs.LineForms.{is_within, number, numbered, r0, recv, repeats, send, sync, thread}

-- 2 to 60 threads, and 1 to 100 rounds.
abbrev pub is_ring : ℕ → ℕ → Bool
is_ring n rounds = is_within 2 60 n && is_within 1 100 rounds

-- The channel behind thread i.
abbrev pub channel : ℕ → List ℕ
channel i = numbered (codes "c") i

-- Thread 0 begins each round, and takes the token from the last channel. The others hand it on.
abbrev pub passes : ℕ → ℕ → List SpelledLine
passes n i =
    if i == 0
    then send (channel 0) (number 1) ∷ recv (channel (n - 1)) ∷ []
    else recv (channel (i - 1)) ∷ send (channel i) r0 ∷ []

abbrev pub lines_of_ring : ℕ → ℕ → List SpelledLine
lines_of_ring n rounds =
    map (λ i. sync (channel i)) (range_with_len 0 n)
    ++ flat_map (λ i. thread (numbered (codes "T") i) (repeats rounds (passes n i))) (range_with_len 0 n)
