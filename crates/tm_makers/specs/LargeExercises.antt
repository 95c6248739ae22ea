-- A large exercise that a number makes.
use Rattle.std.specs.Prelude.{ℕ, zero, suc, ◌+◌, ◌-◌, ◌*◌, ◌%◌, List, [], ◌∷◌, ◌++◌, codes, flat_map, map}
use Rattle.std.specs.List.{range_with_len}
use Rattle.tm_base.specs.Draws.{next_draw, place_of}
use Rattle.tm_text.specs.SpelledLines.{SpelledLine}
use Rattle.tm_makers.specs.LineForms.{add_one, lock, mutex, numbered, p, read, repeats, sem, thread, unlock, v, var}

-- The number after so many draws.
abbrev pub drawn : ℕ → ℕ → ℕ
drawn y zero = y
drawn y (suc k) = next_draw (drawn y k)

-- Which of eight objects a drawn number picks.
abbrev pub picked : ℕ → ℕ
picked y = place_of y 8

abbrev pub mutex_name : ℕ → List ℕ
mutex_name i = numbered (codes "m") i

abbrev pub sem_name : ℕ → List ℕ
sem_name i = numbered (codes "s") i

abbrev pub var_name : ℕ → List ℕ
var_name i = numbered (codes "x") i

-- What a thread does on the objects that three draws pick.
abbrev pub works : ℕ → ℕ → ℕ → List SpelledLine
works a b c =
    lock (mutex_name a) ∷ add_one (var_name a) ∷ unlock (mutex_name a) ∷ p (sem_name b) ∷ read (var_name c)
    ∷ v (sem_name b) ∷ []

-- Thread i, from 1, has the three draws behind those of the threads before it.
abbrev pub large_thread : ℕ → ℕ → List SpelledLine
large_thread y i =
    thread (numbered (codes "T") i) (repeats 50
    (works (picked (drawn y (3 * i - 2))) (picked (drawn y (3 * i - 1))) (picked (drawn y (3 * i)))))

abbrev pub lines_of_large : ℕ → List SpelledLine
lines_of_large y =
    map (λ i. mutex (mutex_name i)) (range_with_len 0 8)
    ++ map (λ i. sem (sem_name i) (1 + i % 3)) (range_with_len 0 8)
    ++ map (λ i. var (var_name i) 0) (range_with_len 0 8) ++ flat_map (large_thread y) (range_with_len 1 64)
