-- The roller coaster: a car that rides full.
use Rattle.std.specs.Prelude.{ℕ, ◌*◌, Bool, ◌&&◌, nat_le, List, [], ◌∷◌, ◌++◌, codes, flat_map}
use Rattle.std.specs.List.{range_with_len}
use Rattle.tm_text.specs.SpelledLines.{SpelledLine}
use Rattle.tm_makers.specs.LineForms.{add_one, is_within, numbered, p, repeats, sem, thread, v, var}

-- 1 to 60 seats and rides, with at most 60 passengers in all.
abbrev pub is_coaster : ℕ → ℕ → Bool
is_coaster seats rides = is_within 1 60 seats && is_within 1 60 rides && nat_le (seats * rides) 60

abbrev pub queue : List ℕ
queue = codes "queue"

abbrev pub boarded : List ℕ
boarded = codes "boarded"

abbrev pub unload : List ℕ
unload = codes "unload"

abbrev pub out : List ℕ
out = codes "out"

abbrev pub rides : List ℕ
rides = codes "rides"

abbrev pub car : ℕ → ℕ → List SpelledLine
car seats turns =
    thread (codes "Car") (repeats turns
    (repeats seats (v queue ∷ []) ++ repeats seats (p boarded ∷ []) ++ add_one rides
    ∷ repeats seats (v unload ∷ []) ++ repeats seats (p out ∷ [])))

abbrev pub passenger : ℕ → List SpelledLine
passenger i = thread (numbered (codes "P") i) (p queue ∷ v boarded ∷ p unload ∷ v out ∷ [])

abbrev pub lines_of_coaster : ℕ → ℕ → List SpelledLine
lines_of_coaster seats turns =
    sem queue 0 ∷ sem boarded 0 ∷ sem unload 0 ∷ sem out 0 ∷ var rides 0 ∷ car seats turns
    ++ flat_map passenger (range_with_len 1 (seats * turns))
