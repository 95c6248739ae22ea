-- The dining philosophers.
use Rattle.std.specs.Prelude.{ℕ, ◌+◌, ◌-◌, ◌%◌, ◌==◌, Bool, false, ◌&&◌, if◌then◌else◌, List, [], ◌∷◌, ◌++◌, codes, flat_map, map}
use Rattle.std.specs.List.{range_with_len}
use Rattle.tm_text.specs.SpelledLines.{SpelledLine}
use Rattle.tm_makers.specs.declared.plans.Way.{Way}
use Rattle.tm_makers.specs.declared.plans.Way.TheVariants as way
use Rattle.tm_makers.specs.LineForms.{is_within, lock, mutex, numbered, p, repeats, sem, thread, unlock, v}

-- 2 to 60 philosophers eat 1 to 100 times.
abbrev pub are_philosophers : ℕ → ℕ → Bool
are_philosophers n rounds = is_within 2 60 n && is_within 1 100 rounds

abbrev pub fork : ℕ → List ℕ
fork i = numbered (codes "f") i

abbrev pub chairs : List ℕ
chairs = codes "chairs"

-- The philosopher takes the fork on the other side first: in `asymmetric` the last one does.
abbrev pub is_turned : ℕ → Way → ℕ → Bool
is_turned n way.Asymmetric i = i + 1 == n
is_turned n w i = false

-- A meal with two forks, of which the first is taken first.
abbrev pub meal : List ℕ → List ℕ → List SpelledLine
meal a b = lock a ∷ lock b ∷ unlock b ∷ unlock a ∷ []

-- A meal with the forks i and i + 1, round the table.
abbrev pub meal_of : ℕ → Way → ℕ → List SpelledLine
meal_of n w i =
    if is_turned n w i then meal (fork ((i + 1) % n)) (fork i) else meal (fork i) (fork ((i + 1) % n))

-- In `chairs` a philosopher sits down before and gets up after the meal.
abbrev pub seated : Way → List SpelledLine → List SpelledLine
seated way.Chairs body = p chairs ∷ body ++ v chairs ∷ []
seated w body = body

abbrev pub philosopher : ℕ → ℕ → Way → ℕ → List SpelledLine
philosopher n rounds w i = thread (numbered (codes "P") i) (repeats rounds (seated w (meal_of n w i)))

-- In `chairs` there is one chair fewer than philosophers.
abbrev pub chairs_of : ℕ → Way → List SpelledLine
chairs_of n way.Chairs = sem chairs (n - 1) ∷ []
chairs_of n w = []

abbrev pub lines_of_philosophers : ℕ → ℕ → Way → List SpelledLine
lines_of_philosophers n rounds w =
    map (λ i. mutex (fork i)) (range_with_len 0 n) ++ chairs_of n w
    ++ flat_map (philosopher n rounds w) (range_with_len 0 n)
