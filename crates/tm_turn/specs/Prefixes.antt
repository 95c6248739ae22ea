-- What is said of lists of events and of numbers.
use Rattle.std.specs.Prelude.{◌≡◌, ◌≢◌, ℕ, Bool, false, ◌||◌, ◌==◌, nat_lt, if◌then◌else◌, List, [], ◌∷◌, ◌++◌, length}
use Rattle.tm_base.specs.declared.events.Entry.{Entry}
use Rattle.tm_base.specs.Orders.{of_thread}

-- The events begin with these.
pub record StartsWith (events prefix : List Entry) : Type 0 where
  pub rest : List Entry
  pub whole : events ≡ prefix ++ rest

-- The number is in the list.
abbrev pub has : ℕ → List ℕ → Bool
has n [] = false
has n (m ∷ ms) = (m == n) || has n ms

-- The longer of two lists, and the first where they are equally long.
abbrev pub longer : List Entry → List Entry → List Entry
longer xs ys = if nat_lt (length xs) (length ys) then ys else xs

-- Each event is one of thread 0 or of a thread with one of the numbers.
pub record AreOf (numbers : List ℕ) (events : List Entry) : Type 0 where
  pub no_other : (n : ℕ) → n ≢ 0 → has n numbers ≡ false → of_thread events n ≡ []
