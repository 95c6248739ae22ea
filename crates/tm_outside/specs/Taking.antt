-- What reading does to the bytes that a source has left, where it tells them.
use Rattle.std.specs.Prelude.{◌≡◌, ℕ, ◌≤◌, List, [], ◌++◌, length, take, drop, Option, None, Some}

-- The old bytes are these and then the new: told bytes stay told, and untold ones untold.
abbrev pub Takes : Option (List ℕ) → Option (List ℕ) → List ℕ → Type 0
Takes (Some old) (Some new) bytes = old ≡ bytes ++ new
Takes (Some old) None bytes = ⊥
Takes None (Some new) bytes = ⊥
Takes None None bytes = Unit {0}

-- Some prefix of the old bytes was taken, of at most n bytes, and the rest is left.
pub record TakesAtMost (n : ℕ) (old new : Option (List ℕ)) : Type 0 where
  pub prefix : List ℕ
  pub taken : Takes old new prefix
  pub few : length prefix ≤ n

-- The first n of the old bytes, or all where there are fewer, are these, and the rest is left.
abbrev pub TakesFirst : ℕ → Option (List ℕ) → Option (List ℕ) → List ℕ → Type 0
TakesFirst n (Some old) (Some new) bytes = (bytes ≡ take n old) × (new ≡ drop n old)
TakesFirst n (Some old) None bytes = ⊥
TakesFirst n None (Some new) bytes = ⊥
TakesFirst n None None bytes = Unit {0}

-- No byte is left, where they are told.
abbrev pub IsAtEnd : Option (List ℕ) → Type 0
IsAtEnd (Some left) = left ≡ []
IsAtEnd None = Unit {0}
