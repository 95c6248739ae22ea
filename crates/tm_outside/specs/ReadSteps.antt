-- What one read into a list of bytes does.
use Rattle.std.specs.Prelude.{◌≡◌, ℕ, List, ◌++◌, length, Option}
use Rattle.tm_outside.specs.Taking.{Takes}

-- N bytes were taken from those left, and appended to the list.
pub record ReadsMore (left left' : Option (List ℕ)) (old new : List ℕ) (n : ℕ) : Type 0 where
  pub read : List ℕ
  pub taken : Takes left left' read
  pub appended : new ≡ old ++ read
  pub count : length read ≡ n
