-- What writing does to the bytes that a sink was given, where it tells them.
use Rattle.std.specs.Prelude.{◌≡◌, ℕ, ◌≤◌, List, ◌++◌, length, Option, None, Some}

-- The new bytes are the old and then these: told bytes stay told, and untold ones untold.
abbrev pub Appends : Option (List ℕ) → Option (List ℕ) → List ℕ → Type 0
Appends (Some old) (Some new) bytes = new ≡ old ++ bytes
Appends (Some old) None bytes = ⊥
Appends None (Some new) bytes = ⊥
Appends None None bytes = Unit {0}

-- Some prefix of the bytes was appended.
pub record AppendsPrefix (old new : Option (List ℕ)) (bytes : List ℕ) : Type 0 where
  pub prefix : List ℕ
  pub back : List ℕ
  pub split : bytes ≡ prefix ++ back
  pub appended : Appends old new prefix

-- Some prefix of the bytes was appended, and at least one byte of them was not.
pub record AppendsProperPrefix (old new : Option (List ℕ)) (bytes : List ℕ) : Type 0 where
  pub prefix : List ℕ
  pub back : List ℕ
  pub split : bytes ≡ prefix ++ back
  pub missing : 1 ≤ length back
  pub appended : Appends old new prefix
