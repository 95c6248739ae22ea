-- How a number is spelled on the command line.
use Rattle.std.specs.Prelude.{◌≡◌, ℕ, List}
use Rattle.std.specs.Str.Parse.{IsNumeral, digits_value}

-- The bytes are one or more decimal digits, and n is the number that they write.
abbrev pub IsNumber : List ℕ → ℕ → Type 0
IsNumber bytes n = IsNumeral 10 bytes × (digits_value 10 bytes ≡ n)
