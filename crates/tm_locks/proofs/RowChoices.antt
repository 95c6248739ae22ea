-- One row or another, by a test.
use Rattle.std.proofs.Common.{◌≡◌, Bool, true, false, MatchBool, refl}

-- what follows from either row, with what the test says, follows from the choice
pub by_test : {P Q R : Type 0} (b : Bool) → (b ≡ true → P → R) → (b ≡ false → Q → R) → MatchBool b P Q → R
by_test true f g h = f refl h
by_test false f g h = g refl h
