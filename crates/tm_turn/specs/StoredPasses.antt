-- What a stored pass keeps.
use Rattle.std.specs.Prelude.{◌≡◌, ℕ, true, false, [], ◌∷◌, None}
use Rattle.tm_turn.specs.TurnSteps.{SeatState}

-- The number is the one that the seat knows. The seat is a pass's, and keeps no lists of a join. It has taken
-- the slot exactly while it holds the turn, and the slot is empty then, since the value was moved out.
pub record KeepsPass {V : Type 0} (number : ℕ) (seat : SeatState V) : Type 0 where
  pub same_number : seat.0.number ≡ number
  pub lives : seat.0.lives ≡ true
  pub knows : seat.0.knows ≡ true
  pub keeps_none : seat.0.keeps ≡ false
  pub without : seat.0.holds ≡ false → seat.1 ≡ []
  pub with_slot : seat.0.holds ≡ true → seat.1 ≡ (0, None) ∷ []
