-- The program of a thread in its list.
use Rattle.std.proofs.Common.{◌≡◌, ℕ, zero, suc, ◌≤◌, ◌-◌, [], slice_index_or, arith, ap}
use Rattle.tm_text.specs.Exercises.{ExerciseView, instructions_of}

-- a thread's program stands one place before its number
pub instructions_of-at : (x : ExerciseView) (t : ℕ) → 1 ≤ t → instructions_of x t ≡ slice_index_or x.programs (t - 1) []
instructions_of-at x zero h = absurd (omega arith)
instructions_of-at x (suc t) h = let e : t ≡ suc t - 1 = omega arith in ap (λ k. slice_index_or x.programs k []) e
