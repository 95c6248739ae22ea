-- How an exercise is stored.
use Rattle.std.specs.Prelude.{◌≡◌, ℕ, suc, ◌<◌, map, length, slice_get, Some}
use Rattle.tm_text.specs.declared.exercises.Exercise.TheInside.{Inside}
use Rattle.tm_text.specs.Exercises.{ExerciseView, IsWellFormed, own_of}

-- What contracts see: the objects, and the instructions of each thread's program.
abbrev pub exercise_view : Inside → ExerciseView
exercise_view x = record { objects = x.objects.items; programs = map (λ p. p.items) x.programs.items }

-- The exercise is well formed, and the number of each thread's own object is stored.
pub record IsKept (x : Inside) : Type 0 where
  pub well_formed : IsWellFormed (exercise_view x)
  pub owns : (t : ℕ) → t < length x.programs.items
      → slice_get x.owns.items t ≡ Some (own_of x.objects.items (suc t))
  pub own_count : length x.owns.items ≡ length x.programs.items
