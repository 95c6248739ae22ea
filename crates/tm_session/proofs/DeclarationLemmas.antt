-- What an exercise declares at a place.
use Rattle.std.proofs.Common.{◌≡◌, ◌<◌, ℕ, length, Some, slice_get}
use Rattle.tm_text.specs.declared.exercises.Declaration.{Declaration}
use Rattle.tm_text.specs.Exercises.{ExerciseView}
use Rattle.tm_replay.proofs.SliceLemmas.{found_at}

pub declared_at : (x : ExerciseView) (o : ℕ) → o < length x.objects → (d : Declaration) × (slice_get x.objects o ≡ Some d)
declared_at x o h = found_at x.objects o h
