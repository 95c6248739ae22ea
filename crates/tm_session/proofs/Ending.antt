-- The threads that a last line names.
use Rattle.std.proofs.Common.{ℕ, zero, suc, ◌+◌, ◌-◌, ◌≤◌, Bool, All, length, Option, slice_get, arith}
use Rattle.std.specs.List.{range_with_len}
use Rattle.std.proofs.lemmas.List.Elements.{All-nil, All-cons, All-filter}
use Rattle.tm_text.specs.Exercises.{ExerciseView}
use Rattle.tm_timeline.specs.Rows.{IsProgramThread}
use Rattle.tm_replay.specs.JointStates.{JointState, ThreadState}
use Rattle.tm_replay.specs.Bars.{threads_of}
use Rattle.tm_replay.specs.SoundStates.{IsSoundJoint}
use Rattle.tm_replay.specs.Ends.{threads_where}

range-programs : (x : ExerciseView) (from n : ℕ) → 1 ≤ from → from + n ≤ length x.programs + 1 → All (IsProgramThread x) (range_with_len from n)
range-programs x from zero low high = All-nil (IsProgramThread x)
range-programs x from (suc n) low high =
    All-cons (IsProgramThread x) from (range_with_len (from + 1) n) (record { program = low; known = omega (arith, high) })
    (range-programs x (from + 1) n (omega (arith, low)) (omega (arith, high)))

-- the threads that pass a test are program threads
pub programs : (x : ExerciseView) (j : JointState) (test : Option ThreadState → Bool) → IsSoundJoint x j → All (IsProgramThread x) (threads_where test j)
programs x j test sound =
    All-filter (λ t. test (slice_get j.threads t)) (IsProgramThread x) (threads_of j)
    (range-programs x 1 (length j.threads - 1) (omega arith) (omega (arith, sound.thread_count)))
