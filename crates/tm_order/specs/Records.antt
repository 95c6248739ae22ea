-- What each thread and each object of an exercise recorded, as lists of events of their own.
use Rattle.std.specs.Prelude.{◌≡◌, ℕ, suc, ◌≤◌, max, List, ◌∷◌, ◌++◌, length, slice_get, Some}
use Rattle.tm_base.specs.declared.events.Entry.{Entry}
use Rattle.tm_base.specs.Histories.{Label, HistoryState, IsHistory, object_at}
use Rattle.tm_base.specs.Orders.{last_stamp}
use Rattle.tm_text.specs.declared.exercises.Declaration.{Declaration}
use Rattle.tm_text.specs.Exercises.{ExerciseView}
use Rattle.tm_replay.specs.JointStates.{JointState, ThreadState, ObjectState}
use Rattle.tm_order.specs.ThreadRuns.{IsThreadRun}

-- The object with this number and declaration, which all threads of the exercise use.
abbrev pub label_of : ExerciseView → ℕ → Declaration → Label
label_of x o d = record { object = o; kind = d.kind; threads = length x.programs }

-- The object where its history has come this far.
abbrev pub object_state_at : ExerciseView → ℕ → Declaration → HistoryState → ObjectState
object_state_at x o d p = record { view = object_at (label_of x o d) p.state; at = p.at; stamp = p.stamp }

-- The events that each thread made, and those that each object has, tell of this exercise: each object's are
-- a legal history of it, and each thread's are a run of the thread.
pub record IsRecorded (x : ExerciseView) (made seen : ℕ → List Entry) : Type 0 where
  pub objects : (o : ℕ) (d : Declaration) → slice_get x.objects o ≡ Some d → (p : HistoryState) × IsHistory (label_of x o d) (seen o) p
  pub threads : (t : ℕ) → t ≤ length x.programs → (s : ThreadState) × IsThreadRun x t (made t) s

-- The joint state has each object and each thread where its own events leave it.
pub record IsReached (x : ExerciseView) (made seen : ℕ → List Entry) (j : JointState) : Type 0 where
  pub object_count : length j.objects ≡ length x.objects
  pub thread_count : length j.threads ≡ suc (length x.programs)
  pub objects : (o : ℕ) (d : Declaration) → slice_get x.objects o ≡ Some d
      → (p : HistoryState) × IsHistory (label_of x o d) (seen o) p × (slice_get j.objects o ≡ Some (object_state_at x o d p))
  pub threads : (t : ℕ) → t ≤ length x.programs → (s : ThreadState) × IsThreadRun x t (made t) s × (slice_get j.threads t ≡ Some s)

-- The event's stamp is 1 plus the greater of the last stamps of the events before it in its thread and of
-- those before it at its object: Lamport's rule for clocks (CACM 1978).
abbrev pub IsStampedAfter : List Entry → List Entry → Entry → Type 0
IsStampedAfter earlier before e = e.stamp ≡ suc (max (last_stamp earlier) (last_stamp before))

-- The stamps are Lamport's clocks: each event's comes after what its thread made before it and what its
-- object had before it.
abbrev pub IsClocked : (ℕ → List Entry) → (ℕ → List Entry) → Type 0
IsClocked made seen = (e : Entry) (earlier later before after : List Entry) → made e.thread ≡ earlier ++ e ∷ later → seen e.object ≡ before ++ e ∷ after
    → IsStampedAfter earlier before e
