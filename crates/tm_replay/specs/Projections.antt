-- What a joint run is for each object and each thread alone, as whole statements.
use Rattle.std.specs.Prelude.{◌≡◌, ℕ, suc, List, map, length, slice_get, Some}
use Rattle.std.specs.List.{range_with_len}
use Rattle.tm_base.specs.declared.events.Entry.{Entry}
use Rattle.tm_base.specs.Machines.{ObjectView}
use Rattle.tm_base.specs.Histories.{Label, HistoryState, IsHistory}
use Rattle.tm_base.specs.Orders.{of_object, of_thread}
use Rattle.tm_text.specs.Exercises.{ExerciseView}
use Rattle.tm_replay.specs.JointStates.{JointState, ThreadState, ObjectState}
use Rattle.tm_replay.specs.JointSteps.{IsJointRun}

-- The object of this number, with the machine's kind and threads.
abbrev pub label_at : ℕ → ObjectView → Label
label_at o h = record { object = o; kind = h.kind; threads = h.threads }

-- How far the object's history has come.
abbrev pub history_state_at : ObjectState → HistoryState
history_state_at b = record { at = b.at; stamp = b.stamp; state = b.view.state }

-- In a joint run the events of each object are a legal history of it, which leaves the point where
-- the joint state has the object.
abbrev pub ObjectsHaveHistories : Type 0
ObjectsHaveHistories = (x : ExerciseView) (es : List Entry) (j : JointState) → IsJointRun x es j
    → (o : ℕ) (b : ObjectState) → slice_get j.objects o ≡ Some b → IsHistory (label_at o b.view) (of_object es o) (history_state_at b)

-- In a joint run the events of each thread have the places 1, 2, 3 and so on in this order, and the
-- place of the thread's next event is one more than their number.
abbrev pub ThreadsHavePlaces : Type 0
ThreadsHavePlaces = (x : ExerciseView) (es : List Entry) (j : JointState) → IsJointRun x es j
    → (t : ℕ) (s : ThreadState) → slice_get j.threads t ≡ Some s
    → (map (λ e. e.place) (of_thread es t) ≡ range_with_len 1 (length (of_thread es t))) × (s.next ≡ suc (length (of_thread es t)))
