-- What a joint run is when it is cut after any of its events, as a whole statement.
use Rattle.std.specs.Prelude.{◌≡◌, List, ◌++◌}
use Rattle.tm_base.specs.declared.events.Entry.{Entry}
use Rattle.tm_base.specs.Orders.{IsClosed}
use Rattle.tm_text.specs.Exercises.{ExerciseView}
use Rattle.tm_replay.specs.JointStates.{JointState}
use Rattle.tm_replay.specs.JointSteps.{IsJointRun}

-- However many of the events are taken from the start, they are closed under happened-before in all of
-- them: each prefix is a consistent cut.
abbrev pub HasClosedPrefixes : List Entry → Type 0
HasClosedPrefixes es = (prefix back : List Entry) → es ≡ prefix ++ back → IsClosed prefix es

-- The prefixes of a joint run are closed.
abbrev pub PrefixesAreClosed : Type 0
PrefixesAreClosed = (x : ExerciseView) (es : List Entry) (j : JointState) → IsJointRun x es j → HasClosedPrefixes es
