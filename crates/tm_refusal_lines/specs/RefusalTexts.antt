-- The three lines that say why the events of a trace can't have been a run.
use Rattle.std.specs.Prelude.{ℕ, List, [], ◌++◌, codes}
use Rattle.std.specs.Fmt.{decimal}
use Rattle.tm_base.specs.declared.events.Entry.{Entry}
use Rattle.tm_text.specs.Exercises.{ExerciseView, name_of}
use Rattle.tm_timeline.specs.Rows.{event_text, line_end, operation_text, reply_text, thread_name}
use Rattle.tm_merge.specs.declared.holds.Hold.{Hold}
use Rattle.tm_merge.specs.declared.holds.Missing.{Missing}
use Rattle.tm_merge.specs.declared.holds.Missing.TheVariants as missing
use Rattle.tm_merge.specs.declared.refusals.Refused.{Refused}
use Rattle.tm_merge.specs.declared.refusals.Refused.TheVariants as refused
use Rattle.tm_joint.specs.declared.asked.Asked.{Asked}
use Rattle.tm_joint.specs.declared.asked.Asked.TheVariants as asked
use Rattle.tm_joint.specs.declared.refusals.Cause.{Cause}
use Rattle.tm_joint.specs.declared.refusals.Cause.TheVariants as cause
use Rattle.tm_joint.specs.declared.refusals.Illegal.{Illegal}
use Rattle.tm_trace.specs.declared.faults.JudgeFault.{JudgeFault}
use Rattle.tm_trace.specs.declared.faults.JudgeFault.TheVariants as fault

-- A line: its first word, a space, and the rest.
abbrev pub line_of : List ℕ → List ℕ → List ℕ
line_of word rest = word ++ codes " " ++ rest ++ line_end

-- A place in a thread, or at an object.
abbrev pub place_text : ExerciseView → Missing → List ℕ
place_text x (missing.Thread thread place) = codes "thread " ++ thread_name x thread ++ codes "." ++ decimal place
place_text x (missing.Object object at) = codes "object " ++ name_of x.objects object ++ codes "." ++ decimal at

-- What a thread may do: the call that is asked, on its object; its end, with its reply; or what `main` does.
abbrev pub asked_text : ExerciseView → Asked → List ℕ
asked_text x (asked.Call object op) = name_of x.objects object ++ codes " " ++ operation_text op
asked_text x asked.Over = codes "end ok"
asked_text x asked.Cut = codes "end cut"
asked_text x asked.Stop = codes "stop"

-- What was expected in place of an illegal event, by the cause.
abbrev pub expected_text : ExerciseView → Cause → List ℕ
expected_text x cause.Ended = codes "nothing"
expected_text x (cause.Place next) = place_text x next
expected_text x (cause.Stamp next) = codes "stamp " ++ decimal next
expected_text x (cause.Waiting object) = codes "resume " ++ name_of x.objects object
expected_text x (cause.NotAsked next) = asked_text x next
expected_text x cause.StoppedAlready = codes "nothing"
expected_text x (cause.Reply reply) = codes "reply " ++ reply_text x reply

-- The event that is kept, and the new one that can't be together with it.
abbrev pub pair_text : ExerciseView → Entry → Entry → List ℕ
pair_text x kept new = line_of (codes "kept") (event_text x kept) ++ line_of (codes "new") (event_text x new)

-- An event that is refused as it arrives. None of a trace is out of range, and want of memory says nothing of the
-- events: these have no lines.
abbrev pub refused_text : ExerciseView → Refused → List ℕ
refused_text x (refused.TwicePlace kept new) = line_of (codes "refused") (codes "twice") ++ pair_text x kept new
refused_text x (refused.StampOrder kept new) = line_of (codes "refused") (codes "stamps") ++ pair_text x kept new
refused_text x (refused.OutOfRange field) = []
refused_text x refused.NoMemory = []

-- An event that is held, and the place for which it waits.
abbrev pub held_text : ExerciseView → Hold → List ℕ
held_text x hold =
    line_of (codes "refused") (codes "missing") ++ line_of (codes "held") (event_text x hold.entry) ++ line_of (codes "missing") (place_text x hold.missing)

-- An event that can't happen after those before it, and what was expected.
abbrev pub illegal_text : ExerciseView → Illegal → List ℕ
illegal_text x illegal =
    line_of (codes "refused") (codes "illegal") ++ line_of (codes "event") (event_text x illegal.entry) ++ line_of (codes "expected") (expected_text x illegal.cause)

-- The lines of a fault. Want of memory says nothing of the events, and has none.
abbrev pub refusal_text : ExerciseView → JudgeFault → List ℕ
refusal_text x (fault.Refused r) = refused_text x r
refusal_text x (fault.Held hold) = held_text x hold
refusal_text x (fault.Illegal i) = illegal_text x i
refusal_text x fault.NoMemory = []
