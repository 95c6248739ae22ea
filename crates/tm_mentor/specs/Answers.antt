-- What commands answer, whichever they are.
use Rattle.std.specs.Prelude.{◌≡◌, ℕ, ◌≤◌, Bool, false, if◌then◌else◌, List, [], ◌∷◌, Some, None}
use Rattle.tm_base.specs.declared.ends.End.{End}
use Rattle.tm_base.specs.declared.ends.End.TheVariants.{Done, Stuck, Budget}
use Rattle.tm_base.specs.declared.rules.Rules.{Rules}
use Rattle.tm_watch.specs.Watchers.{Watch, told_all}
use Rattle.tm_text.specs.Exercises.{ExerciseView}
use Rattle.tm_replay.specs.JointStates.{JointState}
use Rattle.tm_merge.specs.Numbering.{PrefixesAreClosed}
use Rattle.tm_replay.specs.Ends.{EndsAs}
use Rattle.tm_replay.specs.JointOrder.{AreOrdered}
use Rattle.tm_replay.specs.JointSteps.{IsJointRun}
use Rattle.tm_session.specs.declared.runs.Finished.{Finished}
use Rattle.tm_collect.specs.Sending.{IsSent}
use Rattle.tm_session.specs.AloneTexts.{IsAloneText}
use Rattle.tm_session.specs.Shelves.{AreBooksOf, entries_of}
use Rattle.tm_mentor.specs.declared.answers.Answer.{Answer}
use Rattle.tm_mentor.specs.declared.answers.Answer.TheVariants.{Refused, Ran, Wrote, Illegal, NoMemory}
use Rattle.tm_mentor.specs.declared.outcomes.Outcome.{Outcome}
use Rattle.tm_mentor.specs.declared.refusals.Refusal.{Refusal}
use Rattle.tm_mentor.specs.declared.refusals.Refusal.TheVariants.{NoTrace, Text}
use Rattle.tm_mentor.specs.Refusals.{line_of, status_of}
use Rattle.tm_mentor.specs.Outside.{Output}

-- All statuses that there are.
abbrev pub statuses : List ℕ
statuses = 0 ∷ 2 ∷ 3 ∷ 4 ∷ 5 ∷ 6 ∷ 7 ∷ 8 ∷ 9 ∷ []

-- The status of a run whose text was written, by how it ended.
abbrev pub end_status : End → ℕ
end_status Done = 0
end_status Stuck = 6
end_status Budget = 7

-- A write that failed makes the status 5, whatever it is otherwise.
abbrev pub unless_failed : Bool → ℕ → ℕ
unless_failed failed status = if failed then 5 else status

-- The status of a run.
abbrev pub run_status : Finished → ℕ
run_status f = unless_failed f.write_fault (end_status f.end)

-- The run ended this way, and its text was written.
abbrev pub IsWritten : End → Finished → Type 0
IsWritten end f = (f.write_fault ≡ false) × (f.end ≡ end)

-- The bytes were sent to the sink, or a prefix of them where a write failed.
abbrev pub Sends : Bool → Output → Output → List ℕ → Type 0
Sends failed old new bytes =
    IsSent (record { failed = false; faults = old.faults; written = old.written })
    (record { failed = failed; faults = new.faults; written = new.written }) bytes

-- The exercise ran to its end: its events are those of its alone run under the rules, whose text these bytes are;
-- they are a legal run of all objects together, which has ended under the limit of the rules, with this end and
-- these threads cut; their places and stamps are in order; cut after any of them, they are closed under
-- happened-before in all entries of all books, and none stands twice; and each object's book has the object's
-- events of these, which are a legal history.
pub record HasRun (x : ExerciseView) (rules : Rules) (f : Finished) (bytes : List ℕ) : Type 0 where
  pub text : IsAloneText x rules f.shown f.end f.cut bytes
  pub joint : JointState
  pub legal : IsJointRun x f.shown joint
  pub ended : EndsAs x rules.limit f.shown f.end f.cut
  pub ordered : AreOrdered f.shown
  pub closed : PrefixesAreClosed f.shown (entries_of f.books)
  pub books : AreBooksOf x f.shown f.books

-- Only a line with a number takes memory.
abbrev pub TakesMemory : Refusal → Type 0
TakesMemory (Text fault) = Unit {0}
TakesMemory (NoTrace line) = Unit {0}
TakesMemory r = ⊥

-- The refusal is answered, and its line was sent. Where memory ran out nothing was sent.
abbrev pub Refuses : Refusal → Output → Output → Answer → Type 0
Refuses r old new (Refused refusal failed) = (refusal ≡ r) × Sends failed old new (line_of r)
Refuses r old new NoMemory = TakesMemory r × (new ≡ old)
Refuses r old new a = ⊥

-- What contracts see of watchers then, by the answer: after a run those that were told of all its events and retired
-- at none; where nothing was run they are as before; where memory ran out nothing is said.
abbrev pub HaveWatched : List Watch → Answer → List Watch → Type 0
HaveWatched ws (Refused refusal failed) us = us ≡ ws
HaveWatched ws (Ran f) us = us ≡ told_all ws f.shown
HaveWatched ws (Wrote failed) us = us ≡ ws
HaveWatched ws (Illegal failed) us = us ≡ ws
HaveWatched ws NoMemory us = Unit {0}

-- The answer in a status and a run.
abbrev pub outcome_of : Answer → Outcome
outcome_of (Refused refusal failed) = record { status = unless_failed failed (status_of refusal); finished = None }
outcome_of (Ran f) = record { status = run_status f; finished = Some f }
outcome_of (Wrote failed) = record { status = unless_failed failed 0; finished = None }
outcome_of (Illegal failed) = record { status = unless_failed failed 8; finished = None }
outcome_of NoMemory = record { status = 9; finished = None }

-- A status from 2 to 4 is that of a refusal whose line was written, 8 that of a trace that isn't legal, where the lines
-- that say so were written, and 9 that of memory that ran out.
pub record StatusesNameAnswers : Type 0 where
  pub refused : (a : Answer) → 2 ≤ (outcome_of a).status → (outcome_of a).status ≤ 4
      → (refusal : Refusal) × ((outcome_of a).status ≡ status_of refusal) × (a ≡ Refused refusal false)
  pub illegal : (a : Answer) → (outcome_of a).status ≡ 8 → a ≡ Illegal false
  pub no_memory : (a : Answer) → (outcome_of a).status ≡ 9 → a ≡ NoMemory
