-- An alone run as it is kept: by books, tickets and a collector.
use Rattle.std.specs.Prelude.{◌≡◌, ℕ, ◌+◌, ◌≤◌, true, List, [], ◌∷◌, ◌++◌, length, slice_get, Some, Option}
use Rattle.tm_base.specs.declared.operations.Op.TheVariants as op
use Rattle.tm_base.specs.declared.events.Entry.{Entry}
use Rattle.tm_base.specs.Runs.{Leads}
use Rattle.tm_outside.specs.Appending.{AppendsPrefix}
use Rattle.tm_text.specs.Exercises.{ExerciseView, IsWellFormed}
use Rattle.tm_replay.specs.JointStates.{JointState}
use Rattle.tm_replay.specs.JointSteps.{JointStep}
use Rattle.tm_replay.specs.Bars.{bars_of, has_waiter}
use Rattle.tm_replay.specs.SoundStates.{IsSoundJoint}
use Rattle.tm_replay.specs.Work.{IsCounted, work}
use Rattle.tm_collect.specs.Sending.{Outlet, Sends}
use Rattle.tm_collect.specs.Transcripts.{AddsRow, first_joint, transcript_at}
use Rattle.tm_collect.specs.Collectors.{CollectorView, shown_of}
use Rattle.tm_collect.specs.NextEvents.{ShowsAll}
use Rattle.tm_session.specs.declared.alone_runs.AloneRun.{AloneRun}
use Rattle.tm_session.specs.declared.next_calls.NextCall.{NextCall}
use Rattle.tm_base.specs.declared.rules.Rules.{Rules}
use Rattle.tm_session.specs.Choices.{chosen_thread, draw_after}
use Rattle.tm_session.specs.Records.{HaveRecorded, IsEarly, Performs}
use Rattle.tm_session.specs.Turns.{RunState, AreWaited, BeginsAlone, Goes, KeepsLimit}
use Rattle.tm_session.specs.AloneTexts.{BeginsAloneText}

-- Where the run stands once the joint state is this.
abbrev pub run_state_at : JointState → AloneRun → RunState
run_state_at j r = record { joint = j; last = r.last; draw = r.draw; stops = r.stops.items }

-- Where the run stands: its joint state is the collector's.
abbrev pub run_state_of : AloneRun → RunState
run_state_of r = run_state_at r.collector.joint.state r

-- Books and tickets have recorded the events that the collector has shown.
abbrev pub HasRecorded : AloneRun → Type 0
HasRecorded r = HaveRecorded (shown_of r.collector) r.collector.joint.state r.books.items r.tickets.items

-- Books and tickets have recorded one event more than the old run's collector has shown, which leaves this
-- joint state.
abbrev pub RecordsNext : AloneRun → Entry → JointState → AloneRun → Type 0
RecordsNext old e j new = HaveRecorded (shown_of old.collector ++ e ∷ []) j new.books.items new.tickets.items

-- The run can make an event: its exercise is well formed, its joint state is sound and early, the thread that
-- moved last is one of the exercise's, the objects that are still to be stopped have waiters, and books and
-- tickets have recorded its events.
pub record IsRunning (x : ExerciseView) (r : AloneRun) : Type 0 where
  pub exercise : r.collector.joint.exercise ≡ x
  pub formed : IsWellFormed x
  pub sound : IsSoundJoint x r.collector.joint.state
  pub early : IsEarly r.collector.joint.state
  pub last : r.last ≤ length x.programs
  pub waited : AreWaited r.collector.joint.state r.stops.items
  pub recorded : HasRecorded r

-- `main` can stop the object, which has a waiter.
pub record HaltsAt (x : ExerciseView) (r : AloneRun) (object : ℕ) : Type 0 where
  pub formed : IsWellFormed x
  pub sound : IsSoundJoint x r.collector.joint.state
  pub early : IsEarly r.collector.joint.state
  pub waited : has_waiter (slice_get r.collector.joint.state.objects object) ≡ true
  pub recorded : HasRecorded r

-- The thread made the event of its next call, which is recorded.
pub record Makes (old : AloneRun) (t : ℕ) (w : NextCall) (e : Entry) (new : AloneRun) : Type 0 where
  pub joint : JointState
  pub performs : Performs old.collector.joint.state t w e joint
  pub recorded : RecordsNext old e joint new

-- `main` stopped the object.
pub record Stops (x : ExerciseView) (old : AloneRun) (due : ℕ) (e : Entry) (new : AloneRun) : Type 0 where
  pub joint : JointState
  pub step : JointStep x old.collector.joint.state e joint
  pub recorded : RecordsNext old e joint new
  pub stop : e.op ≡ op.Stop
  pub object : e.object ≡ due
  pub stops : new.stops.items ≡ old.stops.items
  pub last : new.last ≡ old.last
  pub draw : new.draw ≡ old.draw

-- The thread that the schedule chooses went on, within its limit.
pub record MovesOn (x : ExerciseView) (rules : Rules) (old : AloneRun) (e : Entry) (new : AloneRun) : Type 0 where
  pub joint : JointState
  pub step : JointStep x old.collector.joint.state e joint
  pub recorded : RecordsNext old e joint new
  pub draw : new.draw ≡ draw_after rules.schedule old.draw
  pub chosen : chosen_thread rules.schedule (bars_of old.collector.joint.state) old.last new.draw ≡ Some e.thread
  pub limit : KeepsLimit rules.limit step.happens.thread_state e.op
  pub stops : new.stops.items ≡ old.stops.items
  pub last : new.last ≡ e.thread

-- The run's next event was made and recorded; the collector hasn't shown it yet.
pub record GoesOnBy (x : ExerciseView) (rules : Rules) (old : AloneRun) (e : Entry) (new : AloneRun) : Type 0 where
  pub joint : JointState
  pub goes : Goes x rules (run_state_of old) e (run_state_at joint new)
  pub recorded : RecordsNext old e joint new

-- The run is under way: the collector has shown all its events, which are the alone run's first ones, and books
-- and tickets have recorded them; places and stamps are at most their number, and the work that is left bounds
-- what is still to come.
pub record IsUnderWay (x : ExerciseView) (rules : Rules) (r : AloneRun) : Type 0 where
  pub shows : ShowsAll r.collector
  pub exercise : r.collector.exercise ≡ x
  pub last : r.last ≤ length x.programs
  pub waited : AreWaited r.collector.joint.state r.stops.items
  pub counted : IsCounted r.collector.joint.applied r.collector.joint.state
  pub bounded : r.collector.joint.applied + work rules.limit r.collector.joint.state ≤ 2000000
  pub begins : BeginsAlone x rules (shown_of r.collector) (run_state_of r)
  pub recorded : HasRecorded r

-- From one state of the sink to the other the rows of all events were sent that the collector has shown.
pub record HasSent (x : ExerciseView) (v : CollectorView) (o p : Outlet) : Type 0 where
  pub rows : List ℕ
  pub transcript : Leads (AddsRow x) (transcript_at (first_joint x) []) (shown_of v) (transcript_at v.joint rows)
  pub sent : Sends o p rows

-- A prefix of the text of the exercise's alone run was written, and not all of it.
abbrev pub HasBegun : ExerciseView → Rules → Option (List ℕ) → Option (List ℕ) → Type 0
HasBegun x rules old new = (bytes : List ℕ) × BeginsAloneText x rules bytes × AppendsPrefix old new bytes
