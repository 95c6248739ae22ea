-- What contracts see of a collector.
use Rattle.std.specs.Prelude.{◌≡◌, ◌≤◌, Bool, false, List, length, take, All, Option, None}
use Rattle.tm_base.specs.declared.events.Entry.{Entry}
use Rattle.tm_text.specs.Exercises.{ExerciseView}
use Rattle.tm_replay.specs.JointSteps.{IsJointRun}
use Rattle.tm_merge.specs.MergerViews.{MergerView, arrived, nothing_arrived}
use Rattle.tm_joint.specs.Joints.{JointView}
use Rattle.tm_collect.specs.declared.refusals.Refusal.{Refusal}
use Rattle.tm_collect.specs.Transcripts.{first_joint}
use Rattle.tm_collect.specs.Advancing.{IsInRange}

-- The exercise, what arrived and in which order the merger shows it, where the replayer stands, the first
-- refusal, whether a write failed, and whether a `pump` answered that memory ran out.
pub record CollectorView : Type 0 where
  pub exercise : ExerciseView
  pub merger : MergerView
  pub joint : JointView
  pub refusal : Option Refusal
  pub write_fault : Bool
  pub short : Bool

-- Nothing has arrived yet.
abbrev pub new_collector : ExerciseView → CollectorView
new_collector x = record {
  exercise = x;
  merger = nothing_arrived (length x.programs) (length x.objects);
  joint = first_joint x;
  refusal = None;
  write_fault = false;
  short = false;
}

-- The events that were applied, the first of those that the merger shows.
abbrev pub shown_of : CollectorView → List Entry
shown_of v = take v.joint.applied v.merger.shown

-- What holds of every collector: what is shown is a legal joint run of the exercise, and leaves the joint
-- state; and all that the merger shows was applied, unless an event was refused or memory ran out.
pub record IsCollecting (v : CollectorView) : Type 0 where
  pub exercise : v.joint.exercise ≡ v.exercise
  pub threads : v.merger.threads ≡ length v.exercise.programs
  pub objects : v.merger.objects ≡ length v.exercise.objects
  pub within : v.joint.applied ≤ length v.merger.shown
  pub run : IsJointRun v.exercise (shown_of v) v.joint.state
  pub ranges : All (IsInRange v.exercise) (arrived v.merger)
  pub whole : v.refusal ≡ None → v.short ≡ false → v.joint.applied ≡ length v.merger.shown
