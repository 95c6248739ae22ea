-- What the tests find of an event that isn't refused by them.
use Rattle.std.specs.Prelude.{◌≡◌, ◌≢◌, ℕ, None}
use Rattle.tm_base.specs.declared.operations.Op.{Op}
use Rattle.tm_base.specs.declared.operations.Op.TheVariants as op
use Rattle.tm_base.specs.declared.events.Entry.{Entry}
use Rattle.tm_base.specs.States.{grant_of}
use Rattle.tm_replay.specs.declared.phases.Phase.TheVariants as phase
use Rattle.tm_replay.specs.JointStates.{ThreadState, ObjectState}

-- The event is this operation on this object.
abbrev pub IsEventOf : Entry → ℕ → Op → Type 0
IsEventOf e object o = (e.object ≡ object) × (e.op ≡ o)

-- The event is `resume` at this object, and its thread's call was granted there.
abbrev pub IsResume : ObjectState → Entry → ℕ → Type 0
IsResume b e object = IsEventOf e object op.Resume × (grant_of b.view.state e.thread ≢ None)

-- Where the thread waits, the event is `resume` there, and its call was granted.
abbrev pub IsGranted : ThreadState → ObjectState → Entry → Type 0
IsGranted s b e = (object : ℕ) → s.phase ≡ phase.Waits object → IsResume b e object
