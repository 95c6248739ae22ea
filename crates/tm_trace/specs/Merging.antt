-- Events that are offered to a merger one after the other, and then shown until none is ready.
use Rattle.std.specs.Prelude.{◌≡◌, ℕ, List, []}
use Rattle.tm_base.specs.declared.events.Entry.{Entry}
use Rattle.tm_text.specs.Exercises.{ExerciseView}
use Rattle.tm_merge.specs.declared.holds.Hold.{Hold}
use Rattle.tm_merge.specs.Holding.{IsHeldAt, IsMissing}
use Rattle.tm_merge.specs.MergerViews.{MergerView}
use Rattle.tm_merge.specs.Showing.{Settles}
use Rattle.tm_trace.specs.declared.faults.JudgeFault.{JudgeFault}
use Rattle.tm_trace.specs.declared.faults.JudgeFault.TheVariants as fault
use Rattle.tm_trace.specs.Offering.{IsFirstRefusal, IsOffered}

-- The merger took all these events, in the list's order, and then showed some, each time the soonest of those
-- ready, until none was ready.
pub record IsMerged (x : ExerciseView) (es : List Entry) (v : MergerView) : Type 0 where
  pub before : MergerView
  pub offered : IsOffered x es before
  pub count : ℕ
  pub settles : Settles before count v

-- The same, and it shows all of them.
pub record HoldsNothing (x : ExerciseView) (es : List Entry) (v : MergerView) : Type 0 where
  pub merged : IsMerged x es v
  pub nothing_held : v.held ≡ []

-- Some events are held then. This is the first of them by stamp, thread number and place, and the place for
-- which it waits.
pub record IsFirstHold (x : ExerciseView) (es : List Entry) (hold : Hold) : Type 0 where
  pub merger : MergerView
  pub merged : IsMerged x es merger
  pub first : IsHeldAt merger 0 hold.entry
  pub missing : IsMissing merger hold.entry hold.missing

-- What can go wrong until they are shown.
abbrev pub IsMergeFault : ExerciseView → List Entry → JudgeFault → Type 0
IsMergeFault x es (fault.Refused r) = IsFirstRefusal x es r
IsMergeFault x es (fault.Held hold) = IsFirstHold x es hold
IsMergeFault x es (fault.Illegal i) = ⊥
IsMergeFault x es fault.NoMemory = Unit {0}
