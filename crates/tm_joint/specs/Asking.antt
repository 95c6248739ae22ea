-- What a thread may do next, as an answer.
use Rattle.std.specs.Prelude.{ℕ, Option, Some, None}
use Rattle.tm_base.specs.declared.operations.Op.TheVariants as op
use Rattle.tm_base.specs.declared.asks.Ask.{Ask}
use Rattle.tm_base.specs.declared.asks.Ask.TheVariants as ask
use Rattle.tm_programs.specs.Programs.{Rest, asked_of}
use Rattle.tm_replay.specs.declared.phases.Phase.{Phase}
use Rattle.tm_replay.specs.declared.phases.Phase.TheVariants as phase
use Rattle.tm_joint.specs.declared.asked.Asked.{Asked}
use Rattle.tm_joint.specs.declared.asked.Asked.TheVariants as asked

-- What a free thread may do whose program asks this: the call; its end where the program is over; and an end
-- that is cut where nothing at all is asked.
abbrev pub asked_by : Option Ask → Asked
asked_by (Some (ask.Call object o)) = asked.Call object o
asked_by (Some ask.Over) = asked.Over
asked_by None = asked.Cut

-- What a thread in this phase may do, which has this own object: nothing where it waits or has ended.
abbrev pub asked_in : ℕ → Phase → Rest → Option Asked
asked_in own phase.Main rest = Some asked.Stop
asked_in own phase.NotBegun rest = Some (asked.Call own op.Begin)
asked_in own phase.Free rest = Some (asked_by (asked_of rest))
asked_in own (phase.Waits at) rest = None
asked_in own (phase.Ended cut) rest = None
