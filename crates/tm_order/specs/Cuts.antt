-- Cuts that are closed under happened-before: of which events, and in which order.
use Rattle.std.specs.Prelude.{List, Contains}
use Rattle.tm_base.specs.declared.events.Entry.{Entry}
use Rattle.tm_base.specs.Orders.{IsClosed, KeepsPredecessors}

-- A closed cut, whatever the events, keeps direct predecessors.
abbrev pub ClosedCutsKeepPredecessors : Type 0
ClosedCutsKeepPredecessors = (cut events : List Entry) → IsClosed cut events → KeepsPredecessors cut

-- The lists have the same events, however often and in whatever order.
pub record HaveSameEvents (es others : List Entry) : Type 0 where
  pub into : (e : Entry) → Contains es e → Contains others e
  pub back : (e : Entry) → Contains others e → Contains es e

-- In which order events stand makes no difference to what happened before what, and so to which cuts are
-- closed in them.
abbrev pub CutsAreOfEvents : Type 0
CutsAreOfEvents = (cut es others : List Entry) → HaveSameEvents es others → IsClosed cut es → IsClosed cut others
