-- What contracts see of a merger.
use Rattle.std.specs.Prelude.{ℕ, List, [], ◌++◌}
use Rattle.tm_base.specs.declared.events.Entry.{Entry}

-- The greatest number of a thread, how many objects there are, the events that are shown, in order, and
-- those that arrived and aren't shown, in no order.
pub record MergerView : Type 0 where
  pub threads : ℕ
  pub objects : ℕ
  pub shown : List Entry
  pub held : List Entry

-- All events that arrived.
abbrev pub arrived : MergerView → List Entry
arrived v = v.shown ++ v.held

-- Nothing has arrived yet.
abbrev pub nothing_arrived : (threads objects : ℕ) → MergerView
nothing_arrived threads objects = record { threads = threads; objects = objects; shown = []; held = [] }
