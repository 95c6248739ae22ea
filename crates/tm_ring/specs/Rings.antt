-- What contracts see of a ring's two ends.
use Rattle.std.specs.Prelude.{ℕ, List}
use Rattle.tm_base.specs.declared.events.Entry.{Entry}

-- Which ring an end is of. Both ends of a ring have one, which no call changes.
abbrev pub RingId : Type 0
RingId = ℕ

-- Which ring it is; the events that were sent, in order; for how many more there is room; how many of them
-- wait in the backlog, and how many slots of the ring are known to be free.
pub record OutboxView : Type 0 where
  pub ring : RingId
  pub sent : List Entry
  pub spare : ℕ
  pub waiting : ℕ
  pub free : ℕ

-- Which ring it is; the events that were taken, in order; and those that are known to be in the ring, the
-- oldest first.
pub record InboxView : Type 0 where
  pub ring : RingId
  pub received : List Entry
  pub known : List Entry
