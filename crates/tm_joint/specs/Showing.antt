-- What an event changes of the bars.
use Rattle.std.specs.Prelude.{◌≡◌, ◌≢◌, ℕ, ◌+◌, ◌-◌, ◌≤◌, ◌<◌, Bool, false, not, ◌||◌, ◌==◌, if◌then◌else◌, List, length, Option, Some, None, slice_get}
use Rattle.tm_base.specs.declared.bars.Bar.{Bar}
use Rattle.tm_base.specs.declared.bars.Bar.TheVariants as bar
use Rattle.tm_base.specs.declared.events.Entry.{Entry}
use Rattle.tm_base.specs.declared.replies.Reply.{Reply}
use Rattle.tm_base.specs.declared.replies.Reply.TheVariants as reply
use Rattle.tm_base.specs.States.{is_waiting, queued}
use Rattle.tm_laws.specs.Counts.{bit}
use Rattle.tm_replay.specs.declared.phases.Phase.{Phase}
use Rattle.tm_replay.specs.declared.phases.Phase.TheVariants as phase
use Rattle.tm_replay.specs.JointStates.{ThreadState, ObjectState}
use Rattle.tm_replay.specs.SoundStates.{waits_at}

-- The bar of a thread that waits at the object, or was granted there.
abbrev pub waiting_bar : ObjectState → ℕ → Bar
waiting_bar b t = if is_waiting b.view.state t then bar.Blocked else bar.Granted

-- The bar of a thread in this phase, which waits at this object if at any.
abbrev pub bar_by : ObjectState → ℕ → Phase → Bar
bar_by b t phase.Main = bar.Runs
bar_by b t phase.NotBegun = bar.Unborn
bar_by b t phase.Free = bar.Runs
bar_by b t (phase.Waits object) = waiting_bar b t
bar_by b t (phase.Ended cut) = bar.Ended

-- The bar of the thread after those were renewed that wait at the object of this number.
abbrev pub renewed : ObjectState → ℕ → ℕ → ThreadState → Option Bar → Option Bar
renewed b object t s old = if waits_at s.phase object then Some (waiting_bar b t) else old

-- The bars of the threads that wait at the object were renewed, and no others.
pub record Renews (threads : List ThreadState) (b : ObjectState) (object : ℕ) (old new : List Bar) : Type 0 where
  pub count : length new ≡ length old
  pub bars : (t : ℕ) (s : ThreadState) → 1 ≤ t → slice_get threads t ≡ Some s → slice_get new (t - 1) ≡ renewed b object t s (slice_get old (t - 1))

-- The bar of this thread was renewed, if it waits at the object, and no other.
pub record RenewsOne (threads : List ThreadState) (b : ObjectState) (object t : ℕ) (old new : List Bar) : Type 0 where
  pub count : length new ≡ length old
  pub own : (s : ThreadState) → slice_get threads t ≡ Some s → slice_get new (t - 1) ≡ renewed b object t s (slice_get old (t - 1))
  pub others : (u : ℕ) → 1 ≤ u → u ≢ t → slice_get new (u - 1) ≡ slice_get old (u - 1)

-- The bar of this thread was renewed, where it isn't `main`, and no other.
pub record ShowsOne (threads : List ThreadState) (b : ObjectState) (t : ℕ) (old new : List Bar) : Type 0 where
  pub count : length new ≡ length old
  pub own : (s : ThreadState) → 1 ≤ t → slice_get threads t ≡ Some s → slice_get new (t - 1) ≡ Some (bar_by b t s.phase)
  pub others : (u : ℕ) → 1 ≤ u → u ≢ t → slice_get new (u - 1) ≡ slice_get old (u - 1)

-- As many calls wait at the object as before the thread's event, and the thread's own where it waits now: so
-- none was granted.
abbrev pub grants_none : ObjectState → ℕ → ℕ → Bool
grants_none b t before = length (queued b.view.state.kind_state) == before + bit (is_waiting b.view.state t)

-- The thread that the reply names, where one call fewer waits than before: it was granted, and no other.
abbrev pub heir_alone : Reply → ℕ → ℕ → Option ℕ
heir_alone (reply.Gave heir) waiting before = if waiting + 1 == before then Some heir else None
heir_alone r waiting before = None

-- Another thread than this one was granted alone.
abbrev pub is_another : Option ℕ → ℕ → Bool
is_another None t = false
is_another (Some heir) t = not (heir == t)

-- The event granted nobody, or another thread alone.
abbrev pub spares : ObjectState → Entry → ℕ → ℕ → Bool
spares b e before t = grants_none b e.thread before || is_another (heir_alone e.reply (length (queued b.view.state.kind_state)) before) t

-- A thread that the reply names is a program thread, of which there are one fewer than threads.
abbrev pub NamesKnown : Reply → ℕ → Type 0
NamesKnown (reply.Gave heir) threads = (1 ≤ heir) × (heir < threads)
NamesKnown r threads = Unit {0}

-- The bar of the event's thread was renewed, and those of the threads that wait at its object and that it
-- didn't spare; the object is in this state after it, and so many calls waited there before.
pub record Shows (threads : List ThreadState) (b : ObjectState) (e : Entry) (before : ℕ) (old new : List Bar) : Type 0 where
  pub count : length new ≡ length old
  pub own : (s : ThreadState) → 1 ≤ e.thread → slice_get threads e.thread ≡ Some s → slice_get new (e.thread - 1) ≡ Some (bar_by b e.thread s.phase)
  pub others : (t : ℕ) (s : ThreadState) → 1 ≤ t → t ≢ e.thread → slice_get threads t ≡ Some s
      → slice_get new (t - 1) ≡ (if spares b e before t then slice_get old (t - 1) else renewed b e.object t s (slice_get old (t - 1)))
