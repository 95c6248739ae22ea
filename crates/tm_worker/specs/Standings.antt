-- What holds of a worker between two turns.
use Rattle.std.specs.Prelude.{◌≡◌, ℕ, ◌+◌, ◌*◌, ◌<◌, ◌≤◌, Bool, true, false, ◌==◌, List, [], map, slice_get, Option, Some, None}
use Rattle.tm_base.specs.declared.kinds.Kind.{Kind}
use Rattle.tm_base.specs.declared.kinds.Kind.TheVariants as kind
use Rattle.tm_base.specs.Bodies.{IsCallAmong}
use Rattle.tm_base.specs.Orders.{of_object}
use Rattle.tm_laws.specs.Counts.{is_wait}
use Rattle.tm_shared.specs.OwnEvents.{has_begin, has_end}
use Rattle.tm_turn.specs.Passes.{PassView, TurnView}
use Rattle.tm_worker.specs.declared.phases.Phase.{Phase}
use Rattle.tm_worker.specs.declared.phases.Phase.TheVariants as phase
use Rattle.tm_worker.specs.Logs.{LogView}
use Rattle.tm_worker.specs.Progresses.{ProgressView, asks_more}

-- The kind is that of the thread's own object.
abbrev pub is_own : ℕ → Kind → Bool
is_own t (kind.Thread own held) = own == t
is_own t k = false

-- The object with this number is the thread's own.
abbrev pub is_own_in : ℕ → Option TurnView → Bool
is_own_in t None = false
is_own_in t (Some s) = is_own t s.label.kind

abbrev pub is_own_at : List TurnView → ℕ → ℕ → Bool
is_own_at shared t k = is_own_in t (slice_get shared k)

-- Exactly one of the objects is the thread's own.
pub record HasOwn (shared : List TurnView) (t : ℕ) : Type 0 where
  pub object : ℕ
  pub own : is_own_at shared t object ≡ true
  pub only : (k : ℕ) → is_own_at shared t k ≡ true → k ≡ object

-- The objects have their places as numbers.
pub record AreNumbered (shared : List TurnView) : Type 0 where
  pub number : (k : ℕ) (s : TurnView) → slice_get shared k ≡ Some s → s.label.object ≡ k

-- The kinds of the objects, and of the passes' objects.
abbrev pub kinds_of : List TurnView → List Kind
kinds_of shared = map (λ s. s.label.kind) shared

abbrev pub kinds_of_passes : List PassView → List Kind
kinds_of_passes passes = map (λ p. p.label.kind) passes

-- The thread made no event, and has room for its begin, its resume and its end.
pub record IsFresh (log : LogView) : Type 0 where
  pub waits : log.ticket.waits ≡ None
  pub next : log.ticket.next ≡ 1
  pub sent : log.outbox.sent ≡ []
  pub room : 3 ≤ log.outbox.spare

-- The thread has begun, on its own object, and made no end yet. Its next event has this place at most, its call
-- waits at this object or nowhere, and there is room for so many events more.
pub record IsOnItsWay (most : ℕ) (place : Option ℕ) (count : ℕ) (log : LogView) : Type 0 where
  pub next : log.ticket.next ≤ most
  pub waits : log.ticket.waits ≡ place
  pub room : count ≤ log.outbox.spare
  pub going : has_end log.outbox.sent ≡ false
  pub begun : (k : ℕ) (p : PassView) → slice_get log.passes k ≡ Some p → is_own log.ticket.thread p.label.kind ≡ true → has_begin (of_object log.outbox.sent k) ≡ true

-- What holds in a phase, after so many calls.
abbrev pub StandsIn : ℕ → ℕ → LogView → Phase → Type 0
StandsIn limit made log phase.NotBegun = IsFresh log
StandsIn limit made log (phase.Waits object) = IsOnItsWay (2 * made + 2) (Some object) 2 log
StandsIn limit made log (phase.Replied r) = IsOnItsWay (2 * made + 3) None 1 log × (is_wait r ≡ false)
StandsIn limit made log (phase.Asked object o) = IsOnItsWay (2 * made + 3) None 3 log × IsCallAmong (kinds_of_passes log.passes) object o × (made < limit)
StandsIn limit made log (phase.Ends cut) = IsOnItsWay (2 * made + 3) None 1 log
StandsIn limit made log phase.Ended = Unit {0}

-- The thread is a program thread, made no more calls than it may, and stands where its log says; and its program
-- wasn't over before where it is to be asked.
pub record Stands {B : Type 0} (over : B → Bool) (limit : ℕ) (s : ProgressView B) (log : LogView) : Type 0 where
  pub program : 1 ≤ log.ticket.thread
  pub limited : limit ≤ 10000
  pub made : s.made ≤ limit
  pub stands : StandsIn limit s.made log s.phase
  pub goes_on : asks_more s.phase ≡ true → over s.body ≡ false
