-- How the value of a semaphore follows from the calls that were completed.
use Rattle.std.specs.Prelude.{◌≡◌, ℕ, ◌+◌, ◌≤◌, Bool, true, false, List, Some, count_by}
use Rattle.tm_base.specs.declared.operations.Op.{Op}
use Rattle.tm_base.specs.declared.operations.Op.TheVariants as op
use Rattle.tm_base.specs.declared.replies.Reply.{Reply}
use Rattle.tm_base.specs.declared.replies.Reply.TheVariants as reply
use Rattle.tm_base.specs.declared.kinds.Kind.TheVariants as kind
use Rattle.tm_base.specs.declared.events.Entry.{Entry}
use Rattle.tm_base.specs.declared.limits.TheConstants.{GREATEST_SEMAPHORE_VALUE}
use Rattle.tm_base.specs.States.{KindState, State, SemState, is_waiting, grant_of}
use Rattle.tm_base.specs.Histories.{Label, HistoryState, Follows, IsHistory}

-- The value of a semaphore in this state.
abbrev pub value_of : KindState → ℕ
value_of (SemState value queue) = value
value_of own = 0

-- An event with this reply completes a V: it is one that is answered `ok` or `gave`.
abbrev pub completes_v : Op → Reply → Bool
completes_v op.V reply.Ok = true
completes_v op.V (reply.Gave heir) = true
completes_v o r = false

-- An event with this reply completes a P: it is a `p` or `tryp` that is answered `ok`, or a V that is
-- answered `gave`, which completes at once the P in which the thread that it names waited.
abbrev pub completes_p : Op → Reply → Bool
completes_p op.P reply.Ok = true
completes_p op.TryP reply.Ok = true
completes_p op.V (reply.Gave heir) = true
completes_p o r = false

-- How many V's, and how many P's, the events completed.
abbrev pub completed_vs : List Entry → ℕ
completed_vs es = count_by (λ e. completes_v e.op e.reply) es

abbrev pub completed_ps : List Entry → ℕ
completed_ps es = count_by (λ e. completes_p e.op e.reply) es

-- After every legal history the value and the completed P's are together what the start value and the
-- completed V's are.
abbrev pub SemaphoreBalance : Type 0
SemaphoreBalance =
    (l : Label) (start : ℕ) (es : List Entry) (p : HistoryState) →
    l.kind ≡ kind.Sem start → IsHistory l es p →
    value_of p.state.kind_state + completed_ps es ≡ start + completed_vs es

-- After every legal history the value is at most the greatest one, where the start value is.
abbrev pub SemaphoreValuesAreSmall : Type 0
SemaphoreValuesAreSmall =
    (l : Label) (start : ℕ) (es : List Entry) (p : HistoryState) →
    l.kind ≡ kind.Sem start → IsHistory l es p →
    start ≤ GREATEST_SEMAPHORE_VALUE → value_of p.state.kind_state ≤ GREATEST_SEMAPHORE_VALUE

-- The thread's call waited, and now it is granted `ok`.
pub record IsServed (t : ℕ) (before after : State) : Type 0 where
  pub waited : is_waiting before t ≡ true
  pub granted : grant_of after t ≡ Some reply.Ok

-- Whenever a V is answered `gave`, the thread that the reply names is served.
abbrev pub VsServeWaiters : Type 0
VsServeWaiters =
    (l : Label) (start : ℕ) (es : List Entry) (p q : HistoryState) (e : Entry) (heir : ℕ) →
    l.kind ≡ kind.Sem start → IsHistory l es p → Follows l p e q →
    e.op ≡ op.V → e.reply ≡ reply.Gave heir → IsServed heir p.state q.state

-- And whenever a thread is served, the event is a V that is answered `gave` and names it.
abbrev pub OnlyVsServeWaiters : Type 0
OnlyVsServeWaiters =
    (l : Label) (start : ℕ) (es : List Entry) (p q : HistoryState) (e : Entry) (t : ℕ) →
    l.kind ≡ kind.Sem start → IsHistory l es p → Follows l p e q →
    IsServed t p.state q.state → (e.op ≡ op.V) × (e.reply ≡ reply.Gave t)
