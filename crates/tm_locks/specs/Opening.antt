-- When a barrier opens.
use Rattle.std.specs.Prelude.{◌≡◌, ℕ, ◌+◌, ◌≤◌, true, List, [], Some}
use Rattle.tm_base.specs.declared.operations.Op.TheVariants as op
use Rattle.tm_base.specs.declared.replies.Reply.TheVariants as reply
use Rattle.tm_base.specs.declared.kinds.Kind.TheVariants as kind
use Rattle.tm_base.specs.declared.events.Entry.{Entry}
use Rattle.tm_base.specs.States.{State, queued, is_waiting, grant_of}
use Rattle.tm_base.specs.Histories.{Label, HistoryState, Follows, IsHistory}
use Rattle.tm_laws.specs.Waiters.{waiting_to}

-- A barrier of so many parties, which these threads use, opens: those that waited are one fewer than the
-- parties, each of them is granted `ok`, and nobody waits then.
pub record Opens (parties threads : ℕ) (before after : State) : Type 0 where
  pub waited : waiting_to before threads + 1 ≡ parties
  pub granted : (t : ℕ) → is_waiting before t ≡ true → grant_of after t ≡ Some reply.Ok
  pub closed : queued after.kind_state ≡ []

-- In every legal history of a barrier it opens at each `arrive` that is answered `last`.
abbrev pub BarrierOpening : Type 0
BarrierOpening =
    (l : Label) (parties : ℕ) (es : List Entry) (p q : HistoryState) (e : Entry) →
    l.kind ≡ kind.Barrier parties → IsHistory l es p → Follows l p e q →
    e.op ≡ op.Arrive → e.reply ≡ reply.Last → Opens parties l.threads p.state q.state

-- And it opens by no other event: a thread that waits is granted `ok` only by such an `arrive`.
abbrev pub OnlyTheLastOpens : Type 0
OnlyTheLastOpens =
    (l : Label) (parties : ℕ) (es : List Entry) (p q : HistoryState) (e : Entry) (t : ℕ) →
    l.kind ≡ kind.Barrier parties → IsHistory l es p → Follows l p e q →
    is_waiting p.state t ≡ true → grant_of q.state t ≡ Some reply.Ok →
    (e.op ≡ op.Arrive) × (e.reply ≡ reply.Last)

-- Where an event is answered `last`, there are at most as many parties as threads: a barrier of more
-- parties never opens.
abbrev pub OpeningNeedsItsParties : Type 0
OpeningNeedsItsParties =
    (l : Label) (parties : ℕ) (es : List Entry) (p q : HistoryState) (e : Entry) →
    l.kind ≡ kind.Barrier parties → IsHistory l es p → Follows l p e q →
    e.reply ≡ reply.Last → parties ≤ l.threads
