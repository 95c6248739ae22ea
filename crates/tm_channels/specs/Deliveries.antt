-- What is sent through a channel, and what it gives to receivers.
use Rattle.std.specs.Prelude.{◌≡◌, ℕ, ℤ, ◌≤◌, ◌==◌, if◌then◌else◌, List, [], ◌∷◌, ◌++◌, map, Option, Some, None}
use Rattle.tm_base.specs.declared.operations.Op.{Op}
use Rattle.tm_base.specs.declared.operations.Op.TheVariants as op
use Rattle.tm_base.specs.declared.replies.Reply.{Reply}
use Rattle.tm_base.specs.declared.replies.Reply.TheVariants as reply
use Rattle.tm_base.specs.declared.kinds.Kind.{Kind}
use Rattle.tm_base.specs.declared.kinds.Kind.TheVariants as kind
use Rattle.tm_base.specs.declared.events.Entry.{Entry}
use Rattle.tm_base.specs.States.{Waiter, KindState, State, SyncState, AsyncState, grant_of}
use Rattle.tm_base.specs.Histories.{Label, HistoryState, IsHistory}

-- The object is a channel; an asynchronous one has room for a message.
abbrev pub IsChannel : Kind → Type 0
IsChannel kind.Sync = Unit {0}
IsChannel (kind.Async capacity) = 1 ≤ capacity
IsChannel k = ⊥

-- The reply that the thread was granted, or `wait` where it was granted none.
abbrev pub granted_or_wait : Option Reply → Reply
granted_or_wait (Some granted) = granted
granted_or_wait None = reply.Wait

-- The reply with which the waiting call of a thread ends: that of the thread's next event, which takes
-- it. Where it has no event more, the reply that it was granted in the last state, or `wait`.
abbrev pub outcome : State → ℕ → List Entry → Reply
outcome last t [] = granted_or_wait (grant_of last t)
outcome last t (e ∷ later) = (if e.thread == t then e.reply else outcome last t later)

-- The reply with which a call ends: what it was answered, or where that is `wait` its outcome.
abbrev pub ends_with : Reply → Reply → Reply
ends_with reply.Wait later = later
ends_with answer later = answer

-- The value that a call sends, by the reply with which it ends: that of a `send`, also while it waits,
-- unless it ended with `closed` or `stopped`.
abbrev pub sent_by : Op → Reply → List ℤ
sent_by (op.Send k) reply.Closed = []
sent_by (op.Send k) reply.Stopped = []
sent_by (op.Send k) r = k ∷ []
sent_by o r = []

-- The values of all sends, in the order of the events at which they were called.
abbrev pub sent : State → List Entry → List ℤ
sent last [] = []
sent last (e ∷ es) = sent_by e.op (ends_with e.reply (outcome last e.thread es)) ++ sent last es

-- The value that a reply brings to a receiver.
abbrev pub got_by : Reply → List ℤ
got_by (reply.Got k) = k ∷ []
got_by r = []

-- The value that an event gives to a receiver: what a `recv` got at once, or what the waiting call ends
-- with to whose thread a `send` gave its value.
abbrev pub given_by : Op → Reply → (ℕ → Reply) → List ℤ
given_by op.Recv r ends = got_by r
given_by (op.Send k) (reply.Gave receiver) ends = got_by (ends receiver)
given_by o r ends = []

-- The values that receivers were given, in the order of the events that gave them.
abbrev pub given : State → List Entry → List ℤ
given last [] = []
given last (e ∷ es) = given_by e.op e.reply (λ t. outcome last t es) ++ given last es

-- The messages that a channel keeps: a synchronous one keeps none.
abbrev pub messages_of : KindState → List ℤ
messages_of (AsyncState messages senders receivers closed) = messages
messages_of other = []

-- The senders that wait, with their values.
abbrev pub senders_of : KindState → List (Waiter ℤ)
senders_of (SyncState senders receivers closed) = senders
senders_of (AsyncState messages senders receivers closed) = senders
senders_of other = []

-- The values on the way: the messages that are kept, and after them those of the senders that wait.
abbrev pub on_the_way : KindState → List ℤ
on_the_way own = messages_of own ++ map (λ w. w.value) (senders_of own)

-- In every legal history of a channel the values of all sends, in the order of their events and without
-- those that ended with `closed` or `stopped`, are in one order those that receivers were given, and after
-- them those that are on the way.
abbrev pub ChannelsKeepOrder : Type 0
ChannelsKeepOrder = (l : Label) (es : List Entry) (p : HistoryState) → IsChannel l.kind → IsHistory l es p → sent p.state es ≡ given p.state es ++ on_the_way p.state.kind_state
