-- A thread's ticket.
use Rattle.std.specs.Prelude.{◌≡◌, ℕ, ◌+◌, Option, Some, None}
use Rattle.tm_base.specs.declared.operations.Op.{Op}
use Rattle.tm_base.specs.declared.operations.Op.TheVariants as op
use Rattle.tm_base.specs.declared.events.Entry.{Entry}
use Rattle.tm_base.specs.declared.replies.Reply.{Reply}
use Rattle.tm_base.specs.declared.replies.Reply.TheVariants as reply

-- The thread, the place of its next event, its last stamp, and the object at which its call waits.
pub record TicketView : Type 0 where
  pub thread : ℕ
  pub next : ℕ
  pub clock : ℕ
  pub waits : Option ℕ

-- A thread that has made no event.
abbrev pub opening : ℕ → TicketView
opening t = record { thread = t; next = 1; clock = 0; waits = None }

-- After an event with this reply on the object the thread waits there, or nowhere.
abbrev pub waits_after : ℕ → Reply → Option ℕ
waits_after o reply.Wait = Some o
waits_after o r = None

-- The thread after its next event.
abbrev pub advanced : TicketView → Entry → TicketView
advanced p e = record { thread = p.thread; next = p.next + 1; clock = e.stamp; waits = waits_after e.object e.reply }

-- A thread whose call waits at this object, or nowhere, is ready for the operation: it resumes a call at the
-- object where that waits, and makes any other operation only while none of its calls waits.
abbrev pub IsReady : Option ℕ → ℕ → Op → Type 0
IsReady waits object op.Resume = waits ≡ Some object
IsReady waits object o = waits ≡ None
