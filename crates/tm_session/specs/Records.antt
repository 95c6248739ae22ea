-- What the books and tickets of a run record, and one event in it.
use Rattle.std.specs.Prelude.{◌≡◌, ℕ, ◌^◌, ◌<◌, ◌==◌, List, [], map, length, Some, slice_get}
use Rattle.tm_base.specs.declared.events.Entry.{Entry}
use Rattle.tm_base.specs.Orders.{of_object}
use Rattle.tm_base.specs.Histories.{CanAnswer}
use Rattle.tm_base.specs.Tickets.{TicketView, IsReady, opening}
use Rattle.tm_book.specs.Books.{BookView}
use Rattle.tm_replay.specs.JointStates.{JointState, ThreadState, ObjectState}
use Rattle.tm_replay.specs.JointSteps.{Happens}
use Rattle.tm_replay.specs.SoundStates.{is_main}
use Rattle.tm_replay.specs.Work.{IsCounted}
use Rattle.tm_joint.specs.Readings.{waits_in_phase}
use Rattle.tm_session.specs.declared.next_calls.NextCall.{NextCall}
use Rattle.tm_session.specs.Noting.{object_state_of}

-- The ticket of a thread that stands so.
abbrev pub ticket_of : ℕ → ThreadState → TicketView
ticket_of t s = record { thread = t; next = s.next; clock = s.stamp; waits = waits_in_phase s.phase }

-- The books are those of the objects 0, 1, 2 and so on, and each has kept the events of its object out of
-- these, in their order.
abbrev pub HaveKept : List Entry → List BookView → Type 0
HaveKept events books = (o : ℕ) (b : BookView) → slice_get books o ≡ Some b → (b.object ≡ o) × (b.entries ≡ of_object events o)

-- The books have no events yet.
abbrev pub AreFresh : List BookView → Type 0
AreFresh books = HaveKept [] books

-- The tickets of threads 0, 1, 2 and so on, this many, which have made no event.
pub record AreFirstTickets (count : ℕ) (tickets : List TicketView) : Type 0 where
  pub counted : length tickets ≡ count
  pub each : (t : ℕ) (p : TicketView) → slice_get tickets t ≡ Some p → p ≡ opening t

-- Each thread has its ticket.
abbrev pub HaveTickets : List ThreadState → List TicketView → Type 0
HaveTickets threads tickets = (t : ℕ) (s : ThreadState) → slice_get threads t ≡ Some s → slice_get tickets t ≡ Some (ticket_of t s)

-- Books and tickets have recorded these events, which leave this joint state: each object's machine, count of
-- events and last stamp are its book's, each book has kept its object's events, and each thread has its
-- ticket.
pub record HaveRecorded (events : List Entry) (j : JointState) (books : List BookView) (issued : List TicketView) : Type 0 where
  pub objects : map object_state_of books ≡ j.objects
  pub kept : HaveKept events books
  pub tickets : HaveTickets j.threads issued

-- There were few events so far, so that places and stamps are small.
pub record IsEarly (j : JointState) : Type 0 where
  pub events : ℕ
  pub few : events < 2 ^ 30
  pub counted : IsCounted events j

-- The thread and the object are there, the object has a lawful event with the thread and the
-- operation, and the thread is ready for it.
pub record CanPerform (j : JointState) (t : ℕ) (w : NextCall) : Type 0 where
  pub early : IsEarly j
  pub thread_state : ThreadState
  pub thread : slice_get j.threads t ≡ Some thread_state
  pub main : is_main thread_state.phase ≡ (t == 0)
  pub object_state : ObjectState
  pub object : slice_get j.objects w.object ≡ Some object_state
  pub answers : CanAnswer object_state.view t w.op
  pub ready : IsReady (waits_in_phase thread_state.phase) w.object w.op

-- The thread made the event of its next call; whether it may do it isn't said.
pub record Performs (j : JointState) (t : ℕ) (w : NextCall) (e : Entry) (k : JointState) : Type 0 where
  pub by : e.thread ≡ t
  pub on : e.object ≡ w.object
  pub does : e.op ≡ w.op
  pub happens : Happens j e k
