-- What contracts see of a reader-writer lock.
use Rattle.std.specs.Prelude.{◌≡◌, ℕ, ◌+◌, cond, not, ◌==◌, List, [], ◌∷◌, ◌++◌, filter, length}
use Rattle.tm_base.specs.declared.kinds.Kind.TheVariants as kind
use Rattle.tm_base.specs.declared.replies.Reply.TheVariants as reply
use Rattle.tm_base.specs.States.{KindState, State, RwState}
use Rattle.tm_base.specs.TableRows.{Allows}
use Rattle.tm_base.specs.ReaderWriter.{admitting_row}
use Rattle.tm_base.specs.Machines.{ObjectView}
use Rattle.tm_queues.specs.WaitQueues.{QueueView, IsQueue}
use Rattle.tm_queues.specs.ValuedQueues.{queued_threads}
use Rattle.tm_locks.specs.declared.reader_writer_locks.RwM.TheInside.{Inside}

-- The object that the fields stand for.
abbrev pub lock_object : Inside → ObjectView
lock_object m = record {
  kind = kind.Rw;
  threads = m.readers.threads;
  state = record {
    kind_state = RwState m.readers.queue m.writer m.queue.queue;
    granted = m.grants;
    stopped = m.stopped;
  };
}

-- Both queues have places for the same threads, and so have the granted replies; and no thread stands
-- twice among the readers and those that wait.
pub record KeepsLock (m : Inside) : Type 0 where
  pub threads : m.queue.threads ≡ m.readers.threads
  pub places : length m.grants ≡ m.readers.threads + 1
  pub once : IsQueue m.readers.threads (m.readers.queue ++ queued_threads m.queue.queue)

-- The queue after the thread left it, wherever it stood.
abbrev pub without : QueueView → ℕ → QueueView
without queue t = record { threads = queue.threads; queue = filter (λ x. not (x == t)) queue.queue }

-- The queue after its oldest went to its end, or left it where it is the thread.
abbrev pub passed_by : List ℕ → ℕ → List ℕ
passed_by [] t = []
passed_by (x ∷ queue) t = cond (x == t) queue (queue ++ x ∷ [])

-- From this state of a lock the table's row that admits leaves the new one.
abbrev pub AdmitsFrom : KindState → State → State → Type 0
AdmitsFrom (RwState readers writer queue) s s' = Allows (admitting_row readers writer queue) s reply.Ok s'
AdmitsFrom own s s' = ⊥

-- Who may go in was admitted to the lock.
pub record Admits (old new : ObjectView) : Type 0 where
  pub kind : new.kind ≡ old.kind
  pub threads : new.threads ≡ old.threads
  pub admitted : AdmitsFrom old.state.kind_state old.state new.state
