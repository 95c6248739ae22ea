-- The textbook step of every kind: a relation, since a kind may leave the reply open.
use Rattle.std.specs.Prelude.{ℕ}
use Rattle.tm_base.specs.declared.operations.Op.{Op}
use Rattle.tm_base.specs.declared.replies.Reply.{Reply}
use Rattle.tm_base.specs.declared.kinds.Kind.{Kind}
use Rattle.tm_base.specs.declared.kinds.Kind.TheVariants as kind
use Rattle.tm_base.specs.States.{KindState, State, MutexState, SemState, HoareState, MesaState, BarrierState, RwState, SyncState, AsyncState, ThreadObjectState, VarState}
use Rattle.tm_base.specs.TableRows.{Row, Never, Allows}
use Rattle.tm_base.specs.Mutex.{mutex_row}
use Rattle.tm_base.specs.Semaphore.{sem_row}
use Rattle.tm_base.specs.Hoare.{hoare_row}
use Rattle.tm_base.specs.Mesa.{mesa_row}
use Rattle.tm_base.specs.Barrier.{barrier_row}
use Rattle.tm_base.specs.ReaderWriter.{rw_row}
use Rattle.tm_base.specs.Synchronous.{sync_row}
use Rattle.tm_base.specs.Asynchronous.{async_row}
use Rattle.tm_base.specs.ThreadObject.{thread_row}
use Rattle.tm_base.specs.Variable.{var_row}

-- The row of the kind's table for a thread's operation.
abbrev pub row_of : Kind → KindState → ℕ → Op → Row
row_of kind.Mutex (MutexState owner queue) t o = mutex_row owner queue t o
row_of (kind.Sem start) (SemState value queue) t o = sem_row value queue t o
row_of (kind.Hoare count) (HoareState inside entrance urgent conditions) t o = hoare_row inside entrance urgent conditions t o
row_of (kind.Mesa count) (MesaState inside entrance conditions) t o = mesa_row inside entrance conditions t o
row_of (kind.Barrier parties) (BarrierState queue) t o = barrier_row parties queue t o
row_of kind.Rw (RwState readers writer queue) t o = rw_row readers writer queue t o
row_of kind.Sync (SyncState senders receivers closed) t o = sync_row senders receivers closed t o
row_of (kind.Async capacity) (AsyncState messages senders receivers closed) t o = async_row capacity messages senders receivers closed t o
row_of (kind.Thread own held) (ThreadObjectState started begun ended beginning joiners) t o = thread_row own started begun ended beginning joiners t o
row_of (kind.Var start) (VarState value) t o = var_row value o
row_of k state t o = Never

-- From state s of an object of the kind, thread t's operation may have reply r and leave state s'.
abbrev pub Step : Kind → State → ℕ → Op → Reply → State → Type 0
Step k s t o r s' = Allows (row_of k s.kind_state t o) s r s'
