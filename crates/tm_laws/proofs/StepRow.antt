-- Every row of every kind's table is well made, so that each step does what a well-made row does.
use Rattle.std.proofs.Common.{◌≡◌, ℕ, true}
use Rattle.tm_base.specs.declared.operations.Op.{Op}
use Rattle.tm_base.specs.declared.replies.Reply.{Reply}
use Rattle.tm_base.specs.declared.kinds.Kind.{Kind}
use Rattle.tm_base.specs.declared.kinds.Kind.TheVariants as kind
use Rattle.tm_base.specs.Fits.{fits}
use Rattle.tm_base.specs.States.{KindState, State, MutexState, SemState, HoareState, MesaState, BarrierState, RwState, SyncState, AsyncState, ThreadObjectState, VarState}
use Rattle.tm_base.specs.Steps.{Step, row_of}
use Rattle.tm_base.specs.Machines.{ObjectView, CanStep, is_step}
use Rattle.tm_laws.specs.Tidy.{IsStateOf}
use Rattle.tm_laws.specs.WellMadeRows.{IsWellMade}
use Rattle.tm_laws.proofs.TableRowLemmas.{RowStep, Allows-step}
use Rattle.tm_laws.proofs.MutexRow.{mutex_row-made}
use Rattle.tm_laws.proofs.SemRow.{sem_row-made}
use Rattle.tm_laws.proofs.HoareRow.{hoare_row-made}
use Rattle.tm_laws.proofs.MesaRow.{mesa_row-made}
use Rattle.tm_laws.proofs.BarrierRow.{barrier_row-made}
use Rattle.tm_laws.proofs.RwRow.{rw_row-made}
use Rattle.tm_laws.proofs.SyncRow.{sync_row-made}
use Rattle.tm_laws.proofs.AsyncRow.{async_row-made}
use Rattle.tm_laws.proofs.ThreadRow.{thread_row-made}
use Rattle.tm_laws.proofs.VarRow.{var_row-made}

pub row_of-made : (k : Kind) (old : KindState) (t : ℕ) (o : Op) → IsStateOf k old → fits o k ≡ true → is_step o ≡ true → IsWellMade k old t (row_of k old t o)
row_of-made kind.Mutex (MutexState owner queue) t o shape fit call = mutex_row-made owner queue t o fit call
row_of-made (kind.Sem start) (SemState value queue) t o shape fit call = sem_row-made start value queue t o fit call
row_of-made (kind.Hoare count) (HoareState inside entrance urgent conditions) t o shape fit call = hoare_row-made count inside entrance urgent conditions shape t o fit call
row_of-made (kind.Mesa count) (MesaState inside entrance conditions) t o shape fit call = mesa_row-made count inside entrance conditions shape t o fit call
row_of-made (kind.Barrier parties) (BarrierState queue) t o shape fit call = barrier_row-made parties queue t o fit call
row_of-made kind.Rw (RwState readers writer queue) t o shape fit call = rw_row-made readers writer queue t o fit call
row_of-made kind.Sync (SyncState senders receivers closed) t o shape fit call = sync_row-made senders receivers closed t o fit call
row_of-made (kind.Async capacity) (AsyncState messages senders receivers closed) t o shape fit call = async_row-made capacity messages senders receivers closed t o fit call
row_of-made (kind.Thread own held) (ThreadObjectState started begun ended beginning joiners) t o shape fit call = thread_row-made own held started begun ended beginning joiners t o fit call
row_of-made (kind.Var start) (VarState value) t o shape fit call = var_row-made start value t o fit call
row_of-made k old t o shape fit call = elim shape [ ]

pub Step-row : (h : ObjectView) (t : ℕ) (o : Op) (r : Reply) (s' : State) → IsStateOf h.kind h.state.kind_state → CanStep h t o → Step h.kind h.state t o r s' → RowStep h.kind h.state t r s'
Step-row h t o r s' shape may step =
    Allows-step h.kind h.state t shape r s' (row_of h.kind h.state.kind_state t o) (row_of-made h.kind h.state.kind_state t o shape may.fit may.step) step
