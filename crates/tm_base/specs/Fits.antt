-- Which operations the objects of a kind have.
use Rattle.std.specs.Prelude.{Bool, true, false, nat_lt}
use Rattle.tm_base.specs.declared.operations.Op.{Op}
use Rattle.tm_base.specs.declared.operations.Op.TheVariants as op
use Rattle.tm_base.specs.declared.kinds.Kind.{Kind}
use Rattle.tm_base.specs.declared.kinds.Kind.TheVariants as kind

-- The kind's table has a row for the operation, and a condition is one of the monitor's. The first
-- line that fits decides.
abbrev pub fits : Op → Kind → Bool
fits op.Lock kind.Mutex = true
fits op.TryLock kind.Mutex = true
fits op.Unlock kind.Mutex = true
fits op.P (kind.Sem value) = true
fits op.TryP (kind.Sem value) = true
fits op.V (kind.Sem value) = true
fits op.Enter (kind.Hoare conditions) = true
fits op.Enter (kind.Mesa conditions) = true
fits op.Leave (kind.Hoare conditions) = true
fits op.Leave (kind.Mesa conditions) = true
fits (op.Wait c) (kind.Hoare conditions) = nat_lt c conditions
fits (op.Wait c) (kind.Mesa conditions) = nat_lt c conditions
fits (op.Signal c) (kind.Hoare conditions) = nat_lt c conditions
fits (op.Signal c) (kind.Mesa conditions) = nat_lt c conditions
fits (op.Broadcast c) (kind.Mesa conditions) = nat_lt c conditions
fits op.Arrive (kind.Barrier parties) = true
fits op.RLock kind.Rw = true
fits op.RUnlock kind.Rw = true
fits op.WLock kind.Rw = true
fits op.WUnlock kind.Rw = true
fits (op.Send k) kind.Sync = true
fits (op.Send k) (kind.Async capacity) = true
fits op.Recv kind.Sync = true
fits op.Recv (kind.Async capacity) = true
fits op.Close kind.Sync = true
fits op.Close (kind.Async capacity) = true
fits op.Read (kind.Var value) = true
fits (op.Write k) (kind.Var value) = true
fits (op.Add k) (kind.Var value) = true
fits op.Start (kind.Thread own held) = true
fits op.Join (kind.Thread own held) = true
fits op.Begin (kind.Thread own held) = true
fits (op.End cut) (kind.Thread own held) = true
fits op.Resume k = true
fits op.Stop k = true
fits o k = false

-- A call is what a program asks: none of `begin`, `end`, `resume` and `stop`.
abbrev pub is_call : Op → Bool
is_call op.Begin = false
is_call (op.End cut) = false
is_call op.Resume = false
is_call op.Stop = false
is_call o = true

-- The operation is a `stop`.
abbrev pub is_stop : Op → Bool
is_stop op.Stop = true
is_stop o = false
