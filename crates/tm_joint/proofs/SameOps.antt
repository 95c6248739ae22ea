-- What the comparison of two operations says.
use Rattle.std.proofs.Common.{◌≡◌, ◌≢◌, MatchBool, refl, rules}
use Rattle.tm_base.specs.declared.operations.Op.{Op}
use Rattle.tm_base.specs.declared.operations.Op.TheVariants as op
use Rattle.tm_base.specs.contracts.operations.OpPartialEq.TheImpl.{eq-value}

-- it is true exactly where both are the same, with their operands
pub is_same : (a b : Op) → MatchBool (eq-value.it a b) (a ≡ b) (a ≢ b)
is_same op.Lock op.Lock = refl
is_same op.Lock b = λ e. cc
is_same op.TryLock op.TryLock = refl
is_same op.TryLock b = λ e. cc
is_same op.Unlock op.Unlock = refl
is_same op.Unlock b = λ e. cc
is_same op.P op.P = refl
is_same op.P b = λ e. cc
is_same op.TryP op.TryP = refl
is_same op.TryP b = λ e. cc
is_same op.V op.V = refl
is_same op.V b = λ e. cc
is_same op.Enter op.Enter = refl
is_same op.Enter b = λ e. cc
is_same op.Leave op.Leave = refl
is_same op.Leave b = λ e. cc
is_same op.Arrive op.Arrive = refl
is_same op.Arrive b = λ e. cc
is_same op.RLock op.RLock = refl
is_same op.RLock b = λ e. cc
is_same op.RUnlock op.RUnlock = refl
is_same op.RUnlock b = λ e. cc
is_same op.WLock op.WLock = refl
is_same op.WLock b = λ e. cc
is_same op.WUnlock op.WUnlock = refl
is_same op.WUnlock b = λ e. cc
is_same op.Recv op.Recv = refl
is_same op.Recv b = λ e. cc
is_same op.Close op.Close = refl
is_same op.Close b = λ e. cc
is_same op.Read op.Read = refl
is_same op.Read b = λ e. cc
is_same op.Start op.Start = refl
is_same op.Start b = λ e. cc
is_same op.Join op.Join = refl
is_same op.Join b = λ e. cc
is_same op.Begin op.Begin = refl
is_same op.Begin b = λ e. cc
is_same op.Resume op.Resume = refl
is_same op.Resume b = λ e. cc
is_same op.Stop op.Stop = refl
is_same op.Stop b = λ e. cc
is_same (op.Wait v) (op.Wait w) = search rules
is_same (op.Wait v) b = λ e. cc
is_same (op.Signal v) (op.Signal w) = search rules
is_same (op.Signal v) b = λ e. cc
is_same (op.Broadcast v) (op.Broadcast w) = search rules
is_same (op.Broadcast v) b = λ e. cc
is_same (op.Send v) (op.Send w) = search rules
is_same (op.Send v) b = λ e. cc
is_same (op.Write v) (op.Write w) = search rules
is_same (op.Write v) b = λ e. cc
is_same (op.Add v) (op.Add w) = search rules
is_same (op.Add v) b = λ e. cc
is_same (op.End v) (op.End w) = search rules
is_same (op.End v) b = λ e. cc
