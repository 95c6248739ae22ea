-- Opcodes: operations without their operands, and the words that spell them.
use Rattle.std.specs.Prelude.{◌≡◌, ℕ, ℤ, false, List, codes}
use Rattle.tm_base.specs.declared.operations.Op.{Op}
use Rattle.tm_base.specs.declared.operations.Op.TheVariants as op
use Rattle.tm_base.specs.declared.opcodes.Opcode.{Opcode}
use Rattle.tm_base.specs.declared.opcodes.Opcode.TheVariants as opcode

-- The word of each operation.
abbrev pub word_of : Opcode → List ℕ
word_of opcode.Lock = codes "lock"
word_of opcode.TryLock = codes "trylock"
word_of opcode.Unlock = codes "unlock"
word_of opcode.P = codes "p"
word_of opcode.TryP = codes "tryp"
word_of opcode.V = codes "v"
word_of opcode.Enter = codes "enter"
word_of opcode.Leave = codes "leave"
word_of opcode.Wait = codes "wait"
word_of opcode.Signal = codes "signal"
word_of opcode.Broadcast = codes "broadcast"
word_of opcode.Arrive = codes "arrive"
word_of opcode.RLock = codes "rlock"
word_of opcode.RUnlock = codes "runlock"
word_of opcode.WLock = codes "wlock"
word_of opcode.WUnlock = codes "wunlock"
word_of opcode.Send = codes "send"
word_of opcode.Recv = codes "recv"
word_of opcode.Close = codes "close"
word_of opcode.Read = codes "read"
word_of opcode.Write = codes "write"
word_of opcode.Add = codes "add"
word_of opcode.Start = codes "start"
word_of opcode.Join = codes "join"
word_of opcode.Begin = codes "begin"
word_of opcode.End = codes "end"
word_of opcode.Resume = codes "resume"
word_of opcode.Stop = codes "stop"

-- No two operations have one word.
abbrev pub WordsAreDistinct : Type 0
WordsAreDistinct = (c d : Opcode) → word_of c ≡ word_of d → c ≡ d

-- The operation of an opcode, with a condition's number where it has one, and with a value where it has
-- one. An `end` isn't cut.
abbrev pub op_with : Opcode → ℕ → ℤ → Op
op_with opcode.Lock condition value = op.Lock
op_with opcode.TryLock condition value = op.TryLock
op_with opcode.Unlock condition value = op.Unlock
op_with opcode.P condition value = op.P
op_with opcode.TryP condition value = op.TryP
op_with opcode.V condition value = op.V
op_with opcode.Enter condition value = op.Enter
op_with opcode.Leave condition value = op.Leave
op_with opcode.Wait condition value = op.Wait condition
op_with opcode.Signal condition value = op.Signal condition
op_with opcode.Broadcast condition value = op.Broadcast condition
op_with opcode.Arrive condition value = op.Arrive
op_with opcode.RLock condition value = op.RLock
op_with opcode.RUnlock condition value = op.RUnlock
op_with opcode.WLock condition value = op.WLock
op_with opcode.WUnlock condition value = op.WUnlock
op_with opcode.Send condition value = op.Send value
op_with opcode.Recv condition value = op.Recv
op_with opcode.Close condition value = op.Close
op_with opcode.Read condition value = op.Read
op_with opcode.Write condition value = op.Write value
op_with opcode.Add condition value = op.Add value
op_with opcode.Start condition value = op.Start
op_with opcode.Join condition value = op.Join
op_with opcode.Begin condition value = op.Begin
op_with opcode.End condition value = op.End false
op_with opcode.Resume condition value = op.Resume
op_with opcode.Stop condition value = op.Stop

-- The opcode of an operation.
abbrev pub opcode_of : Op → Opcode
opcode_of op.Lock = opcode.Lock
opcode_of op.TryLock = opcode.TryLock
opcode_of op.Unlock = opcode.Unlock
opcode_of op.P = opcode.P
opcode_of op.TryP = opcode.TryP
opcode_of op.V = opcode.V
opcode_of op.Enter = opcode.Enter
opcode_of op.Leave = opcode.Leave
opcode_of (op.Wait condition) = opcode.Wait
opcode_of (op.Signal condition) = opcode.Signal
opcode_of (op.Broadcast condition) = opcode.Broadcast
opcode_of op.Arrive = opcode.Arrive
opcode_of op.RLock = opcode.RLock
opcode_of op.RUnlock = opcode.RUnlock
opcode_of op.WLock = opcode.WLock
opcode_of op.WUnlock = opcode.WUnlock
opcode_of (op.Send value) = opcode.Send
opcode_of op.Recv = opcode.Recv
opcode_of op.Close = opcode.Close
opcode_of op.Read = opcode.Read
opcode_of (op.Write value) = opcode.Write
opcode_of (op.Add value) = opcode.Add
opcode_of op.Start = opcode.Start
opcode_of op.Join = opcode.Join
opcode_of op.Begin = opcode.Begin
opcode_of (op.End cut) = opcode.End
opcode_of op.Resume = opcode.Resume
opcode_of op.Stop = opcode.Stop

-- The opcode of an operation that an opcode makes is that opcode.
abbrev pub OpcodesComeBack : Type 0
OpcodesComeBack = (c : Opcode) (condition : ℕ) (value : ℤ) → opcode_of (op_with c condition value) ≡ c
