-- What programs of exercises are, and what they ask.
use Rattle.std.specs.Prelude.{ℕ, zero, suc, ℤ, pos, ◌+ℤ◌, Bool, true, false, not, ◌&&◌, int_lt, int_le, if◌then◌else◌, List, replicate, slice_index_or, slice_set, Option, Some, None}
use Rattle.std.specs.Int.{w64, saturate_signed}
use Rattle.tm_base.specs.declared.operations.Op.{Op}
use Rattle.tm_base.specs.declared.opcodes.Opcode.{Opcode}
use Rattle.tm_base.specs.declared.opcodes.Opcode.TheVariants as opcode
use Rattle.tm_base.specs.declared.replies.Reply.{Reply}
use Rattle.tm_base.specs.declared.replies.Reply.TheVariants as reply
use Rattle.tm_base.specs.declared.asks.Ask.{Ask}
use Rattle.tm_base.specs.declared.asks.Ask.TheVariants as ask
use Rattle.tm_base.specs.Opcodes.{op_with}
use Rattle.tm_programs.specs.declared.instructions.Comparison.{Comparison}
use Rattle.tm_programs.specs.declared.instructions.Comparison.TheVariants as comparison
use Rattle.tm_programs.specs.declared.instructions.Operand.{Operand}
use Rattle.tm_programs.specs.declared.instructions.Operand.TheVariants as operand

-- A program: it is over, or it begins with a call on an object, or with a local instruction, and goes on.
-- A block has a body of its own.
pub data Program : Type 0 where
  Over : Program
  Call : (object : ℕ) (code : Opcode) (with : Operand) (next : Program) → Program
  Set : (register : ℕ) (value : ℤ) (next : Program) → Program
  Inc : (register : ℕ) (value : ℤ) (next : Program) → Program
  Repeat : (turns : ℕ) (body : Program) (next : Program) → Program
  While : (register : ℕ) (how : Comparison) (value : ℤ) (body : Program) (next : Program) → Program
  If : (register : ℕ) (how : Comparison) (value : ℤ) (body : Program) (next : Program) → Program

-- The eight registers begin at 0.
abbrev pub first_registers : List ℤ
first_registers = replicate 8 (pos 0)

abbrev pub register_of : List ℤ → ℕ → ℤ
register_of registers r = slice_index_or registers r (pos 0)

-- The condition that an operand numbers, and 0 where it numbers none.
abbrev pub condition_of : Operand → ℕ
condition_of (operand.Condition condition) = condition
condition_of other = 0

-- The registers after a number was added to one of them, which stops at the ends of 64 bits.
abbrev pub added : ℕ → ℤ → List ℤ → List ℤ
added register value registers =
    slice_set registers register (saturate_signed w64 (register_of registers register +ℤ value))

-- The value of an operand: a number, or what its register holds; 0 where it has none.
abbrev pub value_of : List ℤ → Operand → ℤ
value_of registers (operand.Number value) = value
value_of registers (operand.Register r) = register_of registers r
value_of registers other = pos 0

-- The operation of a call, with its operand's value at this moment.
abbrev pub op_of : List ℤ → Opcode → Operand → Op
op_of registers code with = op_with code (condition_of with) (value_of registers with)

-- The register after the reply to a call that names it: what `recv` or `read` got; 1 where `trylock` or
-- `tryp` was answered `ok`, else 0; and else as before.
abbrev pub register_after : Opcode → Reply → ℤ → ℤ
register_after opcode.Recv (reply.Got value) before = value
register_after opcode.Read (reply.Got value) before = value
register_after opcode.TryLock reply.Ok before = pos 1
register_after opcode.TryLock r before = pos 0
register_after opcode.TryP reply.Ok before = pos 1
register_after opcode.TryP r before = pos 0
register_after code r before = before

-- The registers after the reply to a call.
abbrev pub registers_after : Opcode → Operand → Reply → List ℤ → List ℤ
registers_after code (operand.Register r) answer registers =
    slice_set registers r (register_after code answer (register_of registers r))
registers_after code with answer registers = registers

-- The comparison holds of a register's value and a number.
abbrev pub holds : Comparison → ℤ → ℤ → Bool
holds comparison.Equal value k = int_le value k && int_le k value
holds comparison.NotEqual value k = not (int_le value k && int_le k value)
holds comparison.Less value k = int_lt value k
holds comparison.AtMost value k = int_le value k
holds comparison.Greater value k = int_lt k value
holds comparison.AtLeast value k = int_le k value

-- What is left of a program, with the registers.
pub record Remainder : Type 0 where
  pub program : Program
  pub registers : List ℤ

abbrev pub left : Program → List ℤ → Remainder
left program registers = record { program = program; registers = registers }

-- One program and after it another.
abbrev pub followed : Program → Program → Program
followed Over q = q
followed (Call object code with next) q = Call object code with (followed next q)
followed (Set register value next) q = Set register value (followed next q)
followed (Inc register value next) q = Inc register value (followed next q)
followed (Repeat turns body next) q = Repeat turns body (followed next q)
followed (While register how value body next) q = While register how value body (followed next q)
followed (If register how value body next) q = If register how value body (followed next q)

-- What is left of a body and of what follows it, by what is left of the body. Where nothing is, it goes on by
-- the last argument, with the registers.
abbrev pub joined : Program → List ℤ → Program → (List ℤ → Remainder) → Remainder
joined Over registers next goes_on = goes_on registers
joined body registers next goes_on = left (followed body next) registers

abbrev pub and_then : Remainder → Program → (List ℤ → Remainder) → Remainder
and_then body next goes_on = joined body.program body.registers next goes_on

-- What is left once the local instructions before the first call are done: it begins with a call, or is
-- over. `set` writes and `inc` adds, and stops at the ends of 64 bits. `repeat` runs its body as often as
-- it says, `while` tests before each turn, and `if` tests once. Each turn of a loop comes to a call; a loop
-- whose body has none, which no text can have, is passed over.
abbrev pub until_call : Program → List ℤ → Remainder
until_call Over registers = left Over registers
until_call (Call object code with next) registers = left (Call object code with next) registers
until_call (Set register value next) registers = until_call next (slice_set registers register value)
until_call (Inc register value next) registers =
    until_call next (added register value registers)
until_call (Repeat zero body next) registers = until_call next registers
until_call (Repeat (suc turns) body next) registers =
    and_then (until_call body registers) (Repeat turns body next) (λ now. until_call next now)
until_call (While register how value body next) registers =
    if holds how (register_of registers register) value
    then and_then (until_call body registers) (While register how value body next)
    (λ now. until_call next now)
    else until_call next registers
until_call (If register how value body next) registers =
    if holds how (register_of registers register) value
    then and_then (until_call body registers) next (λ now. until_call next now)
    else until_call next registers

-- What is left of a program as it goes on, with the registers and the last final reply, where there is one.
-- The reply of `begin` is the first.
pub record Rest : Type 0 where
  pub program : Program
  pub registers : List ℤ
  pub last : Option Reply

-- A program of which nothing was answered yet.
abbrev pub whole : Program → Rest
whole program = record { program = program; registers = first_registers; last = None }

-- What is left after a final reply: after that of `begin`, which is the first, what comes first in the
-- program, and after that of a call what follows the call, with its register.
abbrev pub left_after : Option Reply → Program → List ℤ → Reply → Remainder
left_after None program registers answer = until_call program registers
left_after (Some before) (Call object code with next) registers answer =
    until_call next (registers_after code with answer registers)
left_after (Some before) program registers answer = left program registers

-- What is left of a program after one more final reply.
abbrev pub answered : Rest → Reply → Rest
answered rest answer =
    let after : Remainder = left_after rest.last rest.program rest.registers answer in
    record { program = after.program; registers = after.registers; last = Some answer }

-- What a program asks that begins with a call or is over: that call, with its operand's value, or nothing
-- more.
abbrev pub next_ask : Program → List ℤ → Ask
next_ask (Call object code with next) registers = ask.Call object (op_of registers code with)
next_ask program registers = ask.Over

-- The last final reply is `stopped`.
abbrev pub is_stopped : Option Reply → Bool
is_stopped (Some reply.Stopped) = true
is_stopped r = false

-- What a program asks of which this is left; after the reply `stopped` nothing at all.
abbrev pub asked_of : Rest → Option Ask
asked_of rest = if is_stopped rest.last then None else Some (next_ask rest.program rest.registers)
