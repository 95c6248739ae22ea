-- What holds of every call of a program stays so as it goes on.
use Rattle.std.specs.Prelude.{ℕ, Bool, IsTrue}
use Rattle.tm_base.specs.declared.opcodes.Opcode.{Opcode}
use Rattle.tm_base.specs.declared.replies.Reply.{Reply}
use Rattle.tm_programs.specs.declared.instructions.Operand.{Operand}
use Rattle.tm_programs.specs.Programs.{Program, Over, Call, Set, Inc, Repeat, While, If, Rest, answered}

-- Every call of the program, in blocks too, is one of these.
abbrev pub AllCalls : (ℕ → Opcode → Operand → Type 0) → Program → Type 0
AllCalls P Over = Unit {0}
AllCalls P (Call object code with next) = P object code with × AllCalls P next
AllCalls P (Set register value next) = AllCalls P next
AllCalls P (Inc register value next) = AllCalls P next
AllCalls P (Repeat turns body next) = AllCalls P body × AllCalls P next
AllCalls P (While register how value body next) = AllCalls P body × AllCalls P next
AllCalls P (If register how value body next) = AllCalls P body × AllCalls P next

-- Every call of the program passes a test.
abbrev pub AllCallsPass : (ℕ → Opcode → Operand → Bool) → Program → Type 0
AllCallsPass test p = AllCalls (λ object code with. IsTrue (test object code with)) p

-- Whatever test every call of a program passes, every call of what is left of it passes.
abbrev pub CallsStay : Type 0
CallsStay =
    (test : ℕ → Opcode → Operand → Bool) (rest : Rest) (answer : Reply) → AllCallsPass test rest.program
    → AllCallsPass test (answered rest answer).program
