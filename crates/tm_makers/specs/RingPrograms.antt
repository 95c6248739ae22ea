-- The programs of a ring's threads, with channel i as object i.
use Rattle.std.specs.Prelude.{ℕ, ◌-◌, ◌==◌, pos, if◌then◌else◌, List, [], ◌∷◌}
use Rattle.tm_base.specs.declared.opcodes.Opcode.TheVariants as opcode
use Rattle.tm_programs.specs.declared.instructions.Instruction.{Instruction}
use Rattle.tm_programs.specs.declared.instructions.Instruction.TheVariants as instruction
use Rattle.tm_programs.specs.declared.instructions.Operand.TheVariants as operand

abbrev pub sends : ℕ → ℕ → List Instruction
sends rounds last =
    instruction.Repeat rounds ∷ instruction.Call 0 opcode.Send (operand.Number (pos 1))
    ∷ instruction.Call last opcode.Recv (operand.Register 0) ∷ instruction.End ∷ []

abbrev pub receives : ℕ → ℕ → ℕ → List Instruction
receives rounds from to =
    instruction.Repeat rounds ∷ instruction.Call from opcode.Recv (operand.Register 0)
    ∷ instruction.Call to opcode.Send (operand.Register 0) ∷ instruction.End ∷ []

abbrev pub ring_program : ℕ → ℕ → ℕ → List Instruction
ring_program n rounds i = if i == 0 then sends rounds (n - 1) else receives rounds (i - 1) i
