-- The programs of readers and writers, with the lock as object 0 and the variable as object 1.
use Rattle.std.specs.Prelude.{ℕ, pos, List, [], ◌∷◌}
use Rattle.tm_base.specs.declared.opcodes.Opcode.TheVariants as opcode
use Rattle.tm_programs.specs.declared.instructions.Instruction.{Instruction}
use Rattle.tm_programs.specs.declared.instructions.Instruction.TheVariants as instruction
use Rattle.tm_programs.specs.declared.instructions.Operand.TheVariants as operand

abbrev pub reader_program : ℕ → List Instruction
reader_program rounds =
    instruction.Repeat rounds ∷ instruction.Call 0 opcode.RLock operand.Nothing
    ∷ instruction.Call 1 opcode.Read (operand.Register 0) ∷ instruction.Call 0 opcode.RUnlock operand.Nothing
    ∷ instruction.End ∷ []

abbrev pub writer_program : ℕ → List Instruction
writer_program rounds =
    instruction.Repeat rounds ∷ instruction.Call 0 opcode.WLock operand.Nothing
    ∷ instruction.Call 1 opcode.Add (operand.Number (pos 1)) ∷ instruction.Call 0 opcode.WUnlock operand.Nothing
    ∷ instruction.End ∷ []
