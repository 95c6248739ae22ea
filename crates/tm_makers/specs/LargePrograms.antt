-- The parts of a large exercise: mutexes as objects from 0 on, semaphores from 8 on, variables from 16 on.
use Rattle.std.specs.Prelude.{ℕ, ◌+◌, ◌%◌, pos, List, [], ◌∷◌, map}
use Rattle.std.specs.List.{range_with_len}
use Rattle.tm_base.specs.declared.kinds.Kind.TheVariants as kind
use Rattle.tm_base.specs.declared.opcodes.Opcode.TheVariants as opcode
use Rattle.tm_programs.specs.declared.instructions.Instruction.{Instruction}
use Rattle.tm_programs.specs.declared.instructions.Instruction.TheVariants as instruction
use Rattle.tm_programs.specs.declared.instructions.Operand.TheVariants as operand
use Rattle.tm_makers.specs.Drafts.{Part, Object}
use Rattle.tm_makers.specs.LargeExercises.{sem_name}

-- The first so many semaphores.
abbrev pub sem_parts : ℕ → List Part
sem_parts count = map (λ i. Object (sem_name i) (kind.Sem (1 + i % 3))) (range_with_len 0 count)

abbrev pub large_program : ℕ → ℕ → ℕ → List Instruction
large_program a b c =
    instruction.Repeat 50 ∷ instruction.Call a opcode.Lock operand.Nothing
    ∷ instruction.Call (16 + a) opcode.Add (operand.Number (pos 1))
    ∷ instruction.Call a opcode.Unlock operand.Nothing ∷ instruction.Call (8 + b) opcode.P operand.Nothing
    ∷ instruction.Call (16 + c) opcode.Read (operand.Register 0)
    ∷ instruction.Call (8 + b) opcode.V operand.Nothing ∷ instruction.End ∷ []
