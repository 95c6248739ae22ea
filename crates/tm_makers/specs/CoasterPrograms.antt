-- The parts of the roller coaster, with its objects in order of declaration.
use Rattle.std.specs.Prelude.{ℕ, pos, List, [], ◌∷◌, ◌++◌}
use Rattle.tm_base.specs.declared.kinds.Kind.TheVariants as kind
use Rattle.tm_base.specs.declared.opcodes.Opcode.TheVariants as opcode
use Rattle.tm_programs.specs.declared.instructions.Instruction.{Instruction}
use Rattle.tm_programs.specs.declared.instructions.Instruction.TheVariants as instruction
use Rattle.tm_programs.specs.declared.instructions.Operand.TheVariants as operand
use Rattle.tm_makers.specs.Coasters.{boarded, out, queue, rides, unload}
use Rattle.tm_makers.specs.Drafts.{Part, Object}

abbrev pub coaster_parts : List Part
coaster_parts =
    Object queue (kind.Sem 0) ∷ Object boarded (kind.Sem 0) ∷ Object unload (kind.Sem 0) ∷ Object out (kind.Sem 0)
    ∷ Object rides (kind.Var (pos 0)) ∷ []

abbrev pub each_seat : ℕ → Instruction → List Instruction
each_seat seats i = instruction.Repeat seats ∷ i ∷ instruction.End ∷ []

abbrev pub car_program : ℕ → ℕ → List Instruction
car_program seats turns =
    instruction.Repeat turns ∷ each_seat seats (instruction.Call 0 opcode.V operand.Nothing)
    ++ each_seat seats (instruction.Call 1 opcode.P operand.Nothing)
    ++ instruction.Call 4 opcode.Add (operand.Number (pos 1))
    ∷ each_seat seats (instruction.Call 2 opcode.V operand.Nothing)
    ++ each_seat seats (instruction.Call 3 opcode.P operand.Nothing) ++ instruction.End ∷ []

abbrev pub passenger_program : List Instruction
passenger_program =
    instruction.Call 0 opcode.P operand.Nothing ∷ instruction.Call 1 opcode.V operand.Nothing
    ∷ instruction.Call 2 opcode.P operand.Nothing ∷ instruction.Call 3 opcode.V operand.Nothing ∷ []
