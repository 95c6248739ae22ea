-- The parts of a bounded buffer, with its objects in order of declaration.
use Rattle.std.specs.Prelude.{ℕ, pos, List, [], ◌∷◌}
use Rattle.tm_base.specs.declared.kinds.Kind.TheVariants as kind
use Rattle.tm_base.specs.declared.opcodes.Opcode.TheVariants as opcode
use Rattle.tm_programs.specs.declared.instructions.Comparison.TheVariants as comparison
use Rattle.tm_programs.specs.declared.instructions.Instruction.{Instruction}
use Rattle.tm_programs.specs.declared.instructions.Instruction.TheVariants as instruction
use Rattle.tm_programs.specs.declared.instructions.Operand.TheVariants as operand
use Rattle.tm_makers.specs.declared.buffers.Work.{Work}
use Rattle.tm_makers.specs.declared.plans.Guard.{Guard}
use Rattle.tm_makers.specs.declared.plans.Guard.TheVariants as guard
use Rattle.tm_makers.specs.Buffers.{b, count, empty, full, m}
use Rattle.tm_makers.specs.Drafts.{Part, Object}

abbrev pub buffer_parts : ℕ → Guard → List Part
buffer_parts places guard.Semaphores =
    Object empty (kind.Sem places) ∷ Object full (kind.Sem 0) ∷ Object m kind.Mutex
    ∷ Object count (kind.Var (pos 0)) ∷ []
buffer_parts places guard.Hoare = Object b (kind.Hoare 2) ∷ Object count (kind.Var (pos 0)) ∷ []
buffer_parts places guard.Mesa = Object b (kind.Mesa 2) ∷ Object count (kind.Var (pos 0)) ∷ []

-- The program of a thread that does the work.
abbrev pub buffer_program : Guard → Work → List Instruction
buffer_program guard.Semaphores w =
    instruction.Repeat w.turns ∷ instruction.Call w.awaits opcode.P operand.Nothing
    ∷ instruction.Call 2 opcode.Lock operand.Nothing ∷ instruction.Call 3 opcode.Add (operand.Number w.change)
    ∷ instruction.Call 2 opcode.Unlock operand.Nothing ∷ instruction.Call w.signals opcode.V operand.Nothing
    ∷ instruction.End ∷ []
buffer_program guard.Hoare w =
    instruction.Repeat w.turns ∷ instruction.Call 0 opcode.Enter operand.Nothing
    ∷ instruction.Call 1 opcode.Read (operand.Register 0) ∷ instruction.If 0 comparison.Equal (pos w.limit)
    ∷ instruction.Call 0 opcode.Wait (operand.Condition w.awaits) ∷ instruction.End
    ∷ instruction.Call 1 opcode.Add (operand.Number w.change)
    ∷ instruction.Call 0 opcode.Signal (operand.Condition w.signals)
    ∷ instruction.Call 0 opcode.Leave operand.Nothing ∷ instruction.End ∷ []
buffer_program guard.Mesa w =
    instruction.Repeat w.turns ∷ instruction.Call 0 opcode.Enter operand.Nothing
    ∷ instruction.Call 1 opcode.Read (operand.Register 0) ∷ instruction.While 0 comparison.Equal (pos w.limit)
    ∷ instruction.Call 0 opcode.Wait (operand.Condition w.awaits)
    ∷ instruction.Call 1 opcode.Read (operand.Register 0) ∷ instruction.End
    ∷ instruction.Call 1 opcode.Add (operand.Number w.change)
    ∷ instruction.Call 0 opcode.Signal (operand.Condition w.signals)
    ∷ instruction.Call 0 opcode.Leave operand.Nothing ∷ instruction.End ∷ []
