-- The programs of the philosophers, with fork i as object i, and the chairs behind the last fork.
use Rattle.std.specs.Prelude.{ℕ, ◌+◌, ◌-◌, ◌%◌, if◌then◌else◌, List, [], ◌∷◌}
use Rattle.tm_base.specs.declared.opcodes.Opcode.TheVariants as opcode
use Rattle.tm_base.specs.declared.kinds.Kind.TheVariants as kind
use Rattle.tm_programs.specs.declared.instructions.Instruction.{Instruction}
use Rattle.tm_programs.specs.declared.instructions.Instruction.TheVariants as instruction
use Rattle.tm_programs.specs.declared.instructions.Operand.TheVariants as operand
use Rattle.tm_makers.specs.declared.plans.Way.{Way}
use Rattle.tm_makers.specs.declared.plans.Way.TheVariants as way
use Rattle.tm_makers.specs.Drafts.{Part, Object}
use Rattle.tm_makers.specs.Philosophers.{chairs, is_turned}

abbrev pub chairs_parts : ℕ → Way → List Part
chairs_parts n way.Chairs = Object chairs (kind.Sem (n - 1)) ∷ []
chairs_parts n w = []

-- The forks of philosopher i, in the order in which they are taken.
abbrev pub forks_of : ℕ → Way → ℕ → ℕ × ℕ
forks_of n w i = if is_turned n w i then ((i + 1) % n, i) else (i, (i + 1) % n)

abbrev pub eats : ℕ → ℕ → ℕ → List Instruction
eats rounds a b =
    instruction.Repeat rounds ∷ instruction.Call a opcode.Lock operand.Nothing
    ∷ instruction.Call b opcode.Lock operand.Nothing ∷ instruction.Call b opcode.Unlock operand.Nothing
    ∷ instruction.Call a opcode.Unlock operand.Nothing ∷ instruction.End ∷ []

abbrev pub eats_seated : ℕ → ℕ → ℕ → ℕ → List Instruction
eats_seated n rounds a b =
    instruction.Repeat rounds ∷ instruction.Call n opcode.P operand.Nothing
    ∷ instruction.Call a opcode.Lock operand.Nothing ∷ instruction.Call b opcode.Lock operand.Nothing
    ∷ instruction.Call b opcode.Unlock operand.Nothing ∷ instruction.Call a opcode.Unlock operand.Nothing
    ∷ instruction.Call n opcode.V operand.Nothing ∷ instruction.End ∷ []

abbrev pub program_with : ℕ → ℕ → Way → ℕ × ℕ → List Instruction
program_with n rounds way.Chairs forks = eats_seated n rounds forks.0 forks.1
program_with n rounds w forks = eats rounds forks.0 forks.1

abbrev pub philosopher_program : ℕ → ℕ → Way → ℕ → List Instruction
philosopher_program n rounds w i = program_with n rounds w (forks_of n w i)
