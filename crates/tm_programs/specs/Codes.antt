-- How what is left of a program is stored: its instructions, the registers and the last reply.
use Rattle.std.specs.Prelude.{◌≡◌, ℤ, List, Option}
use Rattle.std.proofs.Common.{ap}
use Rattle.std.specs.Coded.{Coded, code_by, coded×, coded_list, coded_option, coded_ℤ}
use Rattle.tm_base.specs.declared.replies.Reply.{Reply}
use Rattle.tm_base.specs.contracts.replies.Reply as reply
use Rattle.tm_programs.specs.declared.instructions.Instruction.{Instruction}
use Rattle.tm_programs.specs.contracts.instructions.Instruction as instruction
use Rattle.tm_programs.specs.Programs.{Program, Rest}
use Rattle.tm_programs.specs.Instructions.{flat, program_of}
use Rattle.tm_programs.specs.Spelled.{program_of-flat}

abbrev pub parts_of : Rest → List Instruction × (List ℤ × Option Reply)
parts_of rest = (flat rest.program, (rest.registers, rest.last))

abbrev pub of_parts : List Instruction × (List ℤ × Option Reply) → Rest
of_parts parts = record { program = program_of parts.0; registers = parts.1.0; last = parts.1.1 }

abbrev with_program : Rest → Program → Rest
with_program rest p = record { program = p; registers = rest.registers; last = rest.last }

pub of_parts-parts_of : (rest : Rest) → of_parts (parts_of rest) ≡ rest
of_parts-parts_of rest =
    ap (with_program rest) (program_of-flat rest.program)

abbrev pub rest_code : Coded Rest
rest_code =
    code_by (List Instruction × (List ℤ × Option Reply))
    (coded× (coded_list instruction.the_row.coded)
    (coded× (coded_list coded_ℤ) (coded_option reply.the_row.coded)))
    parts_of of_parts of_parts-parts_of
