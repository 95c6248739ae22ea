-- Programs as texts have them: one instruction after the other, each block with an `end`.
use Rattle.std.specs.Prelude.{◌≡◌, Bool, true, false, nat_lt, if◌then◌else◌, List, [], ◌∷◌, ◌++◌, length, Option, Some, None, option_and_then}
use Rattle.tm_programs.specs.declared.limits.TheConstants.{MOST_BLOCKS}
use Rattle.tm_programs.specs.declared.instructions.Instruction.{Instruction}
use Rattle.tm_programs.specs.declared.instructions.Instruction.TheVariants as instruction
use Rattle.tm_programs.specs.Programs.{Program, Over, Call, Set, Inc, Repeat, While, If}

-- The instructions of a program, in a row.
abbrev pub flat : Program → List Instruction
flat Over = []
flat (Call object code with next) = instruction.Call object code with ∷ flat next
flat (Set register value next) = instruction.Set register value ∷ flat next
flat (Inc register value next) = instruction.Inc register value ∷ flat next
flat (Repeat turns body next) = instruction.Repeat turns ∷ flat body ++ instruction.End ∷ flat next
flat (While register how value body next) =
    instruction.While register how value ∷ flat body ++ instruction.End ∷ flat next
flat (If register how value body next) =
    instruction.If register how value ∷ flat body ++ instruction.End ∷ flat next

-- A block that isn't ended yet: a loop, with whether it has a call directly in its body so far, or an `if`.
pub data Block : Type 0 where
  Loop : (asks : Bool) → Block
  Choice : Block

-- The open blocks, innermost first, after a call: it stands directly in the body of the innermost.
abbrev pub with_call : List Block → List Block
with_call (Loop asks ∷ blocks) = Loop true ∷ blocks
with_call blocks = blocks

-- The open blocks with one more, unless there are as many as may be.
abbrev pub opened : Block → List Block → Option (List Block)
opened block blocks = if nat_lt (length blocks) MOST_BLOCKS then Some (block ∷ blocks) else None

-- The open blocks without the innermost. It has to be there, and a loop has to have a call directly in its
-- body.
abbrev pub closed : List Block → Option (List Block)
closed [] = None
closed (Loop false ∷ blocks) = None
closed (block ∷ blocks) = Some blocks

-- The open blocks after an instruction, where it may stand there.
abbrev pub blocks_after : List Block → Instruction → Option (List Block)
blocks_after blocks (instruction.Call object code with) = Some (with_call blocks)
blocks_after blocks (instruction.Set register value) = Some blocks
blocks_after blocks (instruction.Inc register value) = Some blocks
blocks_after blocks (instruction.Repeat turns) = opened (Loop false) blocks
blocks_after blocks (instruction.While register how value) = opened (Loop false) blocks
blocks_after blocks (instruction.If register how value) = opened Choice blocks
blocks_after blocks instruction.End = closed blocks

-- The open blocks after these instructions.
abbrev pub blocks_of : List Block → List Instruction → Option (List Block)
blocks_of blocks [] = Some blocks
blocks_of blocks (i ∷ items) = option_and_then (λ now. blocks_of now items) (blocks_after blocks i)

-- Every block is ended, they nest no deeper than they may, and every loop has a call directly in its body.
abbrev pub IsNested : List Instruction → Type 0
IsNested items = blocks_of [] items ≡ Some []

-- Programs with one more instruction in front of the first; where there is none, before its end.
abbrev pub in_front : (Program → Program) → List Program → List Program
in_front one [] = one Over ∷ []
in_front one (p ∷ ps) = one p ∷ ps

-- Programs with a block in front of the second, whose body is the first; where there are fewer, before their
-- ends.
abbrev pub around : (Program → Program → Program) → List Program → List Program
around block [] = block Over Over ∷ []
around block (body ∷ []) = block body Over ∷ []
around block (body ∷ next ∷ ps) = block body next ∷ ps

-- The programs of the innermost open block and of those round it, and of the whole, which these
-- instructions go on with.
abbrev pub programs_of : List Instruction → List Program
programs_of [] = Over ∷ []
programs_of (instruction.Call object code with ∷ items) = in_front (Call object code with) (programs_of items)
programs_of (instruction.Set register value ∷ items) = in_front (Set register value) (programs_of items)
programs_of (instruction.Inc register value ∷ items) = in_front (Inc register value) (programs_of items)
programs_of (instruction.Repeat turns ∷ items) = around (Repeat turns) (programs_of items)
programs_of (instruction.While register how value ∷ items) =
    around (While register how value) (programs_of items)
programs_of (instruction.If register how value ∷ items) = around (If register how value) (programs_of items)
programs_of (instruction.End ∷ items) = Over ∷ programs_of items

abbrev pub first_of : List Program → Program
first_of [] = Over
first_of (p ∷ ps) = p

-- All programs but the first.
abbrev pub rest_of : List Program → List Program
rest_of [] = []
rest_of (p ∷ ps) = ps

-- The program that instructions spell.
abbrev pub program_of : List Instruction → Program
program_of items = first_of (programs_of items)

-- A program is spelled by its instructions, and by no others that are nested.
abbrev pub ProgramsAreSpelled : Type 0
ProgramsAreSpelled =
    ((p : Program) → program_of (flat p) ≡ p)
    × ((items : List Instruction) → IsNested items → flat (program_of items) ≡ items)
