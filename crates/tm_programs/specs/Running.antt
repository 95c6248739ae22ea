-- Where an interpreter stands in the instructions of a program, and what is left of the program there.
use Rattle.std.specs.Prelude.{◌≡◌, ℤ, ℕ, zero, suc, ◌+◌, ◌*◌, ◌<◌, List, [], ◌∷◌, ◌++◌, length, drop, Option, Some, None, slice_get, slice_index_or, Bool, true, false}
use Rattle.tm_base.specs.declared.asks.Ask.{Ask}
use Rattle.tm_base.specs.declared.replies.Reply.{Reply}
use Rattle.tm_programs.specs.declared.instructions.Instruction.{Instruction}
use Rattle.tm_programs.specs.declared.instructions.Instruction.TheVariants as instruction
use Rattle.tm_programs.specs.declared.cursors.OpenBlock.{OpenBlock}
use Rattle.tm_programs.specs.declared.cursors.OpenBlock.TheVariants as open_block
use Rattle.tm_programs.specs.declared.cursors.Cursor.{Cursor}
use Rattle.tm_programs.specs.Programs.{Program, Over, Call, Set, Inc, Repeat, While, If, Rest, Remainder, left, followed, until_call, left_after, next_ask}
use Rattle.tm_programs.specs.Instructions.{programs_of, first_of, rest_of}
use Rattle.tm_programs.specs.BlockLaws.{HasCall}

-- The programs of the innermost open block and of those round it, from a place on.
abbrev pub programs_at : List Instruction → ℕ → List Program
programs_at items place = programs_of (drop place items)

-- The program of the innermost open block, from a place on.
abbrev pub program_at : List Instruction → ℕ → Program
program_at items place = first_of (programs_at items place)

-- What is left at the end of an open block, by what is left at the end of the block round it.
abbrev pub after_block : List Instruction → OpenBlock → Program → Program
after_block items (open_block.Once next) after = followed (program_at items next) after
after_block items (open_block.Turns turns body next) after =
    Repeat turns (program_at items body) (followed (program_at items next) after)

-- What is left at the end of the innermost of these open blocks, which come from the outermost on.
abbrev pub after_blocks : List Instruction → Program → List OpenBlock → Program
after_blocks items after [] = after
after_blocks items after (block ∷ blocks) = after_blocks items (after_block items block after) blocks

-- What is left of the program.
abbrev pub program_left : List Instruction → Cursor → Program
program_left items cursor =
    followed (program_at items cursor.place) (after_blocks items Over cursor.blocks.items)

-- What is left of the program, with the registers and the last reply.
abbrev pub rest_at : List Instruction → Cursor → Option Reply → Rest
rest_at items cursor latest =
    record { program = program_left items cursor; registers = cursor.registers; last = latest }

-- What is left here.
abbrev pub remainder_at : List Instruction → Cursor → Remainder
remainder_at items cursor = left (program_left items cursor) cursor.registers

-- What is left once the local instructions before the next call are done.
abbrev pub settled_at : List Instruction → Cursor → Remainder
settled_at items cursor = until_call (program_left items cursor) cursor.registers

-- What is left after a final reply.
abbrev pub accepted_at : List Instruction → Cursor → Option Reply → Reply → Remainder
accepted_at items cursor latest answer = left_after latest (program_left items cursor) cursor.registers answer

-- What it asks here.
abbrev pub ask_at : List Instruction → Cursor → Ask
ask_at items cursor = next_ask (program_left items cursor) cursor.registers

-- The places of an open block with so many blocks round it are as deep as they have to be, and a loop's body
-- has a call.
abbrev pub BlockFits : List Instruction → ℕ → OpenBlock → Type 0
BlockFits items depth (open_block.Once next) = length (programs_at items next) ≡ suc depth
BlockFits items depth (open_block.Turns turns body next) =
    (length (programs_at items next) ≡ suc depth) × (length (programs_at items body) ≡ suc (suc depth))
    × HasCall (program_at items body)

abbrev pub BlocksFit : List Instruction → ℕ → List OpenBlock → Type 0
BlocksFit items depth [] = Unit {0}
BlocksFit items depth (block ∷ blocks) = BlockFits items depth block × BlocksFit items (suc depth) blocks

-- As many blocks are open as there are round the place, and they fit.
pub record Stands (items : List Instruction) (cursor : Cursor) : Type 0 where
  pub depth : length (programs_at items cursor.place) ≡ suc (length cursor.blocks.items)
  pub blocks : BlocksFit items 0 cursor.blocks.items

-- There is a call, or there are no more instructions.
abbrev pub IsAsking : Option Instruction → Type 0
IsAsking None = Unit {0}
IsAsking (Some (instruction.Call object code with)) = Unit {0}
IsAsking (Some other) = ⊥

-- The instruction at the place is local.
abbrev pub IsLocalAt : List Instruction → ℕ → Instruction → Type 0
IsLocalAt items place i = (slice_get items place ≡ Some i) × (IsAsking (Some i) → ⊥)

-- Before the first reply no block is open, and later it stands at a call or at the end.
abbrev pub IsResting : List Instruction → Cursor → Option Reply → Type 0
IsResting items cursor None = cursor.blocks.items ≡ []
IsResting items cursor (Some reply) = IsAsking (slice_get items cursor.place)

-- The cursor with its next instruction at a place.
abbrev pub moved : ℕ → Cursor → Cursor
moved place cursor = record { place = place; registers = cursor.registers; blocks = cursor.blocks }

-- The cursor with other registers.
abbrev pub with_registers : List ℤ → Cursor → Cursor
with_registers registers cursor =
    record { place = cursor.place; registers = registers; blocks = cursor.blocks }

-- The cursor with other open blocks.
abbrev pub with_blocks : List OpenBlock → Cursor → Cursor
with_blocks blocks cursor =
    record { place = cursor.place; registers = cursor.registers; blocks = record { items = blocks } }

-- The cursor in a block that it goes into.
abbrev pub entered : ℕ → OpenBlock → Cursor → Cursor
entered body block cursor = moved body (with_blocks (cursor.blocks.items ++ block ∷ []) cursor)

-- The cursor at the first of so many turns of a body, or after the last.
abbrev pub repeated : ℕ → ℕ → ℕ → Cursor → Cursor
repeated zero body next cursor = moved next cursor
repeated (suc turns) body next cursor = entered body (open_block.Turns turns body next) cursor

-- The cursor in a block where its comparison holds, and else past it.
abbrev pub chosen : Bool → ℕ → ℕ → ℕ → Cursor → Cursor
chosen true body next exit cursor = entered body (open_block.Once next) cursor
chosen false body next exit cursor = moved exit cursor

-- The cursor after the end of a block, with the blocks round it.
abbrev pub left_block : OpenBlock → Cursor → Cursor
left_block (open_block.Once next) cursor = moved next cursor
left_block (open_block.Turns turns body next) cursor = repeated turns body next cursor

-- The innermost block is left, where there is one.
abbrev pub Leaves : Cursor → Cursor → Type 0
Leaves old new =
    (blocks : List OpenBlock) (block : OpenBlock) → old.blocks.items ≡ blocks ++ block ∷ []
    → new ≡ left_block block (with_blocks blocks old)

-- How many local instructions may be done before the next call.
abbrev pub bound : Program → ℕ
bound Over = 0
bound (Call object code with next) = 0
bound (Set register value next) = suc (bound next)
bound (Inc register value next) = suc (bound next)
bound (Repeat turns body next) = suc (bound body + bound next)
bound (While register how value body next) = suc (bound body + bound next)
bound (If register how value body next) = suc (bound body + bound next)

-- What falls with each step: a step is an instruction, which may open a block, or leaves a block.
abbrev pub work : List Instruction → Cursor → ℕ
work items cursor = 2 * bound (program_left items cursor) + length cursor.blocks.items

-- A step leaves what is left before the next call.
pub record Steps (items : List Instruction) (old new : Cursor) : Type 0 where
  pub same : settled_at items new ≡ settled_at items old
  pub stands : Stands items new
  pub falls : work items new < work items old

-- The instruction opens a block.
abbrev pub Opens : Instruction → Type 0
Opens (instruction.Repeat turns) = Unit {0}
Opens (instruction.While register how value) = Unit {0}
Opens (instruction.If register how value) = Unit {0}
Opens other = ⊥

-- The programs at the way out are those round the block that opens at the place.
abbrev pub IsExit : List Instruction → ℕ → ℕ → Type 0
IsExit items place exit = programs_at items exit ≡ rest_of (programs_at items (suc place))

-- There is a way out of each block.
abbrev pub ExitsAre : List Instruction → List ℕ → Type 0
ExitsAre items exits =
    (place : ℕ) (i : Instruction) → slice_get items place ≡ Some i → Opens i
    → IsExit items place (slice_index_or exits place 0)
