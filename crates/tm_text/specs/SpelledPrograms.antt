-- The programs of a text as its lines spell them.
use Rattle.std.specs.Prelude.{◌≡◌, ℕ, zero, suc, List, [], ◌∷◌, ◌++◌}
use Rattle.tm_programs.specs.declared.instructions.Instruction.{Instruction}
use Rattle.tm_programs.specs.declared.instructions.Instruction.TheVariants as instruction
use Rattle.tm_lines.specs.declared.first_words.FirstWord.{FirstWord}
use Rattle.tm_lines.specs.declared.first_words.FirstWord.TheVariants as first
use Rattle.tm_lines.specs.declared.saying.Said.{Said}
use Rattle.tm_lines.specs.declared.words.Words.{Words}
use Rattle.tm_text.specs.declared.exercises.Declaration.{Declaration}
use Rattle.tm_text.specs.Texts.{number_named, programs_said}

-- The programs of the threads that were ended, and that of the next one as far as it was spelled, in which so
-- many blocks are open.
pub record Spelled : Type 0 where
  pub ended : List (List Instruction)
  pub begun : List Instruction
  pub depth : ℕ

-- Before the first line.
abbrev pub nothing_spelled : Spelled
nothing_spelled = record { ended = []; begun = []; depth = 0 }

-- The programs with the begun one in front of the first.
abbrev pub put_begun : List Instruction → List (List Instruction) → List (List Instruction)
put_begun begun [] = []
put_begun begun (p ∷ ps) = (begun ++ p) ∷ ps

-- All programs, where these lines are left.
abbrev pub with_said : List Declaration → Spelled → List (List (List ℕ)) → List (List Instruction)
with_said ds v lines = v.ended ++ put_begun v.begun (programs_said ds v.depth lines)

-- After a declaration, which opens no block.
abbrev pub after_declaration : Spelled → Spelled
after_declaration v = record { ended = v.ended; begun = v.begun; depth = 0 }

-- One instruction more, after which so many blocks are open.
abbrev pub with_instruction : Spelled → Instruction → ℕ → Spelled
with_instruction v i depth = record { ended = v.ended; begun = v.begun ++ i ∷ []; depth = depth }

-- After the `end` of the innermost of so many blocks, or of the program where none is open.
abbrev pub after_end : Spelled → ℕ → Spelled
after_end v zero = record { ended = v.ended ++ v.begun ∷ []; begun = []; depth = 0 }
after_end v (suc depth) = with_instruction v instruction.End depth

-- After a line with this first word, which says the instruction, if it says one.
abbrev pub after_line : Spelled → FirstWord → Instruction → Spelled
after_line v (first.Declares d) i = after_declaration v
after_line v first.End i = after_end v v.depth
after_line v first.Repeat i = with_instruction v i (suc v.depth)
after_line v first.While i = with_instruction v i (suc v.depth)
after_line v first.If i = with_instruction v i (suc v.depth)
after_line v f i = with_instruction v i v.depth

-- A line whose words after the first are the later ones of these.
abbrev pub words_after : Words → List (List ℕ)
words_after words = [] ∷ words.second.now ∷ words.third.now ∷ words.fourth.now ∷ []

-- The object is the one that the second word names, where a line with this first word calls it.
abbrev pub NamesObject : List Declaration → Said → FirstWord → Type 0
NamesObject ds said (first.Calls c) = said.object ≡ number_named ds said.words.second.now
NamesObject ds said f = Unit {0}
