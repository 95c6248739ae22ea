-- The text of rows and last lines.
use Rattle.std.specs.Prelude.{ℕ, zero, suc, ◌≤◌, List, [], ◌∷◌, ◌++◌, flat_map, length, codes}
use Rattle.std.specs.Fmt.{decimal, signed_decimal}
use Rattle.tm_base.specs.declared.events.Entry.{Entry}
use Rattle.tm_base.specs.declared.operations.Op.{Op}
use Rattle.tm_base.specs.declared.operations.Op.TheVariants as op
use Rattle.tm_base.specs.declared.replies.Reply.{Reply}
use Rattle.tm_base.specs.declared.replies.Reply.TheVariants as reply
use Rattle.tm_base.specs.declared.bars.Bar.{Bar}
use Rattle.tm_base.specs.declared.ends.End.{End}
use Rattle.tm_base.specs.declared.ends.End.TheVariants as end
use Rattle.tm_text.specs.Exercises.{ExerciseView, name_of, own_of}
use Rattle.tm_base.specs.Opcodes.{opcode_of, word_of}
use Rattle.tm_timeline.specs.Words.{reply_word, bar_letter, end_word}

-- LF, which ends a line.
abbrev pub line_end : List ℕ
line_end = 10 ∷ []

-- The name of a thread is that of its own object; thread 0 is `main`.
abbrev pub thread_name : ExerciseView → ℕ → List ℕ
thread_name x zero = codes "main"
thread_name x (suc t) = name_of x.objects (own_of x.objects (suc t))

-- An operation's operand after a space, where it has one: its condition or its value.
abbrev pub operand_text : Op → List ℕ
operand_text (op.Wait condition) = codes " " ++ decimal condition
operand_text (op.Signal condition) = codes " " ++ decimal condition
operand_text (op.Broadcast condition) = codes " " ++ decimal condition
operand_text (op.Send value) = codes " " ++ signed_decimal value
operand_text (op.Write value) = codes " " ++ signed_decimal value
operand_text (op.Add value) = codes " " ++ signed_decimal value
operand_text o = []

-- What a reply names or brings after a space: the thread that was granted, or a value.
abbrev pub detail_text : ExerciseView → Reply → List ℕ
detail_text x (reply.Gave thread) = codes " " ++ thread_name x thread
detail_text x (reply.Got value) = codes " " ++ signed_decimal value
detail_text x r = []

-- An operation: its word and its operand.
abbrev pub operation_text : Op → List ℕ
operation_text o = word_of (opcode_of o) ++ operand_text o

-- A reply: its word, and what it names or brings.
abbrev pub reply_text : ExerciseView → Reply → List ℕ
reply_text x r = reply_word r ++ detail_text x r

-- An event's places: the thread's name and the place in the thread, the object's name and the place
-- there.
abbrev pub places_text : ExerciseView → Entry → List ℕ
places_text x e =
    thread_name x e.thread ++ codes "." ++ decimal e.place ++ codes " "
    ++ name_of x.objects e.object ++ codes "." ++ decimal e.at

-- An event: its stamp, its places, the operation and the reply.
abbrev pub event_text : ExerciseView → Entry → List ℕ
event_text x e =
    decimal e.stamp ++ codes " " ++ places_text x e ++ codes " "
    ++ word_of (opcode_of e.op) ++ operand_text e.op ++ codes " " ++ reply_word e.reply ++ detail_text x e.reply

-- A row: its number, its event, and a letter for each thread.
abbrev pub row_of : ExerciseView → ℕ → Entry → List Bar → List ℕ
row_of x n e bars =
    decimal n ++ codes " " ++ event_text x e ++ codes " [" ++ flat_map bar_letter bars ++ codes "]" ++ line_end

-- The threads' names, each after a space.
abbrev pub names_text : ExerciseView → List ℕ → List ℕ
names_text x threads = flat_map (λ t. codes " " ++ thread_name x t) threads

-- The names of the threads that were cut; where the run is done, none was.
abbrev pub cut_text : ExerciseView → End → List ℕ → List ℕ
cut_text x end.Done cut = []
cut_text x end.Stuck cut = names_text x cut
cut_text x end.Budget cut = names_text x cut

-- The last line: how the run ended, how many events it had, and who was cut.
abbrev pub last_line_of : ExerciseView → End → ℕ → List ℕ → List ℕ
last_line_of x e n cut = end_word e ++ codes " " ++ decimal n ++ cut_text x e cut ++ line_end

-- The number is that of a thread with a program.
pub record IsProgramThread (x : ExerciseView) (t : ℕ) : Type 0 where
  pub program : 1 ≤ t
  pub known : t ≤ length x.programs

-- The thread that the reply names, where it names one, has a program.
abbrev pub NamesThread : ExerciseView → Reply → Type 0
NamesThread x (reply.Gave thread) = IsProgramThread x thread
NamesThread x r = Unit {0}
