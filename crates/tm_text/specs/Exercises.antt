-- Exercises as contracts see them.
use Rattle.std.specs.Prelude.{◌≡◌, ◌≢◌, ℕ, zero, suc, ◌+◌, ◌≤◌, pos, nat_abs, Bool, true, false, ◌&&◌, ◌==◌, if◌then◌else◌, List, [], ◌∷◌, length, codes, count_by, filter_map, map, nat_le, nat_lt, slice_get, slice_index_or, Option, Some, None}
use Rattle.std.specs.List.{list_all, range_with_len}
use Rattle.tm_base.specs.declared.opcodes.Opcode.TheVariants as opcode
use Rattle.tm_programs.specs.declared.instructions.Operand.TheVariants as operand
use Rattle.tm_base.specs.declared.kinds.Kind.{Kind}
use Rattle.tm_base.specs.declared.kinds.Kind.TheVariants as kind
use Rattle.tm_base.specs.declared.limits.TheConstants.{MOST_THREADS}
use Rattle.tm_base.specs.Names.{IsName}
use Rattle.tm_text.specs.declared.exercises.Declaration.{Declaration}
use Rattle.tm_base.specs.Fits.{fits}
use Rattle.tm_base.specs.Opcodes.{op_with}
use Rattle.tm_base.specs.declared.opcodes.Opcode.{Opcode}
use Rattle.tm_programs.specs.declared.instructions.Instruction.{Instruction}
use Rattle.tm_programs.specs.declared.instructions.Operand.{Operand}
use Rattle.tm_programs.specs.Programs.{Program, condition_of}
use Rattle.tm_programs.specs.Instructions.{IsNested, program_of}
use Rattle.tm_programs.specs.Calls.{AllCallsPass}
use Rattle.tm_programs.specs.declared.instructions.Instruction.TheVariants as instruction
use Rattle.tm_lines.specs.declared.first_words.Slot.{Slot}
use Rattle.tm_lines.specs.declared.first_words.Slot.TheVariants as slot
use Rattle.tm_lines.specs.declared.limits.TheConstants.{MOST_CAPACITY, MOST_CONDITIONS, MOST_INSTRUCTIONS, MOST_OBJECTS, MOST_PARTIES, MOST_START, MOST_TURNS}
use Rattle.tm_lines.specs.FirstWords.{operand_slots}

-- The objects with their names and kinds in order of declaration, and a program for each thread,
-- from thread 1.
pub record ExerciseView : Type 0 where
  pub objects : List Declaration
  pub programs : List (List Instruction)

-- The thread's program, and none for `main`.
abbrev pub instructions_of : ExerciseView → ℕ → List Instruction
instructions_of x zero = []
instructions_of x (suc t) = slice_index_or x.programs t []

-- The program that they spell.
abbrev pub program_of_thread : ExerciseView → ℕ → Program
program_of_thread x t = program_of (instructions_of x t)

-- The kind is that of this thread's own object.
abbrev pub is_own : ℕ → Kind → Bool
is_own t (kind.Thread own held) = own == t
is_own t k = false

-- The number of the thread's own object.
abbrev pub own_of : List Declaration → ℕ → ℕ
own_of [] t = 0
own_of (d ∷ ds) t = if is_own t d.kind then 0 else own_of ds t + 1

-- The thread whose own object an object of the kind is, where it is one.
abbrev pub thread_of_kind : Kind → Option ℕ
thread_of_kind (kind.Thread own held) = Some own
thread_of_kind k = None

-- The thread whose own object a declared object is, where it is one.
abbrev pub thread_of : Declaration → Option ℕ
thread_of d = thread_of_kind d.kind

-- The name of a declared object, and no bytes where there is none.
abbrev pub name_at : Option Declaration → List ℕ
name_at None = []
name_at (Some d) = d.name

-- The name of the object with this number.
abbrev pub name_of : List Declaration → ℕ → List ℕ
name_of ds o = name_at (slice_get ds o)

-- A program can ask the operation: it is none of `begin`, `end`, `resume` and `stop`.
abbrev pub is_asked : Opcode → Bool
is_asked opcode.Begin = false
is_asked opcode.End = false
is_asked opcode.Resume = false
is_asked opcode.Stop = false
is_asked code = true

-- The kinds of the objects.
abbrev pub kinds_of : List Declaration → List Kind
kinds_of ds = map (λ d. d.kind) ds

-- The call is of an operation that an object of the kind has, if there is one; what value it takes makes no
-- difference.
abbrev pub is_call_of : Option Kind → Opcode → Operand → Bool
is_call_of None code with = false
is_call_of (Some k) code with = is_asked code && fits (op_with code (condition_of with) (pos 0)) k

-- The call is one of the object with this number, where these are the kinds of the objects.
abbrev pub is_call_among : List Kind → ℕ → Opcode → Operand → Bool
is_call_among kinds object code with = is_call_of (slice_get kinds object) code with

abbrev pub is_call_on : List Declaration → ℕ → Opcode → Operand → Bool
is_call_on ds object code with = is_call_among (kinds_of ds) object code with

-- What a call has beside its object, where these are the words after the object's name.
abbrev pub takes_in : List Slot → Operand → Bool
takes_in [] operand.Nothing = true
takes_in (slot.Register ∷ ss) (operand.Register r) = nat_lt r 8
takes_in (slot.Condition ∷ ss) (operand.Condition c) = true
takes_in (slot.Value ∷ ss) (operand.Number k) = true
takes_in (slot.Value ∷ ss) (operand.Register r) = nat_lt r 8
takes_in ss with = false

-- What a call of the operation has beside its object.
abbrev pub takes : Opcode → Operand → Bool
takes code with = takes_in (operand_slots code) with

-- A program may have the instruction: a call is one that its object has, with what the operation takes; a
-- register is one of the eight; and a `repeat` has no more turns than it may have.
abbrev pub is_instruction_on : List Declaration → Instruction → Bool
is_instruction_on ds (instruction.Call object code with) = is_call_on ds object code with && takes code with
is_instruction_on ds (instruction.Set register value) = nat_lt register 8
is_instruction_on ds (instruction.Inc register value) = nat_lt register 8
is_instruction_on ds (instruction.Repeat turns) = nat_le turns (nat_abs MOST_TURNS)
is_instruction_on ds (instruction.While register how value) = nat_lt register 8
is_instruction_on ds (instruction.If register how value) = nat_lt register 8
is_instruction_on ds instruction.End = true

-- The instruction isn't an `end`.
abbrev pub is_counted : Instruction → Bool
is_counted instruction.End = false
is_counted i = true

-- How many instructions these are, where `end` lines aren't counted.
abbrev pub count_of : List Instruction → ℕ
count_of items = count_by is_counted items

-- The kinds of the objects that a text can declare, with their ranges.
abbrev pub IsKindRead : Kind → Type 0
IsKindRead (kind.Sem value) = value ≤ nat_abs MOST_START
IsKindRead (kind.Hoare conditions) = (1 ≤ conditions) × (conditions ≤ nat_abs MOST_CONDITIONS)
IsKindRead (kind.Mesa conditions) = (1 ≤ conditions) × (conditions ≤ nat_abs MOST_CONDITIONS)
IsKindRead (kind.Barrier parties) = (1 ≤ parties) × (parties ≤ nat_abs MOST_PARTIES)
IsKindRead (kind.Async capacity) = (1 ≤ capacity) × (capacity ≤ nat_abs MOST_CAPACITY)
IsKindRead k = Unit {0}

-- What holds of every exercise that was read.
pub record IsWellFormed (x : ExerciseView) : Type 0 where
  -- the objects, the threads and the instructions of each program are within their limits
  pub few_objects : length x.objects ≤ MOST_OBJECTS
  pub few_threads : length x.programs ≤ MOST_THREADS
  pub short : (t : ℕ) → count_of (instructions_of x t) ≤ MOST_INSTRUCTIONS
  -- every object's name is a name, is not `main`, and is that of no other object
  pub names : (o : ℕ) (d : Declaration) → slice_get x.objects o ≡ Some d
      → IsName d.name × (d.name ≢ codes "main")
  pub once : (o p : ℕ) (c d : Declaration) → slice_get x.objects o ≡ Some c → slice_get x.objects p ≡ Some d
      → c.name ≡ d.name → o ≡ p
  pub kinds : (o : ℕ) (d : Declaration) → slice_get x.objects o ≡ Some d → IsKindRead d.kind
  -- the threads are numbered from 1 in order of declaration
  pub numbered : filter_map thread_of x.objects ≡ range_with_len 1 (length x.programs)
  -- the blocks of each program are ended, nest no deeper than they may, and a loop has a call in its body
  pub nested : (t : ℕ) → IsNested (instructions_of x t)
  pub instructions : (t : ℕ) → list_all (is_instruction_on x.objects) (instructions_of x t) ≡ true

-- In a well-formed exercise every call of a program is one that its object has.
abbrev pub CallsFit : Type 0
CallsFit =
    (x : ExerciseView) (t : ℕ) → IsWellFormed x → AllCallsPass (is_call_on x.objects) (program_of_thread x t)
