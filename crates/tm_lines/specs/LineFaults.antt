-- What is wrong with a line, by the lines before it and the names of the whole text.
use Rattle.std.specs.Prelude.{ℕ, ◌+◌, ℤ, pos, ◌-ℤ◌, Bool, true, false, not, ◌&&◌, ◌||◌, nat_le, if◌then◌else◌, List, [], ◌∷◌, drop, length, codes, Option, Some, None, is_none}
use Rattle.std.specs.List.{find, list_all, list_any}
use Rattle.std.specs.Str.{bytes_eq}
use Rattle.tm_base.specs.declared.kinds.Kind.{Kind}
use Rattle.tm_base.specs.declared.kinds.Kind.TheVariants as kind
use Rattle.tm_base.specs.declared.limits.TheConstants.{MOST_THREADS}
use Rattle.tm_base.specs.declared.opcodes.Opcode.{Opcode}
use Rattle.tm_base.specs.Fits.{fits}
use Rattle.tm_base.specs.Names.{is_name}
use Rattle.tm_base.specs.Opcodes.{op_with}
use Rattle.tm_programs.specs.declared.limits.TheConstants.{MOST_BLOCKS}
use Rattle.tm_programs.specs.Instructions.{Block, Loop, Choice, with_call}
use Rattle.tm_lines.specs.declared.faults.Fault.{Fault}
use Rattle.tm_lines.specs.declared.faults.Fault.TheVariants as fault
use Rattle.tm_lines.specs.declared.first_words.Declarator.TheVariants as declares
use Rattle.tm_lines.specs.declared.first_words.FirstWord.{FirstWord}
use Rattle.tm_lines.specs.declared.first_words.FirstWord.TheVariants as first
use Rattle.tm_lines.specs.declared.first_words.Slot.{Slot}
use Rattle.tm_lines.specs.declared.first_words.Slot.TheVariants as slot
use Rattle.tm_lines.specs.declared.limits.TheConstants.{GREATEST_NUMBER, LEAST_NUMBER, MOST_CONDITIONS, MOST_INSTRUCTIONS, MOST_OBJECTS}
use Rattle.tm_lines.specs.Lines.{is_printed, words_of}
use Rattle.tm_lines.specs.Numerals.{begins_with_r, comparison_of, number_of, register_of}
use Rattle.tm_lines.specs.FirstWords.{first_word_of, has_count, is_allowed, slots_of}
use Rattle.tm_lines.specs.NamedLines.{word_at}

-- Where a line stands: whether inside a thread; the names that earlier lines declare; how many objects and
-- threads these declare; and of the thread that is open how many instructions it has so far, and which blocks
-- are open, innermost first.
pub record Place : Type 0 where
  pub inside : Bool
  pub earlier : List (List ℕ)
  pub objects : ℕ
  pub threads : ℕ
  pub instructions : ℕ
  pub blocks : List Block

-- Before the first line.
abbrev pub first_place : Place
first_place = record { inside = false; earlier = []; objects = 0; threads = 0; instructions = 0; blocks = [] }

-- The operation is one of the kind's.
abbrev pub has_operation : Kind → Opcode → Bool
has_operation k c = fits (op_with c 0 (pos 0)) k

-- How many conditions an object of the kind has; the most there can be, where it is no monitor.
abbrev pub conditions_of : Option Kind → ℤ
conditions_of (Some (kind.Hoare conditions)) = pos conditions
conditions_of (Some (kind.Mesa conditions)) = pos conditions
conditions_of other = MOST_CONDITIONS

-- The first word calls an operation that the kind, where there is one, doesn't have.
abbrev pub is_of_another_kind : FirstWord → Option Kind → Bool
is_of_another_kind (first.Calls c) (Some k) = not (has_operation k c)
is_of_another_kind f k = false

-- The word in the slot breaks what this kind of fault is about. The line has this first word, and the object
-- that its second word names has this kind.
abbrev pub breaks : Place → FirstWord → Option Kind → Fault → Slot → List ℕ → Bool
breaks p f k fault.Word slot.Comparison w = is_none (comparison_of w)
breaks p f k fault.Word slot.Discipline w = not (bytes_eq w (codes "hoare") || bytes_eq w (codes "mesa"))
breaks p f k fault.Word slot.Held w = not (bytes_eq w (codes "held"))
breaks p f k fault.Name slot.NewName w =
    not (is_name w) || bytes_eq w (codes "main") || list_any (λ name. bytes_eq name w) p.earlier
breaks p f k fault.Unknown slot.KnownName w = is_none k
breaks p f k fault.Kind slot.KnownName w = is_of_another_kind f k
breaks p f k fault.Number (slot.Number least most) w = is_none (number_of least most w)
breaks p f k fault.Number slot.Condition w = is_none (number_of (pos 0) (conditions_of k -ℤ pos 1) w)
breaks p f k fault.Number slot.Value w = not (begins_with_r w) && is_none (number_of LEAST_NUMBER GREATEST_NUMBER w)
breaks p f k fault.Register slot.Register w = is_none (register_of w)
breaks p f k fault.Register slot.Value w = begins_with_r w && is_none (register_of w)
breaks p f k other s w = false

-- One of the words breaks it in its slot. A word that isn't there breaks nothing.
abbrev pub one_breaks : Place → FirstWord → Option Kind → Fault → List Slot → List (List ℕ) → Bool
one_breaks p f k about [] ws = false
one_breaks p f k about (s ∷ ss) [] = false
one_breaks p f k about (s ∷ ss) (w ∷ ws) = breaks p f k about s w || one_breaks p f k about ss ws

-- The line opens a block.
abbrev pub opens : FirstWord → Bool
opens first.Repeat = true
opens first.While = true
opens first.If = true
opens f = false

-- The line ends the innermost block, which is a loop without a call directly in its body.
abbrev pub ends_idle : FirstWord → List Block → Bool
ends_idle first.End (Loop false ∷ blocks) = true
ends_idle f blocks = false

-- The line declares an object or a thread, or is an instruction, and there are as many before as may be.
abbrev pub is_beyond : Place → FirstWord → Bool
is_beyond p (first.Declares declares.Thread) = nat_le MOST_OBJECTS p.objects || nat_le MOST_THREADS p.threads
is_beyond p (first.Declares d) = nat_le MOST_OBJECTS p.objects
is_beyond p first.End = false
is_beyond p f = nat_le MOST_INSTRUCTIONS p.instructions

-- The kind of fault applies to the line of these words, which has this first word.
abbrev pub applies : Place → FirstWord → Option Kind → List (List ℕ) → Fault → Bool
applies p f k ws fault.Word = not (is_allowed p.inside f) || one_breaks p f k fault.Word (slots_of f) (drop 1 ws)
applies p f k ws fault.Count = not (has_count f (length ws))
applies p f k ws fault.Depth = opens f && nat_le MOST_BLOCKS (length p.blocks)
applies p f k ws fault.Idle = ends_idle f p.blocks
applies p f k ws fault.Limit = is_beyond p f
applies p f k ws other = one_breaks p f k other (slots_of f) (drop 1 ws)

-- The kinds of fault of words, in the order in which they are looked for.
abbrev pub word_faults : List Fault
word_faults =
    fault.Word ∷ fault.Count ∷ fault.Name ∷ fault.Unknown ∷ fault.Kind ∷ fault.Number ∷ fault.Register ∷ fault.Depth
    ∷ fault.Idle ∷ fault.Limit ∷ []

-- What is wrong with words, of which the first is this first word, or no first word at all.
abbrev pub fault_of_words : Place → Option Kind → List (List ℕ) → Option FirstWord → Option Fault
fault_of_words p k ws None = Some fault.Word
fault_of_words p k ws (Some f) = find (applies p f k ws) word_faults

-- What is wrong with a line that isn't ignored, where the text's names have these kinds: a byte that may not
-- stand there, or else the first kind of fault that applies to its words.
abbrev pub fault_of_line : (List ℕ → Option Kind) → Place → List ℕ → Option Fault
fault_of_line named p line =
    if list_all is_printed line
    then fault_of_words p (named (word_at 1 (words_of line))) (words_of line) (first_word_of (word_at 0 (words_of line)))
    else Some fault.Byte

-- The place after an instruction, which leaves these blocks open.
abbrev pub after_instruction : Place → List Block → Place
after_instruction p blocks = record {
  inside = p.inside;
  earlier = p.earlier;
  objects = p.objects;
  threads = p.threads;
  instructions = p.instructions + 1;
  blocks = blocks;
}

-- The place after the declaration of an object with this name.
abbrev pub after_declaration : Place → List ℕ → Place
after_declaration p name = record {
  inside = false;
  earlier = name ∷ p.earlier;
  objects = p.objects + 1;
  threads = p.threads;
  instructions = 0;
  blocks = [];
}

-- The place after that of a thread.
abbrev pub after_thread : Place → List ℕ → Place
after_thread p name = record {
  inside = true;
  earlier = name ∷ p.earlier;
  objects = p.objects + 1;
  threads = p.threads + 1;
  instructions = 0;
  blocks = [];
}

-- The place after an `end`: of the innermost block, or where none is open of the thread.
abbrev pub after_end : Place → List Block → Place
after_end p [] = record { inside = false; earlier = p.earlier; objects = p.objects; threads = p.threads; instructions = 0; blocks = [] }
after_end p (block ∷ blocks) = record {
  inside = p.inside;
  earlier = p.earlier;
  objects = p.objects;
  threads = p.threads;
  instructions = p.instructions;
  blocks = blocks;
}

-- The place after a line with this first word and this second one.
abbrev pub place_after : Place → FirstWord → List ℕ → Place
place_after p (first.Declares declares.Thread) name = after_thread p name
place_after p (first.Declares d) name = after_declaration p name
place_after p (first.Calls c) name = after_instruction p (with_call p.blocks)
place_after p first.Set name = after_instruction p p.blocks
place_after p first.Inc name = after_instruction p p.blocks
place_after p first.Repeat name = after_instruction p (Loop false ∷ p.blocks)
place_after p first.While name = after_instruction p (Loop false ∷ p.blocks)
place_after p first.If name = after_instruction p (Choice ∷ p.blocks)
place_after p first.End name = after_end p p.blocks

-- The place after a line of these words; one that begins with no first word leaves it as it is.
abbrev pub place_by_first : Place → Option FirstWord → List ℕ → Place
place_by_first p (Some f) name = place_after p f name
place_by_first p None name = p

abbrev pub place_by : Place → List (List ℕ) → Place
place_by p ws = place_by_first p (first_word_of (word_at 0 ws)) (word_at 1 ws)
