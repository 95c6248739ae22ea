-- The first words of lines, where they may stand, and what the words after them have to be.
use Rattle.std.specs.Prelude.{ℕ, suc, pos, Bool, true, not, ◌&&◌, ◌||◌, ◌==◌, List, [], ◌∷◌, ◌++◌, map, length, codes, Option}
use Rattle.std.specs.List.{find}
use Rattle.std.specs.Str.{bytes_eq}
use Rattle.tm_base.specs.declared.opcodes.Opcode.{Opcode}
use Rattle.tm_base.specs.declared.opcodes.Opcode.TheVariants as opcode
use Rattle.tm_base.specs.Opcodes.{word_of}
use Rattle.tm_lines.specs.declared.first_words.Declarator.{Declarator}
use Rattle.tm_lines.specs.declared.first_words.Declarator.TheVariants as declares
use Rattle.tm_lines.specs.declared.first_words.FirstWord.{FirstWord}
use Rattle.tm_lines.specs.declared.first_words.FirstWord.TheVariants as first
use Rattle.tm_lines.specs.declared.first_words.Slot.{Slot}
use Rattle.tm_lines.specs.declared.first_words.Slot.TheVariants as slot
use Rattle.tm_lines.specs.declared.limits.TheConstants.{GREATEST_NUMBER, LEAST_NUMBER, MOST_CAPACITY, MOST_CONDITIONS, MOST_PARTIES, MOST_START, MOST_TURNS}

-- The word that declares an object of a kind.
abbrev pub declarator_word : Declarator → List ℕ
declarator_word declares.Mutex = codes "mutex"
declarator_word declares.Rwlock = codes "rwlock"
declarator_word declares.Sync = codes "sync"
declarator_word declares.Sem = codes "sem"
declarator_word declares.Monitor = codes "monitor"
declarator_word declares.Barrier = codes "barrier"
declarator_word declares.Async = codes "async"
declarator_word declares.Var = codes "var"
declarator_word declares.Thread = codes "thread"

-- How a first word is spelled.
abbrev pub spelling : FirstWord → List ℕ
spelling (first.Declares d) = declarator_word d
spelling (first.Calls c) = word_of c
spelling first.Set = codes "set"
spelling first.Inc = codes "inc"
spelling first.Repeat = codes "repeat"
spelling first.While = codes "while"
spelling first.If = codes "if"
spelling first.End = codes "end"

abbrev pub declarators : List Declarator
declarators =
    declares.Mutex ∷ declares.Rwlock ∷ declares.Sync ∷ declares.Sem ∷ declares.Monitor ∷ declares.Barrier ∷ declares.Async
    ∷ declares.Var ∷ declares.Thread ∷ []

-- The word begins with these bytes, as far as it has two.
abbrev pub begins_with : ℕ → ℕ → List ℕ → Bool
begins_with a b [] = true
begins_with a b (x ∷ []) = x == a
begins_with a b (x ∷ y ∷ w) = x == a && y == b

-- The operations that a program can ask.
abbrev pub asked_opcodes : List Opcode
asked_opcodes =
    opcode.Lock ∷ opcode.TryLock ∷ opcode.Unlock ∷ opcode.P ∷ opcode.TryP ∷ opcode.V ∷ opcode.Enter ∷ opcode.Leave
    ∷ opcode.Wait ∷ opcode.Signal ∷ opcode.Broadcast ∷ opcode.Arrive ∷ opcode.RLock ∷ opcode.RUnlock ∷ opcode.WLock
    ∷ opcode.WUnlock ∷ opcode.Send ∷ opcode.Recv ∷ opcode.Close ∷ opcode.Read ∷ opcode.Write ∷ opcode.Add
    ∷ opcode.Start ∷ opcode.Join ∷ []

-- The first words that neither declare nor call.
abbrev pub own_words : List FirstWord
own_words = first.Set ∷ first.Inc ∷ first.Repeat ∷ first.While ∷ first.If ∷ first.End ∷ []

abbrev pub first_words : List FirstWord
first_words = map first.Declares declarators ++ map first.Calls asked_opcodes ++ own_words

-- The first word that is spelled so, where there is one.
abbrev pub first_word_of : List ℕ → Option FirstWord
first_word_of word = find (λ f. bytes_eq (spelling f) word) first_words

-- The first word may stand inside a thread, or outside of each.
abbrev pub is_allowed : Bool → FirstWord → Bool
is_allowed inside (first.Declares d) = not inside
is_allowed inside f = inside

-- A number from the least to the greatest of 64 bits.
abbrev pub any_number : Slot
any_number = slot.Number LEAST_NUMBER GREATEST_NUMBER

abbrev pub declarator_slots : Declarator → List Slot
declarator_slots declares.Sem = slot.NewName ∷ slot.Number (pos 0) MOST_START ∷ []
declarator_slots declares.Monitor = slot.NewName ∷ slot.Discipline ∷ slot.Number (pos 1) MOST_CONDITIONS ∷ []
declarator_slots declares.Barrier = slot.NewName ∷ slot.Number (pos 1) MOST_PARTIES ∷ []
declarator_slots declares.Async = slot.NewName ∷ slot.Number (pos 1) MOST_CAPACITY ∷ []
declarator_slots declares.Var = slot.NewName ∷ any_number ∷ []
declarator_slots declares.Thread = slot.NewName ∷ slot.Held ∷ []
declarator_slots d = slot.NewName ∷ []

abbrev pub operand_slots : Opcode → List Slot
operand_slots opcode.TryLock = slot.Register ∷ []
operand_slots opcode.TryP = slot.Register ∷ []
operand_slots opcode.Recv = slot.Register ∷ []
operand_slots opcode.Read = slot.Register ∷ []
operand_slots opcode.Wait = slot.Condition ∷ []
operand_slots opcode.Signal = slot.Condition ∷ []
operand_slots opcode.Broadcast = slot.Condition ∷ []
operand_slots opcode.Send = slot.Value ∷ []
operand_slots opcode.Write = slot.Value ∷ []
operand_slots opcode.Add = slot.Value ∷ []
operand_slots c = []

-- What the words after a first word have to be, one after the other.
abbrev pub slots_of : FirstWord → List Slot
slots_of (first.Declares d) = declarator_slots d
slots_of (first.Calls c) = slot.KnownName ∷ operand_slots c
slots_of first.Set = slot.Register ∷ any_number ∷ []
slots_of first.Inc = slot.Register ∷ any_number ∷ []
slots_of first.Repeat = slot.Number (pos 0) MOST_TURNS ∷ []
slots_of first.While = slot.Register ∷ slot.Comparison ∷ any_number ∷ []
slots_of first.If = slot.Register ∷ slot.Comparison ∷ any_number ∷ []
slots_of first.End = []

-- A line with this first word may have so many words: one for each slot, and `held` may be left out.
abbrev pub has_count : FirstWord → ℕ → Bool
has_count (first.Declares declares.Thread) n = n == 2 || n == 3
has_count f n = n == suc (length (slots_of f))
