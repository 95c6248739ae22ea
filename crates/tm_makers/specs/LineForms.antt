-- Lines of texts of exercises, in the words of the texts.
use Rattle.std.specs.Prelude.{ℕ, pos, negsuc, Bool, ◌&&◌, nat_le, List, [], ◌∷◌, ◌++◌}
use Rattle.std.specs.Fmt.{decimal}
use Rattle.tm_base.specs.declared.opcodes.Opcode.{Opcode}
use Rattle.tm_base.specs.declared.opcodes.Opcode.TheVariants as opcode
use Rattle.tm_programs.specs.declared.instructions.Comparison.TheVariants as comparison
use Rattle.tm_lines.specs.declared.first_words.Declarator.{Declarator}
use Rattle.tm_lines.specs.declared.first_words.Declarator.TheVariants as declares
use Rattle.tm_lines.specs.declared.first_words.FirstWord.TheVariants as first
use Rattle.tm_text.specs.declared.values.Value.{Value}
use Rattle.tm_text.specs.declared.values.Value.TheVariants as value
use Rattle.tm_text.specs.SpelledLines.{SpelledLine, end_line}

-- A word with a number behind it, as in `f12`.
abbrev pub numbered : List ℕ → ℕ → List ℕ
numbered word i = word ++ decimal i

-- The number is one of these.
abbrev pub is_within : ℕ → ℕ → ℕ → Bool
is_within least most n = nat_le least n && nat_le n most

-- A number and register 0, as words of a line.
abbrev pub number : ℕ → Value
number n = value.Number (pos n)

abbrev pub r0 : Value
r0 = value.Register 0

-- A line that declares an object of this name.
abbrev pub declares_line : Declarator → List ℕ → List Value → SpelledLine
declares_line d name values = record { first = first.Declares d; values = value.Name name ∷ values }

abbrev pub mutex : List ℕ → SpelledLine
mutex name = declares_line declares.Mutex name []

abbrev pub sem : List ℕ → ℕ → SpelledLine
sem name start = declares_line declares.Sem name (number start ∷ [])

abbrev pub monitor : List ℕ → Value → ℕ → SpelledLine
monitor name discipline conditions =
    declares_line declares.Monitor name (discipline ∷ number conditions ∷ [])

abbrev pub rwlock : List ℕ → SpelledLine
rwlock name = declares_line declares.Rwlock name []

abbrev pub sync : List ℕ → SpelledLine
sync name = declares_line declares.Sync name []

abbrev pub var : List ℕ → ℕ → SpelledLine
var name start = declares_line declares.Var name (number start ∷ [])

-- A line of a call, with what stands behind the object's name.
abbrev pub call : Opcode → List ℕ → List Value → SpelledLine
call code name values = record { first = first.Calls code; values = value.Name name ∷ values }

abbrev pub lock : List ℕ → SpelledLine
lock name = call opcode.Lock name []

abbrev pub unlock : List ℕ → SpelledLine
unlock name = call opcode.Unlock name []

abbrev pub p : List ℕ → SpelledLine
p name = call opcode.P name []

abbrev pub v : List ℕ → SpelledLine
v name = call opcode.V name []

abbrev pub enter : List ℕ → SpelledLine
enter name = call opcode.Enter name []

abbrev pub leave : List ℕ → SpelledLine
leave name = call opcode.Leave name []

abbrev pub wait : List ℕ → ℕ → SpelledLine
wait name condition = call opcode.Wait name (number condition ∷ [])

abbrev pub signal : List ℕ → ℕ → SpelledLine
signal name condition = call opcode.Signal name (number condition ∷ [])

abbrev pub rlock : List ℕ → SpelledLine
rlock name = call opcode.RLock name []

abbrev pub runlock : List ℕ → SpelledLine
runlock name = call opcode.RUnlock name []

abbrev pub wlock : List ℕ → SpelledLine
wlock name = call opcode.WLock name []

abbrev pub wunlock : List ℕ → SpelledLine
wunlock name = call opcode.WUnlock name []

abbrev pub send : List ℕ → Value → SpelledLine
send name sent = call opcode.Send name (sent ∷ [])

abbrev pub recv : List ℕ → SpelledLine
recv name = call opcode.Recv name (r0 ∷ [])

abbrev pub read : List ℕ → SpelledLine
read name = call opcode.Read name (r0 ∷ [])

-- `add N 1` and `add N -1`.
abbrev pub add_one : List ℕ → SpelledLine
add_one name = call opcode.Add name (value.Number (pos 1) ∷ [])

abbrev pub take_one : List ℕ → SpelledLine
take_one name = call opcode.Add name (value.Number (negsuc 0) ∷ [])

-- A line, a body, and the `end` of both.
abbrev pub block : SpelledLine → List SpelledLine → List SpelledLine
block head body = head ∷ body ++ end_line ∷ []

abbrev pub thread : List ℕ → List SpelledLine → List SpelledLine
thread name body = block (declares_line declares.Thread name []) body

abbrev pub repeats : ℕ → List SpelledLine → List SpelledLine
repeats turns body = block (record { first = first.Repeat; values = number turns ∷ [] }) body

-- `if r0 = k`, and `while r0 = k`.
abbrev pub if_equal : ℕ → List SpelledLine → List SpelledLine
if_equal k body =
    block (record { first = first.If; values = r0 ∷ value.Comparison comparison.Equal ∷ number k ∷ [] }) body

abbrev pub while_equal : ℕ → List SpelledLine → List SpelledLine
while_equal k body =
    block (record { first = first.While; values = r0 ∷ value.Comparison comparison.Equal ∷ number k ∷ [] }) body
