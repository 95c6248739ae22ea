-- What the words of an event line say.
use Rattle.std.specs.Prelude.{ℕ, ℤ, pos, nat_abs, ◌-ℤ◌, Bool, false, true, if◌then◌else◌, List, ◌==◌, codes, slice_get, Option, Some, option_map, option_and_then}
use Rattle.std.specs.List.{after_first, before_first}
use Rattle.std.specs.Option.{unwrap_or}
use Rattle.std.specs.Str.{bytes_eq}
use Rattle.tm_base.specs.declared.events.Entry.{Entry}
use Rattle.tm_base.specs.declared.opcodes.Opcode.{Opcode}
use Rattle.tm_base.specs.declared.opcodes.Opcode.TheVariants as opcode
use Rattle.tm_base.specs.declared.operations.Op.{Op}
use Rattle.tm_base.specs.declared.operations.Op.TheVariants as op
use Rattle.tm_base.specs.declared.replies.Reply.{Reply}
use Rattle.tm_base.specs.declared.replies.Reply.TheVariants as reply
use Rattle.tm_base.specs.Opcodes.{op_with}
use Rattle.tm_lines.specs.declared.limits.TheConstants.{GREATEST_NUMBER, LEAST_NUMBER, MOST_CONDITIONS}
use Rattle.tm_lines.specs.Numerals.{number_of}
use Rattle.tm_text.specs.declared.exercises.Declaration.{Declaration}
use Rattle.tm_text.specs.Exercises.{thread_of}
use Rattle.tm_text.specs.Texts.{number_in}
use Rattle.tm_event_lines.specs.declared.event_names.EventNames.{EventNames}
use Rattle.tm_event_lines.specs.declared.event_numbers.EventNumbers.{EventNumbers}
use Rattle.tm_event_lines.specs.EventWords.{Parts, is_gave, operation_of, reply_of}

-- The name in the word of a thread or an object: what stands before its first `.`.
abbrev pub name_in : List ℕ → List ℕ
name_in word = before_first (λ b. b == 46) word

-- The place in the word: what stands behind its first `.`, and nothing where it has none.
abbrev pub place_in : List ℕ → List ℕ
place_in word = after_first (λ b. b == 46) word

-- The thread whose own object has this number, where it is one.
abbrev pub thread_at : List Declaration → ℕ → Option ℕ
thread_at ds o = option_and_then thread_of (slice_get ds o)

-- The thread with a program that has the name, which is that of its own object.
abbrev pub thread_in : List Declaration → List ℕ → Option ℕ
thread_in ds name = option_and_then (thread_at ds) (number_in 0 ds name)

-- The thread with the name; `main` is thread 0.
abbrev pub thread_named : List Declaration → List ℕ → Option ℕ
thread_named ds name = if bytes_eq name (codes "main") then Some 0 else thread_in ds name

-- The thread that the reply names, which has a program; 0 where the reply names none.
abbrev pub granted_of : List Declaration → Parts → Option ℕ
granted_of ds p = if is_gave p.reply then thread_in ds p.detail else Some 0

-- A number that counts from 1.
abbrev pub counted_of : List ℕ → Option ℕ
counted_of word = option_map nat_abs (number_of (pos 1) GREATEST_NUMBER word)

-- The number of a condition that some monitor can have.
abbrev pub condition_of : List ℕ → Option ℕ
condition_of word = option_map nat_abs (number_of (pos 0) (MOST_CONDITIONS -ℤ pos 1) word)

-- A value.
abbrev pub value_of : List ℕ → Option ℤ
value_of word = number_of LEAST_NUMBER GREATEST_NUMBER word

-- The threads and the object that the words name, and 0 where they name none.
abbrev pub names_said : List Declaration → Parts → EventNames
names_said ds p = record {
  thread = unwrap_or (thread_named ds (name_in p.thread)) 0;
  object = unwrap_or (number_in 0 ds (name_in p.object)) 0;
  granted = unwrap_or (granted_of ds p) 0;
}

-- The numbers that the words write, and 0 where they write none.
abbrev pub numbers_said : Parts → EventNumbers
numbers_said p = record {
  stamp = unwrap_or (counted_of p.stamp) 0;
  place = unwrap_or (counted_of (place_in p.thread)) 0;
  at = unwrap_or (counted_of (place_in p.object)) 0;
  condition = unwrap_or (condition_of p.operand) 0;
  operand = unwrap_or (value_of p.operand) (pos 0);
  detail = unwrap_or (value_of p.detail) (pos 0);
}

-- The reply is that of an `end` that is cut.
abbrev pub is_cut : Reply → Bool
is_cut reply.Cut = true
is_cut r = false

-- The operation with its operand; an `end` is cut exactly where its reply is `cut`.
abbrev pub op_said : Opcode → ℕ → ℤ → Reply → Op
op_said opcode.End condition value r = op.End (is_cut r)
op_said c condition value r = op_with c condition value

-- The operation and the reply of these words, which have these names and numbers.
abbrev pub reply_by : Parts → EventNames → EventNumbers → Reply
reply_by p names numbers = unwrap_or (reply_of names.granted numbers.detail p.reply) reply.Ok

abbrev pub op_by : Parts → EventNames → EventNumbers → Op
op_by p names numbers =
    op_said (unwrap_or (operation_of p.operation) opcode.Stop) numbers.condition numbers.operand (reply_by p names numbers)

-- The event of these words, which have these names and numbers.
abbrev pub entry_by : Parts → EventNames → EventNumbers → Entry
entry_by p names numbers = record {
  thread = names.thread;
  place = numbers.place;
  object = names.object;
  at = numbers.at;
  stamp = numbers.stamp;
  op = op_by p names numbers;
  reply = reply_by p names numbers;
}

-- The event that the words say.
abbrev pub entry_said : List Declaration → Parts → Entry
entry_said ds p = entry_by p (names_said ds p) (numbers_said p)
