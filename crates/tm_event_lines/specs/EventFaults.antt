-- What is wrong with an event line: one definition for each kind of fault, and the first kind that applies.
use Rattle.std.specs.Prelude.{ℕ, pos, Bool, true, false, not, ◌&&◌, ◌||◌, ◌==◌, List, [], ◌∷◌, codes, length, Option, is_none}
use Rattle.std.specs.List.{find, list_all, list_any}
use Rattle.tm_base.specs.Names.{is_digit}
use Rattle.tm_lines.specs.declared.faults.Fault.{Fault}
use Rattle.tm_lines.specs.declared.faults.Fault.TheVariants as fault
use Rattle.tm_lines.specs.Lines.{is_printed, words_of}
use Rattle.tm_text.specs.declared.exercises.Declaration.{Declaration}
use Rattle.tm_text.specs.Exercises.{ExerciseView}
use Rattle.tm_text.specs.Texts.{number_in}
use Rattle.tm_event_lines.specs.EventWords.{Parts, has_condition, has_value, is_got, operation_of, parts_of, reply_of, spells, takes_detail, takes_operand}
use Rattle.tm_event_lines.specs.SaidWords.{condition_of, counted_of, granted_of, name_in, place_in, thread_named, value_of}

-- The word isn't there.
abbrev pub is_missing : List ℕ → Bool
is_missing word = length word == 0

-- The operation's word is there, and spells none.
abbrev pub is_unknown_operation : List ℕ → Bool
is_unknown_operation word = not (is_missing word) && is_none (operation_of word)

-- The reply's word is there, and spells none.
abbrev pub is_unknown_reply : List ℕ → Bool
is_unknown_reply word = not (is_missing word) && is_none (reply_of 0 (pos 0) word)

-- `word`: the operation or the reply is there and unknown.
abbrev pub has_unknown_word : Parts → Bool
has_unknown_word p = is_unknown_operation p.operation || is_unknown_reply p.reply

-- The byte is the letter of a bar.
abbrev pub is_bar_letter : ℕ → Bool
is_bar_letter b = list_any (λ letter. letter == b) (codes "-RBGE")

-- Letters of bars and a `]` at the end.
abbrev pub closes_bars : List ℕ → Bool
closes_bars [] = false
closes_bars (b ∷ []) = b == 93
closes_bars (b ∷ c ∷ bs) = is_bar_letter b && closes_bars (c ∷ bs)

-- A word of bars: letters of bars between `[` and `]`.
abbrev pub is_bars : List ℕ → Bool
is_bars [] = false
is_bars (b ∷ bs) = b == 91 && closes_bars bs

-- The words behind an event's text are none, or one word of bars.
abbrev pub are_bars : List (List ℕ) → Bool
are_bars [] = true
are_bars (w ∷ []) = is_bars w
are_bars (w ∷ v ∷ ws) = false

-- The operand or the detail has to follow its word, and isn't there.
abbrev pub lacks_operand : Parts → Bool
lacks_operand p = takes_operand p.operation && is_missing p.operand

abbrev pub lacks_detail : Parts → Bool
lacks_detail p = takes_detail p.reply && is_missing p.detail

-- One of the words of an event's text isn't there.
abbrev pub lacks_word : Parts → Bool
lacks_word p =
    is_missing p.stamp || is_missing p.thread || is_missing p.object || is_missing p.operation || lacks_operand p
    || is_missing p.reply || lacks_detail p

-- `count`: one of the words isn't there, or there is one behind that isn't a word of bars at the end.
abbrev pub has_wrong_count : Parts → Bool
has_wrong_count p = lacks_word p || not (are_bars p.behind)

-- `unknown`: the thread is neither `main` nor one with a program, the object isn't one of the exercise, or the thread
-- that `gave` names has no program.
abbrev pub has_unknown_name : List Declaration → Parts → Bool
has_unknown_name ds p =
    is_none (thread_named ds (name_in p.thread))
    || is_none (number_in 0 ds (name_in p.object))
    || is_none (granted_of ds p)

-- The operand of the operation is out of its range.
abbrev pub has_wrong_operand : List ℕ → List ℕ → Bool
has_wrong_operand operation operand =
    (spells has_condition (operation_of operation) && is_none (condition_of operand))
    || (spells has_value (operation_of operation) && is_none (value_of operand))

-- The operand, or the value that the reply brings, is out of its range.
abbrev pub has_wrong_value : Parts → Bool
has_wrong_value p = has_wrong_operand p.operation p.operand || (is_got p.reply && is_none (value_of p.detail))

-- `number`: the word in front isn't digits; the stamp or a place isn't a number that counts from 1; or an operand or a
-- value is out of its range.
abbrev pub has_wrong_number : Parts → Bool
has_wrong_number p =
    not (list_all is_digit p.number)
    || is_none (counted_of p.stamp)
    || is_none (counted_of (place_in p.thread))
    || is_none (counted_of (place_in p.object))
    || has_wrong_value p

-- The kind of fault applies to the line with these parts.
abbrev pub applies : List Declaration → List ℕ → Parts → Fault → Bool
applies ds line p fault.Byte = not (list_all is_printed line)
applies ds line p fault.Word = has_unknown_word p
applies ds line p fault.Count = has_wrong_count p
applies ds line p fault.Unknown = has_unknown_name ds p
applies ds line p fault.Number = has_wrong_number p
applies ds line p other = false

-- The kinds of fault of event lines, in the order in which they are looked for.
abbrev pub event_faults : List Fault
event_faults = fault.Byte ∷ fault.Word ∷ fault.Count ∷ fault.Unknown ∷ fault.Number ∷ []

-- What is wrong with an event line of an exercise: the first kind of fault that applies.
abbrev pub event_fault : ExerciseView → List ℕ → Option Fault
event_fault x line = find (applies x.objects line (parts_of (words_of line))) event_faults
