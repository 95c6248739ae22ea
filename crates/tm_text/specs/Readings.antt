-- How a text is read, line by line.
use Rattle.std.specs.Prelude.{◌≡◌, ℕ, ◌<◌, List, length, Option, Some, None}
use Rattle.tm_programs.specs.declared.instructions.Instruction.{Instruction}
use Rattle.tm_lines.specs.declared.faults.FaultyLine.{FaultyLine}
use Rattle.tm_lines.specs.Checks.{Check, before, fault_left}
use Rattle.tm_lines.specs.TextFaults.{said_words, text_lines}
use Rattle.tm_text.specs.declared.text_faults.TextFault.{TextFault}
use Rattle.tm_text.specs.declared.text_faults.TextFault.TheVariants as refusal
use Rattle.tm_text.specs.Objects.{DeclaredObjects, Declares, IsDeclarable, declarations_of, with_lines}
use Rattle.tm_text.specs.SpelledPrograms.{Spelled, with_said}
use Rattle.tm_text.specs.Texts.{programs_said}

-- The text is refused rightly: a line is answered only where it is the first faulty one. Memory can run out at
-- any time.
abbrev pub Refuses : TextFault → Option FaultyLine → Type 0
Refuses (refusal.Line line kind) found = found ≡ Some (record { line = line; kind = kind })
Refuses refusal.NoMemory found = Unit {0}

-- After one line more, what is left has the same faults, declares the same objects and spells the same programs as
-- before.
pub record GoesOn (old new : Check) (a b : DeclaredObjects) (v w : Spelled) : Type 0 where
  pub fault : fault_left new ≡ fault_left old
  pub text : new.text ≡ old.text
  pub shorter : length (text_lines new.rest) < length (text_lines old.rest)
  pub objects : IsDeclarable (with_lines a (said_words (text_lines old.rest)))
      → with_lines b (said_words (text_lines new.rest)) ≡ with_lines a (said_words (text_lines old.rest))
  pub programs : with_said (declarations_of old.text) w (said_words (text_lines new.rest))
      ≡ with_said (declarations_of old.text) v (said_words (text_lines old.rest))

-- No line is faulty, and these are the objects of the text, if they can be declared, and its programs.
pub record IsWhole (text : List ℕ) (v : DeclaredObjects) (ps : List (List Instruction)) : Type 0 where
  pub faultless : fault_left (before text) ≡ None
  pub objects : Declares text v
  pub programs : ps ≡ programs_said (declarations_of text) 0 (said_words (text_lines text))
