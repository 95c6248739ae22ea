use Rattle.std.proofs.Common.{◌≡◌, length}
use Rattle.tm_lines.specs.Checks.{before, fault_left}
use Rattle.tm_lines.specs.TextFaults.{said_words, text_lines}
use Rattle.tm_text.specs.Objects.{IsDeclarable, declarations_of, with_lines}
use Rattle.tm_text.specs.SpelledPrograms.{with_said}
use Rattle.tm_text.specs.Texts.{programs_said}
use Rattle.tm_text.proofs.reader.parts.Given as goal

abbrev pub invariant-loop-alloc : goal.invariant-loop-alloc
invariant-loop-alloc l = record {
  fault : fault_left l.checker ≡ fault_left (before l.text);
  text : l.checker.text ≡ l.text;
  objects : IsDeclarable (declarations_of l.text) → with_lines l.objects (said_words (text_lines l.checker.rest)) ≡ declarations_of l.text;
  programs : with_said (declarations_of l.text) l.programs (said_words (text_lines l.checker.rest)) ≡ programs_said (declarations_of l.text) 0 (said_words (text_lines l.text));
}

abbrev pub decreases-loop-alloc : goal.decreases-loop-alloc
decreases-loop-alloc l = length (text_lines l.checker.rest)
