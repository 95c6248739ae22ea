use Rattle.std.proofs.Common.{◌≡◌, ◌++◌, true, map, take}
use Rattle.std.specs.List.{list_all}
use Rattle.tm_text.specs.CanonicalTexts.{is_long, lines_text}
use Rattle.tm_text.specs.SpelledLines.{line_of_instruction}
use Rattle.tm_text.proofs.printer.push_program.Given as goal

abbrev pub invariant-loop-instruction : goal.invariant-loop-instruction
invariant-loop-instruction l = record {
  text : l.out.items ≡ l.initial.out.items ++ lines_text (map (line_of_instruction l.exercise.objects) (take l.instruction-index l.instructions));
  long : list_all (λ i. list_all is_long (line_of_instruction l.exercise.objects i).values) (take l.instruction-index l.instructions) ≡ true;
}
