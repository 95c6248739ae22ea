use Rattle.std.proofs.Common.{◌≡◌, true, flat_map, take}
use Rattle.tm_text.specs.CanonicalTexts.{are_long, lines_text}
use Rattle.tm_text.specs.SpelledLines.{lines_of_object}
use Rattle.tm_text.proofs.printer.print.Given as goal

abbrev pub invariant-loop-object : goal.invariant-loop-object
invariant-loop-object l = record {
  text : l.out.items ≡ lines_text (flat_map (lines_of_object l.exercise) (take l.object l.exercise.objects));
  long : are_long (flat_map (lines_of_object l.exercise) (take l.object l.exercise.objects)) ≡ true;
}
