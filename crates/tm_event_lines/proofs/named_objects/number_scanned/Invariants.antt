use Rattle.std.proofs.Common.{◌≡◌, drop}
use Rattle.tm_text.specs.Texts.{number_in}
use Rattle.tm_event_lines.proofs.named_objects.number_scanned.Given as goal

abbrev pub invariant-loop-object : goal.invariant-loop-object
invariant-loop-object l = number_in l.object (drop l.object l.exercise.objects) l.name ≡ number_in 0 l.exercise.objects l.name
