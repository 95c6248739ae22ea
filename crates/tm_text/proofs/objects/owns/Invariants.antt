use Rattle.std.proofs.Common.{◌≡◌, ◌++◌, drop}
use Rattle.tm_text.specs.Objects.{owns_of}
use Rattle.tm_text.proofs.objects.owns.Given as goal

abbrev pub invariant-loop-object : goal.invariant-loop-object
invariant-loop-object l = l.owns.items ++ owns_of l.object (drop l.object l.objects) ≡ owns_of 0 l.objects
