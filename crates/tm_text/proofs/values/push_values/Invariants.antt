use Rattle.std.proofs.Common.{◌≡◌, ◌++◌, take}
use Rattle.tm_text.specs.CanonicalTexts.{values_text}
use Rattle.tm_text.proofs.values.push_values.Given as goal

abbrev pub invariant-loop-value : goal.invariant-loop-value
invariant-loop-value l = l.out.items ≡ l.initial.out.items ++ values_text (take l.value-index l.values)
