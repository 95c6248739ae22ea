use Rattle.std.proofs.Common.{◌≡◌, drop}
use Rattle.tm_lines.specs.Numerals.{digits_after}
use Rattle.tm_lines.proofs.numerals.natural.Given as goal

abbrev pub invariant-loop-digit : goal.invariant-loop-digit
invariant-loop-digit l = digits_after l.value (drop l.digit-index l.digits) ≡ digits_after 0 l.digits
