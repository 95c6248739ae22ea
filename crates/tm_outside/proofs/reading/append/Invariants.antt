use Rattle.std.proofs.Common.{◌≡◌, ◌++◌, length}
use Rattle.tm_outside.proofs.reading.append.Given as goal

-- What was appended and what is left are all bytes.
abbrev pub invariant-loop-rest : goal.invariant-loop-rest
invariant-loop-rest l = l.bytes.items ++ l.rest ≡ l.initial.bytes.items ++ l.more

abbrev pub decreases-loop-rest : goal.decreases-loop-rest
decreases-loop-rest l = length l.rest
