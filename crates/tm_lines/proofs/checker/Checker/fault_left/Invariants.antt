use Rattle.std.proofs.Common.{◌≡◌, length}
use Rattle.tm_lines.specs.Checks.{fault_left}
use Rattle.tm_lines.specs.TextFaults.{text_lines}
use Rattle.tm_lines.proofs.checker.Checker.fault_left.Given as goal

abbrev pub invariant-loop-self : goal.invariant-loop-self
invariant-loop-self l = fault_left l.self ≡ fault_left l.initial.self

abbrev pub decreases-loop-self : goal.decreases-loop-self
decreases-loop-self l = length (text_lines l.self.rest)
