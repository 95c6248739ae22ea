use Rattle.std.proofs.Common.{◌≡◌, length, All}
use Rattle.tm_merge.specs.Lines.{IsNewLine}
use Rattle.tm_merge.proofs.arrivals.new_lines.Given as goal

abbrev pub invariant-loop : goal.invariant-loop
invariant-loop l = (length l.lines.items ≡ l.counter) × All IsNewLine l.lines.items
