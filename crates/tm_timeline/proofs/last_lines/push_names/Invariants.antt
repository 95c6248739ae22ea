use Rattle.std.proofs.Common.{◌≡◌, ◌++◌, take}
use Rattle.tm_timeline.specs.Rows.{names_text}
use Rattle.tm_timeline.proofs.last_lines.push_names.Given as goal

abbrev pub invariant-loop-thread : goal.invariant-loop-thread
invariant-loop-thread l = l.out.items ≡ l.initial.out.items ++ names_text l.exercise (take l.thread-index l.threads)
