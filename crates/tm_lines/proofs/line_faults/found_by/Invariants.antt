use Rattle.std.proofs.Common.{◌≡◌, ℕ, ◌+◌, List, drop}
use Rattle.tm_lines.specs.Found.{found_by, or_found}
use Rattle.tm_lines.specs.Saying.{AreFirst}
use Rattle.tm_lines.proofs.line_faults.found_by.Given as goal

abbrev pub invariant-loop-i : goal.invariant-loop-i
invariant-loop-i l =
    (ws : List (List ℕ)) → AreFirst l.words ws → or_found l.found (found_by l.place l.first l.kind (drop l.i l.slots) (drop (l.i + 1) ws)) ≡ found_by l.place l.first l.kind l.slots (drop 1 ws)
