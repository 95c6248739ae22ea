use Rattle.tm_programs.proofs.Exits.{Known}
use Rattle.tm_programs.proofs.code.exits_of.Given as goal

abbrev pub invariant-loop-place : goal.invariant-loop-place
invariant-loop-place l = Known l.instructions l.open.items l.exits.items l.place
