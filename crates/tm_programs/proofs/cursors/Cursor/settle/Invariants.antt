use Rattle.std.proofs.Common.{◌≡◌}
use Rattle.tm_programs.specs.Programs.{until_call}
use Rattle.tm_programs.specs.Running.{Stands, program_left, work}
use Rattle.tm_programs.proofs.cursors.Cursor.settle.Given as goal

abbrev pub invariant-loop-instruction : goal.invariant-loop-instruction
invariant-loop-instruction l = record {
  same : until_call (program_left l.code l.self) l.self.registers ≡ until_call
      (program_left l.code l.initial.self) l.initial.self.registers;
  stands : Stands l.code l.self;
}

abbrev pub decreases-loop-instruction : goal.decreases-loop-instruction
decreases-loop-instruction l = work l.code l.self
