use Rattle.std.proofs.Common.{◌≡◌}
use Rattle.tm_makers.specs.Drafts.{with_parts}
use Rattle.tm_makers.specs.LargePrograms.{sem_parts}
use Rattle.tm_makers.proofs.large_exercises.declare_semaphores.Given as goal

abbrev pub invariant-loop-i : goal.invariant-loop-i
invariant-loop-i l = record {
  drafted : l.draft ≡ with_parts l.initial.draft (sem_parts l.i);
  programs : l.draft.programs ≡ l.initial.draft.programs;
}
