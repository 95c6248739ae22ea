use Rattle.std.proofs.Common.{◌≡◌, ℕ, length, map, codes}
use Rattle.std.specs.List.{range_with_len}
use Rattle.tm_makers.specs.Drafts.{Thread, with_parts}
use Rattle.tm_makers.specs.LineForms.{numbered}
use Rattle.tm_makers.specs.PhilosopherPrograms.{philosopher_program}
use Rattle.tm_makers.proofs.philosophers.philosophers.Given as goal

abbrev pub invariant-loop-i : goal.invariant-loop-i
invariant-loop-i l = record {
  drafted : l.draft ≡ with_parts l.initial.draft (map (λ (i : ℕ). Thread (numbered (codes "P") i) (philosopher_program l.n l.rounds l.way i)) (range_with_len 0 l.i));
  threads : length l.draft.programs ≡ l.i;
}
