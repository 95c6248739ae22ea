use Rattle.std.proofs.Common.{◌≡◌, ◌+◌, ◌-◌, ◌*◌, ℕ, length, map, codes}
use Rattle.std.specs.List.{range_with_len}
use Rattle.tm_makers.specs.Drafts.{Thread, with_parts}
use Rattle.tm_makers.specs.LineForms.{numbered}
use Rattle.tm_makers.specs.LargeExercises.{drawn}
use Rattle.tm_makers.proofs.LargeLayout.{drawn_program}
use Rattle.tm_makers.proofs.large_exercises.large.Given as goal

abbrev pub invariant-loop-i : goal.invariant-loop-i
invariant-loop-i l = record {
  drafted : l.draft ≡ with_parts l.initial.draft (map (λ (i : ℕ). Thread (numbered (codes "T") i) (drawn_program l.fn.number i)) (range_with_len 1 (l.i - 1)));
  threads : length l.draft.programs + 1 ≡ l.i;
  draw : l.draw ≡ drawn l.fn.number (3 * (l.i - 1));
}
