use Rattle.std.proofs.Common.{◌≡◌, ◌+◌, length}
use Rattle.tm_makers.specs.Drafts.{threads_of, with_parts}
use Rattle.tm_makers.proofs.drafts.Draft.run_all.Given as goal

abbrev pub invariant-loop-i : goal.invariant-loop-i
invariant-loop-i l = record {
  drafted : l.self ≡ with_parts l.initial.self (threads_of l.word l.i l.program);
  threads : length l.self.programs ≡ length l.initial.self.programs + l.i;
}
