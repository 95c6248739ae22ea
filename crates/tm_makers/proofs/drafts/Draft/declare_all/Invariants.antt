use Rattle.std.proofs.Common.{◌≡◌}
use Rattle.tm_makers.specs.Drafts.{objects_of, with_parts}
use Rattle.tm_makers.proofs.drafts.Draft.declare_all.Given as goal

abbrev pub invariant-loop-i : goal.invariant-loop-i
invariant-loop-i l = record {
  drafted : l.self ≡ with_parts l.initial.self (objects_of l.word l.i l.kind);
  programs : l.self.programs ≡ l.initial.self.programs;
}
