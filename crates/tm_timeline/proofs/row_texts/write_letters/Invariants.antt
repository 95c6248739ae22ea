use Rattle.std.proofs.Common.{◌≡◌, flat_map, length, take}
use Rattle.tm_timeline.specs.Words.{bar_letter}
use Rattle.tm_timeline.proofs.row_texts.write_letters.Given as goal

-- The letters of the bars before this one are written.
abbrev pub invariant-loop-index : goal.invariant-loop-index
invariant-loop-index l = record {
  written : take l.index l.letters ≡ flat_map bar_letter (take l.index l.bars);
  len : length l.letters ≡ length l.bars;
}
