use Rattle.std.proofs.Common.{◌≡◌, ℕ, ◌<◌, get_or, length, []}
use Rattle.clap.specs.Walk.{texts}
use Rattle.tm_words.specs.Numbers.{IsNumber}
use Rattle.tm_words.proofs.make_words.sizes.Given as goal

abbrev pub invariant-loop-i : goal.invariant-loop-i
invariant-loop-i g l = record {
  sized : length l.sizes ≡ g.row.N;
  read : (k : ℕ) → k < l.i → IsNumber (get_or (texts l.words) k []) (get_or l.sizes k 0);
}
