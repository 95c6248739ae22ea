-- What the reader of lines says of a line without a fault.
use Rattle.std.specs.Prelude.{◌≡◌, ℕ, false, ◌&&◌, nat_le, true, List, drop, length, Option, Some}
use Rattle.std.specs.List.{list_all}
use Rattle.tm_base.specs.declared.kinds.Kind.{Kind}
use Rattle.tm_base.specs.declared.opcodes.Opcode.{Opcode}
use Rattle.tm_programs.specs.declared.limits.TheConstants.{MOST_BLOCKS}
use Rattle.tm_lines.specs.declared.first_words.FirstWord.{FirstWord}
use Rattle.tm_lines.specs.declared.first_words.FirstWord.TheVariants.{Calls}
use Rattle.tm_lines.specs.declared.names.Known.{Known}
use Rattle.tm_lines.specs.declared.saying.Said.{Said}
use Rattle.tm_lines.specs.declared.words.Words.{Words}
use Rattle.tm_lines.specs.FirstWords.{first_word_of, has_count, operand_slots}
use Rattle.tm_lines.specs.Found.{found_by, nothing_found}
use Rattle.tm_lines.specs.KnownNames.{known_in, number_known}
use Rattle.tm_lines.specs.LineFaults.{Place, is_beyond, opens}
use Rattle.tm_lines.specs.Lines.{is_ignored, is_printed, words_of}
use Rattle.tm_lines.specs.NamedLines.{word_at}

-- The first four words of these, and how many these are.
pub record AreFirst (words : Words) (ws : List (List ℕ)) : Type 0 where
  pub first : words.first.now ≡ word_at 0 ws
  pub second : words.second.now ≡ word_at 1 ws
  pub third : words.third.now ≡ word_at 2 ws
  pub fourth : words.fourth.now ≡ word_at 3 ws
  pub count : words.count ≡ length ws

-- The words begin with this first word, spelled, and the second names this object by these lines.
pub record IsSaid (lines : List (List ℕ)) (said : Said) (ws : List (List ℕ)) : Type 0 where
  pub first : first_word_of (word_at 0 ws) ≡ Some said.first
  pub words : AreFirst said.words ws
  pub object : said.object ≡ number_known (known_in lines (word_at 1 ws))

-- A line of a text of these lines is read by the words that it begins with, where it isn't ignored and its bytes
-- print; this is known of the name that its second word may be.
pub record IsReadBy (lines : List (List ℕ)) (line : List ℕ) (words : Words) (known : Option Known) : Type 0 where
  pub said : is_ignored (words_of line) ≡ false
  pub printed : list_all is_printed line ≡ true
  pub first : AreFirst words (words_of line)
  pub name : known ≡ known_in lines (word_at 1 (words_of line))

-- There may be one more block, object, thread or instruction, where a line with this first word makes one.
pub record HasRoom (p : Place) (f : FirstWord) : Type 0 where
  pub blocks : (opens f && nat_le MOST_BLOCKS (length p.blocks)) ≡ false
  pub others : is_beyond p f ≡ false

-- A call of these words has as many as the operation needs, and those after the name break nothing.
pub record HasSoundOperands (p : Place) (c : Opcode) (k : Option Kind) (ws : List (List ℕ)) : Type 0 where
  pub count : has_count (Calls c) (length ws) ≡ true
  pub operands : found_by p (Calls c) k (operand_slots c) (drop 2 ws) ≡ nothing_found
