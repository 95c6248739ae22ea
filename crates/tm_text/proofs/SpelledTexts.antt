-- The lines of a text without a faulty line spell its exercise, and no other.
use Rattle.std.proofs.Common.{sym, ap, ◌∙◌}
use Rattle.tm_text.specs.SaidLines.{SpelledBothWays}
use Rattle.tm_text.specs.SpelledLines.{spelled}
use Rattle.tm_text.specs.Texts.{exercise_of}
use Rattle.tm_text.proofs.SaidForwards.{spells}
use Rattle.tm_text.proofs.SpelledBack.{spelled_once}
use Rattle.tm_text.proofs.WellFormedTexts.{well_formed-said}

pub spelled_both_ways : SpelledBothWays
spelled_both_ways = record {
  spells = λ bytes x is. spells bytes is.faultless ∙ ap spelled (sym is.said);
  is_spelled = λ bytes x formed none same. record {
    faultless = none;
    said = spelled_once x (exercise_of bytes) formed (well_formed-said bytes none) (sym same ∙ spells bytes none);
  };
}
