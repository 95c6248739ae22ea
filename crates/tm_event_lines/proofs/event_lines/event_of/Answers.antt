use Rattle.std.proofs.Common.{◌≡◌, sym, ap, ◌∙◌}
use Rattle.tm_lines.specs.Lines.{words_of}
use Rattle.tm_event_lines.specs.EventFaults.{has_unknown_word, has_wrong_count, has_unknown_name, has_wrong_number}
use Rattle.tm_event_lines.specs.EventWords.{parts_in, parts_of}
use Rattle.tm_event_lines.specs.SaidWords.{entry_by, entry_said, names_said}
use Rattle.tm_event_lines.proofs.FaultLemmas.{none_applies}
use Rattle.tm_event_lines.proofs.TraceableLemmas.{traceable}
use Rattle.tm_event_lines.proofs.event_lines.event_of.Goals as goal

pub returns-clause-read : goal.returns-clause-read
returns-clause-read c =
    let x = c.args.objects.now in
    let line = c.args.line.now in
    let q = parts_in c.of_line-words.result in
    let p = parts_of (words_of line) in
    let same : q ≡ p = c.of_line-words.ensures in
    let names = c.in-Some.ensures.names in
    let numbers = c.in-Some-of_words.ensures in
    record {
      faultless = none_applies x.objects line p (record {
        printed = sym c.is_printed.ensures ∙ c.if-not-is_printed.false;
        words = ap has_unknown_word (sym same) ∙ sym c.has_unknown_word.ensures ∙ c.if-has_unknown_word.false;
        count = ap has_wrong_count (sym same) ∙ sym c.has_wrong_count.ensures ∙ c.if-has_wrong_count.false;
        names = ap (has_unknown_name x.objects) (sym same) ∙ names.0;
        numbers = ap has_wrong_number (sym same) ∙ numbers.0;
      });
      said = c.entry_by.ensures ∙ ap (λ n. entry_by q n c.in-Some-of_words.numbers) names.1 ∙ ap (entry_by q (names_said x.objects q)) numbers.1 ∙ ap (entry_said x.objects) same;
    }

pub returns-clause-traceable : goal.returns-clause-traceable
returns-clause-traceable c =
    traceable c.args.objects.now c.args.line.now c.entry_by.result c.in-Some.ensures.well_formed (returns-clause-read c)
