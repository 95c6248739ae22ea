use Rattle.std.proofs.Common.{◌≡◌, ◌<◌, ◌≤◌, true, length, sym, ap, ◌∙◌, subst, arith}
use Rattle.tm_lines.specs.declared.limits.TheConstants.{MOST_BYTES}
use Rattle.tm_text.specs.CanonicalTexts.{are_long, canonical_text, lines_text}
use Rattle.tm_text.specs.SpelledLines.{spelled}
use Rattle.tm_text.specs.Texts.{IsExercise}
use Rattle.tm_text.proofs.PrinterLemmas.{all_printed, long_more, printed_more}
use Rattle.tm_text.proofs.SoundExercises.{canonical_texts_read_back}
use Rattle.tm_text.proofs.printer.print.Goals as goal

pub loop-object-preserved : goal.loop-object-preserved
loop-object-preserved c =
    let x = c.args.exercise.now in
    let within : c.loop-object.object < length x.objects = omega arith in
    record {
      text = printed_more x c.loop-object.object within c.loop-object.out.items c.push_object.new.out.items c.loop-object.invariant.text c.in_ok-push_object.ensures.text;
      long = long_more x c.loop-object.object within c.loop-object.invariant.long c.in_ok-push_object.ensures.long;
    }

pub returns-clause-reads_back : goal.returns-clause-reads_back
returns-clause-reads_back c = λ short.
    let x = c.args.exercise.now in
    let all = all_printed x c.loop-object.object (omega (arith, c.objects-object-end.ensures.value, c.loop-object-test.false)) in
    let is : c.from_vec.result ≡ canonical_text x = c.from_vec.ensures ∙ c.loop-object.invariant.text ∙ ap lines_text all in
    let long : are_long (spelled x) ≡ true = ap are_long (sym all) ∙ c.loop-object.invariant.long in
    subst (λ bytes. IsExercise bytes x) (sym is) (canonical_texts_read_back x c.objects-object-end.ensures.well_formed long (subst (λ bytes. length bytes ≤ MOST_BYTES) is short))
