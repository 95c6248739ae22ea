use Rattle.std.proofs.Common.{◌∙◌}
use Rattle.tm_lines.specs.Lines.{words_of}
use Rattle.tm_event_lines.proofs.PlaceLemmas.{from_operand, first_four, numbered_taken, parts_taken}
use Rattle.tm_event_lines.proofs.event_words.EventWords.of_line.Goals as goal

pub returns : goal.returns
returns c =
    let ws = words_of c.word_if.result.1.now in
    let stamp = c.next_word.result.0.now in
    let thread = c.next_word-2.result.0.now in
    let object = c.next_word-3.result.0.now in
    let operation = c.next_word-4.result.0.now in
    let operand = c.word_if-2.result.0.now in
    let reply = c.next_word-5.result.0.now in
    let detail = c.word_if-3.result.0.now in
    let four = words_of c.next_word-4.result.1.now in
    let behind = words_of c.word_if-3.result.1.now in
    let front =
    first_four stamp thread object operation ws (words_of c.next_word.result.1.now) (words_of c.next_word-2.result.1.now) (words_of c.next_word-3.result.1.now) four
    (record { word = c.next_word.ensures.word; behind = c.next_word.ensures.behind })
    (record { word = c.next_word-2.ensures.word; behind = c.next_word-2.ensures.behind })
    (record { word = c.next_word-3.ensures.word; behind = c.next_word-3.ensures.behind })
    (record { word = c.next_word-4.ensures.word; behind = c.next_word-4.ensures.behind }) in
    let later =
    from_operand operation operand reply detail four (words_of c.word_if-2.result.1.now) (words_of c.next_word-5.result.1.now) behind
    c.takes_operand.result c.takes_detail.result
    c.takes_operand.ensures c.word_if-2.ensures.word c.word_if-2.ensures.behind
    (record { word = c.next_word-5.ensures.word; behind = c.next_word-5.ensures.behind })
    c.takes_detail.ensures c.word_if-3.ensures.word c.word_if-3.ensures.behind in
    parts_taken c.word_if.result.0.now stamp thread object operation operand reply detail ws four behind front later
    ∙ numbered_taken c.is_numbered.result c.word_if.result.0.now (words_of c.args.line.now) ws c.is_numbered.ensures c.word_if.ensures.word c.word_if.ensures.behind
