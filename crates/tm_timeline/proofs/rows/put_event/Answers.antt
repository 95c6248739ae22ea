use Rattle.std.proofs.lemmas.List.{append_assoc}
use Rattle.tm_timeline.proofs.rows.put_event.Goals as goal

pub returns-clause-text : goal.returns-clause-text
returns-clause-text c =
    rw (
      c.put_number.ensures.text,
      c.put_byte-3.ensures.text,
      c.put_places.ensures.text,
      c.put_byte-2.ensures.text,
      c.put-2.ensures.text,
      c.word.ensures,
      c.opcode.ensures,
      c.put_operand.ensures.text,
      c.put_byte.ensures.text,
      c.put.ensures.text,
      c.reply_word.ensures.word,
      c.put_detail.ensures.text,
    )
    (simp append_assoc)
