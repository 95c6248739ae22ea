use Rattle.tm_event_lines.proofs.ReadBackLemmas.{row_read, text_read}
use Rattle.tm_event_lines.proofs.laws.event_texts_read_back.Goals as goal

pub returns-clause-back : goal.returns-clause-back
returns-clause-back c = λ x e formed traceable values. record {
  text = text_read x e (record { formed = formed; traceable = traceable; values = values });
  row = λ n bars small. row_read x e n bars (record { formed = formed; traceable = traceable; values = values }) small;
}
