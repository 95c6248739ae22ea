use Rattle.tm_text.proofs.SoundExercises.{canonical_texts_read_back}
use Rattle.tm_text.proofs.laws.canonical_texts_read_back.Goals as goal

pub returns : goal.returns
returns c = canonical_texts_read_back
