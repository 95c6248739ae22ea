use Rattle.tm_legal_rows.proofs.LegalRuns.{legal-ranges, none-stops}
use Rattle.tm_legal_rows.proofs.legal_texts.write_rows.Goals as goal

pub show-requires-clause-ranges : goal.show-requires-clause-ranges
show-requires-clause-ranges g c = legal-ranges c.args.writer.now.exercise.now c.args.run.now c.requires.legal.0 c.requires.legal.1

pub unreachable-requires : goal.unreachable-requires
unreachable-requires g c =
    none-stops c.args.writer.now.exercise.now c.args.run.now c.requires.legal c.args.writer.now.joint c.show.new.self.joint _ _ c.in-Err-Illegal.field-0 c.in-Err-Illegal.field-0-0
    c.requires.fresh c.in-Err-Illegal.field-0-is c.in-Err-Illegal.ensures.stops
