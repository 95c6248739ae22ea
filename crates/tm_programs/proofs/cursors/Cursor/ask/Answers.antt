use Rattle.std.proofs.Common.{Some, ap, sym, ◌∙◌}
use Rattle.tm_programs.proofs.CursorsLemmas.{ask-call, ask-over, ask-local}
use Rattle.tm_programs.proofs.cursors.Cursor.ask.Goals as goal

pub returns-in_default : goal.returns-in_default
returns-in_default c =
    ask-over c.args.code.now c.args.self.now (sym c.at.ensures.value ∙ c.in_default.is) c.requires.stands

pub returns-in-Call : goal.returns-in-Call
returns-in-Call c =
    let here = sym c.at.ensures.value ∙ c.in-Some.is ∙ ap Some c.in-Call.is in
    rw c.op.ensures (ask-call c.args.code.now c.args.self.now _ _ _ here)

pub returns-in_default-instruction : goal.returns-in_default-instruction
returns-in_default-instruction c =
    let here = sym c.at.ensures.value ∙ c.in-Some.is in
    let local = c.in_default-instruction.not-Call in
    ask-local c.args.code.now c.args.self.now c.args.last _ here local c.requires.stands c.requires.resting
