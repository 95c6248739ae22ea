use Rattle.std.proofs.Common.{Some, ap, sym, ◌∙◌, add-one}
use Rattle.tm_programs.proofs.CursorsLemmas.{accept-call, accept-over, call-stands}
use Rattle.tm_programs.proofs.cursors.Cursor.accept.Goals as goal

pub returns-in_default-clause-left : goal.returns-in_default-clause-left
returns-in_default-clause-left c =
    accept-over c.args.code.now c.args.self.now c.args.last c.args.reply
    (sym c.at.ensures.value ∙ c.in_default.is) c.requires.stands

pub returns-in-Call-clause-left : goal.returns-in-Call-clause-left
returns-in-Call-clause-left c =
    let here = sym c.at.ensures.value ∙ c.in-Some.is ∙ ap Some c.in-Call.is in
    rw (add-one, c.take_reply.ensures)
    (accept-call c.args.code.now c.args.self.now c.args.last c.args.reply _ _ _ c.if-is_none.ensures here)

pub returns-in-Call-clause-stands : goal.returns-in-Call-clause-stands
returns-in-Call-clause-stands c =
    let here = sym c.at.ensures.value ∙ c.in-Some.is ∙ ap Some c.in-Call.is in
    rw add-one
    (call-stands c.args.code.now c.args.self.now c.take_reply.new.self _ _ _ here c.requires.stands)
