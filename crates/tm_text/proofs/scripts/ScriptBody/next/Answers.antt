use Rattle.std.proofs.Common.{sym, ◌∙◌, subst}
use Rattle.tm_base.specs.Bodies.{IsAskedAmong}
use Rattle.tm_programs.specs.Calls.{AllCallsPass}
use Rattle.tm_programs.specs.Programs.{Rest}
use Rattle.tm_programs.proofs.CallsLemmas.{AllCalls-answered}
use Rattle.tm_text.specs.Exercises.{is_call_among}
use Rattle.tm_text.proofs.ScriptsLemmas.{asked_calls_fit, asked-is}
use Rattle.tm_text.proofs.scripts.ScriptBody.next.Goals as goal

pub returns-in-Some-clause-fits : goal.returns-in-Some-clause-fits
returns-in-Some-clause-fits c kinds suits =
    let rest = c.answer.new.self in
    let stays = AllCalls-answered _ c.args.self.now c.args.last suits in
    let left = subst (λ (q : Rest). AllCallsPass (is_call_among kinds) q.program) (sym c.answer.ensures) stays in
    let asks = asked-is rest c.in-Some.ask (sym c.asked.ensures ∙ c.in-Some.is) in
    subst (IsAskedAmong kinds) asks (asked_calls_fit kinds rest.program rest.registers left)

pub returns-in-Some-clause-stays : goal.returns-in-Some-clause-stays
returns-in-Some-clause-stays c kinds suits =
    subst (λ (q : Rest). AllCallsPass (is_call_among kinds) q.program) (sym c.answer.ensures)
    (AllCalls-answered _ c.args.self.now c.args.last suits)
